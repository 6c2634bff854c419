-- A pair that is fetched in a volume: the block that its record names first is the one that answers, and the record
-- passes the lookups' own test. Assumes nothing.
use Rattle.std.specs.Prelude.{◌≡◌, ◌≢◌, Bool, true, false, not, cond, ◌&&◌, ◌||◌, List, [], ◌∷◌, ◌++◌, ℕ, suc, ◌+◌, ◌≤◌, ◌<◌, eqb, Ok, Result}
use Rattle.std.proofs.Math.Path.{refl, ap}
use Rattle.std.proofs.Common.{sym, ap₂, ◌∙◌, arith}
use Rattle.std.proofs.Math.ListN.{length}
use Rattle.std.proofs.Math.Dec.{leb}
use borrow.Author.Tests.{eqb-true, ne_eqb, le-leb, leb-false}
use Rattle.format.specs.Log.{log, log_end, log_end_tag}
use Rattle.format.specs.Record.{count_of, no_tail, tail_of, split_of}
use Rattle.format.specs.Kind.{no_slot}
use Rattle.format.specs.Pair.{pair_sync}
use Rattle.format.specs.Fetch.{fetch_of}
use Rattle.format.specs.Lookup.{record_fits, searched, getinfo_fits, getinfo_of}
use Rattle.format.specs.Directory.{Slot, dir_of}
use Rattle.format.specs.Regular.{Regular}
use Rattle.format.specs.Tag.{tag_of}
use Rattle.format.specs.Writer.{block_at, is_second}
use Rattle.format.specs.Volume.{blocks_in, block_in, fetch_in}
use Rattle.format.specs.Tree.{Node, node_of, nodes_from, info_in}
use Rattle.format.specs.declared.Geometry.{Geometry}
use Rattle.format.specs.declared.LfsPair.{LfsPair}
use Rattle.format.specs.declared.LfsMdir.{LfsMdir}
use Rattle.format.specs.declared.Refusal.TheVariants.{Invalid, Corrupt}
use Rattle.format.specs.declared.Rules.TheVariants.{Littlefs}
use Rattle.theory.proofs.Compact.AcceptedVerdict.{slots_few}
use Rattle.theory.specs.Fetch.FoundRecord.{past_test}
use Rattle.theory.specs.Fetch.FoundBlock.{found_sized, found_reads}
use Rattle.theory.specs.Fetch.Places.{block_length}
use Rattle.theory.proofs.Stopped.Shown.{found_tested, block_is}
use Rattle.tree_theory.specs.OnBlock.{info_at, Regularly, end_inside}
use Rattle.format.specs.declared.LfsInfo.{LfsInfo}
use Rattle.format.specs.declared.Refusal.{Refusal}
use Rattle.format.specs.Record.{fetched}

-- the same infos below a number give the same entries
nodes_same : (info other : ℕ → Result LfsInfo Refusal) (D : List Slot) (id : ℕ) → ((k : ℕ) → k < id + length D → info k ≡ other k)
    → nodes_from info id D ≡ nodes_from other id D
unfolding nodes_from
nodes_same info other [] id h = refl
nodes_same info other (s ∷ D) id h =
    ap₂ (λ (x : Result LfsInfo Refusal) (l : List Node). node_of x (s 0) (s 1) ++ l) (h id (omega arith))
    (nodes_same info other D (suc id) (λ k l. h k (omega arith)))

module _ (g : Geometry) (vol : List ℕ) (p : LfsPair) (m : LfsMdir) (s : ℕ) (f : fetch_in g vol p ≡ Ok (fetched m s)) where
  abbrev b0 : List ℕ
  b0 = block_in g vol p.n0

  abbrev b1 : List ℕ
  b1 = block_in g vol p.n1

  -- the block that answers
  abbrev pub answering : List ℕ
  answering = block_in g vol m.pair.n0

  -- both numbers are in the volume, and fetch finds the pair
  tested : (leb (blocks_in g vol) p.n0 || leb (blocks_in g vol) p.n1 ≡ false)
      × (fetch_of g b0 b1 p.n0 p.n1 0 0 ≡ Ok (fetched m s))
  unfolding fetch_in
  tested =
      let q = past_test (eqb p.n0 p.n1) Invalid _ m s f in
      past_test (leb (blocks_in g vol) p.n0 || leb (blocks_in g vol) p.n1) Corrupt _ m s q.1

  pub fetched_there : fetch_of g b0 b1 p.n0 p.n1 0 0 ≡ Ok (fetched m s)
  fetched_there = tested.1

  pub numbers_inside : (p.n0 < blocks_in g vol) × (p.n1 < blocks_in g vol)
  numbers_inside = go (leb (blocks_in g vol) p.n0) refl (leb (blocks_in g vol) p.n1) refl tested.0
    where
      go : (x : Bool) → leb (blocks_in g vol) p.n0 ≡ x → (y : Bool) → leb (blocks_in g vol) p.n1 ≡ y
          → x || y ≡ false → (p.n0 < blocks_in g vol) × (p.n1 < blocks_in g vol)
      go false ex false ey h = (leb-false (blocks_in g vol) p.n0 ex, leb-false (blocks_in g vol) p.n1 ey)
      go false ex true ey h = absurd (let z : ◌≡◌ {A = ℕ} 0 1 = cc in omega arith)
      go true ex y ey h = absurd (let z : ◌≡◌ {A = ℕ} 0 1 = cc in omega arith)

  -- the first number of the record is one of the two
  number_is : (c : Bool) → eqb m.pair.n0 p.n0 ≡ c → pair_sync m.pair p ≡ true
      → m.pair.n0 ≡ cond c p.n0 p.n1
  number_is true e h = eqb-true m.pair.n0 p.n0 e
  number_is false e h = go (eqb m.pair.n0 p.n1) refl (rw e at h)
    where
      go : (d : Bool) → eqb m.pair.n0 p.n1 ≡ d → d && eqb m.pair.n1 p.n0 ≡ true
          → m.pair.n0 ≡ p.n1
      go true q h = eqb-true m.pair.n0 p.n1 q
      go false q h = absurd (let z : ◌≡◌ {A = ℕ} 0 1 = cc in omega arith)

  number : m.pair.n0 ≡ cond (eqb m.pair.n0 p.n0) p.n0 p.n1
  number = number_is (eqb m.pair.n0 p.n0) refl (found_tested g b0 b1 p.n0 p.n1 0 0 m s fetched_there).pair

  pub number_inside : m.pair.n0 < blocks_in g vol
  number_inside = go (eqb m.pair.n0 p.n0) number
    where
      go : (c : Bool) → m.pair.n0 ≡ cond c p.n0 p.n1 → m.pair.n0 < blocks_in g vol
      go true e = omega (arith, numbers_inside.0)
      go false e = omega (arith, numbers_inside.1)

  pub answers_at : answering ≡ block_at (is_second p.n0 m) b0 b1
  answers_at = ap (block_in g vol) number ∙ go (eqb m.pair.n0 p.n0)
    where
      go : (c : Bool) → block_in g vol (cond c p.n0 p.n1) ≡ block_at (not c) b0 b1
      go true = refl
      go false = refl

  -- what the record says of it
  pub record There : Type 0 where
    pub least : 128 ≤ length answering
    pub most : length answering ≤ 32_768
    pub some : log answering ≢ []
    pub ends : m.off ≡ log_end (log answering)
    pub end_tag : m.etag ≡ log_end_tag (log answering)
    pub count' : m.count ≡ count_of 0 (log answering)
    pub split' : m.split ≡ split_of false (log answering)
    pub tail' : m.tail ≡ tail_of no_tail (log answering)

  pub there : There
  there =
      let r = found_reads g b0 b1 p.n0 p.n1 0 0 m s fetched_there in
      let z = found_sized g b0 b1 p.n0 p.n1 0 0 m s fetched_there in
      let e : block_at r.w b0 b1 ≡ answering
      = ap (λ (w : Bool). block_at w b0 b1) (sym r.place) ∙ sym answers_at in
      let long : length answering ≡ g.block_size = ap length (sym e) ∙ block_length g b0 b1 r.w z in
      record {
        least = omega (arith, long, z.block.0);
        most = omega (arith, long, z.block.1);
        some = rw e at r.some;
        ends = rw e at r.ends;
        end_tag = rw e at r.end_tag;
        count' = rw e at r.count';
        split' = rw e at r.split';
        tail' = rw e at r.tail';
      }

  -- its log is regular by the wider rule
  module _ (regular : Regular Littlefs (log answering) ≡ true) where
    pub on_block : Regularly answering m.off m.etag
    on_block =
        let t = there in
        record {
          least = omega (arith, t.least);
          some' = t.some;
          regular = regular;
          ends = t.ends;
          end_tag = t.end_tag;
        }

    record_fits_lem : record_fits g (length b0) (length b1) p.n0 p.n1 m ≡ true
    unfolding record_fits
    record_fits_lem =
        let t = found_tested g b0 b1 p.n0 p.n1 0 0 m s fetched_there in
        let z = found_sized g b0 b1 p.n0 p.n1 0 0 m s fetched_there in
        let long : length answering ≡ g.block_size
        = ap length answers_at ∙ block_length g b0 b1 (is_second p.n0 m) z in
        rw (
          t.fits,
          t.pair,
          le-leb m.off g.block_size (omega (arith, long, end_inside answering m.off m.etag on_block)),
        )

    -- the info of a slot, with no pending move, is that of the two lookups on the block
    info_there : (id : ℕ) → id < no_slot → info_in g vol p m id ≡ info_at answering m.off m.etag id
    unfolding getinfo_of getinfo_fits searched tag_of
    info_there id low =
        rw (
          record_fits_lem,
          le-leb id no_slot (omega arith),
          ne_eqb id no_slot (λ q. omega arith),
          block_is b0 b1 p.n0 m (is_second p.n0 m) refl,
          ← answers_at,
        )

    pub nodes_there : nodes_from (info_in g vol p m) 0 (dir_of (log answering))
        ≡ nodes_from (info_at answering m.off m.etag) 0 (dir_of (log answering))
    nodes_there = nodes_same (info_in g vol p m) (info_at answering m.off m.etag) (dir_of (log answering)) 0
        (λ k low. info_there k (omega (arith, slots_few answering regular)))
