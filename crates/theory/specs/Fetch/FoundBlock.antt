-- What a record that fetch found says: the sizes of the pair, and which block it was read from, with that block's
-- revision and log. Assumes nothing.
use Rattle.std.specs.Prelude.{◌≡◌, refl, ◌≢◌, Bool, true, false, not, ◌&&◌, ◌||◌, List, [], ℕ, ◌%◌, ◌≤◌, length, leb, eqb, Ok}
use Rattle.std.proofs.Math.Path.{sym, ap}
use Rattle.std.proofs.Common.{◌∙◌, arith, leb-true, eqb-true, eq-eqb, ne_eqb}
use Rattle.std.proofs.lemmas.Bool.{eqb-false, not-true, not-false}
use Rattle.format.specs.Word.{le32}
use Rattle.format.specs.Walk.{Event}
use Rattle.format.specs.Log.{log, log_end, log_end_tag}
use Rattle.format.specs.Record.{count_of, no_tail, tail_of, split_of, seed_of}
use Rattle.format.specs.Count.{second_first}
use Rattle.format.specs.View.{View, none, at, view}
use Rattle.format.specs.Fetch.{geometry_fits, pair_fits, too_high, mdir_of, few_enough, viewed, fetch_of}
use Rattle.format.specs.Writer.{block_at, is_second}
use Rattle.format.specs.declared.Geometry.{Geometry}
use Rattle.format.specs.declared.LfsMdir.{LfsMdir}
use Rattle.theory.specs.Walk.Step.{both_true}
use Rattle.theory.specs.Log.TwoBlocks.{view_at, view_log, rank_left_is, rank_right_is}
use Rattle.theory.specs.Fetch.FoundRecord.{few_found, past_test}
use Rattle.theory.specs.Commit.AcceptedVerdict.{fits_prog}
use Rattle.format.specs.Record.{fetched}

-- ---- what a found record says of the sizes
-- "Block size 128 to 32,768"
fits_block : (g : Geometry) → geometry_fits g ≡ true → (128 ≤ g.block_size) × (g.block_size ≤ 32_768)
unfolding geometry_fits
fits_block g h =
    let p : ℕ = g.prog_size in
    let q : ℕ = g.block_size in
    let r = both_true (leb 4 p && leb p 512 && leb 128 q && leb q 32_768) (eqb (q % p) 0) h in
    let s = both_true (leb 4 p && leb p 512 && leb 128 q) (leb q 32_768) r.0 in
    let t = both_true (leb 4 p && leb p 512) (leb 128 q) s.0 in
    (leb-true 128 q t.1, leb-true q 32_768 s.1)

pub record Sized (g : Geometry) (b0 b1 : List ℕ) : Type 0 where
  pub prog : (4 ≤ g.prog_size) × (g.prog_size ≤ 512)
  pub block : (128 ≤ g.block_size) × (g.block_size ≤ 32_768)
  pub first : length b0 ≡ g.block_size
  pub second : length b1 ≡ g.block_size

pub pair_sized : (g : Geometry) (b0 b1 : List ℕ) (n0 n1 : ℕ) → pair_fits g (length b0) (length b1) n0 n1 ≡ true
    → Sized g b0 b1 × (eqb n0 n1 ≡ false)
unfolding pair_fits
pair_sized g b0 b1 n0 n1 h =
    let t = both_true (geometry_fits g && eqb (length b0) g.block_size && eqb (length b1) g.block_size)
    (not (eqb n0 n1)) h in
    let u = both_true (geometry_fits g && eqb (length b0) g.block_size) (eqb (length b1) g.block_size)
    t.0 in
    let v = both_true (geometry_fits g) (eqb (length b0) g.block_size) u.0 in (
      record {
        prog = fits_prog g v.0;
        block = fits_block g v.0;
        first = eqb-true (length b0) g.block_size v.1;
        second = eqb-true (length b1) g.block_size u.1;
      },
      not-true (eqb n0 n1) t.1,
    )

pub found_sized : (g : Geometry) (b0 b1 : List ℕ) (n0 n1 count seed : ℕ) (m : LfsMdir) (s : ℕ)
    → fetch_of g b0 b1 n0 n1 count seed ≡ Ok (fetched m s) → Sized g b0 b1
unfolding fetch_of
found_sized g b0 b1 n0 n1 count seed m s h =
    (pair_sized g b0 b1 n0 n1 (not-false _ (past_test (not (pair_fits g (length b0) (length b1) n0 n1)) _ _ m s h).0)).0

-- the revision that a view names stands in the block that answers
pub view_rev : (w : Bool) (x o : List ℕ) (v : ℕ) (es : List Event) → view_at w x o ≡ at w v es → v ≡ le32 x
unfolding view
view_rev false x o v es h =
    sym (rank_left_is (second_first (le32 x) (le32 o)) (le32 x) (le32 o) (log x) (log o) v es h).0
view_rev true x o v es h =
    sym (rank_right_is (second_first (le32 o) (le32 x)) (le32 o) (le32 x) (log o) (log x) v es h).0

-- a found record is that of the block at place w of the two
pub record Reads (b0 b1 : List ℕ) (n0 : ℕ) (m : LfsMdir) : Type 0 where
  pub w : Bool
  pub place : is_second n0 m ≡ w
  pub some : log (block_at w b0 b1) ≢ []
  pub rev' : m.rev ≡ le32 (block_at w b0 b1)
  pub ends : m.off ≡ log_end (log (block_at w b0 b1))
  pub end_tag : m.etag ≡ log_end_tag (log (block_at w b0 b1))
  pub count' : m.count ≡ count_of 0 (log (block_at w b0 b1))
  pub split' : m.split ≡ split_of false (log (block_at w b0 b1))
  pub tail' : m.tail ≡ tail_of no_tail (log (block_at w b0 b1))

module _ (prog n0 n1 : ℕ) (b0 b1 : List ℕ) (seed : ℕ) (m : LfsMdir) (s : ℕ) (apart : eqb n0 n1 ≡ false) where
  -- n and k are the numbers, x and o the blocks, of place w and of the other
  reads_at : (w : Bool) (n k : ℕ) (x o : List ℕ) (rev : ℕ) (es : List Event) → x ≡ block_at w b0 b1
      → view_at w x o ≡ at w rev es → not (eqb n n0) ≡ w
      → few_enough (mdir_of prog n k x rev es) (seed_of seed es) ≡ Ok (fetched m s) → Reads b0 b1 n0 m
  unfolding mdir_of
  reads_at w n k x o rev es ex h ew f =
      let e : mdir_of prog n k x rev es ≡ m = few_found (mdir_of prog n k x rev es) m (seed_of seed es) s f in
      let l = view_log w x o rev es h in
      let same : es ≡ log (block_at w b0 b1) = sym l.0 ∙ ap log ex in
      record {
        w = w;
        place = ap (λ (d : LfsMdir). is_second n0 d) (sym e) ∙ ew;
        some = rw (← same) l.1;
        rev' = ap (λ (d : LfsMdir). d.rev) (sym e) ∙ view_rev w x o rev es h ∙ ap le32 ex;
        ends = ap (λ (d : LfsMdir). d.off) (sym e) ∙ ap log_end same;
        end_tag = ap (λ (d : LfsMdir). d.etag) (sym e) ∙ ap log_end_tag same;
        count' = ap (λ (d : LfsMdir). d.count) (sym e) ∙ ap (count_of 0) same;
        split' = ap (λ (d : LfsMdir). d.split) (sym e) ∙ ap (split_of false) same;
        tail' = ap (λ (d : LfsMdir). d.tail) (sym e) ∙ ap (tail_of no_tail) same;
      }

  viewed_reads : (v : View) → view b0 b1 ≡ v → viewed prog n0 n1 b0 b1 seed v ≡ Ok (fetched m s) → Reads b0 b1 n0 m
  viewed_reads none h f = absurd (let z : ◌≡◌ {A = ℕ} 0 1 = cc in omega arith)
  viewed_reads (at false rev es) h f = reads_at false n0 n1 b0 b1 rev es refl h (ap not (eq-eqb n0 n0 refl)) f
  viewed_reads (at true rev es) h f = reads_at true n1 n0 b1 b0 rev es refl h
      (ap not (ne_eqb n1 n0 (λ q. eqb-false n0 n1 apart (sym q)))) f

pub found_reads : (g : Geometry) (b0 b1 : List ℕ) (n0 n1 count seed : ℕ) (m : LfsMdir) (s : ℕ)
    → fetch_of g b0 b1 n0 n1 count seed ≡ Ok (fetched m s) → Reads b0 b1 n0 m
unfolding fetch_of
found_reads g b0 b1 n0 n1 count seed m s h =
    let p = past_test (not (pair_fits g (length b0) (length b1) n0 n1)) _ _ m s h in
    let q = past_test (too_high count n0 || too_high count n1) _ _ m s p.1 in
    viewed_reads g.prog_size n0 n1 b0 b1 seed m s (pair_sized g b0 b1 n0 n1 (not-false _ p.0)).1 (view b0 b1)
    refl q.1
