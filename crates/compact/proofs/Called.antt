-- Both calls, by what fetch answered and which block answers: the verdict is one block's, with the place of the block.
-- Assumes nothing.
use mathlib.Core.Path.{◌≡◌, refl, sym, ap, ◌∙◌}
use mathlib.Core.Bool.{Bool, true, false, not, cond}
use mathlib.Core.List.{List}
use Prim.Native.Nat.{ℕ}
use native.Mathlib.Omega.{arith}
use lib.ListN.{length}
use lib.Dec.{ltb}
use borrow.Author.Tests.{eq-eqb, ne_eqb}
use Rattle.format.specs.Word.{le32, to_le32, plus32, all_ones}
use Rattle.format.specs.Crc.{crc}
use Rattle.format.specs.Log.{log}
use Rattle.format.specs.Fetch.{fetch_of}
use Rattle.format.specs.Regular.{Regular, rules_fit, rules_of}
use Rattle.format.specs.declared.Rules.{Rules}
use Rattle.format.specs.Erased.{erased_fits}
use Rattle.format.specs.Commit.{check_tag}
use Rattle.format.specs.Stores.{coincides}
use Rattle.format.specs.Writer.{rounded_end, check_size, writes_fit, block_at, is_second, unlimited}
use Rattle.format.specs.Compaction.{compact_check_at, CompactVerdict, compact_refused, compact_accepted}
use Rattle.format.specs.Compaction.{placed_anew, compactable, compact_verdict, compact_images_after, compact_answer}
use Rattle.format.specs.Compaction.{compact_made, compact_images, compact_of, compact_stores_of}
use Rattle.format.specs.Index.{table_renewed, compact_table}
use Rattle.format.specs.Stopped.{Bytes, CompactLeaves, CompactStoresLeaves}
use Rattle.format.specs.declared.Geometry.{Geometry}
use Rattle.format.specs.declared.LfsMdir.{LfsMdir}
use Rattle.format.specs.declared.Refusal.{Refusal}
use Rattle.format.specs.declared.Refusal.TheVariants.{Invalid, Irregular, NoSpace, Coincidence}
use Rattle.theory.specs.Fetch.FoundBlock.{Sized, found_sized, found_reads}
use Rattle.theory.proofs.Stopped.Compaction.{stopped_compaction}
use Rattle.compact_block.specs.Renewed.{renewed_items, Renewable, renewed_to}
use Rattle.std.specs.Prelude.{Err, Ok, Result}
use Rattle.format.specs.declared.Fetched.{Fetched}
use Rattle.format.specs.Record.{fetched}

-- ---- how a call writes, from its two tests
module _ (rules e : ℕ) where
  pub rule_unfit : rules_fit rules ≡ false → writes_fit rules e ≡ false
  rule_unfit h = rw h

  pub byte_unfit : rules_fit rules ≡ true → erased_fits e ≡ false → writes_fit rules e ≡ false
  byte_unfit h k = rw (h, k)

  pub both_fit : rules_fit rules ≡ true → erased_fits e ≡ true → writes_fit rules e ≡ true
  both_fit h k = rw (h, k)

-- ---- a verdict with the place of the block that answers
abbrev placed_at : Bool → CompactVerdict → CompactVerdict
placed_at w (compact_refused r) = compact_refused r
placed_at w (compact_accepted second rev is size) = compact_accepted w rev is size

placed_at_lem : (r : Rules) (e prog : ℕ) (w : Bool) (x : List ℕ)
    → compactable r e prog w x (log x) ≡ placed_at w (compactable r e prog false x (log x))
unfolding compactable placed_anew
placed_at_lem r e prog w x =
    go (not (Regular r (log x))) (ltb (length x) (rounded_end prog at))
    (coincides e (crc all_ones (to_le32 (plus32 (le32 x) 1))) all_ones (renewed_items e prog x)
    (check_tag e (check_size prog at)))
  where
    at : ℕ
    at = compact_check_at (renewed_items e prog x)

    v : Bool → CompactVerdict
    v second = compact_accepted second (plus32 (le32 x) 1) (renewed_items e prog x) (check_size prog at)

    go : (a b c : Bool)
        → cond a (compact_refused Irregular)
        (cond b (compact_refused NoSpace) (cond c (compact_refused Coincidence) (v w)))
        ≡ placed_at w (cond a (compact_refused Irregular)
        (cond b (compact_refused NoSpace) (cond c (compact_refused Coincidence) (v false))))
    go true b c = refl
    go false true c = refl
    go false false true = refl
    go false false false = refl

-- ---- what the call with a limit answers and leaves
abbrev pub Leaves : ℕ → ℕ → List ℕ → List ℕ → CompactVerdict → Result ℕ Refusal → List ℕ → List ℕ → Type 0
Leaves e n b0 b1 v r c0 c1 = (r ≡ compact_made n v) × ((c0 ≡ (compact_images_after e n b0 b1 v).b0)
    × (c1 ≡ (compact_images_after e n b0 b1 v).b1))

first_leaves : (e n : ℕ) (b0 b1 : List ℕ) (v : CompactVerdict) (r : Result ℕ Refusal) (c : List ℕ) → r ≡ compact_made n v
    → c ≡ renewed_to e n b1 v → Leaves e n b0 b1 (placed_at false v) r b0 c
first_leaves e n b0 b1 (compact_refused x) r c er ec = (er, (refl, ec))
first_leaves e n b0 b1 (compact_accepted w rev is size) r c er ec = (er, (refl, ec))

second_leaves : (e n : ℕ) (b0 b1 : List ℕ) (v : CompactVerdict) (r : Result ℕ Refusal) (c : List ℕ) → r ≡ compact_made n v
    → c ≡ renewed_to e n b0 v → Leaves e n b0 b1 (placed_at true v) r c b1
second_leaves e n b0 b1 (compact_refused x) r c er ec = (er, (ec, refl))
second_leaves e n b0 b1 (compact_accepted w rev is size) r c er ec = (er, (ec, refl))

module _ (g : Geometry) (b0 b1 : List ℕ) (n0 n1 count seed rules e : ℕ) where
  -- the contract of the call with a limit of n stores, without demand 3: `left` is what it leaves in the table
  abbrev pub Called : ℕ → Result ℕ Refusal → List ℕ → List ℕ → List ℕ → List ℕ → Type 0
  Called n r c0 c1 table left =
      (r ≡ compact_stores_of g b0 b1 n0 n1 count seed rules e n)
      × ((c0 ≡ (compact_images g b0 b1 n0 n1 count seed rules e n).b0)
      × ((c1 ≡ (compact_images g b0 b1 n0 n1 count seed rules e n).b1)
      × (left ≡ compact_table g b0 b1 n0 n1 count seed rules e table)))

  -- with demand 3, which a call keeps whatever it leaves
  pub kept : (n : ℕ) (r : Result ℕ Refusal) (c0 c1 table left : List ℕ) → Bytes b0 → Bytes b1 → Called n r c0 c1 table left
      → (r ≡ compact_stores_of g b0 b1 n0 n1 count seed rules e n)
      × (CompactStoresLeaves g b0 b1 n0 n1 count seed rules e n c0 c1
      × (left ≡ compact_table g b0 b1 n0 n1 count seed rules e table))
  kept n r c0 c1 table left y0 y1 h =
      let e0 = h.1.0 in
      let e1 = h.1.1.0 in
      (h.0, ((e0, e1, rw (e0, e1) (stopped_compaction g b0 b1 n0 n1 count seed rules e n y0 y1)), h.1.1.1))

  leaves : (n : ℕ) (v : CompactVerdict) → compact_verdict g b0 b1 n0 n1 count seed rules e ≡ v → (r : Result ℕ Refusal)
      (c0 c1 : List ℕ) → Leaves e n b0 b1 v r c0 c1 → (table left : List ℕ)
      → left ≡ compact_table g b0 b1 n0 n1 count seed rules e table → Called n r c0 c1 table left
  unfolding compact_stores_of compact_images
  leaves n v q r c0 c1 h table left k = rw q (h.0, (h.1.0, (h.1.1, k)))

  -- t is what they come to
  module _ (t : Bool) (et : t ≡ writes_fit rules e) where
    pub called_invalid : (n : ℕ) (table : List ℕ) → t ≡ false → Called n (Err Invalid) b0 b1 table table
    unfolding compact_verdict compact_table
    called_invalid n table h = leaves n (compact_refused Invalid) (rw (← et, h)) (Err Invalid) b0 b1
        (refl, (refl, refl)) table table (rw (← et, h))

    module _ (k : t ≡ true) where
      pub called_refused : (n : ℕ) (table : List ℕ) (r : Refusal)
          → Err r ≡ fetch_of g b0 b1 n0 n1 count seed → Called n (Err r) b0 b1 table table
      unfolding compact_verdict compact_table
      called_refused n table r f = leaves n (compact_refused r) (rw (← et, k, ← f)) (Err r) b0 b1
          (refl, (refl, refl)) table table (rw (← et, k, ← f))

      module _ (m : LfsMdir) (s : ℕ) (f : Ok (fetched m s) ≡ fetch_of g b0 b1 n0 n1 count seed) where
        verdict_of_lem : (w : Bool) → is_second n0 m ≡ w → compact_verdict g b0 b1 n0 n1 count seed rules e
            ≡ placed_at w (compactable (rules_of rules) e g.prog_size false (block_at w b0 b1)
            (log (block_at w b0 b1)))
        unfolding compact_verdict
        verdict_of_lem w q = rw (← et, k, ← f, q) (placed_at_lem (rules_of rules) e g.prog_size w (block_at w b0 b1))

        table_of : (w : Bool) → is_second n0 m ≡ w → (table : List ℕ)
            → table_renewed (rules_of rules) (log (block_at w b0 b1)) table
            ≡ compact_table g b0 b1 n0 n1 count seed rules e table
        unfolding compact_table
        table_of w q table = rw (← et, k, ← f, q)

        renewable : (w : Bool) → is_second n0 m ≡ w
            → Renewable g.prog_size (block_at w b0 b1) (block_at (not w) b0 b1) m
        renewable w q =
            let z = found_sized g b0 b1 n0 n1 count seed m s (sym f) in
            let a = found_reads g b0 b1 n0 n1 count seed m s (sym f) in
            let same : a.w ≡ w = sym a.place ∙ q in
            rw (← same)
            (record {
              low = z.prog.0;
              high = z.prog.1;
              long = (lengths a.w z).1 ∙ sym (lengths a.w z).0;
              recorded = record {
                word = omega (arith, (lengths a.w z).0, z.block.0);
                most = omega (arith, (lengths a.w z).0, z.block.1);
                some = a.some;
                rev' = a.rev';
                ends = a.ends;
                end_tag = a.end_tag;
                count' = a.count';
                split' = a.split';
                tail' = a.tail';
              };
            })
          where
            lengths : (v : Bool) → Sized g b0 b1 → (length (block_at v b0 b1) ≡ g.block_size)
                × (length (block_at (not v) b0 b1) ≡ g.block_size)
            lengths false z = (z.first, z.second)
            lengths true z = (z.second, z.first)

        -- the first block answers
        module _ (h : m.pair.n0 ≡ n0) where
          place_first : is_second n0 m ≡ false
          place_first = ap not (eq-eqb m.pair.n0 n0 h)

          pub renews_first : Renewable g.prog_size b0 b1 m
          renews_first = renewable false place_first

          -- asked: the rule that the number is
          pub called_first : (asked : Rules) → asked ≡ rules_of rules → (n : ℕ) (r : Result ℕ Refusal) (c : List ℕ)
              → r ≡ compact_made n (compactable asked e g.prog_size false b0 (log b0))
              → c ≡ renewed_to e n b1 (compactable asked e g.prog_size false b0 (log b0))
              → (table left : List ℕ) → left ≡ table_renewed asked (log b0) table
              → Called n r b0 c table left
          called_first asked q n r c er ec table left et' =
              leaves n _ (verdict_of_lem false place_first) r b0 c
              (first_leaves e n b0 b1 (compactable (rules_of rules) e g.prog_size false b0 (log b0)) r c (er ∙ rw q) (ec ∙ rw q))
              table left (et' ∙ ap (λ (x : Rules). table_renewed x (log b0) table) q ∙ table_of false place_first table)

        -- the second block answers
        module _ (h : m.pair.n0 ≡ n0 → ⊥) where
          place_second : is_second n0 m ≡ true
          place_second = ap not (ne_eqb m.pair.n0 n0 h)

          pub renews_second : Renewable g.prog_size b1 b0 m
          renews_second = renewable true place_second

          -- asked: the rule that the number is
          pub called_second : (asked : Rules) → asked ≡ rules_of rules → (n : ℕ) (r : Result ℕ Refusal) (c : List ℕ)
              → r ≡ compact_made n (compactable asked e g.prog_size false b1 (log b1))
              → c ≡ renewed_to e n b0 (compactable asked e g.prog_size false b1 (log b1))
              → (table left : List ℕ) → left ≡ table_renewed asked (log b1) table
              → Called n r c b1 table left
          called_second asked q n r c er ec table left et' =
              leaves n _ (verdict_of_lem true place_second) r c b1
              (second_leaves e n b0 b1 (compactable (rules_of rules) e g.prog_size false b1 (log b1)) r c (er ∙ rw q) (ec ∙ rw q))
              table left (et' ∙ ap (λ (x : Rules). table_renewed x (log b1) table) q ∙ table_of true place_second table)

  -- ---- the call with no limit: c0, c1 and `left` are what the other leaves
  abbrev pub Answered : Result Fetched Refusal → List ℕ → List ℕ → List ℕ → List ℕ → Type 0
  Answered r c0 c1 table left = (r ≡ compact_of g b0 b1 n0 n1 count seed rules e)
      × (CompactLeaves g b0 b1 n0 n1 count seed rules e c0 c1
      × (left ≡ compact_table g b0 b1 n0 n1 count seed rules e table))

  module _ (c0 c1 table left : List ℕ) (y0 : Bytes b0) (y1 : Bytes b1)
      (l : CompactStoresLeaves g b0 b1 n0 n1 count seed rules e unlimited c0 c1
      × (left ≡ compact_table g b0 b1 n0 n1 count seed rules e table)) where
    abbrev e0 : c0 ≡ (compact_images g b0 b1 n0 n1 count seed rules e unlimited).b0
    e0 = l.0.0

    abbrev e1 : c1 ≡ (compact_images g b0 b1 n0 n1 count seed rules e unlimited).b1
    e1 = l.0.1

    all_left : CompactLeaves g b0 b1 n0 n1 count seed rules e c0 c1
        × (left ≡ compact_table g b0 b1 n0 n1 count seed rules e table)
    all_left = ((e0, e1, λ n. stopped_compaction g b0 b1 n0 n1 count seed rules e n y0 y1), l.1)

    pub answered_refused : (r : Refusal) → Err r ≡ compact_stores_of g b0 b1 n0 n1 count seed rules e unlimited
        → Answered (Err r) c0 c1 table left
    unfolding compact_of compact_stores_of
    answered_refused r h = (go (compact_verdict g b0 b1 n0 n1 count seed rules e) h, all_left)
      where
        go : (v : CompactVerdict) → Err r ≡ compact_made unlimited v
            → Err r ≡ compact_answer (fetch_of g (compact_images g b0 b1 n0 n1 count seed rules e unlimited
            ).b0 (compact_images g b0 b1 n0 n1 count seed rules e unlimited).b1 n0 n1 count seed) v
        go (compact_refused x) k = let q : r ≡ x = cc in ap Err q
        go (compact_accepted w rev is size) k = cc

    pub answered_made : (k : ℕ) → Ok k ≡ compact_stores_of g b0 b1 n0 n1 count seed rules e unlimited
        → (f : Result Fetched Refusal)
        → f ≡ fetch_of g c0 c1 n0 n1 count seed
        → Answered f c0 c1 table left
    unfolding compact_of compact_stores_of
    answered_made k h f ef = (go (compact_verdict g b0 b1 n0 n1 count seed rules e) h, all_left)
      where
        go : (v : CompactVerdict) → Ok k ≡ compact_made unlimited v
            → f ≡ compact_answer (fetch_of g (compact_images g b0 b1 n0 n1 count seed rules e unlimited).b0
            (compact_images g b0 b1 n0 n1 count seed rules e unlimited).b1 n0 n1 count seed) v
        go (compact_refused x) k = cc
        go (compact_accepted w rev is size) k = ef ∙ rw (e0, e1)
