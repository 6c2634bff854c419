-- Demands 1 and 2, of the index's calls: what a refusal leaves in the table or the buffer, that each contract decides,
-- which refusals each call gives, and that what C gets determines the answer. Demand 1 is amended here: "-221 .. and
-- the table is then all zero", and a compaction with a table has used it where it is refused by -28 or -204. Assumes
-- nothing.
use Rattle.std.proofs.Math.Path.{◌≡◌, refl, sym, ap}
use Rattle.std.proofs.Common.{◌∙◌, inr, arith}
use Rattle.std.specs.Prelude.{◌⊎◌, Bool, not, length, replicate, ℤ, eqb, ltb, Err, None, Ok, Option, Result, Some}
use Rattle.std.proofs.Math.Logic.{inl}
use Rattle.std.proofs.Math.Bool.{true, false, cond}
use mathlib.Core.List.{List}
use Prim.Native.Nat.{ℕ, ◌≤◌, min}
use Rattle.format.specs.Word.{le32, to_le32, plus32, all_ones}
use Rattle.format.specs.Crc.{crc}
use Rattle.format.specs.Log.{log}
use Rattle.format.specs.Commit.{Item, check_tag}
use Rattle.format.specs.Stores.{coincides}
use Rattle.format.specs.Fetch.{fetch_of}
use Rattle.format.specs.Lookup.{block_of, slice_answer, slice_buffer, getslice_fits}
use Rattle.format.specs.Regular.{Regular, rules_of}
use Rattle.format.specs.Writer.{block_at, is_second, writes_fit, with_forward, rounded_end, check_size, unlimited}
use Rattle.format.specs.Compaction.{CompactVerdict, compact_refused, compact_accepted, compact_check_at, placed_anew}
use Rattle.format.specs.Compaction.{compaction_items, compactable, compact_fetched, compact_verdict, compact_images}
use Rattle.format.specs.Compaction.{compact_answer, compact_of}
use Rattle.format.specs.Stopped.{Bytes}
use Rattle.format.specs.Answer.{result_number, indexed_places, refusal_number}
use Rattle.format.specs.Index.{log_to, index_fits, indexable, extend_fits, extendable, built, extended, indexed_as, table_as}
use Rattle.format.specs.Index.{index_of, index_table, extend_of, extend_table, index_hit, index_get_of}
use Rattle.format.specs.Index.{index_get_buffer, table_renewed, table_fetched, compact_table}
use Rattle.format.specs.declared.Geometry.{Geometry}
use Rattle.format.specs.declared.LfsMdir.{LfsMdir}
use Rattle.format.specs.declared.Refusal.{Refusal}
use Rattle.format.specs.declared.Rules.{Rules}
use Rattle.format.specs.declared.Refusal.TheVariants.{Invalid, Irregular, NoSpace, Coincidence, TableFull}
use Rattle.promises.specs.Refused.{slice_refused}
use Rattle.promises.specs.Decided.{Decides, decided}
use Rattle.promises.specs.Possible.{SliceRefuses, slice22, AnswerOr, through}
use Rattle.promises.specs.PossibleLookups.{slice_possible}
use Rattle.promises.specs.Numbers.{below}
use Rattle.promises.specs.Stopped.{compact_done}
use Rattle.promises.specs.Index.{index_few}
use Rattle.format.specs.declared.Fetched.{Fetched}
use Rattle.format.specs.Record.{fetched}

-- ---- "-22", "-202", "then -221"
pub data IndexRefuses : Refusal → Type 0 where
  index22 : IndexRefuses Invalid
  index202 : IndexRefuses Irregular
  index221 : IndexRefuses TableFull

as_possible : (v : Option (List ℕ)) → AnswerOr IndexRefuses (indexed_as v)
as_possible None = index221
as_possible (Some P) = tt

-- ---- what a refusal leaves: -221 zeros, and every other the table as it was
abbrev pub Left : List ℕ → Refusal → List ℕ → Type 0
Left table r new = ((r ≡ TableFull) × (new ≡ replicate (length table) 0)) ⊎ (new ≡ table)

left_by : (x y : Bool) (v : Option (List ℕ)) (table : List ℕ) (r : Refusal)
    → cond (not x) (Err Invalid) (cond (not y) (Err Irregular) (indexed_as v))
    ≡ Err r
    → Left table r (cond (not x) table (cond (not y) table (table_as (length table) v)))
left_by false y v table r h = inr refl
left_by true false v table r h = inr refl
left_by true true None table r h = inl (cc, refl)
left_by true true (Some P) table r h = absurd (let z : ◌≡◌ {A = ℕ} 0 1 = cc in omega arith)

-- ---- the answer back from what C gets
abbrev pub indexed_from : ℤ → ℕ → Result ℕ Refusal
indexed_from number places =
    cond (eqb (below number) 0) (Ok places)
    (cond (eqb (below number) 22) (Err Invalid)
    (cond (eqb (below number) 202) (Err Irregular) (Err TableFull)))

-- of fewer places than C can count
told_back : (f : Result ℕ Refusal) → AnswerOr IndexRefuses f → ((n : ℕ) → f ≡ Ok n → n ≤ all_ones)
    → indexed_from (result_number f) (indexed_places f) ≡ f
told_back (Ok n) h few =
    let e : min n all_ones ≡ n = omega (arith, few n refl) in
    ap Ok e
told_back (Err r) h few = go h
  where
    go : {r : Refusal} → IndexRefuses r → indexed_from (refusal_number r) 0 ≡ Err r
    go index22 = refl
    go index202 = refl
    go index221 = refl

-- ---- build and extend
module _ (g : Geometry) (b0 b1 : List ℕ) (n0 n1 : ℕ) (dir : LfsMdir) (rules : ℕ) (table : List ℕ) where
  pub index_decided : Decides (index_of g b0 b1 n0 n1 dir rules table)
  index_decided = decided (index_of g b0 b1 n0 n1 dir rules table)

  pub index_table_decided : Decides (index_table g b0 b1 n0 n1 dir rules table)
  index_table_decided = decided (index_table g b0 b1 n0 n1 dir rules table)

  pub index_possible : AnswerOr IndexRefuses (index_of g b0 b1 n0 n1 dir rules table)
  unfolding index_of
  index_possible =
      let b : List ℕ = block_of b0 b1 n0 dir in
      through (AnswerOr IndexRefuses) (not (index_fits g b0 b1 n0 n1 dir rules)) index22
      (through (AnswerOr IndexRefuses) (not (indexable (rules_of rules) b dir.off)) index202
      (as_possible (built (length table) (log_to b dir.off))))

  pub index_left : (r : Refusal) → index_of g b0 b1 n0 n1 dir rules table ≡ Err r
      → Left table r (index_table g b0 b1 n0 n1 dir rules table)
  unfolding index_of index_table
  index_left r h =
      let b : List ℕ = block_of b0 b1 n0 dir in
      left_by (index_fits g b0 b1 n0 n1 dir rules) (indexable (rules_of rules) b dir.off)
      (built (length table) (log_to b dir.off)) table r h

  pub index_told : indexed_from (result_number (index_of g b0 b1 n0 n1 dir rules table))
      (indexed_places (index_of g b0 b1 n0 n1 dir rules table)) ≡ index_of g b0 b1 n0 n1 dir rules table
  index_told = told_back (index_of g b0 b1 n0 n1 dir rules table) index_possible
      (λ n h. omega (arith, index_few g b0 b1 n0 n1 dir rules table n h))

  module _ (old : LfsMdir) where
    pub extend_decided : Decides (extend_of g b0 b1 n0 n1 old dir rules table)
    extend_decided = decided (extend_of g b0 b1 n0 n1 old dir rules table)

    pub extend_table_decided : Decides (extend_table g b0 b1 n0 n1 old dir rules table)
    extend_table_decided = decided (extend_table g b0 b1 n0 n1 old dir rules table)

    pub extend_possible : AnswerOr IndexRefuses (extend_of g b0 b1 n0 n1 old dir rules table)
    unfolding extend_of
    extend_possible =
        let b : List ℕ = block_of b0 b1 n0 dir in
        through (AnswerOr IndexRefuses) (not (extend_fits g b0 b1 n0 n1 old dir rules)) index22
        (through (AnswerOr IndexRefuses) (not (extendable (rules_of rules) b old.off dir.off)) index202
        (as_possible (extended table b old.off dir.off)))

    pub extend_left : (r : Refusal) → extend_of g b0 b1 n0 n1 old dir rules table ≡ Err r
        → Left table r (extend_table g b0 b1 n0 n1 old dir rules table)
    unfolding extend_of extend_table
    extend_left r h =
        let b : List ℕ = block_of b0 b1 n0 dir in
        left_by (extend_fits g b0 b1 n0 n1 old dir rules) (extendable (rules_of rules) b old.off dir.off)
        (extended table b old.off dir.off) table r h

    -- of a table with fewer places than C can count
    pub extend_told : ((n : ℕ) → extend_of g b0 b1 n0 n1 old dir rules table ≡ Ok n → n ≤ all_ones)
        → indexed_from (result_number (extend_of g b0 b1 n0 n1 old dir rules table))
        (indexed_places (extend_of g b0 b1 n0 n1 old dir rules table)) ≡ extend_of g b0 b1 n0 n1 old dir rules table
    extend_told few = told_back (extend_of g b0 b1 n0 n1 old dir rules table) extend_possible few

-- ---- get
module _ (g : Geometry) (b0 b1 : List ℕ) (n0 n1 : ℕ) (dir : LfsMdir) (table : List ℕ) (type id : ℕ) (buffer : List ℕ)
  where
    pub index_get_decided : Decides (index_get_of g b0 b1 n0 n1 dir table type id buffer)
    index_get_decided = decided (index_get_of g b0 b1 n0 n1 dir table type id buffer)

    pub index_buffer_decided : Decides (index_get_buffer g b0 b1 n0 n1 dir table type id buffer)
    index_buffer_decided = decided (index_get_buffer g b0 b1 n0 n1 dir table type id buffer)

    pub index_get_possible : AnswerOr SliceRefuses (index_get_of g b0 b1 n0 n1 dir table type id buffer)
    unfolding index_get_of
    index_get_possible =
        through (AnswerOr SliceRefuses) (getslice_fits g b0 b1 n0 n1 dir buffer)
        (slice_possible (block_of b0 b1 n0 dir) 0 (length buffer) (index_hit table type id)) slice22

    pub index_get_refused : (r : Refusal) → index_get_of g b0 b1 n0 n1 dir table type id buffer ≡ Err r
        → index_get_buffer g b0 b1 n0 n1 dir table type id buffer ≡ buffer
    unfolding index_get_of index_get_buffer
    index_get_refused r h = go (getslice_fits g b0 b1 n0 n1 dir buffer) h
      where
        go : (x : Bool) → cond x (slice_answer (block_of b0 b1 n0 dir) 0 (length buffer) (index_hit table type id))
            (Err Invalid) ≡ Err r
            → cond x (slice_buffer (block_of b0 b1 n0 dir) 0 buffer (index_hit table type id)) buffer ≡ buffer
        go true h = slice_refused (block_of b0 b1 n0 dir) 0 buffer (index_hit table type id) r h
        go false h = refl

-- ---- compaction with a table: the table (answer and images are `lfs_dir_compact`'s)
pub compact_table_decided : (g : Geometry) (b0 b1 : List ℕ) (n0 n1 count seed rules e : ℕ) (table : List ℕ)
    → Decides (compact_table g b0 b1 n0 n1 count seed rules e table)
compact_table_decided g b0 b1 n0 n1 count seed rules e table =
    decided (compact_table g b0 b1 n0 n1 count seed rules e table)

-- the refusals by which a compaction has used its table: the log is regular, and what is written anew doesn't do
pub data Used : Refusal → Type 0 where
  used28 : Used NoSpace
  used204 : Used Coincidence

anew_used : (e prog block : ℕ) (second : Bool) (rev : ℕ) (is : List Item) (r : Refusal)
    → placed_anew e prog block second rev is ≡ compact_refused r → Used r
unfolding placed_anew
anew_used e prog block second rev is r h =
    go (ltb block (rounded_end prog (compact_check_at is)))
    (coincides e (crc all_ones (to_le32 rev)) all_ones is (check_tag e (check_size prog (compact_check_at is)))) h
  where
    go : (x y : Bool) → cond x (compact_refused NoSpace) (cond y (compact_refused Coincidence)
        (compact_accepted second rev is (check_size prog (compact_check_at is)))) ≡ compact_refused r → Used r
    go true y h = let q : NoSpace ≡ r = cc in rw (← q) used28
    go false true h = let q : Coincidence ≡ r = cc in rw (← q) used204
    go false false h = absurd (let z : ◌≡◌ {A = ℕ} 0 1 = cc in omega arith)

regular_used : (r : Rules) (e prog : ℕ) (second : Bool) (b table : List ℕ) (q : Refusal)
    → compactable r e prog second b (log b) ≡ compact_refused q → (table_renewed r (log b) table ≡ table) ⊎ Used q
unfolding compactable
regular_used r e prog second b table q h = go (Regular r (log b)) h
  where
    go : (x : Bool) → cond (not x) (compact_refused Irregular) (placed_anew e prog (length b) second (plus32 (le32 b) 1)
        (with_forward e prog (length b) 4 (compaction_items (log b)))) ≡ compact_refused q
        → (cond (not x) table (table_as (length table) (built (length table) (log b))) ≡ table) ⊎ Used q
    go false h = inl refl
    go true h = inr (anew_used e prog (length b) second _ _ q h)

-- "unchanged on -22, fetch's own refusals and -202": by every refusal but these two the table is as it was
module _ (g : Geometry) (b0 b1 : List ℕ) (n0 n1 count seed rules e : ℕ) (table : List ℕ) (r : Refusal) where
  verdict_left : compact_verdict g b0 b1 n0 n1 count seed rules e ≡ compact_refused r
      → (compact_table g b0 b1 n0 n1 count seed rules e table ≡ table) ⊎ Used r
  unfolding compact_verdict compact_table
  verdict_left h = go (writes_fit rules e) (fetch_of g b0 b1 n0 n1 count seed) h
    where
      go : (x : Bool) (f : Result Fetched Refusal) → cond (not x) (compact_refused Invalid)
          (compact_fetched (rules_of rules) e g.prog_size b0 b1 n0 f) ≡ compact_refused r
          → (cond (not x) table (table_fetched (rules_of rules) b0 b1 n0 table f) ≡ table) ⊎ Used r
      go false f h = inl refl
      go true (Err q) h = inl refl
      go true (Ok f) h =
          regular_used (rules_of rules) e g.prog_size (is_second n0 f.dir) (block_at (is_second n0 f.dir) b0 b1) table r h

  pub compact_table_left : Bytes b0 → Bytes b1 → compact_of g b0 b1 n0 n1 count seed rules e ≡ Err r
      → (compact_table g b0 b1 n0 n1 count seed rules e table ≡ table) ⊎ Used r
  unfolding compact_of
  compact_table_left y0 y1 h = go (compact_verdict g b0 b1 n0 n1 count seed rules e) refl h
    where
      go : (v : CompactVerdict) → compact_verdict g b0 b1 n0 n1 count seed rules e ≡ v
          → compact_answer (fetch_of g (compact_images g b0 b1 n0 n1 count seed rules e unlimited).b0
          (compact_images g b0 b1 n0 n1 count seed rules e unlimited).b1 n0 n1 count seed) v ≡ Err r
          → (compact_table g b0 b1 n0 n1 count seed rules e table ≡ table) ⊎ Used r
      go (compact_refused q) a k = let same : q ≡ r = cc in verdict_left (a ∙ ap compact_refused same)
      go (compact_accepted w rev is size) a k =
          let d = compact_done g b0 b1 n0 n1 count seed rules e y0 y1 w rev is size a in
          let z : Err r ≡ Ok (fetched d.0 d.1) = sym h ∙ d.2 in
          absurd (let y : ◌≡◌ {A = ℕ} 0 1 = cc in omega arith)
