-- The calls, by the tests of sizes, numbers, records and rule: each way out of the code decides the definition's case.
-- Assumes nothing.
use mathlib.Core.Path.{◌≡◌, refl, sym, ap, ◌∙◌}
use mathlib.Core.Bool.{Bool, true, false, ◌&&◌}
use mathlib.Core.List.{List}
use Prim.Native.Nat.{ℕ, ◌≤◌}
use native.Mathlib.Omega.{arith}
use lib.ListN.{length}
use lib.Dec.{eqb, leb}
use borrow.Author.Tests.{leb-true}
use Rattle.format.specs.Lookup.{record_fits, block_of, slice_answer, slice_buffer, getslice_fits}
use Rattle.format.specs.Regular.{rules_fit, rules_of}
use Rattle.format.specs.Index.{index_fits, extend_fits}
use Rattle.format.specs.Index.{index_hit, index_of, index_table, extend_of, extend_table, index_get_of, index_get_buffer}
use Rattle.format.specs.declared.Geometry.{Geometry}
use Rattle.format.specs.declared.LfsMdir.{LfsMdir}
use Rattle.format.specs.declared.Rules.{Rules}
use Rattle.format.specs.declared.Refusal.TheVariants.{Invalid, NoEntry}
use Rattle.format.specs.declared.Found.{Found}
use Rattle.sizes.proofs.Sized.{both}
use Rattle.sizes.proofs.Records.{record_sized, end_inside}
use Rattle.index.specs.Blocks.{InBlock, block_answer, block_table, indexed_in, tabled_in, extended_in, extended_table}
use Rattle.std.specs.Prelude.{Err, None, Option, Result, Some}
use Rattle.format.specs.declared.Refusal.{Refusal}

-- a record that fits has its end in either block, and the blocks are not long
in_blocks : (g : Geometry) (b0 b1 : List ℕ) (n0 n1 : ℕ) (dir : LfsMdir)
    → record_fits g (length b0) (length b1) n0 n1 dir ≡ true → InBlock b0 dir.off × InBlock b1 dir.off
in_blocks g b0 b1 n0 n1 dir h =
    let s = record_sized g (length b0) (length b1) n0 n1 dir h in
    let e = end_inside g (length b0) (length b1) n0 n1 dir h in (
      record { inside = e.0; small = omega (arith, s.first, s.geometry.block_high) },
      record { inside = e.1; small = omega (arith, s.second, s.geometry.block_high) },
    )

-- ---- `lfs_dir_index`; fits is what `record_fits` answers, r the rule
module _ (g : Geometry) (b0 b1 : List ℕ) (n0 n1 : ℕ) (dir : LfsMdir) (rules : ℕ) (T : List ℕ) where
  abbrev pub IndexDone : Result ℕ Refusal → List ℕ → Type 0
  IndexDone r new = (r ≡ index_of g b0 b1 n0 n1 dir rules T) × (new ≡ index_table g b0 b1 n0 n1 dir rules T)

  unfit : index_fits g b0 b1 n0 n1 dir rules ≡ false → IndexDone (Err Invalid) T
  unfolding index_of index_table
  unfit h = (sym (rw h), sym (rw h))

  pub index_unruled : rules_fit rules ≡ false → IndexDone (Err Invalid) T
  index_unruled h = unfit (go (record_fits g (length b0) (length b1) n0 n1 dir))
    where
      go : (x : Bool) → x && rules_fit rules ≡ false
      go true = h
      go false = refl

  module _ (ruled : rules_fit rules ≡ true) (fits : Bool)
      (e : fits ≡ record_fits g (length b0) (length b1) n0 n1 dir) where
    pub index_refused : fits ≡ false → IndexDone (Err Invalid) T
    index_refused h = unfit (rw (← e, h))

    pub index_inside : fits ≡ true → InBlock b0 dir.off × InBlock b1 dir.off
    index_inside h = in_blocks g b0 b1 n0 n1 dir (sym e ∙ h)

    -- b is the block that is read
    pub index_read : fits ≡ true → (b : List ℕ) → b ≡ block_of b0 b1 n0 dir → (r : Rules) → r ≡ rules_of rules
        → (x : Result ℕ Refusal) (new : List ℕ) → x ≡ indexed_in r b dir.off (length T) → new ≡ tabled_in r b dir.off T
        → IndexDone x new
    unfolding index_of index_table block_answer block_table
    index_read h b eb r er x new ex en =
        (ex ∙ sym (rw (← e, h, ruled, ← eb, ← er)), en ∙ sym (rw (← e, h, ruled, ← eb, ← er)))

-- ---- `lfs_dir_index_extend`; fits and also are what `record_fits` answers of the new record and the old one
module _ (g : Geometry) (b0 b1 : List ℕ) (n0 n1 : ℕ) (old dir : LfsMdir) (rules : ℕ) (T : List ℕ) where
  abbrev pub ExtendDone : Result ℕ Refusal → List ℕ → Type 0
  ExtendDone r new = (r ≡ extend_of g b0 b1 n0 n1 old dir rules T) × (new ≡ extend_table g b0 b1 n0 n1 old dir rules T)

  not_extended : extend_fits g b0 b1 n0 n1 old dir rules ≡ false → ExtendDone (Err Invalid) T
  unfolding extend_of extend_table
  not_extended h = (sym (rw h), sym (rw h))

  pub extend_unruled : rules_fit rules ≡ false → ExtendDone (Err Invalid) T
  extend_unruled h = not_extended (go (record_fits g (length b0) (length b1) n0 n1 dir))
    where
      go : (x : Bool) → x && rules_fit rules && record_fits g (length b0) (length b1) n0 n1 old
          && eqb old.pair.n0 dir.pair.n0 && leb old.off dir.off ≡ false
      go true = rw h
      go false = refl

  module _ (ruled : rules_fit rules ≡ true) (fits : Bool)
      (e : fits ≡ record_fits g (length b0) (length b1) n0 n1 dir) (also : Bool)
      (e' : also ≡ record_fits g (length b0) (length b1) n0 n1 old) where
    abbrev pub extend_test : Bool
    extend_test = fits && also && eqb old.pair.n0 dir.pair.n0 && leb old.off dir.off

    same_test : extend_fits g b0 b1 n0 n1 old dir rules ≡ extend_test
    same_test = rw (← e, ← e', ruled) (go fits)
      where
        go : (x : Bool) → x && true && also && eqb old.pair.n0 dir.pair.n0 && leb old.off dir.off
            ≡ x && also && eqb old.pair.n0 dir.pair.n0 && leb old.off dir.off
        go true = refl
        go false = refl

    pub extend_refused : extend_test ≡ false → ExtendDone (Err Invalid) T
    extend_refused h = not_extended (same_test ∙ h)

    pub extend_inside : extend_test ≡ true
        → (InBlock b0 dir.off × (old.off ≤ dir.off)) × (InBlock b1 dir.off × (old.off ≤ dir.off))
    extend_inside h =
        let p = both (fits && also && eqb old.pair.n0 dir.pair.n0) (leb old.off dir.off) h in
        let q = both (fits && also) (eqb old.pair.n0 dir.pair.n0) p.0 in
        let i = in_blocks g b0 b1 n0 n1 dir (sym e ∙ (both fits also q.0).0) in
        let l = leb-true old.off dir.off p.1 in
        ((i.0, l), (i.1, l))

    -- b is the block that is read, r the rule
    pub extend_read : extend_test ≡ true → (b : List ℕ) → b ≡ block_of b0 b1 n0 dir → (r : Rules) → r ≡ rules_of rules
        → (x : Result ℕ Refusal) (new : List ℕ)
        → x ≡ extended_in r b old.off dir.off T → new ≡ extended_table r b old.off dir.off T
        → ExtendDone x new
    unfolding extend_of extend_table block_answer block_table
    extend_read h b eb r er x new ex en =
        let f = same_test ∙ h in
        (ex ∙ sym (rw (f, ← eb, ← er)), en ∙ sym (rw (f, ← eb, ← er)))

-- ---- `lfs_dir_index_get`; fits is what `record_fits` answers
module _ (g : Geometry) (b0 b1 : List ℕ) (n0 n1 : ℕ) (dir : LfsMdir) (T : List ℕ) (kind id : ℕ) (d : List ℕ)
    (fits : Bool) (e : fits ≡ record_fits g (length b0) (length b1) n0 n1 dir) where
  abbrev pub get_test : Bool
  get_test = fits && leb (length d) 65_536

  abbrev pub GetDone : Result Found Refusal → List ℕ → Type 0
  GetDone r l = (r ≡ index_get_of g b0 b1 n0 n1 dir T kind id d) × (l ≡ index_get_buffer g b0 b1 n0 n1 dir T kind id d)

  pub get_refused : get_test ≡ false → GetDone (Err Invalid) d
  unfolding index_get_of index_get_buffer getslice_fits
  get_refused h = (sym (rw (← e, h)), sym (rw (← e, h)))

  -- b is the block that is read
  pub get_read : get_test ≡ true → (b : List ℕ) → b ≡ block_of b0 b1 n0 dir → (r : Result Found Refusal) (l : List ℕ)
      → r ≡ slice_answer b 0 (length d) (index_hit T kind id) → l ≡ slice_buffer b 0 d (index_hit T kind id) → GetDone r l
  unfolding index_get_of index_get_buffer getslice_fits
  get_read h b eb r l er el = (er ∙ sym (rw (← e, h, ← eb)), el ∙ sym (rw (← e, h, ← eb)))

  -- h is what `place_of` answers
  module _ (k : get_test ≡ true) (h : Option Found) (eh : h ≡ index_hit T kind id) where
    pub get_nothing : h ≡ None → GetDone (Err NoEntry) d
    get_nothing q = get_read k (block_of b0 b1 n0 dir) refl (Err NoEntry) d
        (sym (ap (slice_answer (block_of b0 b1 n0 dir) 0 (length d)) (sym eh ∙ q)))
        (sym (ap (slice_buffer (block_of b0 b1 n0 dir) 0 d) (sym eh ∙ q)))

    pub get_found : (f : Found) → h ≡ Some f → (b : List ℕ) → b ≡ block_of b0 b1 n0 dir → (r : Result Found Refusal) (l : List ℕ)
        → r ≡ slice_answer b 0 (length d) (Some f) → l ≡ slice_buffer b 0 d (Some f) → GetDone r l
    get_found f q b eb r l er el = get_read k b eb r l (er ∙ ap (slice_answer b 0 (length d)) (sym q ∙ eh))
        (el ∙ ap (slice_buffer b 0 d) (sym q ∙ eh))
