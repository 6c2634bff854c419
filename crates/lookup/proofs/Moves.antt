-- The move state: what the slice of twelve bytes says of it. Assumes nothing.
use mathlib.Core.Path.{◌≡◌, refl, sym, ap, ◌∙◌}
use mathlib.Core.Bool.{Bool, true, false, cond}
use mathlib.Core.List.{List}
use Prim.Native.Nat.{ℕ, ◌^◌, ◌<◌}
use native.Mathlib.Omega.{arith}
use lib.Dec.{leb}
use lib.ListN.{length}
use Rattle.format.specs.Tag.{mk_tag, tag_of}
use Rattle.format.specs.Gstate.{gstate_xor}
use Rattle.format.specs.Lookup.{record_fits, block_of, searched, slice_end, slice_answer, slice_buffer, blank_buffer}
use Rattle.format.specs.Lookup.{gstate_in, move_mask, move_key, move_answer, move_state, getgstate_of, getgstate_state}
use Rattle.format.specs.declared.Geometry.{Geometry}
use Rattle.format.specs.declared.LfsMdir.{LfsMdir}
use Rattle.format.specs.declared.LfsGstate.{LfsGstate}
use Rattle.format.specs.declared.Refusal.{Refusal}
use Rattle.format.specs.declared.Refusal.TheVariants.{Invalid, Corrupt}
use Rattle.format.specs.declared.Found.{Found}
use Rattle.format.proofs.Words.{mk_tag_sum}
use Rattle.lookup_search.proofs.Slices.{of_hit}
use Rattle.std.specs.Prelude.{Err, None, Ok, Option, Result, Some}

-- the tag that LFS_MKTAG makes of fields that fit
pub tag_made : (type id size r : ℕ) → type < 2 ^ 12 → id < 2 ^ 10 → size < 2 ^ 10 → r ≡ mk_tag type id size
    → r ≡ tag_of type id size
unfolding tag_of
tag_made type id size r ht hi hs e = e ∙ mk_tag_sum type id size ht hi hs

-- which of two answers it was
refused_is : (c : Bool) (x : Found) (a : Result Found Refusal) (r : Refusal) → a ≡ cond c (Ok x) (Err Corrupt)
    → a ≡ Err r → (c ≡ false) × (r ≡ Corrupt)
refused_is true x a r e q = let z : ◌≡◌ {A = ℕ} 0 1 = cc in absurd (omega arith)
refused_is false x a r e q = (refl, cc)

found_is : (c : Bool) (x y : Found) (a : Result Found Refusal) → a ≡ cond c (Ok x) (Err Corrupt) → a ≡ Ok y
    → c ≡ true
found_is true x y a e q = refl
found_is false x y a e q = let z : ◌≡◌ {A = ℕ} 0 1 = cc in absurd (omega arith)

-- a is the slice's answer at the entry u
module _ (b : List ℕ) (u : Found) (gstate : LfsGstate) (a : Result Found Refusal) (e : a ≡ slice_answer b 0 12 (Some u)) where
  abbrev inside : Bool
  inside = leb (slice_end u 0 12) (length b)

  pub move_refused : (r : Refusal) → a ≡ Err r
      → (Err r ≡ move_answer b (Some u)) × (gstate ≡ move_state b gstate (Some u))
  move_refused r q = let f = refused_is inside u a r e q in
      (ap Err f.1 ∙ sym (rw f.0), sym (rw f.0))

  -- d is the buffer, s the state in it, x the two XORed
  pub move_found : (y : Found) → a ≡ Ok y → (d : List ℕ) → d ≡ slice_buffer b 0 (blank_buffer 12) (Some u)
      → (s x : LfsGstate) → s ≡ gstate_in d
      → x ≡ gstate_xor gstate s → ((Ok tt) ≡ move_answer b (Some u))
      × (x ≡ move_state b gstate (Some u))
  move_found y q d ed s x es ex =
      let f = found_is inside u y a e q in
      (sym (rw f), ex ∙ ap (gstate_xor gstate) (es ∙ ap gstate_in ed) ∙ sym (rw f))

-- gm and gt are the mask and the key that LFS_MKTAG makes, h what the search answers
module _ (b : List ℕ) (dir : LfsMdir) (gdisk gstate : LfsGstate) (gm gt : ℕ) (em : gm ≡ mk_tag 0x7ff 0 0)
    (et : gt ≡ mk_tag 0x7ff 0 12) (h : Option Found)
    (e : h ≡ searched b dir gdisk gm gt) where
  abbrev u : Option Found
  u = searched b dir gdisk move_mask move_key

  move_search : h ≡ u
  move_search =
      let m : gm ≡ move_mask = tag_made 0x7ff 0 0 gm (omega arith) (omega arith) (omega arith) em in
      let k : gt ≡ move_key = tag_made 0x7ff 0 12 gt (omega arith) (omega arith) (omega arith) et in
      e ∙ (λ i. searched b dir gdisk (m i) (k i))

  pub move_none : h ≡ None → ((Ok tt) ≡ move_answer b u) × (gstate ≡ move_state b gstate u)
  move_none q = (
    of_hit h u move_search (λ f. move_answer b f) q,
    of_hit h u move_search (λ f. move_state b gstate f) q,
  )

  pub move_some : {w : Found} → h ≡ Some w → (a : Result Unit Refusal) (x : LfsGstate)
      → a ≡ move_answer b (Some w) → x ≡ move_state b gstate (Some w)
      → (a ≡ move_answer b u) × (x ≡ move_state b gstate u)
  move_some q a x ea ex = (
    ea ∙ of_hit h u move_search (λ f. move_answer b f) q,
    ex ∙ of_hit h u move_search (λ f. move_state b gstate f) q,
  )

-- ---- `lfs_dir_getgstate`; fits is what `record_fits` answers
module _ (g : Geometry) (b0 b1 : List ℕ) (n0 n1 : ℕ) (dir : LfsMdir) (gdisk gstate : LfsGstate) (fits : Bool)
    (e : fits ≡ record_fits g (length b0) (length b1) n0 n1 dir) where
  pub getgstate_refused : fits ≡ false
      → (Err Invalid ≡ getgstate_of g b0 b1 n0 n1 dir gdisk)
      × (gstate ≡ getgstate_state g b0 b1 n0 n1 dir gdisk gstate)
  unfolding getgstate_of getgstate_state
  getgstate_refused h = (sym (rw (← e, h)), sym (rw (← e, h)))

  -- b is the block that is read
  pub getgstate_read : fits ≡ true → (b : List ℕ) → b ≡ block_of b0 b1 n0 dir → (a : Result Unit Refusal) (x : LfsGstate)
      → a ≡ move_answer b (searched b dir gdisk move_mask move_key)
      → x ≡ move_state b gstate (searched b dir gdisk move_mask move_key)
      → (a ≡ getgstate_of g b0 b1 n0 n1 dir gdisk) × (x ≡ getgstate_state g b0 b1 n0 n1 dir gdisk gstate)
  unfolding getgstate_of getgstate_state
  getgstate_read h b eb a x ea ex = (ea ∙ sym (rw (← e, h, ← eb)), ex ∙ sym (rw (← e, h, ← eb)))
