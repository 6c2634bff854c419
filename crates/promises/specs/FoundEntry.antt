-- Document 02, L3: what the length and the place of a found answer say, of any bytes, numbers and records. The length
-- is the one that the answer's tag tells, the data stand before the record's end, and a buffer of their length gets
-- them; and the answer is the same whatever the offset and the buffer, so that a short buffer hides nothing. Assumes
-- nothing.
use Rattle.std.specs.Prelude.{◌≡◌, refl, Bool, List, [], ◌∷◌, ◌++◌, take, drop, leb, ℤ, pos, negsuc, Err, None, Ok, Option, Result, Some}
use Rattle.std.proofs.Common.{sym, ap, ◌∙◌, append-nil, le_refl}
use Rattle.std.proofs.Math.Bool.{true, false, cond}
use Prim.Native.Nat.{ℕ, ◌+◌, ◌-◌, ◌%◌, ◌^◌, ◌≤◌, min}
use Rattle.std.proofs.Math.Nat.{add-zero}
use native.Mathlib.Omega.{arith}
use Rattle.std.proofs.Math.ListN.{length, replicate}
use Rattle.std.proofs.lemmas.Bool.{eqb-false}
use Rattle.format.specs.Word.{plus32, minus32}
use Rattle.format.specs.Tag.{tag_size, tag_splice, removal_size, tag_delete}
use Rattle.format.specs.Back.{Met, back}
use Rattle.format.specs.Look.{found_at, data_size, bytes_of, as_ids, spliced_at, diff_after}
use Rattle.format.specs.Lookup.{block_of, searched, slice_start, slice_end, getslice_fits}
use Rattle.format.specs.Lookup.{getslice_of, getslice_buffer, get_fits, get_of}
use Rattle.format.specs.declared.Geometry.{Geometry}
use Rattle.format.specs.declared.LfsMdir.{LfsMdir}
use Rattle.format.specs.declared.LfsGstate.{LfsGstate}
use Rattle.format.specs.declared.Refusal.TheVariants.{Invalid, Corrupt}
use Rattle.format.specs.declared.Found.{Found}
use Rattle.format.proofs.Tags.{length_size}
use Rattle.format.proofs.Searched.{slice_is}
use Rattle.theory.specs.Lookup.WhatIsFound.{AllMet, searched_has}
use Rattle.theory.specs.Lookup.AtStart.{searched_in}
use Rattle.format.specs.declared.Refusal.{Refusal}

-- ---- the difference counts ids, so it leaves a tag's size alone
abbrev Whole : ℕ → Type 0
Whole d = d % 2 ^ 10 ≡ 0

ids_whole : (z : ℤ) → Whole (as_ids z)
unfolding as_ids
ids_whole (pos n) = omega arith
ids_whole (negsuc n) = omega arith

plus_whole : (c d : ℕ) → Whole c → Whole d → Whole (plus32 c d)
plus_whole c d h k = omega arith

after_whole : (ids : Bool) (t key d : ℕ) → Whole d → Whole (diff_after ids t key d)
after_whole ids t key d h = go (spliced_at ids t (minus32 key d))
  where
    go : (s : Bool) → Whole (cond s (plus32 d (as_ids (tag_splice t))) d)
    go true = plus_whole d (as_ids (tag_splice t)) h (ids_whole (tag_splice t))
    go false = h

size_kept : (t d : ℕ) → Whole d → tag_size (plus32 t d) ≡ tag_size t
size_kept t d h = omega arith

-- "The stored length is 4 plus size"
abbrev Sized : Option Found → Type 0
Sized None = Unit {0}
Sized (Some e) = e.length ≡ 4 + tag_size e.tag

found_sized : (m : Met) (d : ℕ) → Whole d → tag_delete m.tag ≡ false
    → Sized (Some (found_at m.tag m.off d))
found_sized m d w e = length_size m.tag (eqb-false (tag_size m.tag) removal_size e)
    ∙ ap (λ (n : ℕ). 4 + n) (sym (size_kept m.tag d w))

-- of the tags that are met nothing is asked
any_met : (ms : List Met) → AllMet (λ (m : Met). Unit {0}) ms
any_met [] = tt
any_met (m ∷ ms) = (tt, any_met ms)

searched_sized : (b : List ℕ) (dir : LfsMdir) (gdisk : LfsGstate) (mask key : ℕ) → Sized (searched b dir gdisk mask key)
searched_sized b dir gdisk mask key =
    searched_has Sized (λ (m : Met). Unit {0}) Whole tt after_whole (λ m d _ w e. found_sized m d w e) b dir gdisk mask
    key refl refl (any_met (back b dir.off dir.etag))

-- ---- an answer that is found is the search's
behind : (test : Bool) (x : Result Found Refusal) (e : Found) → cond test x (Err Invalid) ≡ Ok e
    → (test ≡ true) × (x ≡ Ok e)
behind true x e h = (refl, h)
behind false x e h = (cc, cc)

-- ---- `lfs_dir_getslice`
module _ (g : Geometry) (b0 b1 : List ℕ) (n0 n1 : ℕ) (dir : LfsMdir) (gdisk : LfsGstate) (mask key : ℕ) where
  abbrev block : List ℕ
  block = block_of b0 b1 n0 dir

  module _ (offset : ℕ) (buffer : List ℕ) (e : Found)
      (h : getslice_of g b0 b1 n0 n1 dir gdisk mask key offset buffer ≡ Ok e) where
    pub found_searched : searched block dir gdisk mask key ≡ Some e
    unfolding getslice_of
    found_searched = slice_is block offset (length buffer) (searched block dir gdisk mask key) e
        (behind (getslice_fits g b0 b1 n0 n1 dir buffer) _ e h).1

    -- the length is what the tag says, whatever the buffer's
    pub found_length : e.length ≡ 4 + tag_size e.tag
    found_length = rw found_searched at (searched_sized block dir gdisk mask key)

    -- the data stand before the record's end
    pub found_inside : e.off + (e.length - 4) ≤ dir.off
    found_inside = (rw found_searched at (searched_in dir.off block dir gdisk mask key (le_refl dir.off))).inside

  -- two lookups that differ in offset and buffer only answer the same, tag, length and place
  pub found_whole : (offset offset' : ℕ) (buffer buffer' : List ℕ) (e e' : Found)
      → getslice_of g b0 b1 n0 n1 dir gdisk mask key offset buffer ≡ Ok e
      → getslice_of g b0 b1 n0 n1 dir gdisk mask key offset' buffer' ≡ Ok e' → e ≡ e'
  found_whole offset offset' buffer buffer' e e' h k =
      same (sym (found_searched offset buffer e h) ∙ found_searched offset' buffer' e' k)
    where
      same : Some e ≡ Some e' → e ≡ e'
      same q = cc

  -- a buffer that is as long as the data gets what stands at the place
  pub found_read : (buffer : List ℕ) (e : Found)
      → getslice_of g b0 b1 n0 n1 dir gdisk mask key 0 buffer ≡ Ok e → length buffer ≡ e.length - 4
      → getslice_buffer g b0 b1 n0 n1 dir gdisk mask key 0 buffer ≡ bytes_of block e
  unfolding getslice_of getslice_buffer
  found_read buffer e h long =
      let f = behind (getslice_fits g b0 b1 n0 n1 dir buffer) _ e h in
      let q : searched block dir gdisk mask key ≡ Some e = found_searched 0 buffer e h in
      rw (f.0, q) (go (leb (slice_end e 0 (length buffer)) (length block)) (rw q at f.1))
    where
      go : (c : Bool) → cond c (Ok e) (Err Corrupt) ≡ Ok e
          → cond c (take (min (data_size e) (length buffer)) (drop (slice_start e 0) block)
          ++ replicate (length buffer - data_size e) 0) buffer
          ≡ bytes_of block e
      go true k =
          let all : min (data_size e) (length buffer) ≡ data_size e = omega arith in
          let rest : length buffer - data_size e ≡ 0 = omega arith in
          rw (all, rest, add-zero e.off) (append-nil (bytes_of block e))
      go false k = cc

  -- `lfs_dir_get` answers what that does from 0 on, so all of this is said of its answer too
  pub get_found : (buffer : List ℕ) (e : Found) → get_of g b0 b1 n0 n1 dir gdisk mask key buffer ≡ Ok e
      → getslice_of g b0 b1 n0 n1 dir gdisk mask key 0 (take (tag_size key) buffer) ≡ Ok e
  unfolding get_of
  get_found buffer e h = (behind (get_fits key buffer) _ e h).1
