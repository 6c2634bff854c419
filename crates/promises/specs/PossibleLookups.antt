-- Demand 2: the lookups give no refusals but those of Possible. At offset 0 none answers -84: what is read is in the
-- entry that matched, and that ends at the record's end or before it, so in the block. Assumes nothing.
use Rattle.std.specs.Prelude.{◌≡◌, Bool, true, not, ◌&&◌, List, ℕ, ◌+◌, ◌≤◌, length, take, eqb, Err, None, Ok, Option, Result, Some}
use Rattle.std.proofs.Math.Nat.{min-le_left}
use Rattle.std.proofs.Common.{arith, leb-true, le-leb, eqb-true}
use Rattle.std.proofs.Math.Dec.{leb}
use Rattle.format.specs.Pair.{pair_sync}
use Rattle.format.specs.Fetch.{geometry_fits, pair_fits}
use Rattle.format.specs.Tag.{tag_size}
use Rattle.format.specs.Kind.{no_slot}
use Rattle.format.specs.Look.{data_size, HitIn}
use Rattle.format.specs.Lookup.{record_fits, block_of, searched, slice_end, slice_answer}
use Rattle.format.specs.Lookup.{longest_buffer, getslice_fits, getslice_of, get_fits, get_of, name_mask, name_key, struct_mask}
use Rattle.format.specs.Lookup.{struct_key, read_answer, read_buffer, info_from, info_of, getinfo_fits, getinfo_of}
use Rattle.format.specs.Lookup.{move_mask, move_key, move_answer, getgstate_of}
use Rattle.format.specs.declared.Geometry.{Geometry}
use Rattle.format.specs.declared.LfsMdir.{LfsMdir}
use Rattle.format.specs.declared.LfsGstate.{LfsGstate}
use Rattle.format.specs.declared.Found.{Found}
use Rattle.theory.specs.Walk.Step.{both_true}
use Rattle.theory.specs.Lookup.AtStart.{searched_in}
use Rattle.promises.specs.Possible.{SliceRefuses, slice22, slice84, slice2, GetRefuses, get22, get2}
use Rattle.promises.specs.Possible.{GstateRefuses, gstate22, AnswerOr, behind, through}
use Rattle.format.specs.declared.LfsInfo.{LfsInfo}
use Rattle.format.specs.declared.Refusal.{Refusal}

-- ---- what was found is read
pub slice_possible : (b : List ℕ) (offset size : ℕ) (f : Option Found) → AnswerOr SliceRefuses (slice_answer b offset size f)
slice_possible b offset size None = slice2
slice_possible b offset size (Some e) =
    through (AnswerOr SliceRefuses) (leb (slice_end e offset size) (length b)) tt slice84

-- at offset 0, what was found before the block's end is read before it
start_fits : (b : List ℕ) (size : ℕ) (e : Found) → HitIn (length b) (Some e)
    → leb (slice_end e 0 size) (length b) ≡ true
start_fits b size e h = le-leb (slice_end e 0 size) (length b) (omega (arith, h.inside, min-le_left (data_size e) size))

start_possible : (b : List ℕ) (size : ℕ) (f : Option Found) → HitIn (length b) f → AnswerOr GetRefuses (slice_answer b 0 size f)
start_possible b size None h = get2
start_possible b size (Some e) h = rw (start_fits b size e h) tt

move_possible : (b : List ℕ) (f : Option Found) → HitIn (length b) f → AnswerOr GstateRefuses (move_answer b f)
move_possible b None h = tt
move_possible b (Some e) h = rw (start_fits b 12 e h) tt

-- an info is refused as the first of its two lookups that is
abbrev Informs : Result LfsInfo Refusal → Type 0
Informs i = AnswerOr GetRefuses i

info_from_lem : (x y : Result Found Refusal) (name struct : List ℕ) → AnswerOr GetRefuses x → AnswerOr GetRefuses y
    → Informs (info_from x name y struct)
info_from_lem (Err r) y name struct h k = h
info_from_lem (Ok t) (Err r) name struct h k = k
info_from_lem (Ok t) (Ok u) name struct h k = tt

info_possible : (b : List ℕ) (nameMax : ℕ) (name struct : Option Found) → HitIn (length b) name → HitIn (length b) struct
    → Informs (info_of b nameMax name struct)
info_possible b nameMax name struct h k =
    info_from_lem (read_answer b (nameMax + 1) name) (read_answer b 8 struct)
    (read_buffer b (nameMax + 1) name) (read_buffer b 8 struct)
    (start_possible b (nameMax + 1) name h) (start_possible b 8 struct k)

-- the end of a record that fits is in the block that it was read from
pub end_inside : (g : Geometry) (b0 b1 : List ℕ) (n0 n1 : ℕ) (dir : LfsMdir)
    → record_fits g (length b0) (length b1) n0 n1 dir ≡ true → dir.off ≤ length (block_of b0 b1 n0 dir)
unfolding record_fits pair_fits
end_inside g b0 b1 n0 n1 dir h =
    let size : ℕ = g.block_size in
    let one : Bool = geometry_fits g && eqb (length b0) size in
    let two : Bool = one && eqb (length b1) size in
    let pair : Bool = two && not (eqb n0 n1) && pair_sync dir.pair (record { n0 = n0; n1 = n1 }) in
    let end = both_true pair (leb dir.off size) h in
    let second = both_true one _ (both_true two _ (both_true (two && not (eqb n0 n1)) _ end.0).0).0 in
    let first = both_true (geometry_fits g) _ second.0 in
    let inside : dir.off ≤ size = leb-true dir.off size end.1 in
    through (λ (b : List ℕ). dir.off ≤ length b) (eqb dir.pair.n0 n0)
    (rw (eqb-true (length b0) size first.1) inside) (rw (eqb-true (length b1) size second.1) inside)

-- ---- the four calls
module _ (g : Geometry) (b0 b1 : List ℕ) (n0 n1 : ℕ) (dir : LfsMdir) (gdisk : LfsGstate) where
  abbrev fits : Bool
  fits = record_fits g (length b0) (length b1) n0 n1 dir

  abbrev block : List ℕ
  block = block_of b0 b1 n0 dir

  abbrev search : ℕ → ℕ → Option Found
  search mask key = searched block dir gdisk mask key

  -- a search finds nothing behind the record's end
  search_inside : (mask key : ℕ) → fits ≡ true → HitIn (length block) (search mask key)
  search_inside mask key h = searched_in (length block) block dir gdisk mask key (end_inside g b0 b1 n0 n1 dir h)

  pub getslice_possible : (mask key offset : ℕ) (buffer : List ℕ)
      → AnswerOr SliceRefuses (getslice_of g b0 b1 n0 n1 dir gdisk mask key offset buffer)
  unfolding getslice_of
  getslice_possible mask key offset buffer =
      through (AnswerOr SliceRefuses) (getslice_fits g b0 b1 n0 n1 dir buffer)
      (slice_possible block offset (length buffer) (search mask key)) slice22

  -- at offset 0 without -84
  pub getslice_start_possible : (mask key : ℕ) (buffer : List ℕ)
      → AnswerOr GetRefuses (getslice_of g b0 b1 n0 n1 dir gdisk mask key 0 buffer)
  unfolding getslice_of getslice_fits
  getslice_start_possible mask key buffer =
      behind (AnswerOr GetRefuses) (fits && leb (length buffer) longest_buffer)
      (λ e. start_possible block (length buffer) (search mask key) (search_inside mask key (both_true _ _ e).0)) get22

  pub get_possible : (mask key : ℕ) (buffer : List ℕ)
      → AnswerOr GetRefuses (get_of g b0 b1 n0 n1 dir gdisk mask key buffer)
  unfolding get_of
  get_possible mask key buffer =
      through (AnswerOr GetRefuses) (get_fits key buffer)
      (getslice_start_possible mask key (take (tag_size key) buffer)) get22

  pub getgstate_possible : AnswerOr GstateRefuses (getgstate_of g b0 b1 n0 n1 dir gdisk)
  unfolding getgstate_of
  getgstate_possible =
      behind (AnswerOr GstateRefuses) fits
      (λ e. move_possible block (search move_mask move_key) (search_inside move_mask move_key e)) gstate22

  pub getinfo_possible : (nameMax id : ℕ) → AnswerOr GetRefuses (getinfo_of g b0 b1 n0 n1 dir gdisk nameMax id)
  unfolding getinfo_of getinfo_fits
  getinfo_possible nameMax id =
      behind Informs (fits && leb 1 nameMax && leb nameMax 255 && leb id no_slot)
      (λ e. through Informs (eqb id no_slot) tt (read (both_true _ _ (both_true _ _ (both_true _ _ e).0).0).0)) get22
    where
      name : Option Found
      name = search name_mask (name_key id nameMax)

      struct : Option Found
      struct = search struct_mask (struct_key id)

      read : fits ≡ true → Informs (info_of block nameMax name struct)
      read e =
          info_possible block nameMax name struct (search_inside name_mask (name_key id nameMax) e)
          (search_inside struct_mask (struct_key id) e)
