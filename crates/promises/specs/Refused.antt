-- Demand 1: "a refused call alters no byte". For each call that is lent something to alter: where its answer is a
-- refusal, what was lent is as it was. (That every call takes any input and ends is the language's: a proved function
-- does, and none of these has a `requires`.) Assumes nothing.
use Rattle.std.specs.Prelude.{◌≡◌, refl, Bool, true, false, cond, length, replicate, leb, Err, None, Ok, Option, Some, Result}
use Rattle.std.proofs.Math.Path.{ap}
use Rattle.std.proofs.Common.{◌∙◌}
use mathlib.Core.List.{List, ◌++◌}
use Prim.Native.Nat.{ℕ, ◌-◌, min}
use Rattle.std.proofs.Math.ListN.{take, drop, take-append-drop}
use Rattle.std.proofs.lemmas.List.Edits.{sets}
use Rattle.format.specs.Bytes.{inside, put_answer, put_le32, put_be32}
use Rattle.format.specs.Word.{to_le32, to_be32}
use Rattle.format.specs.Tag.{tag_size}
use Rattle.format.specs.Gstate.{gstate_xor}
use Rattle.format.specs.Look.{data_size}
use Rattle.format.specs.Lookup.{record_fits, block_of, searched, slice_start, slice_end, slice_answer, slice_buffer}
use Rattle.format.specs.Lookup.{getslice_fits, getslice_of, getslice_buffer, get_fits, get_of, get_buffer, move_mask, move_key}
use Rattle.format.specs.Lookup.{gstate_in, blank_buffer, move_answer, move_state, getgstate_of, getgstate_state}
use Rattle.format.specs.declared.Geometry.{Geometry}
use Rattle.format.specs.declared.LfsMdir.{LfsMdir}
use Rattle.format.specs.declared.LfsGstate.{LfsGstate}
use Rattle.format.specs.declared.Refusal.{Refusal}
use Rattle.format.specs.declared.Refusal.TheVariants.{Invalid, Corrupt}
use Rattle.format.specs.declared.Found.{Found}

-- ---- three ways through a test: its answer and what it leaves are decided together
got_kept : {S : Type 0} (test : Bool) (e : Found) (q r : Refusal) (new old : S)
    → cond test (Ok e) (Err q) ≡ Err r → cond test new old ≡ old
got_kept true e q r new old h = cc
got_kept false e q r new old h = refl

altered_kept : {S : Type 0} (test : Bool) (q r : Refusal) (new old : S)
    → ◌≡◌ {A = Result Unit Refusal} (cond test (Ok tt) (Err q)) (Err r) → cond test new old ≡ old
altered_kept true q r new old h = cc
altered_kept false q r new old h = refl

behind : {A S : Type 0} (test : Bool) (x q a : A) (new old : S) → (x ≡ a → new ≡ old) → cond test x q ≡ a
    → cond test new old ≡ old
behind true x q a new old f h = f h
behind false x q a new old f h = refl

-- ---- lfs_dir_getslice, lfs_dir_get
pub slice_refused : (b : List ℕ) (offset : ℕ) (buffer : List ℕ) (f : Option Found) (r : Refusal)
    → slice_answer b offset (length buffer) f ≡ Err r → slice_buffer b offset buffer f ≡ buffer
slice_refused b offset buffer None r h = refl
slice_refused b offset buffer (Some e) r h =
    got_kept (leb (slice_end e offset (length buffer)) (length b)) e Corrupt r
    (take (min (data_size e) (length buffer)) (drop (slice_start e offset) b)
    ++ replicate (length buffer - data_size e) 0) buffer h

module _ (g : Geometry) (b0 b1 : List ℕ) (n0 n1 : ℕ) (dir : LfsMdir) (gdisk : LfsGstate) (mask key : ℕ) where
  pub getslice_refused : (offset : ℕ) (buffer : List ℕ) (r : Refusal)
      → getslice_of g b0 b1 n0 n1 dir gdisk mask key offset buffer ≡ Err r
      → getslice_buffer g b0 b1 n0 n1 dir gdisk mask key offset buffer ≡ buffer
  unfolding getslice_of getslice_buffer
  getslice_refused offset buffer r h =
      let b : List ℕ = block_of b0 b1 n0 dir in
      let f : Option Found = searched b dir gdisk mask key in
      behind (getslice_fits g b0 b1 n0 n1 dir buffer) (slice_answer b offset (length buffer) f) (Err Invalid)
      (Err r)
      (slice_buffer b offset buffer f) buffer (slice_refused b offset buffer f r) h

  pub get_refused : (buffer : List ℕ) (r : Refusal) → get_of g b0 b1 n0 n1 dir gdisk mask key buffer ≡ Err r
      → get_buffer g b0 b1 n0 n1 dir gdisk mask key buffer ≡ buffer
  unfolding get_of get_buffer
  get_refused buffer r h =
      let part : List ℕ = take (tag_size key) buffer in
      behind (get_fits key buffer) (getslice_of g b0 b1 n0 n1 dir gdisk mask key 0 part) (Err Invalid)
      (Err r)
      (getslice_buffer g b0 b1 n0 n1 dir gdisk mask key 0 part ++ drop (tag_size key) buffer) buffer
      (λ e. ap (λ (l : List ℕ). l ++ drop (tag_size key) buffer) (getslice_refused 0 part r e)
      ∙ take-append-drop (tag_size key) buffer) h

-- ---- lfs_dir_getgstate
move_refused : (b : List ℕ) (gstate : LfsGstate) (f : Option Found) (r : Refusal) → move_answer b f ≡ Err r
    → move_state b gstate f ≡ gstate
move_refused b gstate None r h = refl
move_refused b gstate (Some e) r h =
    altered_kept (leb (slice_end e 0 12) (length b)) Corrupt r
    (gstate_xor gstate (gstate_in (slice_buffer b 0 (blank_buffer 12) (Some e)))) gstate h

pub getgstate_refused : (g : Geometry) (b0 b1 : List ℕ) (n0 n1 : ℕ) (dir : LfsMdir) (gdisk gstate : LfsGstate)
    (r : Refusal)
    → getgstate_of g b0 b1 n0 n1 dir gdisk ≡ Err r → getgstate_state g b0 b1 n0 n1 dir gdisk gstate ≡ gstate
unfolding getgstate_of getgstate_state
getgstate_refused g b0 b1 n0 n1 dir gdisk gstate r h =
    let b : List ℕ = block_of b0 b1 n0 dir in
    let f : Option Found = searched b dir gdisk move_mask move_key in
    behind (record_fits g (length b0) (length b1) n0 n1 dir) (move_answer b f) (Err Invalid)
    (Err r) (move_state b gstate f) gstate
    (move_refused b gstate f r) h

-- ---- words stored to a slice
pub put_le32_refused : (s : List ℕ) (at w : ℕ) (r : Refusal) → put_answer s at ≡ Err r → put_le32 s at w ≡ s
put_le32_refused s at w r h = altered_kept (inside s at) Corrupt r (sets s at (to_le32 w)) s h

pub put_be32_refused : (s : List ℕ) (at w : ℕ) (r : Refusal) → put_answer s at ≡ Err r → put_be32 s at w ≡ s
put_be32_refused s at w r h = altered_kept (inside s at) Corrupt r (sets s at (to_be32 w)) s h
