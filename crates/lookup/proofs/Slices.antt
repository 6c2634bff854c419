-- `lfs_dir_getslice` and `lfs_dir_get`: each way out of the code decides the definition's cases. Assumes nothing.
use mathlib.Core.Path.{◌≡◌, sym, ap, ◌∙◌}
use mathlib.Core.Bool.{Bool, true, false, ◌&&◌}
use mathlib.Core.List.{List, ◌++◌}
use Prim.Native.Nat.{ℕ, ◌≤◌, ◌<◌}
use lib.Dec.{leb}
use lib.ListN.{length, take, drop}
use borrow.Author.Tests.{le-leb, lt-leb}
use Rattle.format.specs.Tag.{tag_size}
use Rattle.format.specs.Lookup.{record_fits, block_of, searched, slice_answer, slice_buffer, getslice_fits, getslice_of}
use Rattle.format.specs.Lookup.{getslice_buffer, get_fits, get_of, get_buffer}
use Rattle.format.specs.declared.Geometry.{Geometry}
use Rattle.format.specs.declared.LfsMdir.{LfsMdir}
use Rattle.format.specs.declared.LfsGstate.{LfsGstate}
use Rattle.format.specs.declared.Refusal.TheVariants.{Invalid}
use Rattle.sizes.proofs.Sized.{both}
use Rattle.sizes.proofs.Records.{end_inside}
use Rattle.std.specs.Prelude.{Err, Result}
use Rattle.format.specs.declared.Found.{Found}
use Rattle.format.specs.declared.Refusal.{Refusal}

-- ---- `lfs_dir_getslice`; fits is what `record_fits` answers
module _ (g : Geometry) (b0 b1 : List ℕ) (n0 n1 : ℕ) (dir : LfsMdir) (gdisk : LfsGstate) (mask key goff : ℕ)
    (d : List ℕ) (fits : Bool)
    (e : fits ≡ record_fits g (length b0) (length b1) n0 n1 dir) where
  pub getslice_refused : fits && leb (length d) 65_536 ≡ false
      → (Err Invalid ≡ getslice_of g b0 b1 n0 n1 dir gdisk mask key goff d)
      × (d ≡ getslice_buffer g b0 b1 n0 n1 dir gdisk mask key goff d)
  unfolding getslice_of getslice_buffer getslice_fits
  getslice_refused h = (sym (rw (← e, h)), sym (rw (← e, h)))

  pub getslice_inside : fits && leb (length d) 65_536 ≡ true → (dir.off ≤ length b0) × (dir.off ≤ length b1)
  getslice_inside h =
      let f = both fits (leb (length d) 65_536) h in
      end_inside g (length b0) (length b1) n0 n1 dir (sym e ∙ f.0)

  -- b is the block that is read
  pub getslice_read : fits && leb (length d) 65_536 ≡ true → (b : List ℕ) → b ≡ block_of b0 b1 n0 dir
      → (r : Result Found Refusal) (l : List ℕ)
      → r ≡ slice_answer b goff (length d) (searched b dir gdisk mask key)
      → l ≡ slice_buffer b goff d (searched b dir gdisk mask key)
      → (r ≡ getslice_of g b0 b1 n0 n1 dir gdisk mask key goff d)
      × (l ≡ getslice_buffer g b0 b1 n0 n1 dir gdisk mask key goff d)
  unfolding getslice_of getslice_buffer getslice_fits
  getslice_read h b eb r l er el = (er ∙ sym (rw (← e, h, ← eb)), el ∙ sym (rw (← e, h, ← eb)))

-- ---- `lfs_dir_get`; s is the key's size
module _ (g : Geometry) (b0 b1 : List ℕ) (n0 n1 : ℕ) (dir : LfsMdir) (gdisk : LfsGstate) (mask key : ℕ) (d : List ℕ)
    (s : ℕ) (e : s ≡ tag_size key) where
  pub get_short : length d < s → (Err Invalid ≡ get_of g b0 b1 n0 n1 dir gdisk mask key d)
      × (d ≡ get_buffer g b0 b1 n0 n1 dir gdisk mask key d)
  unfolding get_of get_buffer get_fits
  get_short h = let f = lt-leb s (length d) h in (sym (rw (← e, f)), sym (rw (← e, f)))

  module _ (h : s ≤ length d) where
    pub get_long : 65_536 < length d → (Err Invalid ≡ get_of g b0 b1 n0 n1 dir gdisk mask key d)
        × (d ≡ get_buffer g b0 b1 n0 n1 dir gdisk mask key d)
    unfolding get_of get_buffer get_fits
    get_long k = let f = lt-leb (length d) 65_536 k in let i =
        le-leb s (length d) h in (sym (rw (← e, i, f)), sym (rw (← e, i, f)))

    -- l is the front of the buffer, as the slice leaves it
    pub get_read : length d ≤ 65_536 → (r : Result Found Refusal) (l : List ℕ)
        → r ≡ getslice_of g b0 b1 n0 n1 dir gdisk mask key 0 (take s d)
        → l ≡ getslice_buffer g b0 b1 n0 n1 dir gdisk mask key 0 (take s d)
        → (r ≡ get_of g b0 b1 n0 n1 dir gdisk mask key d)
        × (l ++ drop s d ≡ get_buffer g b0 b1 n0 n1 dir gdisk mask key d)
    unfolding get_of get_buffer get_fits
    get_read k r l er el =
        let f = le-leb (length d) 65_536 k in let i = le-leb s (length d) h in
        (er ∙ sym (rw (← e, i, f)), ap (λ (x : List ℕ). x ++ drop s d) el ∙ sym (rw (← e, i, f)))
