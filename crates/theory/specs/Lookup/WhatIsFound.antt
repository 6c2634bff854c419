-- What holds of nothing, and of each entry that the walk back meets, holds of what a search finds. Assumes nothing.
use Rattle.std.specs.Prelude.{◌≡◌, Bool, true, false, cond, ◌&&◌, ltb, None, Option, Some}
use Rattle.std.proofs.Math.Path.{refl}
use mathlib.Core.List.{List, [], ◌∷◌}
use Prim.Native.Nat.{ℕ, ◌^◌}
use Rattle.std.specs.Int.Bits.{bit_and}
use Rattle.std.proofs.Math.Dec.{eqb}
use Rattle.format.specs.Word.{minus32}
use Rattle.format.specs.Tag.{tag_id, tag_delete}
use Rattle.format.specs.Back.{Met, back}
use Rattle.format.specs.Look.{found_at, spliced_at, create_at, diff_after, wlook}
use Rattle.format.specs.Gstate.{gstate_has_move_here}
use Rattle.format.specs.Lookup.{has_ids, searched_from, searched}
use Rattle.format.specs.declared.LfsMdir.{LfsMdir}
use Rattle.format.specs.declared.LfsGstate.{LfsGstate}
use Rattle.format.specs.declared.Found.{Found}

-- of each tag that is met
abbrev pub AllMet : (Met → Type 0) → List Met → Type 0
AllMet A [] = Unit {0}
AllMet A (m ∷ ms) = A m × AllMet A ms

-- P is said of what is found, A of each tag that is met, D of the difference, which stays so
module _ (P : Option Found → Type 0) (A : Met → Type 0) (D : ℕ → Type 0) (nothing : P None)
    (next : (ids : Bool) (t key d : ℕ) → D d → D (diff_after ids t key d))
    (one : (m : Met) (d : ℕ) → A m → D d → tag_delete m.tag ≡ false
    → P (Some (found_at m.tag m.off d))) where
  pub wlook_has : (ids : Bool) (mask key d : ℕ) (ms : List Met) → D d → AllMet A ms → P (wlook ids mask key d ms)
  unfolding wlook
  wlook_has ids mask key d [] h a = nothing
  wlook_has ids mask key d (m ∷ ms) h a =
      go (spliced_at ids m.tag (minus32 key d) && eqb m.tag (create_at (minus32 key d)))
      (eqb (bit_and m.tag mask) (bit_and (minus32 key after) mask)) (tag_delete m.tag) refl
      (wlook_has ids mask key after ms (next ids m.tag key d h) a.1)
    where
      after : ℕ
      after = diff_after ids m.tag key d

      go : (created hits gone : Bool) → tag_delete m.tag ≡ gone → P (wlook ids mask key after ms)
          → P (cond created None (cond hits
          (cond gone None (Some (found_at m.tag m.off after))) (wlook ids mask key after ms)))
      go true hits gone e k = nothing
      go false true true e k = nothing
      go false true false e k = one m after a.0 (next ids m.tag key d h) e
      go false false gone e k = k

  -- with a pending move or without
  pub searched_has : (b : List ℕ) (dir : LfsMdir) (gdisk : LfsGstate) (mask key : ℕ) → D 0 → D (minus32 0 (2 ^ 10))
      → AllMet A (back b dir.off dir.etag) → P (searched b dir gdisk mask key)
  unfolding searched
  searched_has b dir gdisk mask key h k a =
      go (has_ids mask && gstate_has_move_here gdisk dir.pair) (eqb (tag_id gdisk.tag) (tag_id key))
      (ltb (tag_id gdisk.tag) (tag_id key))
    where
      from : (d : ℕ) → D d → P (searched_from b dir mask key d)
      from d w = wlook_has (has_ids mask) mask key d (back b dir.off dir.etag) w a

      go : (here at below : Bool)
          → P (cond here (cond at None (cond below (searched_from b dir mask key (minus32 0 (2 ^ 10)))
          (searched_from b dir mask key 0))) (searched_from b dir mask key 0))
      go true true below = nothing
      go true false true = from (minus32 0 (2 ^ 10)) k
      go true false false = from 0 h
      go false at below = from 0 h
