-- What is found in a table has a tag's length. Assumes nothing.
use mathlib.Core.Path.{◌≡◌, ap}
use mathlib.Core.Bool.{Bool, true, false, cond, ◌&&◌}
use mathlib.Core.List.{List}
use Prim.Native.Nat.{ℕ, ◌*◌, ◌^◌, ◌≤◌}
use native.Mathlib.Omega.{arith}
use Rattle.format.specs.Tag.{tag_length}
use Rattle.format.specs.Directory.{seat_class}
use Rattle.format.specs.Index.{rank_at, tag_in, seek, is_at, place_hit, askable, index_hit}
use Rattle.format.specs.declared.Found.{Found}
use Rattle.format.proofs.Words.{tag_length_ge}
use Rattle.std.specs.Prelude.{None, Option, Some}

-- what is found has a tag's length
pub hit_long : (T : List ℕ) (kind id : ℕ) (e : Found) → Some e ≡ index_hit T kind id → 4 ≤ e.length
unfolding index_hit
hit_long T kind id e h =
    let r : ℕ = rank_at id (seat_class (kind * 2 ^ 20)) in
    go (askable kind id && is_at r T (seek r T)) (seek r T) h
  where
    go : (x : Bool) (s : ℕ) → Some e ≡ cond x (place_hit T s) None → 4 ≤ e.length
    go true s h =
        let z : e.length ≡ tag_length (tag_in T s) = ap length_of h in
        omega (arith, z, tag_length_ge (tag_in T s))
      where
        length_of : Option Found → ℕ
        length_of (Some f) = f.length
        length_of None = 0
    go false s h = absurd (let z : ◌≡◌ {A = ℕ} 0 1 = cc in omega arith)
