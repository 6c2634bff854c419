-- A block, and both blocks of an input. Assumes nothing.
use mathlib.Core.Path.{◌≡◌, refl, ap}
use mathlib.Core.Bool.{Bool, true, false, ◌&&◌}
use mathlib.Core.List.{List}
use Prim.Native.Nat.{ℕ, ◌/◌, ◌%◌, ◌≤◌}
use native.Mathlib.Omega.{arith}
use lib.Dec.{eqb, leb}
use lib.ListN.{length, take, drop, length-take, length-drop}
use borrow.Author.Tests.{leb-true}
use Rattle.format.specs.Log.{log, log_end}
use Rattle.format.specs.RawLog.{is_shown}
use Rattle.fetch_walk.specs.Block.{walked_of}
use Rattle.fetch_walk.specs.Next.{start_of}
use Rattle.fetch_walk.specs.declared.cursor.Cursor.{Cursor}
use Rattle.fetch_walk.specs.declared.Walked.{Walked}
use Rattle.fetch_walk.proofs.Folds.{log_within}
use Rattle.text_log.specs.Part.{Reached}

-- ---- a block
-- w is what `walk_block` answers
module _ (b : List ℕ) (w : Walked) (ew : w ≡ walked_of b 0) where
  pub taken_end : w.taken.off ≡ log_end (log b)
  unfolding walked_of
  taken_end = ap (λ (x : Walked). x.taken.off) ew

  pub taken_within : 4 ≤ length b → w.taken.off ≤ length b
  taken_within h = omega (arith, taken_end, log_within b h)

-- c is what `start` answers
pub start_reached : (b : List ℕ) (c : Cursor) → Reached b 4 0 → c ≡ start_of b → Reached b c.at 0
unfolding start_of
start_reached b c h e = record { most = h.most; reach = omega (arith, h.reach, ap (λ (x : Cursor). x.at) e) }

-- ---- both blocks
pub shown_long : (n : ℕ) → is_shown n ≡ true → (256 ≤ n) × (n ≤ 65_536)
unfolding is_shown
shown_long n h = go (eqb (n % 2) 0) (leb 256 n) (leb n 65_536) h (leb-true 256 n) (leb-true n 65_536)
  where
    apart : {A : Type 0} → false ≡ true → A
    apart q = let z : ◌≡◌ {A = ℕ} 0 1 = cc in absurd (omega arith)

    go : (u v w : Bool) → u && v && w ≡ true → (v ≡ true → 256 ≤ n) → (w ≡ true → n ≤ 65_536) → (256 ≤ n) × (n ≤ 65_536)
    go true true w e f g = (f refl, g e)
    go true false w e f g = apart e
    go false v w e f g = apart e

pub halves_reached : (input : List ℕ) → is_shown (length input) ≡ true
    → Reached (take (length input / 2) input) 4 0 × Reached (drop (length input / 2) input) 4 0
halves_reached input h =
    let l = shown_long (length input) h in (
      record {
        most = omega (arith, l.0, l.1, length-take (length input / 2) input);
        reach = omega (arith, l.0, l.1, length-take (length input / 2) input);
      },
      record {
        most = omega (arith, l.0, l.1, length-drop (length input / 2) input);
        reach = omega (arith, l.0, l.1, length-drop (length input / 2) input);
      },
    )
