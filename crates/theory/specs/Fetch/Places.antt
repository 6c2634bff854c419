-- Of two blocks: which answers, whatever place it has; and what is alike of two pairs, block by block. Assumes nothing.
use Rattle.std.specs.Prelude.{◌≡◌, refl, Bool, true, false, not, List, ℕ, ◌≤◌, length}
use Rattle.format.specs.Walk.{Event}
use Rattle.format.specs.Log.{log}
use Rattle.format.specs.Record.{count_of}
use Rattle.format.specs.View.{at}
use Rattle.format.specs.Regular.{Regular}
use Rattle.format.specs.declared.Rules.TheVariants.{Littlefs}
use Rattle.format.specs.Writer.{block_at}
use Rattle.format.specs.declared.Geometry.{Geometry}
use Rattle.theory.specs.Log.TwoBlocks.{view_at}
use Rattle.theory.specs.Commit.Tested.{regular_count}
use Rattle.theory.specs.Rules.FetchCount.{regular_slots}
use Rattle.theory.specs.Fetch.FoundBlock.{Sized}

-- only one answers
pub same_place : (b0 b1 : List ℕ) (v w : Bool) (r s : ℕ) (es fs : List Event)
    → view_at v (block_at v b0 b1) (block_at (not v) b0 b1) ≡ at v r es
    → view_at w (block_at w b0 b1) (block_at (not w) b0 b1) ≡ at w s fs → v ≡ w
same_place b0 b1 false false r s es fs h k = refl
same_place b0 b1 true true r s es fs h k = refl
same_place b0 b1 false true r s es fs h k = cc
same_place b0 b1 true false r s es fs h k = cc

-- both blocks are alike, and so are both images
pub both_blocks : (w : Bool) (i0 i1 f0 f1 : List ℕ) → block_at w i0 i1 ≡ block_at w f0 f1
    → block_at (not w) i0 i1 ≡ block_at (not w) f0 f1 → (i0 ≡ f0) × (i1 ≡ f1)
both_blocks false i0 i1 f0 f1 h k = (h, k)
both_blocks true i0 i1 f0 f1 h k = (k, h)

pub lengths : (w : Bool) (i0 i1 b0 b1 : List ℕ) → length (block_at w i0 i1) ≡ length (block_at w b0 b1)
    → length (block_at (not w) i0 i1) ≡ length (block_at (not w) b0 b1)
    → (length i0 ≡ length b0) × (length i1 ≡ length b1)
lengths false i0 i1 b0 b1 h k = (h, k)
lengths true i0 i1 b0 b1 h k = (k, h)

-- a regular log counts few slots
pub few_slots : (x : List ℕ) (es : List Event) → log x ≡ es → Regular Littlefs es ≡ true → count_of 0 es ≤ 1_023
few_slots x es is h = rw (regular_slots es h) (regular_count x es is h)

-- both are one block long
pub block_length : (g : Geometry) (b0 b1 : List ℕ) (w : Bool) → Sized g b0 b1
    → length (block_at w b0 b1) ≡ g.block_size
block_length g b0 b1 false z = z.first
block_length g b0 b1 true z = z.second
