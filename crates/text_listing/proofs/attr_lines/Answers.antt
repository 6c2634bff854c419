-- Each class is shown behind those before it. Assumes nothing.
use Rattle.std.proofs.Common.{◌≡◌, ◌+◌, ◌-◌, suc, arith}
use Rattle.format.specs.Listing.{attr_lines}
use Rattle.text.proofs.Joined.{puts_none, puts_both}
use Rattle.text_listing.proofs.Loops.{class_behind}
use Rattle.text_listing.proofs.attr_lines.Goals as goal

pub loop-class-init : goal.loop-class-init
unfolding attr_lines
loop-class-init c = puts_none _

pub loop-class-preserved : goal.loop-class-preserved
loop-class-preserved c =
    let more : c.loop-class.class + 1 - 2 ≡ suc (c.loop-class.class - 2) = omega arith in
    let here : c.loop-class.class - 2 + 2 ≡ c.loop-class.class = omega arith in
    rw (more, class_behind, here, ← c.found.ensures) (puts_both _ _ _ _ _ c.loop-class.invariant c.attr_line.ensures)
