-- Each byte is shown behind those before it. Assumes nothing.
use Rattle.std.proofs.Common.{refl}
use Rattle.format.specs.Listing.{name_byte, name_bytes}
use Rattle.text.proofs.Joined.{puts_each}
use Rattle.text.proofs.Text.name_bytes.Goals as goal

pub loop-b-preserved : goal.loop-b-preserved
unfolding name_bytes
loop-b-preserved c = puts_each name_bytes name_byte refl (λ b bs. refl) _ _ _ _ _ c.loop-b-test.true
    c.loop-b.invariant c.name_byte.ensures
