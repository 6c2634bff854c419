-- Each byte is shown behind those before it. Assumes nothing.
use Rattle.std.proofs.Common.{refl}
use Rattle.format.specs.Listing.{hex_byte, hex_bytes}
use Rattle.text.proofs.Joined.{puts_each}
use Rattle.text.proofs.Text.hex_bytes.Goals as goal

pub loop-b-preserved : goal.loop-b-preserved
unfolding hex_bytes
loop-b-preserved c = puts_each hex_bytes hex_byte refl (λ b bs. refl) _ _ _ _ _ c.loop-b-test.true
    c.loop-b.invariant c.hex_byte.ensures
