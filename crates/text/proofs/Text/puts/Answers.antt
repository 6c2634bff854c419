-- Each byte stands behind those before it. Assumes nothing.
use Rattle.std.proofs.Common.{[], ◌∷◌, refl}
use Rattle.text.proofs.Joined.{puts_each}
use Rattle.text.proofs.Text.puts.Goals as goal

pub loop-b-preserved : goal.loop-b-preserved
loop-b-preserved c = puts_each (λ l. l) (λ b. b ∷ []) refl (λ b bs. refl) _ _ _ _ _ c.loop-b-test.true
    c.loop-b.invariant c.put.ensures
