-- Each letter stands behind those before it. Assumes nothing.
use Rattle.std.proofs.Common.{[], ◌∷◌, refl}
use Rattle.format.specs.RawLog.{letter, letters}
use Rattle.text.proofs.Joined.{puts_none, puts_each}
use Rattle.text_log.proofs.rows.letters.Goals as goal

pub loop-b-init : goal.loop-b-init
unfolding letters
loop-b-init c = puts_none _

pub loop-b-preserved : goal.loop-b-preserved
unfolding letters
loop-b-preserved c = puts_each letters (λ b. letter b ∷ []) refl (λ b bs. refl) _ _ _ _ _ c.loop-b-test.true
    c.loop-b.invariant (rw (← c.letter.ensures) c.put.ensures)
