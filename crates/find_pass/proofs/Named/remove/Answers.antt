-- `find_pass::Named::remove` meets its contract: the bits are moved, or there are none. Assumes nothing.
use native.Mathlib.Omega.{arith}
use Rattle.find_pass.proofs.Moved.{removed_still, removed_moved}
use Rattle.find_pass.proofs.Named.remove.Goals as goal

pub returns-then-self : goal.returns-then-self
returns-then-self c = λ f top h. removed_moved _ _ _ f h _ c.if-self.true (omega arith) top c.remove.ensures

pub returns-else-self : goal.returns-else-self
returns-else-self c = λ f top h. removed_still _ _ _ f h c.if-self.false
