-- `find_pass::Named::make` meets its contract: the bits are moved, or there are none. Assumes nothing.
use Rattle.find_pass.proofs.Moved.{made_still, made_moved}
use Rattle.find_pass.proofs.Named.make.Goals as goal

pub returns-then-self : goal.returns-then-self
returns-then-self c = λ f top h. made_moved _ _ _ f h _ c.if-self.true c.insert.ensures

pub returns-else-self : goal.returns-else-self
returns-else-self c = λ f top h. made_still _ _ _ f h c.if-self.false
