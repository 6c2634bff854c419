-- `find_pass::Named::name` meets its contract: the bit is stored, or there is none. Assumes nothing.
use Rattle.find_pass.proofs.Moved.{named_still, named_moved}
use Rattle.find_pass.proofs.Named.name.Goals as goal

pub returns-then-self-is : goal.returns-then-self-is
returns-then-self-is c = λ f top h. named_moved _ _ _ f h _ _ c.assign.ensures

pub returns-else-self-is : goal.returns-else-self-is
returns-else-self-is c = λ f top h. named_still _ _ _ f h _ c.if-self-is.false
