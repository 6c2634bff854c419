-- `find_pass::Named::lowest` meets its contract. Assumes nothing.
use borrow.Author.Tests.{lt-ltb, le-ltb}
use Rattle.find_pass.proofs.Named.lowest.Goals as goal

pub returns-then-id-lt1024 : goal.returns-then-id-lt1024
returns-then-id-lt1024 c = rw (← c.first-id.ensures, lt-ltb _ 1_024 c.if-id-lt1024.true)

pub returns : goal.returns
returns c = rw (← c.first-id.ensures, le-ltb _ 1_024 c.if-id-lt1024.false)
