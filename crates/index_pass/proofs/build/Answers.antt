-- `index_pass::build` meets its contract: the run on a table that is cleared. Assumes nothing.
use Rattle.std.proofs.Common.{rules}
use Rattle.index_pass.proofs.Built.{build_starts, build_done}
use Rattle.index_pass.proofs.build.Goals as goal

pub run_on-requires : goal.run_on-requires
run_on-requires c = build_starts c.requires c.cleared-places.ensures

pub returns : goal.returns
returns c =
    let all = build_done c.requires c.cleared-places.ensures c.run_on.ensures in
    record { value = all.0; table_after = rw (← all.1) (search rules) }
