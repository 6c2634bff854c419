-- `compact_entries::found_entry` meets its contract: nothing, or one entry. Assumes nothing.
use Rattle.format.proofs.Searched.{hit_in}
use Rattle.compact_entries.proofs.Written.{hit_missing, hit_made}
use Rattle.compact_entries.proofs.found_entry.Goals as goal

pub overflow_sub-f : goal.overflow_sub-f
overflow_sub-f c = (hit_in _ _ c.requires.1
    c.in-Some.is).counted

pub returns-in-None : goal.returns-in-None
returns-in-None c = hit_missing _ _ _ c.in-None.is

pub returns-in-Some : goal.returns-in-Some
returns-in-Some c = hit_made _ _ _ _ c.in-Some.is
    c.requires.1 _
    c.entry.ensures
