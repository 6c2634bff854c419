-- `compact_entries::held` meets its contract: the slots, the tail, the move state. Assumes nothing.
use native.Mathlib.Omega.{arith}
use Rattle.format.proofs.Searched.{hit_before}
use Rattle.compact_entries.proofs.Sourced.{slots_within, read_inside, entries_within, entries_done}
use Rattle.compact_entries.proofs.held.Goals as goal

pub all_slots-w-requires : goal.all_slots-w-requires
all_slots-w-requires c = (
  c.requires.0.source,
  c.requires.1,
)

pub tail-w-requires : goal.tail-w-requires
tail-w-requires c = omega (
  arith,
  slots_within _ _ _ c.requires.0 _ _ c.all_slots-w.ensures,
  c.requires.0.source.small,
)

pub find_back-h-requires : goal.find_back-h-requires
find_back-h-requires c = read_inside _ _ _ c.requires.0 _ _ c.all_slots-w.ensures

pub found_entry-requires : goal.found_entry-requires
found_entry-requires c =
    let p = c.requires.0 in
    let slots = c.all_slots-w.ensures in (
      omega (
        arith,
        entries_within _ _ _ p _ _ slots _ c.tail-w.ensures,
        p.source.small,
      ),
      hit_before _ _ c.find_back-h.result (read_inside _ _ _ p _ _ slots) c.find_back-h.ensures.1,
    )

pub returns : goal.returns
returns c =
    let back = c.find_back-h.ensures in
    entries_done _ _ _ c.requires.0 _ _ c.all_slots-w.ensures _
    c.tail-w.ensures _ _ c.lfs_mktag-gmask.ensures
    c.lfs_mktag-gtag.ensures _ back.0 back.1 _ c.found_entry.ensures
