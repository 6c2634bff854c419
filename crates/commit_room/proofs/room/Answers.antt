-- `commit_room::room` meets its contract: by what the three tests answer. Assumes nothing.
use Rattle.std.proofs.Common.{ap, not}
use Rattle.commit_room.proofs.Cleared.{room_misaligned, room_validity, room_unerased, room_clean_lem}
use Rattle.commit_room.proofs.room.Goals as goal

pub returns-then-end-unit-ne0 : goal.returns-then-end-unit-ne0
returns-then-end-unit-ne0 c = room_misaligned _ _ _ _ _ c.if-end-unit-ne0.true

pub returns-then-not-validity_fits : goal.returns-then-not-validity_fits
returns-then-not-validity_fits c = room_validity _ _ _ _ _ c.if-end-unit-ne0.false _ c.validity_fits.ensures
    (ap not c.if-not-validity_fits.true)

pub returns-then-dirty-b : goal.returns-then-dirty-b
returns-then-dirty-b c = room_unerased _ _ _ _ _ c.if-end-unit-ne0.false _
    c.validity_fits.ensures (ap not c.if-not-validity_fits.false) _
    c.first_unerased-dirty.ensures c.if-dirty-b.true

pub returns : goal.returns
returns c = room_clean_lem _ _ _ _ _ c.if-end-unit-ne0.false _
    c.validity_fits.ensures (ap not c.if-not-validity_fits.false) _
    c.first_unerased-dirty.ensures c.if-dirty-b.false
