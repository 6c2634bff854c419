-- `compact_entries::slot` meets its contract. The loop keeps where all classes end, from here. Assumes nothing.
use mathlib.Core.Path.{refl, sym, ◌∙◌}
use native.Mathlib.Omega.{arith}
use Rattle.compact_slot.specs.Slots.{slot_in}
use Rattle.compact_entries.proofs.Joined.{entry_within, class_within}
use Rattle.compact_entries.proofs.Written.{seat_laid, slot_created, slot_class, slot_done}
use borrow.Author.Rules.{rules}
use Rattle.compact_entries.proofs.slot.Goals as goal

pub loop-class-init : goal.loop-class-init
loop-class-init c = (omega arith, omega (arith, entry_within _ _ _ c.create-w.ensures), refl, refl)

pub found_entry-w-requires : goal.found_entry-w-requires
found_entry-w-requires c = (
  omega arith,
  rw c.found.ensures (c.requires.inside
      c.loop-class.class c.loop-class-test.true),
)

pub loop-class-preserved : goal.loop-class-preserved
loop-class-preserved c =
    let p = c.requires in
    let a = c.args in
    let l = c.loop-class in
    let more = c.loop-class-test.true in
    let laid = seat_laid a.old.now a.id a.seats.now l.class (p.inside l.class more)
    (p.named l.class more) _ c.found.ensures _ _
    c.found_entry-w.ensures in (
      omega arith,
      omega (arith, class_within _ _ a.id (slot_in a.old.now a.seats.now l.class) laid),
      search rules,
      slot_class _ _ _ _ _ _ more l.invariant.3 laid,
    )

pub returns : goal.returns
returns c = slot_done _ _ _ _ _ c.loop-class-test.false c.loop-class.invariant.3 ∙ sym (slot_created _ _ _ _ c.create-w.ensures)

pub create-w-requires : goal.create-w-requires
create-w-requires c = omega arith
