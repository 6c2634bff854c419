-- `fetch_walk::walk_on` meets its contract. The loop keeps what the walk from here leaves on the state now; the block's
-- rest shrinks. Assumes nothing.
use mathlib.Core.Path.{◌≡◌, refl, sym, ◌∙◌}
use native.Mathlib.Omega.{arith}
use Rattle.fetch_walk.specs.Next.{next_of}
use Rattle.fetch_walk.specs.declared.cursor.Seen.TheVariants.{Entry, Check}
use Rattle.fetch_walk.proofs.Turns.{turn_entry, turn_check, turn_invalid, turn_past, entry_moved, entry_room}
use Rattle.fetch_walk.proofs.Turns.{check_moved}
use Rattle.fetch_walk.proofs.walk_on.Goals.{In-Check, In-Entry}
use Rattle.fetch_walk.proofs.walk_on.Goals as goal

-- what was seen, at the places where an arm knows it
saw_entry : (c : In-Entry)
    → next_of c.args.b.now c.loop-tag.c
    ≡ Entry c.in-Entry.tag c.in-Entry.behind
saw_entry c = sym c.next.ensures ∙ c.in-Entry.is

saw_check : (c : In-Check)
    → next_of c.args.b.now c.loop-tag.c
    ≡ Check c.in-Check.sum c.in-Check.behind
saw_check c = sym c.next.ensures ∙ c.in-Check.is

pub loop-tag-init : goal.loop-tag-init
loop-tag-init c = refl

pub overflow_add-c : goal.overflow_add-c
overflow_add-c c = let m = entry_moved _ _ (saw_entry (goal.at.overflow_add-c c).In-Entry) in omega arith

pub entry-w-requires : goal.entry-w-requires
entry-w-requires c = entry_room _ _ (saw_entry (goal.at.entry-w-requires c).In-Entry)

pub loop-tag-smaller-in-Entry : goal.loop-tag-smaller-in-Entry
loop-tag-smaller-in-Entry c = let m = entry_moved _ _ (saw_entry (goal.at.loop-tag-smaller-in-Entry c).In-Entry) in omega arith

pub loop-tag-preserved-in-Entry : goal.loop-tag-preserved-in-Entry
loop-tag-preserved-in-Entry c = turn_entry _ _ _ _ c.loop-tag.invariant _
    (saw_entry (goal.at.loop-tag-preserved-in-Entry c).In-Entry) c.entry-w.ensures

pub loop-tag-smaller : goal.loop-tag-smaller
loop-tag-smaller c = let m = check_moved _ _ (saw_check (goal.at.loop-tag-smaller c).In-Check) in omega arith

pub loop-tag-preserved : goal.loop-tag-preserved
loop-tag-preserved c = turn_check _ _ _ _ c.loop-tag.invariant _
    (saw_check (goal.at.loop-tag-preserved c).In-Check) c.commit-w.ensures

pub returns-in-Invalid : goal.returns-in-Invalid
returns-in-Invalid c = turn_invalid _ _ _ _ c.loop-tag.invariant _
    (sym c.next.ensures ∙ c.in-Invalid.is)
    c.is_check-straight.ensures

pub returns-in-Past : goal.returns-in-Past
returns-in-Past c = turn_past _ _ _ _ c.loop-tag.invariant
    (sym c.next.ensures ∙ c.in-Past.is)
