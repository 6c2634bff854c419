-- `fetch_walk::cursor::tag_at` meets its contract, by the tests in order. Assumes nothing.
use mathlib.Core.Path.{sym, ◌∙◌}
use native.Mathlib.Omega.{arith}
use Rattle.format.proofs.Classes.{behind_check}
use Rattle.fetch_walk.proofs.Seen.{seen_invalid, seen_long, seen_unread, seen_check, seen_entry}
use Rattle.fetch_walk.proofs.cursor.tag_at.Goals as goal

pub returns-then-tag-ge2147483648 : goal.returns-then-tag-ge2147483648
returns-then-tag-ge2147483648 c = seen_invalid _ _ _ _ c.requires c.if-tag-ge2147483648.true

pub returns-then-left-tag_length : goal.returns-then-left-tag_length
returns-then-left-tag_length c = seen_long _ _ _ _ c.requires c.if-tag-ge2147483648.false (omega arith)

pub returns-then-left-read_behind : goal.returns-then-left-read_behind
returns-then-left-read_behind c = seen_unread _ _ _ _ c.requires
    c.if-tag-ge2147483648.false (omega arith) (omega arith)

pub check_at-requires : goal.check_at-requires
check_at-requires c = record {
  valid = c.if-tag-ge2147483648.false;
  whole = omega arith;
  reach =
      omega (
        arith,
        behind_check c.args.tag (sym
            c.is_check.ensures ∙ c.if-is_check.true),
      );
}

pub returns-then-is_check : goal.returns-then-is_check
returns-then-is_check c = seen_check _ _ _ _ c.requires
    c.if-tag-ge2147483648.false (omega arith) (omega arith) _
    c.check_at.ensures (sym c.is_check.ensures ∙ c.if-is_check.true)

pub returns-else-is_check : goal.returns-else-is_check
returns-else-is_check c = seen_entry _ _ _ _ c.requires
    c.if-tag-ge2147483648.false (omega arith) (omega arith) _
    c.entry_at.ensures (sym c.is_check.ensures ∙ c.if-is_check.false)
