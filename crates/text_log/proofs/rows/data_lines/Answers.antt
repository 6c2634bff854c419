-- A line is shown, and those behind it are left. Assumes nothing.
use Rattle.std.proofs.Common.{◌≡◌, ◌≤◌, ◌∙◌, ap, length, arith, rules, length-drop, ℕ}
use Rattle.text.proofs.Joined.{puts_none, puts_both}
use Rattle.text_log.proofs.DataShown.{line_first, line_last, front_line, behind_line}
use Rattle.text_log.proofs.rows.data_lines.Goals as goal

pub loop-rest-preserved : goal.loop-rest-preserved
loop-rest-preserved c =
    let rest = c.loop-rest.rest.now in
    let some : (length rest ≡ 0 → ⊥) = search rules in
    let short : length rest ≤ 1_022 = omega (arith, c.loop-rest.invariant.0, c.loop-rest.invariant.1, c.requires.bytes_len_bound) in
    let first = c.split_at.ensures.front ∙ front_line _ rest c.min.ensures in
    let behind = c.split_at.ensures.back ∙ behind_line _ rest c.min.ensures in (
      omega (arith, c.loop-rest.invariant.0),
      omega (arith, ap length behind, length-drop {A = ℕ} 16 rest, c.loop-rest.invariant.1),
      λ u p. c.loop-rest.invariant.2 u (rw (line_first c.loop-rest.at rest some short, ← first, ← behind)
          (puts_both _ _ _ _ _ c.data_line.ensures p)),
    )

pub returns : goal.returns
returns c =
    let none : length c.loop-rest.rest.now ≡ 0 = search rules in
    c.loop-rest.invariant.2 _ (rw (line_last _ _ none) (puts_none _))
