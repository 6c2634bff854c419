-- `fetch::lfs_dir_fetch` meets its contract, by the tests in order. Assumes nothing.
use mathlib.Core.Path.{◌≡◌, sym, ◌∙◌}
use mathlib.Core.Bool.{true, false}
use lib.ListN.{length}
use Rattle.format.specs.Fetch.{pair_fits, too_high}
use Rattle.fetch.specs.Read.{Readables}
use Rattle.fetch.proofs.Answers.{readables, readables_swapped, fetch_invalid, fetch_high, fetch_high_2}
use Rattle.fetch.proofs.Answers.{fetch_second, fetch_first}
use Rattle.fetch.proofs.lfs_dir_fetch.Goals.{Else-not-fits, Else-too_high, Else-too_high-2}
use Rattle.fetch.proofs.lfs_dir_fetch.Goals as goal

-- what the tests left, at the places where they were made
ok : (c : Else-not-fits) → (let a = c.args in pair_fits a.pair.g (length a.pair.b0.now)
    (length a.pair.b1.now) a.pair.n0 a.pair.n1) ≡ true
ok c = sym c.fits.ensures ∙ c.if-not-fits.false

fits : (c : Else-not-fits) → (let a = c.args in Readables a.pair.g.prog_size a.pair.b0.now
    a.pair.b1.now)
fits c = let a = c.args in readables a.pair.g a.pair.b0.now a.pair.b1.now a.pair.n0 a.pair.n1
    (ok c)

low0 : (c : Else-too_high) → (let a = c.args in too_high a.block_count
    a.pair.n0) ≡ false
low0 c = sym c.too_high.ensures ∙ c.if-too_high.false

low1 : (c : Else-too_high-2) → (let a = c.args in too_high
    a.block_count a.pair.n1) ≡ false
low1 c = sym c.too_high-2.ensures ∙ c.if-too_high-2.false

pub returns-then-not-fits : goal.returns-then-not-fits
returns-then-not-fits c = fetch_invalid _ _ _ _ _ _ _ (sym c.fits.ensures ∙ c.if-not-fits.true)

pub returns-then-too_high : goal.returns-then-too_high
returns-then-too_high c = fetch_high _ _ _ _ _ _ _ (ok (goal.at.returns-then-too_high c).Else-not-fits) (sym c.too_high.ensures ∙ c.if-too_high.true)

pub returns-then-too_high-2 : goal.returns-then-too_high-2
returns-then-too_high-2 c = fetch_high_2 _ _ _ _ _ _ _ (ok (goal.at.returns-then-too_high-2 c).Else-not-fits) (low0 (goal.at.returns-then-too_high-2 c).Else-too_high)
    (sym c.too_high-2.ensures ∙ c.if-too_high-2.true)

pub le32-rev0-requires : goal.le32-rev0-requires
le32-rev0-requires c = (fits (goal.at.le32-rev0-requires c).Else-not-fits).low

pub le32-rev1-requires : goal.le32-rev1-requires
le32-rev1-requires c = (fits (goal.at.le32-rev1-requires c).Else-not-fits).other_low

pub in_order-requires : goal.in_order-requires
in_order-requires c = readables_swapped _ _ _ _ _
    (ok (goal.at.in_order-requires c).Else-not-fits)

pub in_order-requires-else-second_first : goal.in_order-requires-else-second_first
in_order-requires-else-second_first c = fits (goal.at.in_order-requires-else-second_first c).Else-not-fits

pub returns-then-second_first : goal.returns-then-second_first
returns-then-second_first c = c.in_order.ensures ∙ fetch_second _ _ _ _ _ _ _
    (ok (goal.at.returns-then-second_first c).Else-not-fits)
    (low0 (goal.at.returns-then-second_first c).Else-too_high)
    (low1 (goal.at.returns-then-second_first c).Else-too_high-2) _ _ c.le32-rev0.ensures
    c.le32-rev1.ensures (sym c.second_first.ensures ∙ c.if-second_first.true)

pub returns-else-second_first : goal.returns-else-second_first
returns-else-second_first c = c.in_order-else-second_first.ensures ∙ fetch_first _ _ _ _ _ _ _
    (ok (goal.at.returns-else-second_first c).Else-not-fits)
    (low0 (goal.at.returns-else-second_first c).Else-too_high)
    (low1 (goal.at.returns-else-second_first c).Else-too_high-2) _ _ c.le32-rev0.ensures
    c.le32-rev1.ensures (sym c.second_first.ensures ∙ c.if-second_first.false)
