-- `lookup_search::find_back` meets its contract. The loop's invariant: the end is not passed, and what is left of the
-- walk answers what the whole does. Each way out of a turn is a law of `Turn.antt`. Assumes nothing.
use Rattle.std.proofs.Common.{◌≡◌, ◌≤◌}
use Rattle.format.specs.Back.{back}
use Rattle.format.specs.Look.{wlook}
use Rattle.format.specs.Lookup.{has_ids}
use Rattle.lookup_back.specs.Left.{left}
use Rattle.lookup_search.proofs.find_back.Given as goal

abbrev pub invariant-loop-at : goal.invariant-loop-at
invariant-loop-at l =
    (goal.iterator-loop-at).can_next l.at-iterator × (goal.iterator-loop-at).is_finite l.at-iterator
    × (l.at-iterator.off ≤ l.end)
    × (wlook (has_ids l.gmask) l.gmask l.gtag l.diff (back l.b l.end l.etag)
    ≡ wlook l.ids l.gmask l.gtag l.gdiff (left l.at-iterator))
