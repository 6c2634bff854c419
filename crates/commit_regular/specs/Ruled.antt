-- The rules as they run over a log: whether what is met is good, and how they stand behind it. Assumes nothing.
use Rattle.std.specs.Prelude.{Bool}
use Rattle.format.specs.Tag.{tag_id, tag_size}
use Rattle.format.specs.Regular.{between, rule_holds, count_after, grows_after, grows, logged_rule, count_at}
use Rattle.format.specs.declared.Rules.{Rules}
use Rattle.commit_regular.specs.declared.Ruled.{Ruled}
use Rattle.commit_regular.specs.declared.tags.Logged.{Logged}
use Rattle.commit_regular.specs.declared.tags.Logged.TheVariants.{Entry, Check}

abbrev pub at_start : Rules → Ruled
at_start r = record { count = 0; grows = grows r }

abbrev pub good : Ruled → Logged → Bool
good r (Entry t at) = rule_holds (logged_rule t) (count_at r.grows r.count t) (tag_id t) (tag_size t)
good r (Check t) = between 4 1_022 (tag_size t)

abbrev pub behind : Ruled → Logged → Ruled
behind r (Entry t at) = record {
  count = count_after (logged_rule t) (count_at r.grows r.count t);
  grows = grows_after r.grows (logged_rule t);
}
behind r (Check t) = r
