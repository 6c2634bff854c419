-- The rules as the code has them: its enum for format's, and an entry's rule and count in one answer. Assumes nothing.
use Rattle.std.specs.Prelude.{Bool, cond, ℕ, None, Option, Some}
use Rattle.format.specs.Regular as rule
use Rattle.format.specs.Regular.{rule_of, rule_holds, count_after}
use Rattle.commit_rules.specs.declared.Rule.{Rule}
use Rattle.commit_rules.specs.declared.Rule.TheVariants.{Create, Delete, Name, Inlined, Eight, Attribute, Tail}
use Rattle.commit_rules.specs.declared.Rule.TheVariants.{Move, Forward, Bad}

abbrev pub rule_as : Rule → rule.Rule
rule_as Create = rule.create
rule_as Delete = rule.delete
rule_as Name = rule.name
rule_as Inlined = rule.inlined
rule_as Eight = rule.eight
rule_as Attribute = rule.attribute
rule_as Tail = rule.tail
rule_as Move = rule.move
rule_as Forward = rule.forward
rule_as Bad = rule.bad

abbrev pub counted_as : Bool → ℕ → Option ℕ
counted_as holds c = cond holds (Some c) None

-- the count behind an entry that falls under a rule, or that it is bad there
abbrev pub passed_by : rule.Rule → ℕ → ℕ → ℕ → Option ℕ
passed_by R c id size = counted_as (rule_holds R c id size) (count_after R c)

-- and of one by its type
unfoldable pub counted_by : Bool → ℕ → ℕ → ℕ → ℕ → Option ℕ
counted_by logged kind c id size = passed_by (rule_of logged kind) c id size
