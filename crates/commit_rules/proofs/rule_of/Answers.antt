-- `commit_rules::rule_of` meets its contract: by the type's arm. Assumes nothing.
use mathlib.Core.Path.{refl}
use Rattle.format.specs.Regular.{rule_of, inlined, move}
use Rattle.commit_rules.proofs.Arms.{is_one, is_eight, is_name_lem, is_tail_lem, is_attribute}
use Rattle.commit_rules.proofs.Arms.{bad_first, bad_second, bad_third, bad_last}
use Rattle.commit_rules.proofs.rule_of.Goals as goal

pub returns-in-1025 : goal.returns-in-1025
unfolding rule_of
returns-in-1025 c = rw c.in-1025.is

pub returns-in-1279 : goal.returns-in-1279
unfolding rule_of
returns-in-1279 c = rw c.in-1279.is

pub returns-then-logged : goal.returns-then-logged
unfolding rule_of
returns-then-logged c = rw (c.in-255.is, c.if-logged.true)

pub returns-else-logged : goal.returns-else-logged
unfolding rule_of
returns-else-logged c = rw (c.in-255.is, c.if-logged.false)

pub returns-in-513 : goal.returns-in-513
unfolding rule_of
returns-in-513 c = is_one c.args.logged inlined 0x201 c.args.kind refl refl c.in-513.is

pub returns-in-512 : goal.returns-in-512
returns-in-512 c = is_eight _ _ c.in-512.is

pub returns-in-2047 : goal.returns-in-2047
unfolding rule_of
returns-in-2047 c = is_one c.args.logged move 0x7ff c.args.kind refl refl c.in-2047.is

pub returns-then-logged-2 : goal.returns-then-logged-2
unfolding rule_of
returns-then-logged-2 c = rw (c.in-1535.is, c.if-logged-2.true)

pub returns-else-logged-2 : goal.returns-else-logged-2
unfolding rule_of
returns-else-logged-2 c = rw (c.in-1535.is, c.if-logged-2.false)

pub returns-in-1 : goal.returns-in-1
returns-in-1 c = is_name_lem _ _ c.in-1.if-kind-lt1-own.false c.in-1.if-kind-lt3-own.true

pub returns-in-768-to-1023 : goal.returns-in-768-to-1023
returns-in-768-to-1023 c = is_attribute _ _ c.in-768-to-1023.if-kind-lt768-own.false c.in-768-to-1023.if-kind-lt1024-own.true

pub returns-in-1536 : goal.returns-in-1536
returns-in-1536 c =
    is_tail_lem _ _ c.in-1536.in_default-own.rest.1 c.in-1536.if-kind-lt1535-own.false
    c.in-1536.if-kind-lt1538-own.true

pub returns-in_default : goal.returns-in_default
returns-in_default c = bad_first _ _ c.in_default.in_default-own.rest c.in_default.if-kind-lt1-own.true

pub returns-in_default-2 : goal.returns-in_default-2
returns-in_default-2 c = bad_second _ _ c.in_default.in_default-own.rest c.in_default.if-kind-lt3-own.false c.in_default.if-kind-lt768-own.true

pub returns-in_default-3 : goal.returns-in_default-3
returns-in_default-3 c =
    bad_third _ _ c.in_default.in_default-own.rest c.in_default.if-kind-lt1024-own.false c.in_default.if-kind-lt1535-own.true

pub returns-in_default-4 : goal.returns-in_default-4
returns-in_default-4 c = bad_last _ _ c.in_default.in_default-own.rest c.in_default.if-kind-lt1538-own.false
