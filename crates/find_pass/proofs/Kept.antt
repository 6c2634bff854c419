-- A name that passed its rule is no removal: its data are there. Assumes nothing.
use mathlib.Core.Path.{◌≡◌}
use mathlib.Core.Bool.{true, false}
use Prim.Native.Nat.{ℕ, ◌≤◌}
use native.Mathlib.Omega.{arith}
use lib.Dec.{leb, ltb}
use borrow.Author.Tests.{ne_eqb, eqb-true, leb-true}
use Rattle.format.specs.Tag.{tag_type1, tag_type3, tag_id, tag_size, removal_size, tag_delete}
use Rattle.format.specs.Kind.{type_name, is_name}
use Rattle.format.specs.Regular.{Rule, create, delete, name, inlined, eight, attribute, tail, move, forward, bad}
use Rattle.format.specs.Regular.{between, rule_holds}
use Rattle.theory.specs.Walk.Step.{both_true}
use Rattle.theory.specs.Directory.Types.{type1_of}
use Rattle.theory.specs.Rules.RuledEntry.{Says}

pub name_kept : (R : Rule) (c t : ℕ) → Says (tag_type3 t) R → rule_holds R c (tag_id t) (tag_size t) ≡ true
    → is_name t ≡ true → tag_delete t ≡ false
unfolding rule_holds
name_kept name c t s h n =
    let r = both_true (ltb (tag_id t) c) (between 1 1_022 (tag_size t)) h in
    let k = both_true (leb 1 (tag_size t)) (leb (tag_size t) 1_022) r.1 in
    let l : tag_size t ≤ 1_022 = leb-true (tag_size t) 1_022 k.1 in
    ne_eqb (tag_size t) removal_size (λ e. omega arith)
name_kept create c t s h n = absurd (omega (arith, type1_of t, eqb-true (tag_type1 t) type_name n))
name_kept delete c t s h n = absurd (omega (arith, type1_of t, eqb-true (tag_type1 t) type_name n))
name_kept inlined c t s h n = absurd (omega (arith, type1_of t, eqb-true (tag_type1 t) type_name n))
name_kept eight c t s h n = absurd (omega (arith, s.0, s.1, type1_of t, eqb-true (tag_type1 t) type_name n))
name_kept attribute c t s h n = absurd (omega (arith, s.0, s.1, type1_of t, eqb-true (tag_type1 t) type_name n))
name_kept tail c t s h n = absurd (omega (arith, s.0, s.1, type1_of t, eqb-true (tag_type1 t) type_name n))
name_kept move c t s h n = absurd (omega (arith, type1_of t, eqb-true (tag_type1 t) type_name n))
name_kept forward c t s h n = absurd (omega (arith, type1_of t, eqb-true (tag_type1 t) type_name n))
name_kept bad c t s h n = cc
