-- The rule that a call takes as a number: what `Rules::try_from` answers. Assumes nothing.
use Rattle.std.specs.Prelude.{◌≡◌, refl, ℕ, Bool, true, false, cond, Result, Ok, Err}
use Rattle.std.proofs.Common.{sym, ◌∙◌, arith}
use Rattle.format.specs.Regular.{rules_fit, rules_of, rules_from}
use Rattle.format.specs.declared.Rules.{Rules}
use Rattle.format.specs.declared.Refusal.{Refusal}
use Rattle.format.specs.declared.Refusal.TheVariants.{Invalid}

module _ (rules : ℕ) (x : Result Rules Refusal) (e : x ≡ rules_from rules) where
  pub rule_refused : (r : Refusal) → x ≡ Err r → (rules_fit rules ≡ false) × (r ≡ Invalid)
  rule_refused r h = go (rules_fit rules) (sym h ∙ e)
    where
      go : (fits : Bool) → Err r ≡ cond fits (Ok (rules_of rules)) (Err Invalid) → (fits ≡ false) × (r ≡ Invalid)
      go true q = (cc, cc)
      go false q = (refl, cc)

  pub rule_taken : (r : Rules) → x ≡ Ok r → (rules_fit rules ≡ true) × (r ≡ rules_of rules)
  rule_taken r h = go (rules_fit rules) (sym h ∙ e)
    where
      go : (fits : Bool) → Ok r ≡ cond fits (Ok (rules_of rules)) (Err Invalid) → (fits ≡ true) × (r ≡ rules_of rules)
      go true q = (refl, cc)
      go false q = (cc, cc)
