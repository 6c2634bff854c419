-- The call, by what fetch answered and which block answers. Assumes nothing.
use mathlib.Core.Path.{◌≡◌, refl, sym, ap, ◌∙◌}
use mathlib.Core.Bool.{Bool, true, false, not, cond, ◌&&◌}
use mathlib.Core.List.{List}
use Prim.Native.Nat.{ℕ}
use lib.ListN.{length}
use lib.Dec.{eqb}
use Rattle.format.specs.Log.{log}
use Rattle.format.specs.Fetch.{fetch_of}
use Rattle.format.specs.Regular.{rules_fit, rules_of}
use Rattle.format.specs.Lookup.{block_of}
use Rattle.format.specs.Find.{find_in, find_fetched, find_of}
use Rattle.format.specs.declared.Geometry.{Geometry}
use Rattle.format.specs.declared.Rules.{Rules}
use Rattle.format.specs.declared.Fetched.{Fetched}
use Rattle.format.specs.declared.Refusal.{Refusal}
use Rattle.format.specs.declared.Refusal.TheVariants.{Invalid}
use Rattle.std.specs.Prelude.{Err, Ok, Option, Result}
use Rattle.sizes.proofs.Records.{block_same}

module _ (g : Geometry) (b0 b1 : List ℕ) (n0 n1 count seed rules : ℕ) (name : List ℕ) (kind : ℕ) where
  pub called_unruled : rules_fit rules ≡ false → Err Invalid ≡ find_of g b0 b1 n0 n1 count seed rules name kind
  unfolding find_of
  called_unruled h = sym (rw h)

  pub called_empty : eqb (length name) 0 ≡ true → Err Invalid ≡ find_of g b0 b1 n0 n1 count seed rules name kind
  unfolding find_of
  called_empty h = go (rules_fit rules)
    where
      go : (fits : Bool) → Err Invalid ≡ cond (not (fits && not (eqb (length name) 0))) (Err Invalid)
          (find_fetched (rules_of rules) name kind b0 b1 n0 (fetch_of g b0 b1 n0 n1 count seed))
      go true = sym (rw h)
      go false = refl

  module _ (fits : rules_fit rules ≡ true) (some : eqb (length name) 0 ≡ false) where
    on : find_of g b0 b1 n0 n1 count seed rules name kind
        ≡ find_fetched (rules_of rules) name kind b0 b1 n0 (fetch_of g b0 b1 n0 n1 count seed)
    unfolding find_of
    on = rw (fits, some)

    pub called_refused : (q : Refusal) → Err q ≡ fetch_of g b0 b1 n0 n1 count seed
        → Err q ≡ find_of g b0 b1 n0 n1 count seed rules name kind
    called_refused q f = sym (on ∙ ap (find_fetched (rules_of rules) name kind b0 b1 n0) (sym f))

    -- f is what fetch found; b the block that it was read from, r the rule, x what `find_in` answers
    pub called : (f : Fetched) → Ok f ≡ fetch_of g b0 b1 n0 n1 count seed → (b : List ℕ) → b ≡ block_of b0 b1 n0 f.dir
        → (r : Rules) → r ≡ rules_of rules → (x : Result (Option ℕ) Refusal) → x ≡ find_in r name kind (log b)
        → x ≡ find_of g b0 b1 n0 n1 count seed rules name kind
    called f h b eb r er x ex =
        ex ∙ (λ i. find_in (er i) name kind (log ((eb ∙ block_same b0 b1 n0 f.dir) i)))
        ∙ sym (on ∙ ap (find_fetched (rules_of rules) name kind b0 b1 n0) (sym h))
