-- A number grows by a digit at a time, and once it is too great it stays so. Assumes nothing.
use mathlib.Core.Path.{◌≡◌, refl, sym, ap, ◌∙◌}
use mathlib.Core.Bool.{Bool, true, false, cond, ◌&&◌}
use mathlib.Core.List.{List, [], ◌∷◌}
use Prim.Native.Nat.{ℕ, suc, ◌+◌, ◌-◌, ◌*◌, ◌^◌, ◌≤◌, ◌<◌}
use native.Mathlib.Omega.{arith}
use native.Mathlib.Numerals.{add-one}
use lib.ListN.{length, drop, get_or, drop_of_length-le}
use lib.Dec.{leb, ltb}
use lib.Seq.{drop-cons}
use borrow.Author.Tests.{eq-eqb, ne_eqb, lt-ltb, le-ltb, le-leb, lt-leb, ltb-true, ltb-false}
use Rattle.text_args.specs.Number.{is_digit, all_digits, value_from, number_from, digit_behind, number_of}
use Rattle.std.proofs.Common.{inl, inr}
use Rattle.std.specs.Option.{SomeIff}
use Rattle.std.specs.Char.{IsNotAsciiDigit}
use Rattle.std.specs.Prelude.{None, Option, Some}

abbrev step : ℕ → ℕ → ℕ
step v b = v * 10 + (b - 0x30)

-- ---- one digit
module _ (v b : ℕ) where
  pub not_digit : IsNotAsciiDigit b → None ≡ digit_behind v b
  unfolding number_from all_digits value_from
  not_digit (inl h) = rw (lt-leb 0x30 b h)
  not_digit (inr h) = go (leb 0x30 b)
    where
      go : (x : Bool) → None ≡ cond (((x && leb b 0x39) && true) && ltb (step v b) (2 ^ 32)) (Some (step v b)) None
      go true = rw (lt-leb b 0x39 h)
      go false = refl

  module _ (low : 0x30 ≤ b) (high : b ≤ 0x39) where
    -- x and y are what the product and the sum are, if they are words
    pub too_great : ¬ (v * 10 < 2 ^ 32) → None ≡ digit_behind v b
    unfolding number_from all_digits value_from
    too_great h = rw (le-leb 0x30 b low, le-leb b 0x39 high, le-ltb (step v b) (2 ^ 32) (omega (arith, h)))

    pub one_more : (x : ℕ) → x ≡ v * 10 → (r : Option ℕ) → SomeIff r (x + (b - 0x30) < 2 ^ 32) (x + (b - 0x30))
        → r ≡ digit_behind v b
    unfolding number_from all_digits value_from
    one_more x ex None h =
        rw (le-leb 0x30 b low, le-leb b 0x39 high, le-ltb (step v b) (2 ^ 32) (omega (arith, h, ex)))
    one_more x ex (Some y) h =
        let e : y ≡ step v b = omega (arith, h.1, ex) in
        rw (le-leb 0x30 b low, le-leb b 0x39 high, lt-ltb (step v b) (2 ^ 32) (omega (arith, h.0, ex)), e)

  -- what has one more digit is a word
  pub more_fits : (w : ℕ) → Some w ≡ digit_behind v b → w < 2 ^ 32
  unfolding number_from all_digits value_from
  more_fits w e = go (is_digit b) (ltb (step v b) (2 ^ 32)) refl e
    where
      go : (x y : Bool) → ltb (step v b) (2 ^ 32) ≡ y → Some w ≡ cond ((x && true) && y) (Some (step v b)) None → w < 2 ^ 32
      go true true h e' =
          let same : w ≡ step v b = cc e' in
          omega (arith, same, ltb-true (step v b) (2 ^ 32) h)
      go true false h e' =
          let none : w ≡ 0 = cc e' in
          omega (arith, none)
      go false y h e' =
          let none : w ≡ 0 = cc e' in
          omega (arith, none)

-- ---- the digits behind it
-- what more digits make of an answer
abbrev pub behind : Option ℕ → List ℕ → Option ℕ
behind (Some w) l = number_from w l
behind None l = None

-- digits make a number no less
no_less : (v : ℕ) (l : List ℕ) → v ≤ value_from v l
unfolding value_from
no_less v [] = omega arith
no_less v (b ∷ l) = omega (arith, no_less (step v b) l)

pub number_next : (v b : ℕ) (l : List ℕ) → number_from v (b ∷ l) ≡ behind (digit_behind v b) l
unfolding number_from all_digits value_from
number_next v b l = go (is_digit b) (ltb (step v b) (2 ^ 32)) refl
  where
    w : ℕ
    w = value_from (step v b) l

    go : (x y : Bool) → ltb (step v b) (2 ^ 32) ≡ y → cond ((x && all_digits l) && ltb w (2 ^ 32)) (Some w) None
        ≡ behind (cond ((x && true) && y) (Some (step v b)) None) l
    go false y e = refl
    go true true e = refl
    go true false e = ends (all_digits l)
      where
        great : ltb w (2 ^ 32) ≡ false
        great = le-ltb w (2 ^ 32) (omega (arith, ltb-false (step v b) (2 ^ 32) e, no_less (step v b) l))

        ends : (z : Bool) → cond (z && ltb w (2 ^ 32)) (Some w) None ≡ None
        ends true = rw great
        ends false = refl

-- ---- a text: where it begins, the digit at i, and its end
module _ (text : List ℕ) where
  pub number_none : length text ≡ 0 → None ≡ number_of text
  unfolding number_of
  number_none h = rw (eq-eqb (length text) 0 h)

  pub number_some : (length text ≡ 0 → ⊥) → number_of text ≡ number_from 0 text
  unfolding number_of
  number_some h = rw (ne_eqb (length text) 0 h)

  module _ (v i : ℕ) (inv : number_of text ≡ number_from v (drop i text)) where
    pub number_on : (r : Option ℕ) → i < length text → r ≡ digit_behind v (get_or text i 0)
        → number_of text ≡ behind r (drop (i + 1) text)
    number_on r h er = inv ∙ ap (number_from v) (drop-cons text i 0 h)
        ∙ number_next v (get_or text i 0) (drop (suc i) text) ∙ rw (← er, add-one i)

    pub number_done : length text ≤ i → v < 2 ^ 32 → Some v ≡ number_of text
    unfolding number_from all_digits value_from
    number_done h less = sym (inv ∙ ap (number_from v) (drop_of_length-le text {i = i} h) ∙ rw (lt-ltb v (2 ^ 32) less))
