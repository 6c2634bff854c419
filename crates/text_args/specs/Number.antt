-- The number that a text is in decimal. Assumes nothing.
use Rattle.std.specs.Prelude.{Bool, true, cond, ◌&&◌, List, [], ◌∷◌, ℕ, ◌+◌, ◌-◌, ◌*◌, ◌^◌, length, leb, ltb, eqb, None, Option, Some}

abbrev pub is_digit : ℕ → Bool
is_digit b = leb 0x30 b && leb b 0x39

unfoldable pub all_digits : List ℕ → Bool
all_digits [] = true
all_digits (b ∷ l) = is_digit b && all_digits l

-- the number whose digits are those of v and then the list's
unfoldable pub value_from : ℕ → List ℕ → ℕ
value_from v [] = v
value_from v (b ∷ l) = value_from (v * 10 + (b - 0x30)) l

-- The same as an answer: digits and nothing else, and less than 2^32.
unfoldable pub number_from : ℕ → List ℕ → Option ℕ
number_from v l = cond (all_digits l && ltb (value_from v l) (2 ^ 32)) (Some (value_from v l)) None

-- An empty text is no number.
unfoldable pub number_of : List ℕ → Option ℕ
number_of l = cond (eqb (length l) 0) None (number_from 0 l)

-- one digit more
abbrev pub digit_behind : ℕ → ℕ → Option ℕ
digit_behind v b = number_from v (b ∷ [])
