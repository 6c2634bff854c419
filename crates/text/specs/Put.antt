-- Bytes put one after the other into a buffer: the text's length so far, and the buffer. Assumes nothing.
use Rattle.std.specs.Prelude.{◌≡◌, ℕ, ◌+◌, ◌%◌, ◌^◌, List, [], ◌∷◌, slice_set}
use Rattle.std.specs.Borrow.{MutBor}
use Rattle.text.specs.declared.Text.{Text}

-- how far a text is: its length, and the buffer
pub record State : Type 0 where
  pub at : ℕ
  pub out : List ℕ

abbrev pub state : ℕ → List ℕ → State
state at out = record { at = at; out = out }

-- one byte: `set` alters nothing behind the end of the buffer
unfoldable pub put_of : State → ℕ → State
put_of s x = state ((s.at + 1) % 2 ^ 32) (slice_set s.out s.at x)

unfoldable pub puts_of : State → List ℕ → State
puts_of s [] = s
puts_of s (x ∷ xs) = puts_of (put_of s x) xs

-- where a text in a lent buffer stands
abbrev pub state_of : Text → State
state_of t = state t.at t.out.now

-- the text b is the text a with the bytes behind it, in the same buffer
pub record Puts (a b : Text) (bytes : List ℕ) : Type 0 where
  pub buffer : b.out.ghost_name ≡ a.out.ghost_name
  pub behind : state_of b ≡ puts_of (state_of a) bytes

-- a text that has no byte yet, in a buffer
pub record Starts (t : Text) (out : MutBor (List ℕ)) : Type 0 where
  pub buffer : t.out.ghost_name ≡ out.ghost_name
  pub start : state_of t ≡ state 0 out.now
