-- What every text is made of is short: numbers, names, a refusal, what a slot of a regular log holds. Assumes nothing.
use mathlib.Core.Path.{◌≡◌, refl}
use mathlib.Core.Bool.{Bool, true, false, not, cond}
use mathlib.Core.List.{List, [], ◌∷◌, ◌++◌}
use Prim.Native.Nat.{ℕ, zero, suc, ◌+◌, ◌*◌, ◌/◌, ◌^◌, ◌≤◌, ◌<◌}
use native.Mathlib.Omega.{arith}
use lib.IntN.{ℤ, pos, negsuc}
use lib.ListN.{length, take, drop, length-append}
use lib.Dec.{ltb}
use Rattle.format.specs.Answer.{refusal_number}
use Rattle.format.specs.Directory.{Load, Slot}
use Rattle.format.specs.Writer.{block_at, is_second}
use Rattle.format.specs.Listing.{ascii, decimal_digit, decimal_in, decimal, hex_byte, is_plain, name_byte, name_bytes}
use Rattle.format.specs.Listing.{number_line, integer, refused_line, ruled_text, fetched_text}
use Rattle.format.specs.Regular.{rules_fit}
use Rattle.format.specs.declared.Refusal.TheVariants.{Invalid}
use Rattle.format.specs.declared.LfsPair.{LfsPair}
use Rattle.format.specs.declared.LfsMdir.{LfsMdir}
use Rattle.format.specs.declared.Refusal.{Refusal}
use Rattle.theory.specs.Blocks.SlotItems.{OkSlot}
use Rattle.std.specs.Prelude.{Err, Ok, Result, None, Option, Some}
use Rattle.format.specs.declared.Fetched.{Fetched}

-- ---- numbers and names
pub decimal_short : (k n : ℕ) → length (decimal_in k n) ≤ k
unfolding decimal_in
decimal_short zero n = omega arith
decimal_short (suc k) n = go (ltb n 10) (decimal_short k (n / 10))
  where
    go : (b : Bool) → length (decimal_in k (n / 10)) ≤ k
        → length (cond b (decimal_digit n ∷ []) (decimal_in k (n / 10) ++ (decimal_digit n ∷ []))) ≤ suc k
    go true h = omega arith
    go false h = omega (arith, length-append (decimal_in k (n / 10)) (decimal_digit n ∷ []))

name_byte_short : (b : ℕ) → length (name_byte b) ≤ 4
unfolding name_byte
name_byte_short b = go (is_plain b)
  where
    go : (x : Bool) → length (cond x (b ∷ []) (ascii "\\x" ++ hex_byte b)) ≤ 4
    go true = omega arith
    go false = omega arith

pub name_length : (l : List ℕ) → length (name_bytes l) ≤ 4 * length l
unfolding name_bytes
name_length [] = omega arith
name_length (b ∷ l) = omega (arith, length-append (name_byte b) (name_bytes l), name_byte_short b, name_length l)

pub number_short : (label : List ℕ) (n : ℕ) → length (number_line label n) ≤ length label + 11
unfolding number_line
number_short label n =
    omega (
      arith,
      length-append label (decimal n ++ ascii "\n"),
      length-append (decimal n) (ascii "\n"),
      decimal_short 10 n,
    )

-- ---- a refusal
integer_short : (z : ℤ) → length (integer z) ≤ 11
integer_short (pos n) = omega (arith, decimal_short 10 n)
integer_short (negsuc n) = omega (arith, decimal_short 10 (suc n))

pub refused_short : (r : Refusal) → length (refused_line r) ≤ 20
unfolding refused_line
refused_short r = omega (
  arith,
  length-append (integer (refusal_number r)) (ascii "\n"),
  integer_short
      (refusal_number r),
)

-- ---- what a slot holds
abbrev pub Short : Option Load → Type 0
Short None = Unit {0}
Short (Some v) = length v.bytes ≤ 1_022

pub slot_loads : (s : Slot) → OkSlot s → (c : ℕ) → Short (s c)
slot_loads s ok c = go (s c) refl
  where
    go : (o : Option Load) → s c ≡ o → Short o
    go None e = tt
    go (Some v) e = omega (arith, (ok c v e).1)

-- a text that goes by a rule is short if it is
pub ruled_short : (rules : ℕ) (text : List ℕ) → length text < 2 ^ 32 → length (ruled_text rules text) < 2 ^ 32
ruled_short rules text h = go (rules_fit rules)
  where
    go : (b : Bool) → length (cond (not b) (refused_line Invalid) text) < 2 ^ 32
    go true = h
    go false = omega (arith, refused_short Invalid)

-- a text is short if what is said of each block is
pub fetched_short : (shows : LfsMdir → List ℕ → List ℕ) → ((m : LfsMdir) (b : List ℕ) → length (shows m b) < 2 ^ 32)
    → (p : LfsPair) (input : List ℕ) (f : Result Fetched Refusal) → length (fetched_text shows p input f) < 2 ^ 32
fetched_short shows h p input (Err r) = omega (arith, refused_short r)
fetched_short shows h p input (Ok f) =
    h f.dir (block_at (is_second p.n0 f.dir) (take (length input / 2) input) (drop (length input / 2) input))
