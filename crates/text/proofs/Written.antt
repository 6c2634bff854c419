-- A whole text from the start of a buffer: what is put is the text as far as there is room, and behind it what was
-- there. Assumes nothing.
use Rattle.std.proofs.Common.{◌≡◌, ℕ, suc, ◌+◌, ◌%◌, ◌^◌, ◌<◌, List, [], ◌∷◌, ◌++◌, length, set, sym, refl, ap, ◌∙◌}
use Rattle.std.proofs.Common.{add-zero, arith}
use Rattle.std.specs.Borrow.{MutBor}
use lib.Seq.{sets, take-nil}
use Rattle.format.specs.Listing.{written_to}
use Rattle.text.specs.declared.Text.{Text}
use Rattle.text.specs.Put.{State, state, puts_of, put_of, Puts, Starts}

-- ---- below 2^32 the length doesn't wrap
puts_sets : (xs : List ℕ) (at : ℕ) (out : List ℕ) → at + length xs < 2 ^ 32
    → puts_of (state at out) xs ≡ state (at + length xs) (sets out at xs)
unfolding puts_of put_of
puts_sets [] at out h = ap (λ (n : ℕ). state n out) (sym (add-zero at))
puts_sets (x ∷ xs) at out h =
    let e : (at + 1) % 2 ^ 32 ≡ suc at = omega arith in
    let n : suc at + length xs ≡ at + suc (length xs) = omega arith in
    rw e (puts_sets xs (suc at) (set out at x) (omega arith) ∙ ap (λ (k : ℕ). state k (sets (set out at x) (suc at) xs))
    n)

-- ---- stores from the start
sets_nil : (xs : List ℕ) (i : ℕ) → sets [] i xs ≡ []
sets_nil [] i = refl
sets_nil (x ∷ xs) i = sets_nil xs (suc i)

sets_cons : (xs : List ℕ) (o : ℕ) (out : List ℕ) (i : ℕ) → sets (o ∷ out) (suc i) xs ≡ o ∷ sets out i xs
sets_cons [] o out i = refl
sets_cons (x ∷ xs) o out i = sets_cons xs o (set out i x) (suc i)

sets_written : (xs out : List ℕ) → sets out 0 xs ≡ written_to out xs
sets_written [] out = ap (λ (l : List ℕ). l ++ out) (sym (take-nil (length out)))
sets_written (x ∷ xs) [] = sets_nil xs 1
sets_written (x ∷ xs) (o ∷ out) = sets_cons xs x out 0 ∙ ap (λ (l : List ℕ). x ∷ l) (sets_written xs out)

-- ---- what a text of less than 2^32 bytes leaves: t as it starts, u at its end
pub all_written : (t u : Text) (out : MutBor (List ℕ)) (xs : List ℕ) → length xs < 2 ^ 32 → Starts t out → Puts t u xs
    → (u.at ≡ length xs) × (u.out.now ≡ written_to out.now xs)
all_written t u out xs h start put =
    let all : state u.at u.out.now ≡ state (0 + length xs) (sets out.now 0 xs) =
    put.behind ∙ ap (λ (s : State). puts_of s xs) start.start ∙ puts_sets xs 0 out.now (omega arith) in
    (ap (λ (s : State). s.at) all ∙ omega arith, ap (λ (s : State). s.out) all ∙ sets_written xs out.now)
