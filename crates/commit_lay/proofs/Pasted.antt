-- A whole run where there is room for all of it: the library's `paste` of as many bytes as may be stored. Assumes
-- nothing.
use mathlib.Core.Path.{◌≡◌, refl, sym, ap, ◌∙◌}
use mathlib.Core.List.{List, [], ◌∷◌, append_assoc}
use Prim.Native.Nat.{ℕ, zero, suc, ◌+◌, ◌-◌, ◌≤◌, ◌<◌, min}
use native.Mathlib.Numerals.{add-one}
use native.Mathlib.Omega.{arith}
use lib.ListN.{length, take, set, length-set}
use lib.Seq.{paste, paste-zero, take-suc-set, drop-set-lt}
use Rattle.commit_lay.specs.Laid.{Laid, laid, puts_of}
use Rattle.commit_lay.specs.declared.Run.{Run}
use Rattle.commit_lay.proofs.Puts.{put_none, put_one}

abbrev pub run_at : ℕ → ℕ → Run
run_at at left = record { at = at; left = left }

-- one byte in front
paste_cons : (b : List ℕ) (at x : ℕ) (xs : List ℕ) (k : ℕ) → at < length b
    → paste (set b at x) (at + 1) xs k ≡ paste b at (x ∷ xs) (suc k)
paste_cons b at x xs k h =
    let e : at + 1 + k ≡ at + suc k = omega arith in
    rw (
      e,
      drop-set-lt (at + suc k) b at x (omega arith),
      add-one at,
      take-suc-set b at x h,
      append_assoc (take at b) (x ∷ []) (take k xs),
    )

-- no store is left
spent : (bs : List ℕ) (at : ℕ) (b : List ℕ) → puts_of (laid (run_at at 0) b) bs ≡ laid (run_at at 0) b
unfolding puts_of
spent [] at b = refl
spent (x ∷ xs) at b = rw (← put_none (run_at at 0) b x refl) (spent xs at b)

-- part by part
same : {a a' l l' : ℕ} {b b' : List ℕ} → a ≡ a' → l ≡ l' → b ≡ b' → laid (run_at a l) b ≡ laid (run_at a' l') b'
same ea el eb = λ i. laid (run_at (ea i) (el i)) (eb i)

abbrev pub pasted : List ℕ → ℕ → ℕ → List ℕ → Laid
pasted bs at left b = laid (run_at (at + min left (length bs)) (left - length bs)) (paste b at bs (min left (length bs)))

pub puts_paste : (bs : List ℕ) (at left : ℕ) (b : List ℕ) → at + length bs ≤ length b
    → puts_of (laid (run_at at left) b) bs ≡ pasted bs at left b
unfolding puts_of
puts_paste [] at left b h =
    let z : 0 ≡ min left 0 = omega arith in
    same (omega arith) (omega arith) (paste-zero b at [] ∙ ap (λ (k : ℕ). paste b at [] k) z)
puts_paste (x ∷ xs) at zero b h =
    let z : 0 ≡ min 0 (suc (length xs)) = omega arith in
    spent (x ∷ xs) at b ∙ same (omega arith) (omega arith) (paste-zero b at (x ∷ xs)
    ∙ ap (λ (k : ℕ). paste b at (x ∷ xs) k) z)
puts_paste (x ∷ xs) at (suc l) b h =
    let one : suc l - 1 ≡ l = omega arith in
    let z : suc (min l (length xs)) ≡ min (suc l) (suc (length xs)) = omega arith in
    ap (λ (s : Laid). puts_of s xs) (sym (put_one (run_at at (suc l)) b x (λ q. omega arith) (omega arith))
    ∙ same refl one refl)
    ∙ puts_paste xs (at + 1) l (set b at x) (omega (arith, length-set b at x))
    ∙ same (omega arith) (omega arith) (paste_cons b at x xs (min l (length xs)) (omega arith)
    ∙ ap (λ (k : ℕ). paste b at (x ∷ xs) k) z)
