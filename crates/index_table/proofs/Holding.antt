-- A table that holds places: a part of it is their end, and with other words in that part it holds others. Assumes
-- nothing.
use Rattle.std.proofs.Common.{◌≡◌, ℕ, ◌+◌, ◌-◌, ◌*◌, ◌≤◌, List, [], ◌∷◌, ◌++◌, length, take, drop, replicate, sym, ap, ◌∙◌, append_assoc, arith, length-append, length-drop, take-append-drop, length-take-le, take_at, drop_at}
use borrow.Rule.Slice.PartMut.{mid_of, put_mid}
use lib.ListN.{length-replicate}
use lib.ListN.{replicate-append-replicate}
use Rattle.index_table.specs.Held.{Holds}

-- ---- put together: places and zeros behind them
pub holds : {ws : List ℕ} (Q : List ℕ) (m k : ℕ) → ws ≡ Q ++ replicate m 0 → length Q ≡ 2 * k → Holds ws k Q
holds {ws} Q m k e l =
    let long : length ws ≡ length Q + m =
    ap length e ∙ length-append Q (replicate m 0) ∙ ap (λ (n : ℕ). length Q + n) (length-replicate {A = ℕ} m 0) in
    let rest : length ws - length Q ≡ m = omega arith in
    record { size = l; is = rw rest e }

-- ---- cut: of three parts, the second, and other words in its place
module _ (A B C : List ℕ) (a e : ℕ) (from : length A ≡ a) (to : length A + length B ≡ e) where
  mid_is : mid_of a (e - a) (A ++ (B ++ C)) ≡ B
  mid_is = rw (drop_at A (B ++ C) a from) (take_at B C (e - a) (omega arith))

  put_is : (D : List ℕ) → put_mid a (e - a) (A ++ (B ++ C)) D ≡ A ++ (D ++ C)
  put_is D = rw (take_at A (B ++ C) a from, drop_at A (B ++ C) a from, drop_at B C (e - a) (omega arith))

module _ {ws : List ℕ} {n : ℕ} {P : List ℕ} (h : Holds ws n P) where
  cut : (a : ℕ) → ws ≡ take a P ++ (drop a P ++ replicate (length ws - length P) 0)
  cut a =
      h.is ∙ ap (λ (l : List ℕ). l ++ replicate (length ws - length P) 0) (sym (take-append-drop a P))
      ∙ append_assoc (take a P) (drop a P) (replicate (length ws - length P) 0)

  pub room : 2 * n ≤ length ws
  room =
      let long = ap length h.is ∙ length-append P (replicate (length ws - length P) 0) in
      omega (arith, h.size)

  pub held : take (2 * n) ws ≡ P
  held = ap (take (2 * n)) h.is ∙ take_at P (replicate (length ws - length P) 0) (2 * n) h.size

  module _ (a e : ℕ) (end : e ≡ 2 * n) (le : a ≤ e) where
    fore : length (take a P) ≡ a
    fore = length-take-le a P (omega (arith, h.size))

    aft : length (take a P) + length (drop a P) ≡ e
    aft = omega (arith, fore, length-drop a P, h.size)

    pub part_is : mid_of a (e - a) ws ≡ drop a P
    part_is =
        ap (mid_of a (e - a)) (cut a)
        ∙ mid_is (take a P) (drop a P) (replicate (length ws - length P) 0) a e fore aft

    pub replaced : (D : List ℕ) (m k : ℕ) {z : List ℕ} → z ≡ D ++ replicate m 0 → a + length D ≡ 2 * k
        → Holds (put_mid a (e - a) ws z) k (take a P ++ D)
    replaced D m k {z} is l =
        let i = length ws - length P in
        holds (take a P ++ D) (m + i) k
        (ap (λ (v : List ℕ). put_mid a (e - a) v z) (cut a)
        ∙ put_is (take a P) (drop a P) (replicate i 0) a e fore aft z
        ∙ rw (is, append_assoc D (replicate m 0) (replicate i 0), replicate-append-replicate {A = ℕ} m i 0)
        (sym (append_assoc (take a P) D (replicate (m + i) 0))))
        (length-append (take a P) D ∙ omega (arith, fore))

  -- a place of zeros more
  pub more : 2 * n + 2 ≤ length ws → Holds ws (n + 1) (P ++ 0 ∷ 0 ∷ [])
  more room =
      let i = length ws - length P - 2 in
      let two : length ws - length P ≡ 2 + i = omega (arith, h.size) in
      holds (P ++ 0 ∷ 0 ∷ []) i (n + 1)
      (h.is ∙ ap (λ (k : ℕ). P ++ replicate k 0) two
      ∙ ap (λ (l : List ℕ). P ++ l) (sym (replicate-append-replicate {A = ℕ} 2 i 0))
      ∙ sym (append_assoc P (0 ∷ 0 ∷ []) (replicate i 0)))
      (length-append P (0 ∷ 0 ∷ []) ∙ omega (arith, h.size))
