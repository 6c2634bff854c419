-- Data in hex and as letters: a place for a byte, a row of places, the lines of it. Assumes nothing.
use Rattle.std.proofs.Common.{◌≡◌, ℕ, zero, suc, ◌+◌, ◌*◌, ◌≤◌, ◌<◌, List, [], ◌∷◌, ◌++◌, length, get_or, take, drop}
use Rattle.std.proofs.Common.{arith, refl, sym, ap, ◌∙◌, append_assoc, append-nil, drop_of_length-le, drop-cons, Bool, true, false, leb, min}
use borrow.Author.Tests.{leb-true, leb-false}
use lib.ListN.{length-drop}
use lib.Seq.{drop-drop, take_all}
use Rattle.format.specs.Listing.{ascii, hex_byte}
use Rattle.format.specs.RawLog.{cell, hex_cells, data_line, data_lines}

-- ---- a place
pub cell_none : (l : List ℕ) (i : ℕ) → length l ≤ i → ascii "   " ≡ cell (drop i l)
unfolding cell
cell_none l i h = rw (drop_of_length-le l {i = i} h)

pub cell_some : (l : List ℕ) (i : ℕ) → i < length l → hex_byte (get_or l i 0) ++ ascii " " ≡ cell (drop i l)
unfolding cell
cell_some l i h = rw (drop-cons l i 0 h)

-- a place more
pub cells_behind : (n : ℕ) (l : List ℕ) → hex_cells (suc n) l ≡ hex_cells n l ++ cell (drop n l)
unfolding hex_cells
cells_behind zero l = append-nil (cell l)
cells_behind (suc n) l =
    let e : 1 + n ≡ suc n = omega arith in
    ap (λ (r : List ℕ). cell l ++ r) (cells_behind n (drop 1 l))
    ∙ sym (append_assoc (cell l) (hex_cells n (drop 1 l)) (cell (drop n (drop 1 l))))
    ∙ ap (λ (r : List ℕ). (cell l ++ hex_cells n (drop 1 l)) ++ cell r)
    (drop-drop n 1 l ∙ ap (λ (k : ℕ). drop k l) e)

-- ---- lines
lines_none : (n at : ℕ) → data_lines n at [] ≡ []
unfolding data_lines
lines_none zero at = refl
lines_none (suc n) at = refl

-- a line more than is needed
lines_enough : (n at : ℕ) (l : List ℕ) → length l ≤ n * 16 → data_lines (suc n) at l ≡ data_lines n at l
unfolding data_lines
lines_enough n at [] h = sym (lines_none n at)
lines_enough zero at (x ∷ l) h = absurd (omega arith)
lines_enough (suc n) at (x ∷ l) h =
    ap (λ (r : List ℕ). data_line at (take 16 (x ∷ l)) ++ r)
    (lines_enough n (at + 16) (drop 16 (x ∷ l)) (omega (arith, length-drop {A = ℕ} 16 (x ∷ l))))

-- one line, and those behind it
pub line_first : (at : ℕ) (l : List ℕ) → (length l ≡ 0 → ⊥) → length l ≤ 1_022
    → data_lines 64 at l ≡ data_line at (take 16 l) ++ data_lines 64 (at + 16) (drop 16 l)
unfolding data_lines
line_first at [] h k = absurd (h refl)
line_first at (x ∷ l) h k =
    ap (λ (r : List ℕ). data_line at (take 16 (x ∷ l)) ++ r)
    (sym (lines_enough 63 (at + 16) (drop 16 (x ∷ l)) (omega (arith, length-drop {A = ℕ} 16 (x ∷ l)))))

pub line_last : (at : ℕ) (l : List ℕ) → length l ≡ 0 → data_lines 64 at l ≡ []
unfolding data_lines
line_last at [] h = refl
line_last at (x ∷ l) h = absurd (omega arith)

-- ---- a line is cut off what is left, k being how long it is
pub front_line : (k : ℕ) (l : List ℕ) → k ≡ min (length l) 16 → take k l ≡ take 16 l
front_line k l e = go (leb 16 (length l)) refl
  where
    go : (x : Bool) → leb 16 (length l) ≡ x → take k l ≡ take 16 l
    go true h = let n : k ≡ 16 = omega (arith, leb-true 16 (length l) h) in ap (λ (j : ℕ). take j l) n
    go false h =
        let less : length l < 16 = omega (arith, leb-false 16 (length l) h) in
        take_all k l (omega arith) ∙ sym (take_all 16 l (omega arith))

pub behind_line : (k : ℕ) (l : List ℕ) → k ≡ min (length l) 16 → drop k l ≡ drop 16 l
behind_line k l e = go (leb 16 (length l)) refl
  where
    go : (x : Bool) → leb 16 (length l) ≡ x → drop k l ≡ drop 16 l
    go true h = let n : k ≡ 16 = omega (arith, leb-true 16 (length l) h) in ap (λ (j : ℕ). drop j l) n
    go false h =
        let less : length l < 16 = omega (arith, leb-false 16 (length l) h) in
        drop_of_length-le l {i = k} (omega arith) ∙ sym (drop_of_length-le l {i = 16} (omega arith))
