-- A lookup at offset 0 on the bytes of a block: it reads nothing behind where the walk back begins, and it answers what
-- the place it finds holds. Assumes nothing.
use Rattle.std.specs.Prelude.{◌≡◌, Bool, length, take, drop, get_or, None, Ok, Option, Some}
use Rattle.std.proofs.Math.Path.{refl}
use Rattle.std.proofs.Common.{sym, ap, ◌∙◌, arith, zero-add, add-zero, suc-add, take-take, get_or-take}
use Rattle.std.proofs.Math.Bool.{true, false}
use mathlib.Core.List.{List, [], ◌∷◌}
use Prim.Native.Nat.{ℕ, zero, suc, ◌+◌, ◌-◌, ◌%◌, ◌^◌, ◌≤◌, ◌<◌, min}
use Rattle.std.proofs.Math.Nat.{min-zero, zero-min, suc-min-suc, min-le_left}
use Rattle.std.proofs.Math.Seq.{take-nil}
use Rattle.std.proofs.Math.Dec.{leb}
use borrow.Author.Tests.{leb-true, le-leb}
use Rattle.format.specs.Word.{be32, xor}
use Rattle.format.specs.Tag.{tag_length}
use Rattle.format.specs.Back.{Met, hop, backs, back}
use Rattle.format.specs.Look.{data_size, bytes_of, HitIn, wlook}
use Rattle.format.specs.Lookup.{searched, slice_start, slice_end, slice_answer, slice_buffer}
use Rattle.format.specs.Answer.{got_word}
use Rattle.format.specs.declared.LfsMdir.{LfsMdir}
use Rattle.format.specs.declared.LfsGstate.{LfsGstate}
use Rattle.format.proofs.Words.{be32_at_lem, tag_length_ge}
use Rattle.format.proofs.Searched.{found_in, bytes_length}
use Rattle.theory.specs.Lookup.ByMask.{holds, Answers}
use Rattle.theory.specs.Lookup.WhatIsFound.{AllMet, wlook_has, searched_has}
use Rattle.format.specs.Machine.{held_word, held_buffer}
use Rattle.format.specs.declared.Found.{Found}

-- ---- what the walk back meets stands whole before n, and so does what the search finds there
abbrev pub Within : ℕ → Met → Type 0
Within n m = m.off + tag_length m.tag ≤ n

abbrev pub MetIn : ℕ → List Met → Type 0
MetIn n ms = AllMet (Within n) ms

backs_in : (k : ℕ) (b : List ℕ) (off t n : ℕ) → off ≤ n → MetIn n (backs k b off t)
unfolding backs
backs_in zero b off t n h = tt
backs_in (suc k) b off t n h =
    go (leb (4 + tag_length t) off) refl
    (backs_in k b (off - tag_length t) (xor (be32 (drop (off - tag_length t) b)) t % 2 ^ 31) n (omega arith))
  where
    go : (c : Bool) → leb (4 + tag_length t) off ≡ c
        → MetIn n (backs k b (off - tag_length t) (xor (be32 (drop (off - tag_length t) b)) t % 2 ^ 31))
        → MetIn n (hop (backs k b) c b off t)
    go true e ih = let l : 4 + tag_length t ≤ off = leb-true (4 + tag_length t) off e in (omega arith, ih)
    go false e ih = tt

pub back_in : (b : List ℕ) (off t n : ℕ) → off ≤ n → MetIn n (back b off t)
unfolding back
back_in b off t n h = backs_in (suc off) b off t n h

pub wlook_in : (n : ℕ) (ids : Bool) (mask key d : ℕ) (ms : List Met) → MetIn n ms → HitIn n (wlook ids mask key d ms)
wlook_in n ids mask key d ms h =
    wlook_has (HitIn n) (Within n) (λ (d : ℕ). Unit {0}) tt (λ i t k d w. tt)
    (λ m d w _ e. found_in m.tag m.off d n e w) ids mask key d ms tt h

-- so a lookup whose record ends before n finds nothing behind n, with a pending move or without
pub searched_in : (n : ℕ) (b : List ℕ) (dir : LfsMdir) (gdisk : LfsGstate) (mask key : ℕ) → dir.off ≤ n
    → HitIn n (searched b dir gdisk mask key)
searched_in n b dir gdisk mask key h =
    searched_has (HitIn n) (Within n) (λ (d : ℕ). Unit {0}) tt (λ i t k d w. tt)
    (λ m d w _ e. found_in m.tag m.off d n e w) b dir gdisk mask key tt tt (back_in b dir.off dir.etag n h)

-- ---- two blocks that agree up to e
pub piece : (p k : ℕ) (l : List ℕ) → take k (drop p l) ≡ drop p (take (p + k) l)
piece zero k l = ap (λ (n : ℕ). take n l) (sym (zero-add k))
piece (suc p) k [] = take-nil k ∙ sym (ap (drop (suc p)) (take-nil (suc p + k)))
piece (suc p) k (x ∷ l) = piece p k l ∙ sym (ap (λ (n : ℕ). drop (suc p) (take n (x ∷ l))) (suc-add p k))

module _ (e : ℕ) (x y : List ℕ) (same : take e x ≡ take e y) where
  same_at : (i : ℕ) → i < e → get_or x i 0 ≡ get_or y i 0
  same_at i h = sym (get_or-take e x i 0 h) ∙ ap (λ (l : List ℕ). get_or l i 0) same ∙ get_or-take e y i 0 h

  same_word : (p : ℕ) → p + 4 ≤ e → be32 (drop p x) ≡ be32 (drop p y)
  same_word p h = be32_at_lem x p
      ∙ rw (
        same_at p (omega arith),
        same_at (p + 1) (omega arith),
        same_at (p + 2) (omega arith),
        same_at (p + 3) (omega arith),
      ) (sym (be32_at_lem y p))

  pub same_piece : (p k : ℕ) → p + k ≤ e → take k (drop p x) ≡ take k (drop p y)
  same_piece p k h =
      piece p k x ∙ ap (drop p) (sym (take-take (p + k) e x h) ∙ ap (take (p + k)) same ∙ take-take (p + k) e y h)
      ∙ sym (piece p k y)

  backs_same : (k off t : ℕ) → off ≤ e → backs k x off t ≡ backs k y off t
  unfolding backs
  backs_same zero off t h = refl
  backs_same (suc k) off t h =
      go (leb (4 + tag_length t) off) refl (λ u. backs_same k (off - tag_length t) u (omega arith))
    where
      go : (c : Bool) → leb (4 + tag_length t) off ≡ c
          → ((u : ℕ) → backs k x (off - tag_length t) u ≡ backs k y (off - tag_length t) u)
          → hop (backs k x) c x off t ≡ hop (backs k y) c y off t
      go true f ih =
          let l : 4 + tag_length t ≤ off = leb-true (4 + tag_length t) off f in
          let w : be32 (drop (off - tag_length t) x) ≡ be32 (drop (off - tag_length t) y) =
          same_word (off - tag_length t) (omega (arith, tag_length_ge t)) in
          rw w (ap (λ (z : List Met). record { tag = t; off = off - tag_length t } ∷ z)
          (ih (xor (be32 (drop (off - tag_length t) y)) t % 2 ^ 31)))
      go false f ih = refl

  pub back_same : (off t : ℕ) → off ≤ e → back x off t ≡ back y off t
  unfolding back
  back_same off t h = backs_same (suc off) off t h

  -- what was found before e is read alike
  pub slice_same : (buffer : List ℕ) (f : Option Found) → HitIn e f → length x ≡ length y
      → (slice_answer x 0 (length buffer) f ≡ slice_answer y 0 (length buffer) f)
      × (slice_buffer x 0 buffer f ≡ slice_buffer y 0 buffer f)
  slice_same buffer None h long = (refl, refl)
  slice_same buffer (Some u) h long =
      let s : take (min (data_size u) (length buffer)) (drop (slice_start u 0) x)
      ≡ take (min (data_size u) (length buffer)) (drop (slice_start u 0) y)
      = same_piece (slice_start u 0) (min (data_size u) (length buffer))
      (omega (arith, h.inside, min-le_left (data_size u) (length buffer))) in
      rw (long, s) (refl, refl)

-- ---- an entry that was found holds this
take_both : (n k : ℕ) (l : List ℕ) → take n (take k l) ≡ take (min k n) l
take_both zero k l = ap (λ (n : ℕ). take n l) (sym (min-zero k))
take_both (suc n) zero l = ap (λ (n : ℕ). take n l) (sym (zero-min (suc n)))
take_both (suc n) (suc k) [] = sym (take-nil (min (suc k) (suc n)))
take_both (suc n) (suc k) (x ∷ l) = ap (λ (z : List ℕ). x ∷ z) (take_both n k l)
    ∙ ap (λ (m : ℕ). take m (x ∷ l)) (sym (suc-min-suc k n))

pub slice_held : (b buffer : List ℕ) (i : ℕ) (f : Option Found) → HitIn (length b) f → Answers i f
    → (got_word (slice_answer b 0 (length buffer) f) ≡ held_word i (holds b f))
    × (slice_buffer b 0 buffer f ≡ held_buffer buffer (holds b f))
unfolding holds
slice_held b buffer i None h a = (refl, refl)
slice_held b buffer i (Some e) h a =
    let n : length (bytes_of b e) ≡ data_size e = bytes_length b e h in
    let read : slice_end e 0 (length buffer) ≤ length b
    = omega (arith, h.inside, min-le_left (data_size e) (length buffer)) in
    let fits : leb (slice_end e 0 (length buffer)) (length b) ≡ true
    = le-leb (slice_end e 0 (length buffer)) (length b) read in
    let at : drop e.off b ≡ drop (slice_start e 0) b = ap (λ (n : ℕ). drop n b) (sym (add-zero e.off)) in
    let bytes : take (length buffer) (bytes_of b e)
    ≡ take (min (data_size e) (length buffer)) (drop (slice_start e 0) b)
    = rw at (take_both (length buffer) (data_size e) (drop (slice_start e 0) b)) in
    rw (fits, n, bytes) (ap Ok a, refl)
