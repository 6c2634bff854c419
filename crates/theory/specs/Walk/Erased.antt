-- Erased bytes, and bytes stored over them: the walk accepts no commit in what was never stored. One law for both
-- erased bytes. Assumes nothing.
use Rattle.std.specs.Prelude.{◌≡◌, ◌≢◌, true, false, length, drop, take}
use Rattle.std.proofs.Math.Path.{refl, sym, ap}
use Rattle.std.proofs.Common.{◌∙◌, inl, inr, arith, length-append, take_at, drop_at, ne_eqb}
use mathlib.Core.List.{List, [], ◌∷◌, ◌++◌}
use Prim.Native.Nat.{ℕ, zero, suc, ◌+◌, ◌-◌, ◌*◌, ◌/◌, ◌%◌, ◌^◌, ◌≤◌, ◌<◌}
use Rattle.std.proofs.Math.Nat.{zero-add}
use Rattle.std.proofs.lemmas.List.{length-replicate, replicate-append-replicate}
use Rattle.format.specs.Word.{be32, le32, to_be32, to_le32, xor, all_ones}
use Rattle.format.specs.Tag.{tag_length}
use Rattle.format.specs.Kind.{is_check}
use Rattle.format.specs.Crc.{crc}
use Rattle.format.specs.Walk.{Event, Class, class_of, step_of, walk_from, ent, chk, inv, past, invalid, check, entry}
use Rattle.format.specs.Erased.{erased, validity_fits}
use Rattle.format.specs.Stores.{fill}
use Rattle.format.proofs.Words.{tag_length_ge}
use Rattle.format.proofs.Walk.{walk_step}
use Rattle.format.proofs.Classes.{class_invalid, Whole, check_says, entry_says, behind_check}
use Rattle.format.proofs.Erased.{Erases, erased_stops, erased_repeats}
use Rattle.theory.specs.Walk.Step.{not_true}

-- ---- erased bytes, and bytes stored over them
-- no commit is accepted
abbrev pub NoCheck : List Event → Type 0
NoCheck [] = Unit {0}
NoCheck (ent t d ∷ es) = NoCheck es
NoCheck (chk t c ∷ es) = ⊥
NoCheck (inv ∷ es) = NoCheck es

module _ (e : ℕ) where
  pub length_erased : (n : ℕ) → length (erased e n) ≡ n
  length_erased n = length-replicate n e

  pub erased_append : (n m : ℕ) → erased e n ++ erased e m ≡ erased e (n + m)
  erased_append n m = replicate-append-replicate n m e

  pub length_fill : (k : ℕ) (l : List ℕ) → length (fill e k l) ≡ length l
  unfolding fill
  length_fill zero l = length_erased (length l)
  length_fill (suc k) [] = refl
  length_fill (suc k) (b ∷ l) = ap suc (length_fill k l)

  pub fill_front : (k : ℕ) (a l : List ℕ) → k ≤ length a → fill e k (a ++ l) ≡ fill e k a ++ erased e (length l)
  unfolding fill
  fill_front zero a l h = ap (λ n. erased e n) (length-append a l) ∙ sym (erased_append (length a) (length l))
  fill_front (suc k) [] l h = absurd (omega arith)
  fill_front (suc k) (b ∷ a) l h = ap (λ z. b ∷ z) (fill_front k a l (omega arith))

  pub fill_back : (k j : ℕ) (a l : List ℕ) → k ≡ length a + j → fill e k (a ++ l) ≡ a ++ fill e j l
  unfolding fill
  fill_back k j [] l h = ap (λ n. fill e n l) (h ∙ zero-add j)
  fill_back zero j (b ∷ a) l h = absurd (omega arith)
  fill_back (suc k) j (b ∷ a) l h = ap (λ z. b ∷ z) (fill_back k j a l (omega arith))

  pub drop_erased_is : (k n j : ℕ) → k ≤ n → j ≡ n - k → drop k (erased e n) ≡ erased e j
  drop_erased_is zero n j h q = let same : n ≡ j = omega arith in rw same
  drop_erased_is (suc k) zero j h q = absurd (omega arith)
  drop_erased_is (suc k) (suc n) j h q = drop_erased_is k n j (omega arith) (omega arith)

  -- a part of erased bytes is erased
  pub drop_erased : (k n : ℕ) → (m : ℕ) × (drop k (erased e n) ≡ erased e m)
  drop_erased zero n = (n, refl)
  drop_erased (suc k) zero = (0, refl)
  drop_erased (suc k) (suc n) = drop_erased k n

  drop_past : (b : List ℕ) (k n : ℕ) → length b ≤ k → (m : ℕ) × (drop k (b ++ erased e n) ≡ erased e m)
  drop_past [] k n h = drop_erased k n
  drop_past (x ∷ b) zero n h = absurd (omega arith)
  drop_past (x ∷ b) (suc k) n h = drop_past b k n (omega arith)

  -- ---- the tag that erased bytes are, and the checksum
  erased_be32 : (n : ℕ) → 4 ≤ n → be32 (erased e n) ≡ be32 (erased e 4)
  unfolding be32
  erased_be32 zero h = absurd (omega arith)
  erased_be32 (suc zero) h = absurd (omega arith)
  erased_be32 (suc (suc zero)) h = absurd (omega arith)
  erased_be32 (suc (suc (suc zero))) h = absurd (omega arith)
  erased_be32 (suc (suc (suc (suc n)))) h = refl

  erased_le32 : (n : ℕ) → 4 ≤ n → le32 (erased e n) ≡ le32 (erased e 4)
  unfolding le32
  erased_le32 zero h = absurd (omega arith)
  erased_le32 (suc zero) h = absurd (omega arith)
  erased_le32 (suc (suc zero)) h = absurd (omega arith)
  erased_le32 (suc (suc (suc zero))) h = absurd (omega arith)
  erased_le32 (suc (suc (suc (suc n)))) h = refl

  -- Where a walk may come to erased bytes, p the previous tag: the tag that they are is no check, if it is valid.
  abbrev pub Quiet : ℕ → Type 0
  Quiet p = xor (be32 (erased e 4)) p < 2 ^ 31 → is_check (xor (be32 (erased e 4)) p) ≡ false

  module _ (byte : Erases e) where
    -- behind a valid tag that is no check, whose repetition is none
    pub quiet_entry : (p : ℕ) → p < 2 ^ 31 → is_check p ≡ false → Quiet p
    quiet_entry p small plain v = rw (erased_repeats e p byte small v) plain

    -- behind a commit whose end tag has the validity bit that fits
    pub quiet_end : (p : ℕ) → validity_fits e p ≡ true → Quiet p
    quiet_end p fits v = absurd (omega (arith, erased_stops e p byte fits))

    -- and at a block's start, where the previous tag is 0xffffffff
    pub quiet_start : Quiet all_ones
    unfolding be32 xor
    quiet_start = go byte
      where
        go : Erases e → Quiet all_ones
        go (inl h) = rw h (λ v. refl)
        go (inr h) = rw h (λ v. absurd (omega (arith, v)))

    -- one step over erased bytes, `on` being that the walk behind it accepts none
    quiet_step : (sum p n : ℕ) → Quiet p → ((s q m : ℕ) → m < n → Quiet q → NoCheck (walk_from s q (erased e m)))
        → NoCheck (walk_from sum p (erased e n))
    quiet_step sum p n quiet on = rw (walk_step sum p (erased e n)) (go (class_of t L) refl)
      where
        t : ℕ
        t = xor (be32 (erased e n)) p

        L : ℕ
        L = length (erased e n)

        long : Whole t L → 4 ≤ n
        long w = omega (arith, w.fits, tag_length_ge t, length_erased n)

        plain : Whole t L → is_check t ≡ false
        plain w = rw (erased_be32 n (long w)) (quiet (rw (erased_be32 n (long w)) at w.small))

        go : (K : Class) → class_of t L ≡ K → NoCheck (step_of (walk_from) K t sum (erased e n))
        go past k = tt
        go invalid k = tt
        go check k = let h = check_says t L k in absurd (not_true (is_check t) (plain h.0) h.1)
        go entry k =
            let h = entry_says t L k in
            rw (drop_erased_is (tag_length t) n (n - tag_length t) (omega (arith, h.0.fits, length_erased n)) refl)
            (on (crc sum (take (tag_length t) (erased e n))) t (n - tag_length t)
            (omega (arith, tag_length_ge t, long h.0)) (quiet_entry t h.0.small h.1))

    quiet_in : (k sum p n : ℕ) → n ≤ k → Quiet p → NoCheck (walk_from sum p (erased e n))
    quiet_in zero sum p n h quiet = quiet_step sum p n quiet (λ s q m l z. absurd (omega arith))
    quiet_in (suc k) sum p n h quiet = quiet_step sum p n quiet (λ s q m l z. quiet_in k s q m (omega arith) z)

    -- THE ERASED BYTES: a walk that comes to them accepts no commit. With 0xff it stops on an invalid tag; with 0x00 it
    -- may meet the entry before them again and again, to the block's end.
    pub quiet_walk : (sum p n : ℕ) → Quiet p → NoCheck (walk_from sum p (erased e n))
    quiet_walk sum p n quiet = quiet_in n sum p n (omega arith) quiet

    -- straight behind a commit whose end tag has the validity bit that fits, the walk stops on an invalid tag
    pub stops_behind : (sum p n : ℕ) → 4 ≤ n → validity_fits e p ≡ true → walk_from sum p (erased e n) ≡ inv ∷ []
    stops_behind sum p n h fits =
        rw (
          walk_step sum p (erased e n),
          erased_be32 n h,
          class_invalid (xor (be32 (erased e 4)) p) (length (erased e n)) (omega
              (arith, length_erased n)) (erased_stops e p byte fits),
        ) refl

    -- four bytes and then erased ones: no commit, unless they are a check and the checksum so far is four erased bytes
    pub stub : (sum p : ℕ) (b : List ℕ) (n : ℕ) → length b ≡ 4 → xor (be32 (b ++ erased e n)) p < 2 ^ 31
        → (is_check (xor (be32 (b ++ erased e n)) p) ≡ true → crc sum b ≢ le32 (erased e 4))
        → NoCheck (walk_from sum p (b ++ erased e n))
    stub sum p b n lb small co = rw (walk_step sum p (b ++ erased e n)) (go (class_of t L) refl)
      where
        t : ℕ
        t = xor (be32 (b ++ erased e n)) p

        L : ℕ
        L = length (b ++ erased e n)

        next : (s' : ℕ) → is_check t ≡ false → NoCheck (walk_from s' t (drop (tag_length t) (b ++ erased e n)))
        next s' plain =
            let r : (m : ℕ) × (drop (tag_length t) (b ++ erased e n) ≡ erased e m) =
            drop_past b (tag_length t) n (omega (arith, tag_length_ge t)) in
            rw r.1 (quiet_walk s' t r.0 (quiet_entry t small plain))

        go : (K : Class) → class_of t L ≡ K → NoCheck (step_of (walk_from) K t sum (b ++ erased e n))
        go past k = tt
        go invalid k = tt
        go check k =
            let h = check_says t L k in
            let n4 : 4 ≤ n = omega (
              arith,
              h.0.reach,
              behind_check t h.1,
              length-append b (erased e n),
              length_erased n,
            ) in
            rw (
              take_at b (erased e n) 4 lb,
              drop_at b (erased e n) 4 lb,
              erased_le32 n n4,
              ne_eqb (crc sum b) (le32 (erased e 4)) (co h.1),
            ) tt
        go entry k = next (crc sum (take (tag_length t) (b ++ erased e n))) (entry_says t L k).1

-- ---- one to three bytes of a word stored: of a tag, and of a checksum
-- the tag's top byte is right
pub fill_top : (e k w : ℕ) (r : List ℕ) → e < 2 ^ 8 → 0 < k → be32 (fill e k (to_be32 w) ++ r) / 2 ^ 24 ≡ w / 2 ^ 24
unfolding fill to_be32 be32
fill_top e zero w r small h = absurd (omega arith)
fill_top e (suc zero) w r small h = omega arith
fill_top e (suc (suc zero)) w r small h = omega arith
fill_top e (suc (suc (suc zero))) w r small h = omega arith
fill_top e (suc (suc (suc (suc k)))) w r small h = omega arith

four : {a b c d a' b' c' d' : ℕ} → a ≡ a' → b ≡ b' → c ≡ c' → d ≡ d' → a ∷ b ∷ c ∷ d ∷ [] ≡ a' ∷ b' ∷ c' ∷ d' ∷ []
four p q r s = cc

fill_nil : (e k : ℕ) → fill e k [] ≡ []
unfolding fill
fill_nil e zero = refl
fill_nil e (suc k) = refl

-- four bytes that make up a word are its bytes
module _ (a b c d x : ℕ) (ha : a < 2 ^ 8) (hb : b < 2 ^ 8) (hc : c < 2 ^ 8) (hd : d < 2 ^ 8)
    (is : x ≡ a + b * 2 ^ 8 + c * 2 ^ 16 + d * 2 ^ 24) where
  digit_0 : a ≡ x % 2 ^ 8
  digit_0 = omega arith

  over_1 : x / 2 ^ 8 ≡ b + c * 2 ^ 8 + d * 2 ^ 16
  over_1 = omega arith

  over_2 : x / 2 ^ 16 ≡ c + d * 2 ^ 8
  over_2 = omega arith

  digit_3 : d ≡ x / 2 ^ 24
  digit_3 = omega arith

  digit_1 : b ≡ x / 2 ^ 8 % 2 ^ 8
  digit_1 = rw over_1 (omega arith)

  digit_2 : c ≡ x / 2 ^ 16 % 2 ^ 8
  digit_2 = rw over_2 (omega arith)

  digits : a ∷ b ∷ c ∷ d ∷ [] ≡ to_le32 x
  unfolding to_le32
  digits = four digit_0 digit_1 digit_2 digit_3

-- a stored checksum that reads as the right one is the right one, byte by byte
pub fill_le : (e k c : ℕ) (r : List ℕ) → e < 2 ^ 8 → c < 2 ^ 32 → c ≡ le32 (fill e k (to_le32 c) ++ r)
    → fill e k (to_le32 c) ≡ to_le32 c
unfolding fill to_le32 le32
fill_le e zero c r small h q = digits e e e e c small small small small q
fill_le e (suc zero) c r small h q = digits (c % 2 ^ 8) e e e c (omega arith) small small small q
fill_le e (suc (suc zero)) c r small h q =
    digits (c % 2 ^ 8) (c / 2 ^ 8 % 2 ^ 8) e e c (omega arith) (omega arith) small small q
fill_le e (suc (suc (suc zero))) c r small h q =
    digits (c % 2 ^ 8) (c / 2 ^ 8 % 2 ^ 8) (c / 2 ^ 16 % 2 ^ 8) e c (omega arith) (omega arith) (omega arith) small q
fill_le e (suc (suc (suc (suc k)))) c r small h q = rw (fill_nil e k)
