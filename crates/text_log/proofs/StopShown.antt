-- Why a walk stops: the tests in order, each with what it shows. Assumes nothing.
use mathlib.Core.Path.{◌≡◌, refl, sym, ap, ap₂, ◌∙◌}
use mathlib.Core.Bool.{Bool, true, false, cond, ◌&&◌}
use mathlib.Core.List.{List, ◌++◌, append_assoc}
use Prim.Native.Nat.{ℕ, ◌+◌, ◌-◌, ◌^◌, ◌≤◌, ◌<◌}
use native.Mathlib.Omega.{arith}
use lib.Bits.{bit_xor}
use lib.Dec.{leb, ltb}
use lib.ListN.{length, take, drop, length-drop}
use lib.Seq.{drop-drop}
use borrow.Author.Tests.{lt-ltb, le-ltb, le-leb, leb-true}
use Rattle.format.specs.Word.{be32, le32, xor}
use Rattle.format.specs.Tag.{tag_length}
use Rattle.format.specs.Kind.{is_check}
use Rattle.format.specs.Crc.{crc}
use Rattle.format.specs.Walk.{check, entry, past, read_behind, class_of}
use Rattle.format.specs.Listing.{ascii}
use Rattle.format.specs.RawLog.{hex_word, stop_line, invalid_stop, check_stop, past_stop, stop_text, stop_behind}
use Rattle.format.proofs.Classes.{class_short, class_invalid, class_check, behind_check}
use Rattle.fetch_walk.specs.Next.{tag_at}
use Rattle.fetch_walk.specs.declared.cursor.Cursor.{Cursor}
use Rattle.text_log.specs.Part.{Reached, check_whole}

-- what is put behind a stop's line is a part of its reason
pub stop_more : (place : ℕ) (why more : List ℕ) → stop_line place why ++ more ≡ stop_line place (why ++ more)
unfolding stop_line
stop_more place why more =
    ap (λ (l : List ℕ). ascii "stops at " ++ l) (append_assoc (hex_word place) (ascii ": " ++ why) more)

-- ---- a check's two checksums, as the code reads them
module _ (b : List ℕ) (place : ℕ) where
  pub stored_is : (x : ℕ) → x ≡ le32 (drop (place + 4) b) → x ≡ le32 (drop 4 (drop place b))
  stored_is x e = e ∙ ap le32 (sym (drop-drop 4 place b))

  pub computed_is : (sum x : ℕ) → x ≡ crc sum (take (place + 4 - place) (drop place b)) → x ≡ crc sum (take 4 (drop
      place b))
  computed_is sum x e =
      let f : place + 4 - place ≡ 4 = omega arith in
      e ∙ ap (λ (n : ℕ). crc sum (take n (drop place b))) f

-- ---- a check in so many bytes
module _ (t left : ℕ) where
  pub whole_says : check_whole t left ≡ true → (is_check t ≡ true) × (tag_length t ≤ left) × (8 ≤ left)
  whole_says h = go (is_check t) (leb (tag_length t) left) (leb 8 left) h (leb-true (tag_length t) left)
      (leb-true 8 left)
    where
      go : (x y z : Bool) → x && y && z ≡ true → (y ≡ true → tag_length t ≤ left) → (z ≡ true → 8 ≤ left)
          → (x ≡ true) × (tag_length t ≤ left) × (8 ≤ left)
      go true true z h f g = (refl, f refl, g h)
      go true false z h f g = (refl, f h, g (cc))
      go false y z h f g = (h, f (cc), g (cc))

  -- a tag that stops a walk and is no whole check shows that it passes the end
  pub whole_not : 4 ≤ left → t < 2 ^ 31 → check_whole t left ≡ false → (at sum : ℕ) (rest : List ℕ) → length rest ≡ left
      → past_stop at t ≡ stop_text (class_of t left) at t sum rest
  unfolding stop_text class_of
  whole_not l v h at sum rest e =
      rw (le-leb 4 left l, lt-ltb t (2 ^ 31) v) (go (leb (tag_length t) left) (leb (4 + read_behind t) left)
      (is_check t)
      reads h)
    where
      -- eight bytes are read of a check
      reads : is_check t ≡ true → leb (4 + read_behind t) left ≡ leb 8 left
      reads c = ap (λ (n : ℕ). leb (4 + n) left) (behind_check t c)

      passes : past_stop at t ≡ cond (ltb (length rest) 4) (stop_line at (ascii "the block ends\n")) (past_stop at t)
      passes = rw (le-ltb (length rest) 4 (omega (arith, e)))

      go : (fits reach is : Bool) → (is ≡ true → reach ≡ leb 8 left) → is && fits && leb 8 left ≡ false
          → past_stop at t ≡ stop_text (cond fits (cond reach (cond is check entry) past) past) at t sum rest
      go false reach is r q = passes
      go true false is r q = passes
      go true true false r q = refl
      go true true true r q = absurd (apart (r refl ∙ q))
        where
          apart : true ≡ false → ⊥
          apart z = let n : ◌≡◌ {A = ℕ} 0 1 = cc in omega arith

-- ---- the stop, by the tests in order
module _ (b : List ℕ) (c : Cursor) (reached : Reached b c.at 0) where
  left_is : length b - c.at ≡ length (drop c.at b)
  left_is = omega (arith, length-drop c.at b, reached.reach)

  pub stop_ends : length b - c.at < 4
      → stop_line c.at (ascii "the block ends\n") ≡ stop_behind c.at c.prev c.sum (drop c.at b)
  unfolding stop_text
  stop_ends h =
      let l : length (drop c.at b) < 4 = omega (arith, left_is) in
      rw (class_short (tag_at b c) (length (drop c.at b)) l, lt-ltb (length (drop c.at b)) 4 l)

  -- w is what `be32` answers
  module _ (room : 4 ≤ length b - c.at) (w : ℕ) (ew : w ≡ be32 (drop c.at b)) where
    t_is : bit_xor w c.prev ≡ tag_at b c
    unfolding xor
    t_is = ap (λ (x : ℕ). xor x c.prev) ew

    four : 4 ≤ length (drop c.at b)
    four = omega (arith, left_is)

    pub stop_invalid : 2 ^ 31 ≤ bit_xor w c.prev
        → invalid_stop c.at (drop c.at b) ≡ stop_behind c.at c.prev c.sum (drop c.at b)
    unfolding stop_text
    stop_invalid h = rw (class_invalid (tag_at b c) (length (drop c.at b)) four (omega (arith, t_is)))

    -- x is what `check_whole` answers
    module _ (valid : bit_xor w c.prev < 2 ^ 31) (x : Bool)
        (ex : x ≡ check_whole (bit_xor w c.prev) (length b - c.at)) where
      whole_same : check_whole (tag_at b c) (length (drop c.at b)) ≡ x
      whole_same = sym (ex ∙ ap₂ (λ (t n : ℕ). check_whole t n) t_is left_is)

      small : tag_at b c < 2 ^ 31
      small = omega (arith, t_is)

      pub check_reach : x ≡ true → Reached b c.at 8
      check_reach h =
          let f = whole_says (tag_at b c) (length (drop c.at b)) (whole_same ∙ h) in
          record { most = reached.most; reach = omega (arith, reached.reach, left_is, f.2) }

      pub stop_check : x ≡ true → check_stop c.at (bit_xor w c.prev) c.sum (drop c.at b)
          ≡ stop_behind c.at c.prev c.sum (drop c.at b)
      unfolding stop_text
      stop_check h =
          let f = whole_says (tag_at b c) (length (drop c.at b)) (whole_same ∙ h) in
          rw (class_check (tag_at b c) (length (drop c.at b)) four small f.1
          (omega (arith, behind_check (tag_at b c) f.0, f.2)) f.0)
          (ap (λ (t : ℕ). check_stop c.at t c.sum (drop c.at b)) t_is)

      pub stop_past : x ≡ false → past_stop c.at (bit_xor w c.prev) ≡ stop_behind c.at c.prev c.sum (drop c.at b)
      stop_past h =
          ap (past_stop c.at) t_is
          ∙ whole_not (tag_at b c) (length (drop c.at b)) four small (whole_same ∙ h) c.at c.sum (drop c.at b) refl
