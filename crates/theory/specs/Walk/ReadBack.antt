-- A commit's bytes, and how the walk reads them: the entries back as they were, then the check. Assumes nothing.
use Rattle.std.specs.Prelude.{◌≡◌, refl, Bool, true, false, cond, List, [], ◌∷◌, ◌++◌, ℕ, ◌+◌, ◌-◌, ◌^◌, ◌≤◌, ◌<◌, length, take, drop, eqb}
use Rattle.std.proofs.Common.{sym, ap, ◌∙◌, append_assoc, arith, length-append, drop_at, take_at, eq-eqb}
use Rattle.std.proofs.Math.Seq.{drop-append-add}
use Rattle.format.specs.Word.{le32, to_be32, to_le32, xor, all_ones}
use Rattle.format.specs.Tag.{tag_length, tag_flipped}
use Rattle.format.specs.Kind.{is_check, is_wide}
use Rattle.format.specs.Crc.{crc}
use Rattle.format.specs.Walk.{read_behind, body_length, checked, walk_from, ent, chk}
use Rattle.format.specs.Commit.{Item, commit_bytes, commit_sum, written}
use Rattle.format.proofs.Words.{length_to_be32, length_to_le32, le32_to_le32}
use Rattle.format.proofs.Tags.{tag_read}
use Rattle.format.proofs.Classes.{behind_check}
use Rattle.theory.specs.Walk.Step.{entry_met, check_read}

-- an entry that is read back as it was written: a valid tag that is no check, its length that of its bytes, eight of
-- them where eight are read
pub record GoodItem (i : Item) : Type 0 where
  pub small : i.tag < 2 ^ 31
  pub entry : is_check i.tag ≡ false
  pub long : tag_length i.tag ≡ 4 + length i.body
  pub eight : is_wide i.tag ≡ true → length i.body ≡ 8

abbrev pub AllGood : List Item → Type 0
AllGood [] = Unit {0}
AllGood (i ∷ l) = GoodItem i × AllGood l

-- a check tag that covers its own four bytes
pub record GoodCheck (t : ℕ) : Type 0 where
  pub small : t < 2 ^ 31
  pub check : is_check t ≡ true
  pub long : 8 ≤ tag_length t

-- the pieces of b ++ (d ++ r), b of four bytes
mid : (b d r : List ℕ) → length b ≡ 4 → take (length d) (drop 4 (b ++ (d ++ r))) ≡ d
mid b d r h = rw (drop_at b (d ++ r) 4 h) (take_at d r (length d) refl)

front : (b d r : List ℕ) (n : ℕ) → n ≡ length b + length d → take n (b ++ (d ++ r)) ≡ b ++ d
front b d r n h = rw (← append_assoc b d r) (take_at (b ++ d) r n (length-append b d ∙ sym h))

back : (b d r : List ℕ) (n : ℕ) → n ≡ length b + length d → drop n (b ++ (d ++ r)) ≡ r
back b d r n h = rw (← append_assoc b d r) (drop_at (b ++ d) r n (length-append b d ∙ sym h))

past8 : (b s r : List ℕ) (n : ℕ) → length b ≡ 4 → length s ≡ 4 → 8 ≤ n → drop n (b ++ (s ++ r)) ≡ drop (n - 8) r
past8 b s r n lb ls h =
    let e : n ≡ length (b ++ s) + (n - 8) = simp length-append (omega arith) in
    rw (← append_assoc b s r) (ap (λ k. drop k (b ++ s ++ r)) e ∙ drop-append-add (b ++ s) r (n - 8))

-- the walk reads an entry whose tag and data stand whole
pub read_ent : (sum p t : ℕ) (d r : List ℕ) → t < 2 ^ 31 → is_check t ≡ false → tag_length t ≡ 4 + length d
    → (is_wide t ≡ true → length d ≡ 8)
    → walk_from sum p (to_be32 (xor t p) ++ (d ++ r)) ≡ ent t d ∷ walk_from (crc sum (to_be32 (xor t p) ++ d)) t r
unfolding read_behind body_length
read_ent sum p t d r small plain long wide =
    entry_met sum p (b ++ (d ++ r)) t d (walk_from (crc sum (b ++ d)) t r)
    (record {
      raw = tag_read t p (d ++ r);
      whole = record { small = small; fits = omega (arith, L); reach = rw plain (reach (is_wide t) refl) };
      plain = plain;
      bytes = sym (m (is_wide t) refl);
      next = rw (front b d r (tag_length t) (omega (arith, four)), back b d r (tag_length t) (omega (arith, four)));
    })
  where
    b : List ℕ
    b = to_be32 (xor t p)

    four : length b ≡ 4
    four = length_to_be32 (xor t p)

    L : length (b ++ (d ++ r)) ≡ 4 + (length d + length r)
    L = simp length-append (omega (arith, four))

    m : (w : Bool) → is_wide t ≡ w → take (cond w 8 (tag_length t - 4)) (drop 4 (b ++ (d ++ r))) ≡ d
    m true ew = let e8 : length d ≡ 8 = wide ew in rw (← e8) (mid b d r four)
    m false ew = let e : tag_length t - 4 ≡ length d = omega arith in rw e (mid b d r four)

    reach : (w : Bool) → is_wide t ≡ w → 4 + cond w 8 0 ≤ length (b ++ (d ++ r))
    reach true ew = omega (arith, L, wide ew)
    reach false ew = omega (arith, L)

-- and a check: what comes of it hangs on the four bytes behind it alone
pub read_chk : (sum p t : ℕ) (s r : List ℕ) → length s ≡ 4 → GoodCheck t → tag_length t ≤ 8 + length r
    → walk_from sum p (to_be32 (xor t p) ++ (s ++ r)) ≡ checked walk_from
    (eqb (crc sum (to_be32 (xor t p))) (le32 (s ++ r))) t (to_be32 (xor t p) ++ (s ++ r))
read_chk sum p t s r ls good fits =
    let four : length (to_be32 (xor t p)) ≡ 4 = length_to_be32 (xor t p) in
    let L : length (to_be32 (xor t p) ++ (s ++ r)) ≡ 4 + (4 + length r) = simp length-append (omega arith) in
    check_read sum p (to_be32 (xor t p) ++ (s ++ r)) t (tag_read t p (s ++ r))
    (record { small = good.small; fits = omega arith; reach = omega (arith, behind_check t good.check) })
    good.check
    ∙ rw (take_at (to_be32 (xor t p)) (s ++ r) 4 four, drop_at (to_be32 (xor t p)) (s ++ r) 4 four)

-- decode of encode: the finished bytes read back as the entries, then the check
pub decode : (is : List Item) (sum p ct : ℕ) (r : List ℕ) → AllGood is → GoodCheck ct → tag_length ct ≤ 8 + length r
    → walk_from sum p (commit_bytes sum p is ct ++ r)
    ≡ written is (chk ct (commit_sum sum p is ct) ∷ walk_from all_ones (tag_flipped ct) (drop (tag_length ct - 8) r))
unfolding commit_bytes commit_sum written
decode [] sum p ct r good gc fits =
    let T : List ℕ = to_be32 (xor ct p) in
    let c : ℕ = crc sum (to_be32 (xor ct p)) in
    let four : length (to_be32 (xor ct p)) ≡ 4 = length_to_be32 (xor ct p) in
    rw (
      append_assoc T (to_le32 c) r,
      read_chk sum p ct (to_le32 c) r (length_to_le32 c) gc fits,
      le32_to_le32 c r,
      eq-eqb c c refl,
      drop_at T (to_le32 c ++ r) 4 four,
      le32_to_le32 c r,
      past8 T (to_le32 c) r (tag_length ct) four (length_to_le32 c) gc.long,
    )
decode (i ∷ is) sum p ct r good gc fits =
    let T : List ℕ = to_be32 (xor i.tag p) in
    let d : List ℕ = i.body in
    let N : List ℕ = commit_bytes (crc sum (T ++ d)) i.tag is ct in
    let g : GoodItem i = good.0 in
    rw (
      append_assoc T (d ++ N) r,
      append_assoc d N r,
      read_ent sum p i.tag d (N
          ++ r) g.small g.entry g.long g.eight,
    )
    (ap (λ z. ent i.tag i.body ∷ z) (decode is (crc sum (T ++ d)) i.tag ct r good.1 gc fits))
