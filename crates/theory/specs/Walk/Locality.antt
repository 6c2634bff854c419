-- Locality: what the walk meets in front does not depend on what follows. So stores behind a log's end leave the log as
-- it is. Assumes nothing.
use Rattle.std.specs.Prelude.{◌≡◌, refl, Bool, true, false, cond, List, [], ◌∷◌, ◌++◌, ℕ, ◌+◌, ◌-◌, ◌≤◌, length, take, drop}
use Rattle.std.proofs.Common.{sym, ◌∙◌, arith, length-drop, length-append}
use Rattle.std.proofs.lemmas.List.{drop-append-le, take-append-le}
use Rattle.format.specs.Word.{be32, le32, all_ones}
use Rattle.format.specs.Tag.{tag_length, tag_flipped}
use Rattle.format.specs.Kind.{is_check, is_wide}
use Rattle.format.specs.Crc.{crc}
use Rattle.format.specs.Walk.{Event, read_behind, body_length, walk_from, ent, chk, inv}
use Rattle.format.proofs.Words.{tag_length_ge}
use Rattle.format.proofs.Classes.{behind_check}
use Rattle.theory.specs.Walk.Step.{meets_entry, entry_met, meets_check, check_met}

-- ---- what is read of an entry lies in n bytes, if the entry does and, where eight are read, twelve do
body_fits : (t n : ℕ) → (is_wide t ≡ true → 12 ≤ n) → tag_length t ≤ n → 4 + body_length t ≤ n
unfolding body_length
body_fits t n wide h = go (is_wide t) wide
  where
    go : (w : Bool) → (w ≡ true → 12 ≤ n) → 4 + cond w 8 (tag_length t - 4) ≤ n
    go true k = omega (arith, k refl)
    go false k = omega (arith, tag_length_ge t)

reach_fits : (t n : ℕ) → is_check t ≡ false → (is_wide t ≡ true → 12 ≤ n) → tag_length t ≤ n → 4 + read_behind t ≤ n
unfolding read_behind
reach_fits t n plain wide h = rw plain (go (is_wide t) wide)
  where
    go : (w : Bool) → (w ≡ true → 12 ≤ n) → 4 + cond w 8 0 ≤ n
    go true k = omega (arith, k refl)
    go false k = omega (arith, tag_length_ge t)

-- ---- reads that stay in front

pub be32_front : (a x y : List ℕ) → 4 ≤ length a → be32 (a ++ x) ≡ be32 (a ++ y)
unfolding be32
be32_front [] x y h = absurd (omega arith)
be32_front (b ∷ []) x y h = absurd (omega arith)
be32_front (b ∷ c ∷ []) x y h = absurd (omega arith)
be32_front (b ∷ c ∷ d ∷ []) x y h = absurd (omega arith)
be32_front (b ∷ c ∷ d ∷ e ∷ a) x y h = refl

pub le32_front : (a x y : List ℕ) → 4 ≤ length a → le32 (a ++ x) ≡ le32 (a ++ y)
unfolding le32
le32_front [] x y h = absurd (omega arith)
le32_front (b ∷ []) x y h = absurd (omega arith)
le32_front (b ∷ c ∷ []) x y h = absurd (omega arith)
le32_front (b ∷ c ∷ d ∷ []) x y h = absurd (omega arith)
le32_front (b ∷ c ∷ d ∷ e ∷ a) x y h = refl

data_front : (n : ℕ) (a x y : List ℕ) → 4 + n ≤ length a → take n (drop 4 (a ++ x)) ≡ take n (drop 4 (a ++ y))
data_front n a x y h =
    let l : n ≤ length (drop 4 a) = omega (arith, length-drop 4 a) in
    let l4 : 4 ≤ length a = omega arith in
    rw (
      drop-append-le 4 a x l4,
      drop-append-le 4 a y l4,
      take-append-le n (drop 4 a) x l,
      take-append-le n (drop 4 a) y l,
    )

-- an entry that lies in front is read alike whatever follows
pub head_ent : (sum prev t : ℕ) (d : List ℕ) (rest : List Event) (a x y : List ℕ)
    → walk_from sum prev (a ++ x) ≡ ent t d ∷ rest → (is_wide t ≡ true → 12 ≤ length a) → tag_length t ≤ length a
    → (rest ≡ walk_from (crc sum (take (tag_length t) a)) t (drop (tag_length t) a ++ x))
    × (walk_from sum prev (a ++ y) ≡ ent t d ∷ walk_from (crc sum (take (tag_length t) a)) t (drop (tag_length t) a ++ y))
head_ent sum prev t d rest a x y e wide fits =
    let m = meets_entry sum prev (a ++ x) t d rest e in
    let four : 4 ≤ length a = omega (arith, tag_length_ge t) in (
      rw (take-append-le (tag_length t) a x fits, drop-append-le (tag_length t) a x fits) at m.next,
      entry_met sum prev (a ++ y) t d (walk_from (crc sum (take (tag_length t) a)) t (drop (tag_length t) a ++ y))
          (record {
            raw = rw (be32_front a y x four) m.raw;
            whole = record {
              small = m.whole.small;
              fits = omega (arith, length-append a y);
              reach = omega (arith, length-append a y, reach_fits t (length a) m.plain wide fits);
            };
            plain = m.plain;
            bytes = m.bytes ∙ data_front (body_length t) a x y (body_fits t (length a) wide fits);
            next = rw (take-append-le (tag_length t) a y fits, drop-append-le (tag_length t) a y fits);
          }),
    )

-- and so is a check
pub head_chk : (sum prev t c : ℕ) (rest : List Event) (a x y : List ℕ)
    → walk_from sum prev (a ++ x) ≡ chk t c ∷ rest → 8 ≤ length a → tag_length t ≤ length a
    → (rest ≡ walk_from all_ones (tag_flipped t) (drop (tag_length t) a ++ x))
    × (walk_from sum prev (a ++ y) ≡ chk t c ∷ walk_from all_ones (tag_flipped t) (drop (tag_length t) a ++ y))
head_chk sum prev t c rest a x y e eight fits =
    let m = meets_check sum prev (a ++ x) t c rest e in
    let four : 4 ≤ length a = omega arith in
    let tag : take 4 (a ++ y) ≡ take 4 (a ++ x) = rw (take-append-le 4 a x four, take-append-le 4 a y four) in
    let stored : le32 (drop 4 (a ++ y)) ≡ le32 (drop 4 (a ++ x))
    = rw (drop-append-le 4 a x four, drop-append-le 4 a y four)
    (le32_front (drop 4 a) y x (omega (arith, length-drop 4 a))) in (
      rw (drop-append-le (tag_length t) a x fits) at m.next,
      check_met sum prev (a ++ y) t c (walk_from all_ones (tag_flipped t) (drop (tag_length t) a ++ y))
          (record {
            raw = rw (be32_front a y x four) m.raw;
            whole = record {
              small = m.whole.small;
              fits = omega (arith, length-append a y);
              reach = omega (arith, length-append a y, behind_check t m.is);
            };
            is = m.is;
            fits = rw (tag, stored) m.fits;
            stored = m.stored ∙ sym stored;
            next = rw (drop-append-le (tag_length t) a y fits);
          }),
    )

-- ---- lists of events

abbrev pub Contained : Event → Type 0
Contained (ent t d) = is_wide t ≡ true → 12 ≤ tag_length t
Contained (chk t c) = 8 ≤ tag_length t
Contained inv = ⊥

abbrev pub AllContained : List Event → Type 0
AllContained [] = Unit {0}
AllContained (e ∷ es) = Contained e × AllContained es
