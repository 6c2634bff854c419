-- One step of the walk, both ways: what an event that was met says of the bytes, and which bytes make the walk meet it.
-- Assumes nothing.
use Rattle.std.proofs.Math.Path.{◌≡◌, refl, sym}
use Rattle.std.proofs.Common.{◌∙◌, length-drop, length-take-le}
use Rattle.std.specs.Prelude.{Bool, cond, ◌&&◌, ℕ, ◌-◌, ◌≤◌, length, take, drop}
use Rattle.std.proofs.Math.Bool.{true, false}
use mathlib.Core.List.{List, [], ◌∷◌}
use native.Mathlib.Omega.{arith}
use Rattle.std.proofs.Math.Dec.{eqb}
use Rattle.format.specs.Word.{be32, le32, xor, all_ones}
use Rattle.format.specs.Tag.{tag_length, tag_flipped}
use Rattle.format.specs.Kind.{is_check, is_wide}
use Rattle.format.specs.Crc.{crc}
use Rattle.format.specs.Walk.{Event, Class, read_behind, class_of, body_length, body_of, checked, step_of, walk_from, ent}
use Rattle.format.specs.Walk.{chk, inv, past, invalid, check, entry}
use Rattle.format.proofs.Words.{tag_length_ge}
use Rattle.format.proofs.Walk.{walk_step}
use Rattle.format.proofs.Classes.{Whole, class_entry, class_check, entry_says, check_says, behind_wide}

-- a test is not both
pub not_true : (b : Bool) → b ≡ false → b ≡ true → ⊥
not_true b h k = let z : ◌≡◌ {A = ℕ} 0 1 = cc in omega arith

-- and two tests hold where their conjunction does
pub both_true : (a b : Bool) → a && b ≡ true → (a ≡ true) × (b ≡ true)
both_true true b h = (refl, h)
both_true false b h = (cc, cc)

-- the walk over `rest` meets an entry t with the bytes d first, and then es
pub record MeetsEntry (sum prev : ℕ) (rest : List ℕ) (t : ℕ) (d : List ℕ) (es : List Event) : Type 0 where
  pub raw : xor (be32 rest) prev ≡ t
  pub whole : Whole t (length rest)
  pub plain : is_check t ≡ false
  pub bytes : d ≡ body_of t rest
  pub next : es ≡ walk_from (crc sum (take (tag_length t) rest)) t (drop (tag_length t) rest)

-- the walk over `rest` meets a check t first that fits, with the checksum c, and then es
pub record MeetsCheck (sum prev : ℕ) (rest : List ℕ) (t c : ℕ) (es : List Event) : Type 0 where
  pub raw : xor (be32 rest) prev ≡ t
  pub whole : Whole t (length rest)
  pub is : is_check t ≡ true
  pub fits : eqb (crc sum (take 4 rest)) (le32 (drop 4 rest)) ≡ true
  pub stored : c ≡ le32 (drop 4 rest)
  pub next : es ≡ walk_from all_ones (tag_flipped t) (drop (tag_length t) rest)

-- ---- from the bytes to what is met
pub entry_met : (sum prev : ℕ) (rest : List ℕ) (t : ℕ) (d : List ℕ) (es : List Event) → MeetsEntry sum prev rest t d es
    → walk_from sum prev rest ≡ ent t d ∷ es
entry_met sum prev rest t d es m =
    let w : Whole t (length rest) = m.whole in
    walk_step sum prev rest
    ∙ rw (
      m.raw,
      class_entry t (length rest) (omega (arith, tag_length_ge t)) w.small w.fits w.reach m.plain,
      ← m.bytes,
      ← m.next,
    )

-- a check: what comes of it hangs on the stored checksum alone
pub check_read : (sum prev : ℕ) (rest : List ℕ) (t : ℕ) → xor (be32 rest) prev ≡ t → Whole t (length rest)
    → is_check t ≡ true
    → walk_from sum prev rest ≡ checked walk_from (eqb (crc sum (take 4 rest)) (le32 (drop 4 rest))) t rest
check_read sum prev rest t raw w is =
    walk_step sum prev rest ∙ rw (
      raw,
      class_check t (length rest) (omega (arith, tag_length_ge t)) w.small w.fits w.reach is,
    )

pub check_met : (sum prev : ℕ) (rest : List ℕ) (t c : ℕ) (es : List Event) → MeetsCheck sum prev rest t c es
    → walk_from sum prev rest ≡ chk t c ∷ es
check_met sum prev rest t c es m = check_read sum prev rest t m.raw m.whole m.is
    ∙ rw (m.fits, ← m.stored, ← m.next)

-- ---- and back
module _ (sum prev : ℕ) (rest : List ℕ) where
  raw : ℕ
  raw = xor (be32 rest) prev

  pub meets_entry : (t : ℕ) (d : List ℕ) (es : List Event) → walk_from sum prev rest ≡ ent t d ∷ es
      → MeetsEntry sum prev rest t d es
  unfolding raw
  meets_entry t d es e = go (class_of raw (length rest)) refl (sym (walk_step sum prev rest) ∙ e)
    where
      go : (K : Class) → class_of raw (length rest) ≡ K → step_of walk_from K raw sum rest ≡ ent t d ∷ es
          → MeetsEntry sum prev rest t d es
      go past k q = absurd (let z : ◌≡◌ {A = ℕ} 0 1 = cc in omega arith)
      go invalid k q = absurd (let z : ◌≡◌ {A = ℕ} 0 1 = cc in omega arith)
      go check k q = absurd (fin (eqb (crc sum (take 4 rest)) (le32 (drop 4 rest))) q)
        where
          fin : (c : Bool) → checked walk_from c raw rest ≡ ent t d ∷ es → ⊥
          fin true q = let z : ◌≡◌ {A = ℕ} 0 1 = cc in omega arith
          fin false q = let z : ◌≡◌ {A = ℕ} 0 1 = cc in omega arith
      go entry k q =
          let er : raw ≡ t = cc in
          let ed : body_of raw rest ≡ d = cc in
          let en : walk_from (crc sum (take (tag_length raw) rest)) raw (drop (tag_length raw) rest) ≡ es = cc in
          let says = entry_says raw (length rest) k in
          record {
            raw = er;
            whole = rw er at says.0;
            plain = rw er at says.1;
            bytes = sym (rw er at ed);
            next = sym (rw er at en);
          }

  pub meets_check : (t c : ℕ) (es : List Event) → walk_from sum prev rest ≡ chk t c ∷ es
      → MeetsCheck sum prev rest t c es
  unfolding raw
  meets_check t c es e = go (class_of raw (length rest)) refl (sym (walk_step sum prev rest) ∙ e)
    where
      go : (K : Class) → class_of raw (length rest) ≡ K → step_of walk_from K raw sum rest ≡ chk t c ∷ es
          → MeetsCheck sum prev rest t c es
      go past k q = absurd (let z : ◌≡◌ {A = ℕ} 0 1 = cc in omega arith)
      go invalid k q = absurd (let z : ◌≡◌ {A = ℕ} 0 1 = cc in omega arith)
      go check k q = fin (eqb (crc sum (take 4 rest)) (le32 (drop 4 rest))) refl q
        where
          fin : (f : Bool) → eqb (crc sum (take 4 rest)) (le32 (drop 4 rest)) ≡ f
              → checked walk_from f raw rest ≡ chk t c ∷ es → MeetsCheck sum prev rest t c es
          fin true f q =
              let er : raw ≡ t = cc in
              let ec : le32 (drop 4 rest) ≡ c = cc in
              let en : walk_from all_ones (tag_flipped raw) (drop (tag_length raw) rest) ≡ es = cc in
              let says = check_says raw (length rest) k in
              record {
                raw = er;
                whole = rw er at says.0;
                is = rw er at says.1;
                fits = f;
                stored = sym ec;
                next = sym (rw er at en);
              }
          fin false f q = absurd (let z : ◌≡◌ {A = ℕ} 0 1 = cc in omega arith)
      go entry k q = absurd (let z : ◌≡◌ {A = ℕ} 0 1 = cc in omega arith)

  -- an invalid tag is the last
  pub meets_invalid : (es : List Event) → walk_from sum prev rest ≡ inv ∷ es → es ≡ []
  unfolding raw
  meets_invalid es e = go (class_of raw (length rest)) (sym (walk_step sum prev rest) ∙ e)
    where
      go : (K : Class) → step_of walk_from K raw sum rest ≡ inv ∷ es → es ≡ []
      go past q = cc
      go invalid q = cc
      go check q = fin (eqb (crc sum (take 4 rest)) (le32 (drop 4 rest))) q
        where
          fin : (c : Bool) → checked walk_from c raw rest ≡ inv ∷ es → es ≡ []
          fin true q = cc
          fin false q = cc
      go entry q = cc

-- an entry's bytes are as many as are read of it
pub entry_length : {sum prev t : ℕ} {rest d : List ℕ} {es : List Event} → MeetsEntry sum prev rest t d es
    → length d ≡ body_length t
unfolding body_length read_behind
entry_length {sum} {prev} {t} {rest} {d} {es} m =
    let l : length (take (body_length t) (drop 4 rest)) ≡ body_length t =
    length-take-le (body_length t) (drop 4 rest) (room (is_wide t) refl) in
    rw m.bytes l
  where
    room : (w : Bool) → is_wide t ≡ w → cond w 8 (tag_length t - 4) ≤ length (drop 4 rest)
    room true e = omega (arith, behind_wide t m.plain e, m.whole.reach, length-drop 4 rest)
    room false e = omega (arith, tag_length_ge t, m.whole.fits, length-drop 4 rest)
