-- What stands at a cursor: from the tests that the code makes, and back; and the bridge, that a cursor's step is a step
-- of format's walk. Assumes nothing.
use mathlib.Core.Path.{◌≡◌, refl, sym, ap, ◌∙◌}
use mathlib.Core.Bool.{Bool, true, false, cond}
use mathlib.Core.List.{List, [], ◌∷◌}
use Prim.Native.Nat.{ℕ, ◌+◌, ◌-◌, ◌^◌, ◌<◌, ◌≤◌}
use native.Mathlib.Omega.{arith}
use lib.Bits.{bit_xor}
use lib.Dec.{eqb}
use lib.ListN.{length, take, drop, length-drop}
use lib.Seq.{drop-drop}
use borrow.Author.Tests.{eq-eqb, ne_eqb}
use Rattle.format.specs.Word.{be32, le32, xor, all_ones}
use Rattle.format.specs.Tag.{tag_size, tag_delete, tag_length, tag_flipped}
use Rattle.format.specs.Kind.{is_check}
use Rattle.format.specs.Crc.{crc}
use Rattle.format.specs.Walk.{Event, ent, chk, inv, Class, past, invalid, check, entry, read_behind, class_of, body_of}
use Rattle.format.specs.Walk.{checked, step_of, walk_from}
use Rattle.format.proofs.Walk.{walk_step}
use Rattle.format.proofs.Classes.{class_short, class_invalid, class_long, class_unread, class_check, class_entry, Whole}
use Rattle.format.proofs.Classes.{check_says, entry_says}
use Rattle.fetch_walk.specs.Next.{next_of, tag_seen, checked_as, check_seen, seen_as, after_check, after_entry, tag_at}
use Rattle.fetch_walk.specs.State.{from}
use Rattle.fetch_walk.specs.declared.cursor.Cursor.{Cursor}
use Rattle.fetch_walk.specs.declared.cursor.Seen.{Seen}
use Rattle.fetch_walk.specs.declared.cursor.Seen.TheVariants.{Entry, Check, Invalid, Past}

-- the longest entry
pub length_most : (t : ℕ) → tag_length t ≤ 1_026
unfolding tag_length
length_most t = go (tag_delete t) refl
  where
    go : (d : Bool) → tag_delete t ≡ d → cond d 4 (4 + tag_size t) ≤ 1_026
    go true e = omega arith
    go false e = let n : tag_size t ≡ 0x3ff → ⊥ = λ q. apart (sym e ∙ eq-eqb (tag_size t) 0x3ff q) in omega arith
      where
        apart : false ≡ true → ⊥
        apart q = let z : ◌≡◌ {A = ℕ} 0 1 = cc in omega arith

-- ---- the tag at a place, from the tests in order
module _ (b : List ℕ) (at t sum : ℕ) where
  pub seen_short : length b < at + 4 → Past ≡ tag_seen b at t sum
  unfolding tag_seen
  seen_short h = rw (class_short t (length (drop at b)) (omega (arith, length-drop at b)))

  module _ (room : at + 4 ≤ length b) where
    four : 4 ≤ length (drop at b)
    four = omega (arith, length-drop at b)

    pub seen_invalid : 2 ^ 31 ≤ t → Invalid ≡ tag_seen b at t sum
    unfolding tag_seen
    seen_invalid h = rw (class_invalid t (length (drop at b)) four h)

    module _ (v : t < 2 ^ 31) where
      pub seen_long : length b < at + tag_length t → Past ≡ tag_seen b at t sum
      unfolding tag_seen
      seen_long h = rw (class_long t (length (drop at b)) four v (omega (arith, length-drop at b)))

      module _ (whole : at + tag_length t ≤ length b) where
        fits : tag_length t ≤ length (drop at b)
        fits = omega (arith, length-drop at b)

        pub seen_unread : length b < at + 4 + read_behind t → Past ≡ tag_seen b at t sum
        unfolding tag_seen
        seen_unread h = rw (class_unread t (length (drop at b)) four v fits (omega (arith, length-drop at b)))

        module _ (reach : at + 4 + read_behind t ≤ length b) where
          -- r is what `check_at` answers
          pub seen_check : (r : Seen) → r ≡ check_seen (drop at b) at t sum → is_check t ≡ true → r ≡ tag_seen b at t sum
          unfolding tag_seen
          seen_check r e h = e ∙ rw (class_check t (length (drop at b)) four v fits (omega (arith, length-drop at b)) h)

          -- r is what `entry_at` answers
          pub seen_entry : (r : Cursor) → r ≡ after_entry (drop at b) at t sum → is_check t ≡ false
              → Entry t r ≡ tag_seen b at t sum
          unfolding tag_seen
          seen_entry r e h = rw (e, class_entry t (length (drop at b)) four v fits (omega (arith, length-drop at b)) h)

-- w and r are what `be32` and `tag_at` answer
pub next_tag : (b : List ℕ) (c : Cursor) (w : ℕ) (r : Seen) → w ≡ be32 (drop c.at b)
    → r ≡ tag_seen b c.at (bit_xor w c.prev) c.sum
    → r ≡ next_of b c
unfolding next_of xor
next_tag b c w r ew er = cc

pub next_short : (b : List ℕ) (c : Cursor) → length b < c.at + 4 → Past ≡ next_of b c
unfolding next_of
next_short b c h = seen_short b c.at (tag_at b c) c.sum h

-- a part of a block that starts at `at` and is n bytes long, as the code cuts it
pub part : (b : List ℕ) (at n sum s : ℕ) → s ≡ crc sum (take (at + n - at) (drop at b))
    → s ≡ crc sum (take n (drop at b))
part b at n sum s e = let f : at + n - at ≡ n = omega arith in e ∙ ap (λ (k : ℕ). crc sum (take k (drop at b))) f

-- n and s are what `tag_length` and `lfs_crc` answer
pub entry_cursor : (b : List ℕ) (at t sum n s : ℕ) → n ≡ tag_length t → s ≡ crc sum (take (at + n - at) (drop at b))
    → record { at = at + n; prev = t; sum = s } ≡ after_entry (drop at b) at t sum
unfolding after_entry
entry_cursor b at t sum n s en es =
    let e : s ≡ crc sum (take (tag_length t) (drop at b)) = part b at n sum s es
    ∙ ap (λ (k : ℕ). crc sum (take k (drop at b))) en in
    λ i. record { at = at + en i; prev = t; sum = e i }

-- s and x are what `lfs_crc` and `le32` answer
module _ (b : List ℕ) (at t sum s x : ℕ) (es : s ≡ crc sum (take (at + 4 - at) (drop at b)))
    (ex : x ≡ le32 (drop (at + 4) b)) where
  pub check_differs : (s ≡ x → ⊥) → Past ≡ check_seen (drop at b) at t sum
  unfolding check_seen
  check_differs h = rw (drop-drop 4 at b, ← part b at 4 sum s es, ← ex, ne_eqb s x h)

  check_fits : s ≡ x → Check x (after_check at t) ≡ check_seen (drop at b) at t sum
  unfolding check_seen
  check_fits h = rw (drop-drop 4 at b, ← part b at 4 sum s es, ← ex, eq-eqb s x h)

  -- n and p are what `tag_length` and `flipped` answer
  pub check_cursor : s ≡ x → (n p : ℕ) → n ≡ tag_length t → p ≡ tag_flipped t
      → Check x (record { at = at + n; prev = p; sum = all_ones }) ≡ check_seen (drop at b) at t sum
  unfolding after_check
  check_cursor h n p en ep = (λ i. Check x (record { at = at + en i; prev = ep i; sum = all_ones })) ∙ check_fits h

-- ---- THE BRIDGE: a step of the cursor is a step of format's walk
abbrev pub follow : List ℕ → Cursor → Seen → List Event
follow b c (Entry t d) = ent t (body_of t (drop c.at b)) ∷ from b d
follow b c (Check x d) = chk (tag_at b c) x ∷ from b d
follow b c Invalid = inv ∷ []
follow b c Past = []

pub from_next : (b : List ℕ) (c : Cursor) → from b c ≡ follow b c (next_of b c)
unfolding from next_of tag_seen check_seen after_entry after_check
from_next b c = walk_step c.sum c.prev (drop c.at b) ∙ go (class_of (tag_at b c) (length (drop c.at b)))
  where
    t : ℕ
    t = tag_at b c

    rest : List ℕ
    rest = drop c.at b

    go : (k : Class) → step_of walk_from k t c.sum rest ≡ follow b c (seen_as k rest c.at t c.sum)
    go past = refl
    go invalid = refl
    go entry = rw (drop-drop (tag_length t) c.at b)
    go check = fit (eqb (crc c.sum (take 4 rest)) (le32 (drop 4 rest)))
      where
        fit : (q : Bool) → checked walk_from q t rest ≡ follow b c (checked_as q (le32 (drop 4 rest)) c.at t)
        fit true = rw (drop-drop (tag_length t) c.at b)
        fit false = refl

-- ---- and back: what was seen
pub record EntrySeen (b : List ℕ) (c : Cursor) (t : ℕ) (d : Cursor) : Type 0 where
  pub tag : t ≡ tag_at b c
  pub whole : Whole t (length (drop c.at b))
  pub plain : is_check t ≡ false
  pub end : d.at ≡ c.at + tag_length t
  pub prev : d.prev ≡ t
  pub sum : d.sum ≡ crc c.sum (take (tag_length t) (drop c.at b))

pub record CheckSeen (b : List ℕ) (c : Cursor) (d : Cursor) : Type 0 where
  pub whole : Whole (tag_at b c) (length (drop c.at b))
  pub is : is_check (tag_at b c) ≡ true
  pub end : d.at ≡ c.at + tag_length (tag_at b c)
  pub prev : d.prev ≡ tag_flipped (tag_at b c)
  pub sum : d.sum ≡ all_ones

apart : {A : Type 0} → ◌≡◌ {A = ℕ} 0 1 → A
apart e = absurd (omega arith)

module _ (b : List ℕ) (c : Cursor) where
  u : ℕ
  u = tag_at b c

  rest : List ℕ
  rest = drop c.at b

  stored : ℕ
  stored = le32 (drop 4 (drop c.at b))

  pub entry_seen : {t : ℕ} {d : Cursor} → next_of b c ≡ Entry t d → EntrySeen b c t d
  unfolding next_of tag_seen check_seen after_entry u rest stored
  entry_seen {t} {d} e = go (class_of u (length rest)) refl e
    where
      go : (k : Class) → class_of u (length rest) ≡ k → seen_as k rest c.at u c.sum ≡ Entry t d → EntrySeen b c t d
      go past k q = apart (cc)
      go invalid k q = apart (cc)
      go check k q = fit (eqb (crc c.sum (take 4 rest)) stored) q
        where
          fit : (z : Bool) → checked_as z stored c.at u ≡ Entry t d → EntrySeen b c t d
          fit true q = apart (cc)
          fit false q = apart (cc)
      go entry k q =
          let eu : u ≡ t = cc in
          let ed : after_entry rest c.at u c.sum ≡ d = cc in
          let w = entry_says u (length rest) k in
          record {
            tag = sym eu;
            whole = rw eu at w.0;
            plain = rw eu at w.1;
            end = sym (ap (λ (y : Cursor). y.at) ed) ∙ ap (λ (y : ℕ). c.at + tag_length y) eu;
            prev = sym (ap (λ (y : Cursor). y.prev) ed) ∙ eu;
            sum = sym (ap (λ (y : Cursor). y.sum) ed)
                ∙ ap (λ (y : ℕ). crc c.sum (take (tag_length y) rest)) eu;
          }

  pub check_seen_lem : {x : ℕ} {d : Cursor} → next_of b c ≡ Check x d → CheckSeen b c d
  unfolding next_of tag_seen check_seen after_check u rest stored
  check_seen_lem {x} {d} e = go (class_of u (length rest)) refl e
    where
      go : (k : Class) → class_of u (length rest) ≡ k → seen_as k rest c.at u c.sum ≡ Check x d → CheckSeen b c d
      go past k q = apart (cc)
      go invalid k q = apart (cc)
      go entry k q = apart (cc)
      go check k q = fit (eqb (crc c.sum (take 4 rest)) stored) q
        where
          fit : (z : Bool) → checked_as z stored c.at u ≡ Check x d → CheckSeen b c d
          fit false q = apart (cc)
          fit true q =
              let ed : after_check c.at u ≡ d = cc in
              let w = check_says u (length rest) k in
              record {
                whole = w.0;
                is = w.1;
                end = sym (ap (λ (y : Cursor). y.at) ed);
                prev = sym (ap (λ (y : Cursor). y.prev) ed);
                sum = sym (ap (λ (y : Cursor). y.sum) ed);
              }
