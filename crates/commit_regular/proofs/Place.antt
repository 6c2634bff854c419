-- What stands at a place of the committed log: an entry or a check, or nothing any more. Assumes nothing.
use mathlib.Core.Path.{◌≡◌, refl, sym, ap, ◌∙◌}
use mathlib.Core.Logic.{◌⊎◌, inl, inr}
use mathlib.Core.Bool.{Bool, true, false}
use mathlib.Core.List.{List, [], ◌∷◌}
use Prim.Native.Nat.{ℕ, ◌+◌, ◌≤◌, ◌<◌}
use native.Mathlib.Omega.{arith}
use lib.ListN.{length, drop}
use Rattle.format.specs.Tag.{tag_length, tag_flipped}
use Rattle.format.specs.Kind.{is_check}
use Rattle.format.specs.Walk.{Event, ent, chk, body_of}
use Rattle.format.specs.Log.{kept_before, committed, span, event_length}
use Rattle.format.proofs.Words.{tag_length_ge}
use Rattle.format.proofs.Classes.{Whole}
use Rattle.fetch_walk.specs.Next.{next_of, tag_at}
use Rattle.fetch_walk.specs.State.{from}
use Rattle.fetch_walk.specs.declared.cursor.Cursor.{Cursor}
use Rattle.fetch_walk.specs.declared.cursor.Seen.{Seen}
use Rattle.fetch_walk.specs.declared.cursor.Seen.TheVariants.{Entry, Check, Invalid, Past}
use Rattle.fetch_walk.proofs.Seen.{follow, from_next, EntrySeen, entry_seen, check_seen_lem}

-- ---- what stands at a place
abbrev pub cursor : ℕ → ℕ → ℕ → Cursor
cursor at prev sum = record { at = at; prev = prev; sum = sum }

-- what is committed from there on
abbrev pub rest : List ℕ → ℕ → ℕ → ℕ → List Event
rest b at prev sum = committed (from b (cursor at prev sum))

abbrev pub tag_on : List ℕ → ℕ → ℕ → ℕ
tag_on b at prev = tag_at b (cursor at prev 0)

-- the event e, and what is committed behind it, where the previous tag is p
pub record Behind (b : List ℕ) (at prev sum p : ℕ) (e : Event) : Type 0 where
  pub next : ℕ
  pub is : rest b at prev sum ≡ e ∷ rest b (at + tag_length (tag_on b at prev)) p next

pub record Met (b : List ℕ) (at prev sum : ℕ) : Type 0 where
  pub whole : Whole (tag_on b at prev) (length (drop at b))
  pub stored : ℕ
  pub entry : is_check (tag_on b at prev) ≡ false → Behind b at prev sum (tag_on b at prev)
      (ent (tag_on b at prev) (body_of (tag_on b at prev) (drop at b)))
  pub check : is_check (tag_on b at prev) ≡ true → Behind b at prev sum (tag_flipped (tag_on b at prev))
      (chk (tag_on b at prev) stored)

not_both : {A : Type 0} {x : Bool} → x ≡ true → x ≡ false → A
not_both e f = absurd (let z : ◌≡◌ {A = ℕ} 0 1 = cc in omega arith)

-- nothing is committed any more, or a check or an entry is met
module _ (b : List ℕ) (at prev sum : ℕ) where
  c : Cursor
  c = cursor at prev sum

  t : ℕ
  t = tag_on b at prev

  -- an entry that was seen is committed, if something behind it is
  entry_met : (d : Cursor) → next_of b c ≡ Entry t d → (rest b at prev sum ≡ []) ⊎ Met b at prev sum
  unfolding committed c t
  entry_met d e = go (committed (from b d)) refl
    where
      s : EntrySeen b c t d
      s = entry_seen b c e

      e' : Event
      e' = ent t (body_of t (drop at b))

      is : rest b at prev sum ≡ kept_before e' (committed (from b d))
      is = ap committed (from_next b c ∙ ap (follow b c) e)

      there : d ≡ cursor (at + tag_length t) t d.sum
      there = λ i. record { at = s.end i; prev = s.prev i; sum = d.sum }

      go : (l : List Event) → committed (from b d) ≡ l → (rest b at prev sum ≡ []) ⊎ Met b at prev sum
      go [] h = inl (is ∙ ap (kept_before e') h)
      go (x ∷ l) h = inr (record {
        whole = s.whole;
        stored = 0;
        entry = λ k. record {
          next = d.sum;
          is = is ∙ ap (kept_before e') h ∙ ap (λ (y : List Event). e' ∷ y) (sym h)
              ∙ ap (λ (y : Cursor). e' ∷ committed (from b y)) there;
        };
        check = λ k. not_both k s.plain;
      })

  meets : (rest b at prev sum ≡ []) ⊎ Met b at prev sum
  unfolding committed c t
  meets = go (next_of b c) refl
    where
      go : (s : Seen) → next_of b c ≡ s → (rest b at prev sum ≡ []) ⊎ Met b at prev sum
      go Past e = inl (ap committed (from_next b c ∙ ap (follow b c) e))
      go Invalid e = inl (ap committed (from_next b c ∙ ap (follow b c) e))
      go (Entry u d) e = entry_met d (e ∙ ap (λ (y : ℕ). Entry y d) (entry_seen b c e).tag)
      go (Check x d) e =
          let s = check_seen_lem b c e in
          let there : d ≡ cursor (at + tag_length t) (tag_flipped t) d.sum =
          λ i. record { at = s.end i; prev = s.prev i; sum = d.sum } in
          inr (record {
            whole = s.whole;
            stored = x;
            entry = λ k. not_both s.is k;
            check = λ k. record {
              next = d.sum;
              is = ap committed (from_next b c ∙ ap (follow b c) e)
                  ∙ ap (λ (y : Cursor). chk t x ∷ committed (from b y)) there;
            };
          })

  -- so a tag stands there, as long as the log has not ended
  met_long : Met b at prev sum → 4 ≤ span (rest b at prev sum)
  unfolding span event_length t
  met_long m = go (is_check t) refl
    where
      go : (x : Bool) → is_check t ≡ x → 4 ≤ span (rest b at prev sum)
      go true e = rw (m.check e).is (omega (arith, tag_length_ge t))
      go false e = rw (m.entry e).is (omega (arith, tag_length_ge t))

  pub more_met : (end : ℕ) → at + span (rest b at prev sum) ≡ end → at < end → Met b at prev sum
  unfolding span
  more_met end e l = go meets
    where
      go : (rest b at prev sum ≡ []) ⊎ Met b at prev sum → Met b at prev sum
      go (inl h) = absurd (let z : span (rest b at prev sum) ≡ 0 = ap span h in omega arith)
      go (inr m) = m

  pub none_left : (end : ℕ) → at + span (rest b at prev sum) ≡ end → end ≤ at → rest b at prev sum ≡ []
  none_left end e l = go meets
    where
      go : (rest b at prev sum ≡ []) ⊎ Met b at prev sum → rest b at prev sum ≡ []
      go (inl h) = h
      go (inr m) = absurd (omega (arith, met_long m))
