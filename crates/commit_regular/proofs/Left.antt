-- A step over the tags of a log: nothing is left, or one event is met and the others are left behind it. Assumes
-- nothing.
use mathlib.Core.Path.{◌≡◌, refl, sym, ap, ◌∙◌}
use mathlib.Core.Logic.{∥∥₁_elim}
use mathlib.Core.Bool.{Bool, true, false}
use mathlib.Core.List.{List, [], ◌∷◌}
use Prim.Native.Nat.{ℕ, ◌+◌, ◌^◌, ◌≤◌, ◌<◌}
use native.Mathlib.Bridge.{le_prop}
use native.Mathlib.Omega.{arith}
use lib.ListN.{length, take, drop, length-drop}
use lib.Bits.{bit_xor}
use Rattle.format.specs.Word.{be32, xor, all_ones}
use Rattle.format.specs.Crc.{crc}
use Rattle.format.specs.Tag.{tag_length, tag_flipped}
use Rattle.format.specs.Kind.{is_check}
use Rattle.format.specs.Walk.{Event, walk}
use Rattle.format.specs.Log.{log, span, event_length}
use Rattle.format.proofs.Words.{tag_length_ge}
use Rattle.format.proofs.Classes.{Whole}
use Rattle.fetch_walk.specs.State.{from}
use Rattle.commit_regular.specs.Ends.{CommittedTo, committed_from, Onwards}
use Rattle.commit_regular.specs.Left.{On, left, event_of, Stands, Meets}
use Rattle.commit_regular.specs.declared.tags.Logged.{Logged}
use Rattle.commit_regular.specs.declared.tags.Logged.TheVariants.{Entry, Check}
use Rattle.commit_regular.specs.declared.tags.Tags.{Tags}
use Rattle.commit_regular.proofs.Place.{tag_on, Behind, Met, more_met, none_left}

-- at the beginning all of the log is left
module _ (b : List ℕ) (end : ℕ) (k : CommittedTo b end) where
  pub starts : Onwards b 4 all_ones end
  unfolding log walk
  starts = record { sum = crc all_ones (take 4 b); ends = sym k.ends }

  pub starts_whole : log b ≡ committed_from b 4 all_ones starts.sum
  unfolding log walk starts
  starts_whole = refl

-- the log's end, from behind an event
ends_on : (at n end : ℕ) (l k : List Event) (x : Event) → at + span l ≡ end → l ≡ x ∷ k → event_length x ≡ n
    → at + n + span k ≡ end
unfolding span
ends_on at n end l k x e h m = let z : span l ≡ event_length x + span k = ap span h in omega arith

-- behind m, which is met at s, the tags go on from a place at' behind a tag p
pub record Goes (s : Tags) (k : On s) (m : Logged) (at' p : ℕ) : Type 0 where
  pub stored : ℕ
  pub behind : Onwards s.b.now at' p s.end
  pub is : left s k.sum ≡ event_of s.b.now m stored ∷ committed_from s.b.now at' p behind.sum
  pub stands : Stands s m
  pub on : at' ≡ s.at + event_length (event_of s.b.now m stored)

-- s' is what is left there
pub goes_on : (s : Tags) (k : On s) (m : Logged) (at' p : ℕ) → Goes s k m at' p → (s' : Tags) → s'.b.now ≡ s.b.now
    → s'.at ≡ at' → s'.prev ≡ p → s'.end ≡ s.end → Meets s k m s'
goes_on s k m at' p g s' eb ea ep ee = record {
  stored = g.stored;
  behind = record { sum = g.behind.sum; ends = rw (eb, ea, ep, ee) g.behind.ends };
  is = g.is ∙ rw (eb, ea, ep);
  stands = g.stands;
  block = eb;
  on = ea ∙ g.on;
}

module _ (s : Tags) (k : On s) where
  pub over : s.end ≤ s.at → left s k.sum ≡ []
  unfolding from
  over h = none_left s.b.now s.at s.prev k.sum s.end k.ends h

  module _ (more : s.at < s.end) where
    met : Met s.b.now s.at s.prev k.sum
    unfolding from
    met = more_met s.b.now s.at s.prev k.sum s.end k.ends more

    word_inside : s.at + 4 ≤ length s.b.now
    word_inside = omega (arith, length-drop s.at s.b.now, met.whole.fits, tag_length_ge (tag_on s.b.now s.at s.prev))

    -- w is the word that was read
    module _ (w : ℕ) (ew : w ≡ be32 (drop s.at s.b.now)) where
      same : bit_xor w s.prev ≡ tag_on s.b.now s.at s.prev
      unfolding xor
      same = ap (λ (y : ℕ). bit_xor y s.prev) ew

      whole : Whole (bit_xor w s.prev) (length (drop s.at s.b.now))
      whole = rw same met.whole

      tag_inside : s.at + tag_length (bit_xor w s.prev) ≤ length s.b.now
      tag_inside = omega (arith, length-drop s.at s.b.now, whole.fits, tag_length_ge (bit_xor w s.prev))

      -- n is the tag's length, x whether it is a check
      module _ (n : ℕ) (en : n ≡ tag_length (bit_xor w s.prev)) (x : Bool) (ex : x ≡ is_check (bit_xor w s.prev)) where
        long : n ≡ tag_length (tag_on s.b.now s.at s.prev)
        long = en ∙ ap tag_length same

        plain : (y : Bool) → x ≡ y → is_check (tag_on s.b.now s.at s.prev) ≡ y
        plain y h = ap is_check (sym same) ∙ sym ex ∙ h

        goes : (m : Logged) (y p : ℕ) → Behind s.b.now s.at s.prev k.sum p (event_of s.b.now m y)
            → event_length (event_of s.b.now m y) ≡ tag_length (bit_xor w s.prev) → Stands s m → Goes s k m (s.at + n) p
        unfolding from
        goes m y p o l stands = record {
          stored = y;
          behind = record {
            sum = o.next;
            ends = rw long (ends_on s.at (tag_length (tag_on s.b.now s.at s.prev)) s.end _ _ (event_of s.b.now m y)
                k.ends o.is (l ∙ ap tag_length same));
          };
          is = o.is ∙ rw long;
          stands = stands;
          on = ap (λ (z : ℕ). s.at + z) (en ∙ sym l);
        }

        -- f is the tag with its flipped bit
        pub check_goes : x ≡ true → (f : ℕ) → f ≡ tag_flipped (bit_xor w s.prev)
            → Goes s k (Check (bit_xor w s.prev)) (s.at + n) f
        unfolding event_length
        check_goes h f ef = goes (Check (bit_xor w s.prev)) met.stored f (rw (ef, same) (met.check (plain true h))) refl
            whole.small

        pub entry_goes : x ≡ false → Goes s k (Entry (bit_xor w s.prev) s.at) (s.at + n) (bit_xor w s.prev)
        unfolding event_length
        entry_goes h = goes (Entry (bit_xor w s.prev) s.at) 0 (bit_xor w s.prev) (rw same (met.entry (plain false h))) refl
            (refl, tag_inside, whole.small)

-- what the code asks, whatever the checksum is
module _ (s : Tags) (more : s.at < s.end) where
  pub word_fits : s.at + 4 ≤ length s.b.now
  word_fits = ∥∥₁_elim s.onwards le_prop (λ k. word_inside s k more)

  module _ (w : ℕ) (ew : w ≡ be32 (drop s.at s.b.now)) where
    pub tag_fits : s.at + tag_length (bit_xor w s.prev) ≤ length s.b.now
    tag_fits = ∥∥₁_elim s.onwards le_prop (λ k. tag_inside s k more w ew)

    pub tag_small : bit_xor w s.prev < 2 ^ 31
    tag_small = ∥∥₁_elim s.onwards le_prop (λ k. (whole s k more w ew).small)
