-- A turn of the pass, and what it keeps: the entries that are still to come, run on the places that stand in the table.
-- Assumes nothing.
use mathlib.Core.Path.{◌≡◌, refl, sym, ap, ◌∙◌}
use mathlib.Core.List.{List, [], ◌∷◌}
use Prim.Native.Nat.{ℕ, ◌-◌, ◌/◌, ◌≤◌, ◌<◌}
use native.Mathlib.Omega.{arith}
use lib.ListN.{length, replicate, length-append}
use borrow.Author.Tests.{le-leb, lt-leb}
use Rattle.format.specs.Walk.{Event}
use Rattle.format.specs.Log.{event_length}
use Rattle.format.specs.Directory.{Act, skip}
use Rattle.format.specs.Index.{placed_act, placed_from, places_after, padded, ran_on, indexed_as, table_as}
use Rattle.format.specs.declared.Refusal.{Refusal}
use Rattle.commit_regular.specs.Ends.{Onwards}
use Rattle.commit_regular.specs.Left.{Starts, On, left, event_of, Meets}
use Rattle.commit_regular.specs.declared.tags.Logged.{Logged}
use Rattle.commit_regular.specs.declared.tags.Logged.TheVariants.{Entry, Check}
use Rattle.commit_regular.specs.declared.tags.Tags.{Tags}
use Rattle.index_table.specs.Held.{in_use, Has, Keeps, Lacks, Goes}
use Rattle.index_table.specs.declared.Places.{Places}
use Rattle.index_pass.specs.Run.{Startable, ran_from, Ran}
use Rattle.index_pass.proofs.Entry.{after}
use Rattle.std.specs.Prelude.{Err, Ok, None, Some}

-- all places stand in the table
pub within : (p : Places) (P : List ℕ) → Has p P → length P ≤ length p.table.now
within p P h = omega (arith, ap length h.is, length-append P (replicate (length p.table.now - length P) 0))

-- ---- what the pass keeps: p is the table at its start, p' the table there, and s what is left of the log
pub record Going (b : List ℕ) (start prev end : ℕ) (k : Onwards b start prev end) (p p' : Places) (s : Tags) : Type 0 where
  pub block : s.b.now ≡ b
  pub on : On s
  pub P : List ℕ
  pub has : Has p' P
  pub long : length p'.table.now ≡ length p.table.now
  pub ran : ran_from b start prev end k p ≡ ran_on (length p.table.now) P (placed_from s.at (left s on.sum))

pub starts_going : {b : List ℕ} {start prev end : ℕ} {p : Places} → Startable b start prev end p
    → (k : Onwards b start prev end) → {s : Tags} → Starts b start prev end s → Going b start prev end k p p s
starts_going {p = p} h k st = record {
  block = st.block;
  on = record { sum = k.sum; ends = rw (st.block, st.at', st.prev', st.end') k.ends };
  P = in_use p;
  has = h.has;
  long = refl;
  ran = rw (st.block, st.at', st.prev');
}

module _ {b : List ℕ} {start prev end : ℕ} {k : Onwards b start prev end} {p p' : Places} {s : Tags}
    (v : Going b start prev end k p p' s) where
  -- ---- the end
  pub ends_there : left s v.on.sum ≡ [] → Ran b start prev end k p p' (Ok p'.used)
  unfolding placed_from ran_on
  ends_there l =
      let z : ran_from b start prev end k p ≡ Some v.P =
      v.ran ∙ ap (λ (es : List Event). ran_on (length p.table.now) v.P (placed_from s.at es)) l in
      let e : p'.used ≡ length v.P / 2 = omega (arith, v.has.size) in
      record {
        answer = ap Ok e ∙ sym (ap indexed_as z);
        left = v.has.is ∙ ap (λ (m : ℕ). padded m v.P) v.long ∙ sym (ap (table_as (length p.table.now)) z);
      }

  -- ---- m is met, and the act a is its own
  module _ (m : Logged) {s' : Tags} (g : Meets s v.on m s') where
    on_with : (a : Act) → ((es : List Event) → placed_from s.at (event_of s.b.now m g.stored ∷ es) ≡ a ∷ placed_from s'.at es)
        → (new : Places) → length new.table.now ≡ length p'.table.now → Has new (places_after v.P a)
        → Going b start prev end k p new s'
    unfolding ran_on
    on_with a acts new long has =
        let fits : length (places_after v.P a) ≤ length p.table.now =
        omega (arith, within new (places_after v.P a) has, long, v.long) in
        record {
          block = g.block ∙ v.block;
          on = g.behind;
          P = places_after v.P a;
          has = has;
          long = long ∙ v.long;
          ran = v.ran ∙ ap (ran_on (length p.table.now) v.P) (ap (placed_from s.at) g.is ∙ acts (left s' g.behind.sum))
              ∙ rw (le-leb (length (places_after v.P a)) (length p.table.now) fits);
        }

  pub check_goes : (m : Logged) → ((t at : ℕ) → m ≡ Entry t at → ⊥) → {s' : Tags} → Meets s v.on m s'
      → Going b start prev end k p p' s'
  unfolding event_length placed_from places_after
  check_goes (Entry t at) x g = elim (x t at refl) [ ]
  check_goes (Check t) x g = on_with (Check t) g skip (λ es. rw g.on) p' refl v.has

  -- new is what `follow` leaves
  module _ {t at : ℕ} {s' : Tags} (m : Meets s v.on (Entry t at) s') {new : Places} where
    pub entry_goes : Goes p' new (Ok tt) (after at t) → Going b start prev end k p new s'
    unfolding event_length placed_from Goes
    entry_goes kept = on_with (Entry t at) m (placed_act at t) (λ es. rw (m.on, m.stands.0)) new kept.stays.long
        (kept.has v.P v.has)

    -- there is no room, and the run ends
    ends_full : Lacks p' new (after at t) → ran_from b start prev end k p ≡ None
    unfolding placed_from ran_on
    ends_full g =
        let l : length p.table.now < length (after at t v.P) = omega (arith, v.long, g.short v.P v.has) in
        v.ran ∙ ap (λ (es : List Event). ran_on (length p.table.now) v.P (placed_from s.at es)) m.is
        ∙ rw (← m.stands.0, lt-leb (length (after at t v.P)) (length p.table.now) l)

    -- z is the table when it is cleared
    pub entry_full : {q : Refusal} → Goes p' new (Err q) (after at t) → {z : Places} → Keeps new z (λ P. [])
        → Ran b start prev end k p z (Err q)
    unfolding Goes
    entry_full g {z} clear =
        let e : length z.table.now - 0 ≡ length p.table.now =
        omega (arith, clear.stays.long, ap (λ (y : Places). length y.table.now) g.1.same, v.long) in
        record {
          answer = ap Err g.0 ∙ sym (ap indexed_as (ends_full g.1));
          left = (clear.has v.P (rw g.1.same v.has)).is ∙ ap (λ (m : ℕ). replicate m 0) e
              ∙ sym (ap (table_as (length p.table.now)) (ends_full g.1));
        }
