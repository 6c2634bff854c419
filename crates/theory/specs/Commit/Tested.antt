-- What a writer tests, document 01's Booleans, gives what the theorems ask: of the log on the block, of the entries to
-- write, and again of the log that is finished. Assumes nothing.
use Rattle.std.specs.Prelude.{◌≡◌, refl, Bool, false, List, [], ◌∷◌, ◌++◌, ℕ, ◌≤◌, leb}
use Rattle.std.proofs.Common.{subst, arith, leb-true}
use Rattle.std.proofs.Math.Bool.{true}
use Rattle.format.specs.Tag.{tag_type3, tag_id, tag_size, tag_length}
use Rattle.format.specs.Walk.{Event, ent, chk, inv}
use Rattle.format.specs.Log.{log}
use Rattle.format.specs.Regular.{Rule, rule_of, between, rule_holds, count_after, grows, grows_after, count_raised}
use Rattle.format.specs.Regular.{logged_rule, regular_from, Regular}
use Rattle.format.specs.declared.Rules.{Rules}
use Rattle.format.specs.declared.Rules.TheVariants.{Littlefs}
use Rattle.format.specs.Commit.{Item, commit_sum, written, items_hold}
use Rattle.format.specs.Directory.{acts, Act, act}
use Rattle.format.proofs.Tags.{length_size}
use Rattle.format.proofs.Growing.{grows_never, raised_never, regular_grows}
use Rattle.theory.specs.Walk.Step.{both_true}
use Rattle.theory.specs.Walk.Locality.{AllContained}
use Rattle.theory.specs.Log.Stores.{commit_events}
use Rattle.theory.specs.Directory.Machine.{behind_never, most_slots}
use Rattle.theory.specs.Back.EventBytes.{Stands, log_stands}
use Rattle.theory.specs.Back.BackActs.{Eights}
use Rattle.theory.specs.Blocks.Append.{item_acts}
use Rattle.theory.specs.Blocks.SlotItems.{PutsOk}
use Rattle.theory.specs.Lookup.SlotCount.{AllowedFrom, slots_after, slots_after_all}
use Rattle.theory.specs.Lookup.OnBlock.{EventShapes, FewFrom, RegularLog}
use Rattle.theory.specs.Rules.RuledEntry.{ruled, ruled_entry, rule_says}
use Rattle.theory.specs.Rules.MadeItem.{AllMade}
use Rattle.theory.specs.Walk.ReadBack.{AllGood}
use Rattle.theory.specs.Lookup.ByMask.{Shape}

-- shapes of the written items
abbrev pub ItemShapes : List Item → Type 0
ItemShapes [] = Unit {0}
ItemShapes (i ∷ is) = Shape i.tag i.body (act i.tag i.body) × ItemShapes is

-- the count stays low to the end
pub few_end : (l : List Act) (n : ℕ) → n ≤ most_slots → FewFrom n l → slots_after_all n l ≤ most_slots
unfolding slots_after_all
few_end [] n h f = h
few_end (a ∷ l) n h f = few_end l (slots_after n a) f.0 f.1

-- entries that pass document 01's rules from the count c
pub record ItemsOk (c : ℕ) (is : List Item) : Type 0 where
  pub good : AllGood is
  pub shapes : ItemShapes is
  pub rules : AllowedFrom false c (item_acts is)
  pub few : FewFrom c (item_acts is)

-- ---- a log that passes the rules from a count on; g: a name may make slots
pub record RegularFrom (g : Bool) (c : ℕ) (es : List Event) : Type 0 where
  pub contained : AllContained es
  pub eights : Eights es
  pub allowed : AllowedFrom g c (acts es)
  pub shapes : EventShapes es
  pub few : FewFrom c (acts es)
  pub loads : PutsOk (acts es)

check_long : (t : ℕ) → between 4 1_022 (tag_size t) ≡ true → 8 ≤ tag_length t
check_long t h =
    let r = both_true (leb 4 (tag_size t)) (leb (tag_size t) 1_022) h in
    let low : 4 ≤ tag_size t = leb-true 4 (tag_size t) r.0 in
    let high : tag_size t ≤ 1_022 = leb-true (tag_size t) 1_022 r.1 in
    omega (arith, length_size t (λ q. omega arith))

pub regular_from_lem : (es : List Event) (g : Bool) (c : ℕ) → Stands es → c ≤ most_slots → regular_from g c es ≡ true
    → RegularFrom g c es
unfolding regular_from acts slots_after
regular_from_lem [] g c st low h = record { contained = tt; eights = tt; allowed = tt; shapes = tt; few = tt; loads = tt }
regular_from_lem (ent t d ∷ es) g c st low h =
    let R : Rule = rule_of true (tag_type3 t) in
    let n : ℕ = count_raised g R c (tag_id t) in
    let r = both_true (rule_holds R n (tag_id t) (tag_size t)) (regular_from (grows_after g R) (count_after R n) es) h in
    let u = ruled g R c t d (rule_says (tag_type3 t) true) r.0 in
    let ih = regular_from_lem es (grows_after g R) (count_after R n) st.1 (u.few low) r.1 in
    record {
      contained = (λ w. omega (arith, u.twelve w), ih.contained);
      eights = (u.twelve, ih.eights);
      allowed = (u.allowed, rw (u.slots, u.still) ih.allowed);
      shapes = (u.shape st.0.0, ih.shapes);
      few = rw u.slots (u.few low, ih.few);
      loads = (u.load refl st.0.1, ih.loads);
    }
regular_from_lem (chk t x ∷ es) g c st low h =
    let r = both_true (between 4 1_022 (tag_size t)) (regular_from g c es) h in
    let ih = regular_from_lem es g c st.1 low r.1 in
    record {
      contained = (check_long t r.0, ih.contained);
      eights = ih.eights;
      allowed = (tt, ih.allowed);
      shapes = ih.shapes;
      few = (low, ih.few);
      loads = (tt, ih.loads);
    }
regular_from_lem (inv ∷ es) g c st low h = absurd st

-- the committed log of a block, regular by littlefs's rule, the wider one
module _ (b : List ℕ) (es : List Event) (is : log b ≡ es) (h : Regular Littlefs es ≡ true) where
  from_zero : RegularFrom true 0 es
  unfolding Regular
  from_zero = regular_from_lem es true 0 (rw is at (log_stands b)) (omega arith) h

  pub regular_log : RegularLog es
  regular_log =
      let r = from_zero in
      record {
        base = record { reg = r.contained; eight = r.eights; rules = r.allowed };
        shapes = r.shapes;
        few = r.few;
      }

  pub regular_loads : PutsOk (acts es)
  regular_loads = from_zero.loads

  pub regular_count : slots_after_all 0 (acts es) ≤ most_slots
  regular_count = few_end (acts es) 0 (omega arith) from_zero.few

-- ---- entries to write
pub items_ok : (is : List Item) (c : ℕ) → AllMade is → c ≤ most_slots → items_hold c is ≡ true → ItemsOk c is
unfolding items_hold item_acts
items_ok [] c m low h = record { good = tt; shapes = tt; rules = tt; few = tt }
items_ok (i ∷ is) c m low h =
    let R : Rule = logged_rule i.tag in
    let r = both_true (rule_holds R c (tag_id i.tag) (tag_size i.tag)) (items_hold (count_after R c) is) h in
    let u = ruled_entry R c i.tag i.body (rule_says (tag_type3 i.tag) true) r.0 in
    let ih = items_ok is (count_after R c) m.1 (u.few low) r.1 in
    record {
      good = (
        record {
          small = m.0.0;
          entry = u.plain;
          long = m.0.1;
          eight = λ w. omega (arith, u.twelve w, m.0.1);
        },
        ih.good,
      );
      shapes = (u.shape m.0.0, ih.shapes);
      rules = (u.allowed, rw (u.slots, behind_never (act i.tag i.body)) ih.rules);
      few = rw u.slots (u.few low, ih.few);
    }

-- ---- and the log that is finished is regular again
-- the count that the rules leave is the number of slots; what follows makes none by names
regular_app : (es more : List Event) (g : Bool) (c : ℕ) → regular_from g c es ≡ true
    → regular_from false (slots_after_all c (acts es)) more ≡ true → regular_from g c (es ++ more) ≡ true
unfolding regular_from acts slots_after_all slots_after
regular_app [] more g c h k = regular_grows more g c k
regular_app (ent t d ∷ es) more g c h k =
    let R : Rule = rule_of true (tag_type3 t) in
    let n : ℕ = count_raised g R c (tag_id t) in
    let r = both_true (rule_holds R n (tag_id t) (tag_size t)) (regular_from (grows_after g R) (count_after R n) es) h in
    let u = ruled g R c t d (rule_says (tag_type3 t) true) r.0 in
    rw r.0 (regular_app es more (grows_after g R) (count_after R n) r.1
    (subst (λ (n : ℕ). regular_from false (slots_after_all n (acts es)) more ≡ true) u.slots k))
regular_app (chk t x ∷ es) more g c h k =
    let r = both_true (between 4 1_022 (tag_size t)) (regular_from g c es) h in
    rw r.0 (regular_app es more g c r.1 k)
regular_app (inv ∷ es) more g c h k = regular_app es more g c h k

pub items_regular : (is : List Item) (c ct x : ℕ) → items_hold c is ≡ true → between 4 1_022 (tag_size ct) ≡ true
    → regular_from false c (written is (chk ct x ∷ [])) ≡ true
unfolding items_hold regular_from written
items_regular [] c ct x h k = rw k
items_regular (i ∷ is) c ct x h k =
    let R : Rule = logged_rule i.tag in
    let r = both_true (rule_holds R c (tag_id i.tag) (tag_size i.tag)) (items_hold (count_after R c) is) h in
    rw (raised_never R c (tag_id i.tag), grows_never R, r.0) (items_regular is (count_after R c) ct x r.1 k)

pub regular_again : (r : Rules) (es : List Event) (sum p : ℕ) (is : List Item) (ct : ℕ) → Regular r es ≡ true
    → items_hold (slots_after_all 0 (acts es)) is ≡ true
    → between 4 1_022 (tag_size ct) ≡ true → Regular r (es ++ commit_events sum p is ct) ≡ true
unfolding Regular commit_events
regular_again r es sum p is ct h k c =
    regular_app es (written is (chk ct (commit_sum sum p is ct) ∷ [])) (grows r) 0 h
    (items_regular is (slots_after_all 0 (acts es)) ct (commit_sum sum p is ct) k c)
