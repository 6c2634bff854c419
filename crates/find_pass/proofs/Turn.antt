-- A turn of the pass, and what it keeps. Assumes nothing.
use mathlib.Core.Path.{◌≡◌, refl, sym, ap, ◌∙◌}
use mathlib.Core.Bool.{Bool, true, false, cond}
use mathlib.Core.List.{List, []}
use Prim.Native.Nat.{ℕ, ◌-◌, ◌/◌, ◌%◌, ◌^◌, ◌≤◌}
use native.Mathlib.Omega.{arith}
use native.Mathlib.Nat.{zero-div}
use lib.ListN.{length, drop, replicate, get_or-replicate}
use lib.Dec.{eqb}
use Rattle.format.specs.Word.{all_ones}
use Rattle.format.specs.Tag.{tag_type3}
use Rattle.format.specs.Walk.{Event, body_of}
use Rattle.format.specs.Log.{log}
use Rattle.format.specs.Regular.{logged_rule, count_at, Regular}
use Rattle.format.specs.Directory.{Load, Slot, act, acts, apply, apply_all, dir, dir_of}
use Rattle.format.specs.Find.{is_named, find_in}
use Rattle.format.specs.declared.Rules.{Rules}
use Rattle.format.specs.declared.Refusal.TheVariants.{Irregular}
use Rattle.theory.specs.Directory.Acts.{dir_rev}
use Rattle.theory.specs.Directory.Machine.{Allowed}
use Rattle.theory.specs.Lookup.SlotCount.{slots_after, length_apply}
use Rattle.theory.specs.Rules.RuledEntry as entry
use Rattle.theory.specs.Rules.RuledEntry.{ruled, rule_says}
use Rattle.commit_regular.specs.Ends.{CommittedTo}
use Rattle.commit_regular.specs.Left.{Starts, left, Meets}
use Rattle.commit_regular.specs.Ruled.{at_start, good, behind}
use Rattle.commit_regular.specs.declared.Ruled.{Ruled}
use Rattle.commit_regular.specs.declared.tags.Logged.{Logged}
use Rattle.commit_regular.specs.declared.tags.Logged.TheVariants.{Entry, Check}
use Rattle.commit_regular.specs.declared.tags.Tags.{Tags}
use Rattle.commit_regular.proofs.Turn.{Ahead, begins, turn_on, all_regular}
use Rattle.find_set.specs.Set.{has, lowest}
use Rattle.find_pass.specs.Pass.{Holds, Keeps, marked, Followable, answered}
use Rattle.find_pass.proofs.Kept.{name_kept}
use Rattle.find_pass.proofs.Flags.{flags, flags_past, flags_apply, lowest_named}
use Rattle.std.specs.Prelude.{Err, Option, Result, None}
use Rattle.format.specs.declared.Refusal.{Refusal}

-- ---- what the pass keeps: the events that are left, as every pass does; and of the slots as they are here, which have
-- the name
pub record Going (b : List ℕ) (rules : Rules) (q : Option Load → Bool) (set : List ℕ) (any : Bool) (r : Ruled) (s : Tags)
    : Type 0 where
  pub ahead : Ahead b rules r s
  slots : List Slot
  made : dir_of (log b) ≡ apply_all slots (acts (left s ahead.on.sum))
  count' : length slots ≡ r.count
  few : r.count ≤ 1_023
  holds : Holds set any (flags q slots)

no_flags : (q : Option Load → Bool) → q None ≡ false → Holds (replicate 32 0) false (flags q [])
unfolding has
no_flags q never = record {
  marks = λ i l. ap (λ (w : ℕ). eqb (w / 2 ^ (i % 32) % 2) 1) (get_or-replicate 32 (i / 32) 0 0 (omega arith))
      ∙ zero_digit (i % 32) ∙ sym (flags_past q never [] i (omega arith));
  never = λ e i. flags_past q never [] i (omega arith);
}
  where
    zero_digit : (k : ℕ) → eqb (0 / 2 ^ k % 2) 1 ≡ false
    zero_digit k = rw (zero-div (2 ^ k))

pub starts_going : (b : List ℕ) (rules : Rules) (q : Option Load → Bool) (end : ℕ) → q None ≡ false → CommittedTo b end
    → (set : List ℕ) → set ≡ replicate 32 0 → (any : Bool) → any ≡ false → (r : Ruled) → r ≡ at_start rules
    → (s : Tags) → Starts b 4 all_ones end s → Going b rules q set any r s
unfolding dir_of dir
starts_going b rules q end never k set es any ea r er s st =
    let z = begins b end rules k r er s st in
    record {
      ahead = z.ahead;
      slots = [];
      made = dir_rev (acts (log b)) [] ∙ ap (λ (y : List Event). apply_all [] (acts y)) z.whole;
      count' = rw er;
      few = rw er (omega arith);
      holds = rw (es, ea) (no_flags q never);
    }

-- ---- a turn, where what stands here has passed its rule
module _ (b : List ℕ) (rules : Rules) (q : Option Load → Bool) (never : q None ≡ false) (set : List ℕ) (any : Bool)
    (r : Ruled) (s : Tags) (v : Going b rules q set any r s) (x : Bool) (h : x ≡ true) where
  -- a check, or whatever is no entry
  pub check_goes : (m : Logged) → ((t at : ℕ) → m ≡ Entry t at → ⊥) → (s' : Tags) → Meets s v.ahead.on m s' → x ≡ good r m
      → (r' : Ruled) → r' ≡ cond x (behind r m) r → Going b rules q set any r' s'
  unfolding acts apply_all apply
  check_goes (Entry t at) n s' m ex r' er = elim (n t at refl) [ ]
  check_goes (Check t) n s' m ex r' er =
      let o = turn_on b rules r s v.ahead (Check t) s' m x ex h r' er in
      let e : r' ≡ r = er ∙ rw h in
      record {
        ahead = o.ahead;
        slots = v.slots;
        made = v.made ∙ ap (λ (y : List Event). apply_all v.slots (acts y)) o.is;
        count' = rw e v.count';
        few = rw e v.few;
        holds = v.holds;
      }

  -- an entry
  module _ (t at : ℕ) (s' : Tags) (m : Meets s v.ahead.on (Entry t at) s') (ex : x ≡ good r (Entry t at)) where
    body : List ℕ
    body = body_of t (drop at b)

    passed : entry.Ruled r.grows r.count (count_at r.grows r.count t) (logged_rule t) t body
    passed = ruled r.grows (logged_rule t) r.count t body (rule_says (tag_type3 t) true) (sym ex ∙ h)

    pub entry_followable : Followable b at t
    entry_followable = record {
      whole = rw v.ahead.block at m.stands.1;
      kept = name_kept (logged_rule t) (count_at r.grows r.count t) t (rule_says (tag_type3 t) true) (sym ex ∙ h);
    }

    pub entry_goes : (set' : List ℕ) (any' : Bool)
        → Keeps set any set' any' (marked q (act t (body_of t (drop at b)))) → (r' : Ruled)
        → r' ≡ cond x (behind r (Entry t at)) r → Going b rules q set' any' r' s'
    unfolding acts apply_all body
    entry_goes set' any' keeps r' er =
        let o = turn_on b rules r s v.ahead (Entry t at) s' m x ex h r' er in
        let e : r' ≡ behind r (Entry t at) = er ∙ rw h in
        let D : List Slot = v.slots in
        let allowed : Allowed r.grows (act t body) (length D) = rw v.count' passed.allowed in
        let top : flags q D 1_024 ≡ false = flags_past q never D 1_024 (omega (arith, v.count', v.few)) in
        let held = keeps (flags q D) top v.holds in
        record {
          ahead = o.ahead;
          slots = apply D (act t body);
          made = v.made ∙ ap (λ (y : List Event). apply_all D (acts y)) o.is;
          count' = rw e (length_apply r.grows D (act t body) allowed
              ∙ ap (λ (k : ℕ). slots_after k (act t body)) v.count' ∙ passed.slots);
          few = rw e (passed.few v.few);
          holds = record {
            marks = λ i w. held.marks i w ∙ sym (flags_apply q never r.grows D (act t body) allowed i);
            never = λ z i. flags_apply q never r.grows D (act t body) allowed i ∙ held.never z i;
          };
        }

-- ---- the answer: by the rule that was asked for, the log is not regular
pub refused : (b : List ℕ) (r : Rules) (name : List ℕ) (kind : ℕ) → Regular r (log b) ≡ false
    → Err Irregular ≡ find_in r name kind (log b)
unfolding find_in
refused b r name kind h = rw h

-- and at the end; x is what `lowest` answers
pub ends : (b : List ℕ) (rules : Rules) (name : List ℕ) (kind : ℕ) (set : List ℕ) (any : Bool) (r : Ruled) (s : Tags)
    → (v : Going b rules (is_named name kind) set any r s) → left s v.ahead.on.sum ≡ []
    → (x : Result (Option ℕ) Refusal) → x ≡ answered (lowest 1_024 0 (has set)) → x ≡ find_in rules name kind (log b)
unfolding find_in acts apply_all
ends b rules name kind set any r s v z x ex =
    let n = all_regular b rules r s v.ahead z in
    let D : List Slot = v.slots in
    let d : dir_of (log b) ≡ D = v.made ∙ ap (λ (y : List Event). apply_all D (acts y)) z in
    let f = lowest_named name kind 1_024 0 D (has set) (omega (arith, v.count', v.few)) refl
    (λ k m w. let e : k ≡ k - 0 = omega arith in v.holds.marks k w ∙ ap (flags (is_named name kind) D) e) in
    ex ∙ f ∙ rw (n, d)

-- nothing is no name
pub none_named : (name : List ℕ) (kind : ℕ) → is_named name kind None ≡ false
unfolding is_named
none_named name kind = refl
