-- Entries that a commit's judging finds good, and the items that they make: as long as their tags say, each passing its
-- rule. Assumes nothing.
use Rattle.std.specs.Prelude.{◌≡◌, refl, Bool, true, false, cond, ◌||◌, List, [], ◌∷◌, ℕ, suc, ◌+◌, ◌≤◌, length, take, drop, leb, eqb}
use Rattle.std.proofs.Common.{ap, ◌∙◌, arith, length-take, length-drop, leb-true, eqb-true}
use Rattle.format.specs.Tag.{tag_type3, tag_id, tag_size, tag_of}
use Rattle.format.specs.Kind.{type_superblock, type_forward}
use Rattle.format.specs.Regular.{rule_of, rule_holds, count_after, logged_rule}
use Rattle.format.specs.Commit.{items_hold}
use Rattle.format.specs.Entries.{is_removal, entry_body, items_of, entry_item, entry_rule, in_buffer, entry_holds, judge, bad}
use Rattle.format.specs.Entries.{good}
use Rattle.format.specs.declared.Entry.{Entry}
use Rattle.format.proofs.Tags.{of_type3}
use Rattle.theory.specs.Walk.Step.{both_true}
use Rattle.theory.specs.Directory.Machine.{most_slots}
use Rattle.theory.specs.Rules.RuledEntry.{ruled_entry, rule_says}
use Rattle.theory.specs.Rules.MadeItem.{Fields, rule_fields, made_holds, Made, AllMade, item_made}

-- ---- an entry's data: as many bytes as its length says, or none for a removal
pub body_length_lem : (dat : List ℕ) (e : Entry) → in_buffer dat e ≡ true
    → length (entry_body dat e) ≡ cond (is_removal e) 0 e.len
unfolding entry_body
body_length_lem dat e h = go (is_removal e) h
  where
    go : (b : Bool) → b || leb (e.off + e.len) (length dat) ≡ true
        → length (cond b [] (take e.len (drop e.off dat))) ≡ cond b 0 e.len
    go true k = refl
    go false k = rw (length-take e.len (drop e.off dat), length-drop e.off dat)
        (omega (arith, leb-true (e.off + e.len) (length dat) k))

-- ---- one good entry, at a count of at most 1,023
pub record GoodEntry (dat : List ℕ) (c : ℕ) (e : Entry) : Type 0 where
  pub fields : Fields e.kind e.id e.len
  pub made : Made (entry_item dat e)
  pub rule : logged_rule (tag_of e.kind e.id e.len) ≡ entry_rule e
  pub holds : rule_holds (logged_rule (tag_of e.kind e.id e.len)) c
      (tag_id (tag_of e.kind e.id e.len)) (tag_size (tag_of e.kind e.id e.len)) ≡ true
  pub few : count_after (entry_rule e) c ≤ most_slots

-- a rule that an entry of a commit passes is its rule in a log too
rule_logged : (type c id size : ℕ) → rule_holds (rule_of false type) c id size ≡ true
    → rule_of true type ≡ rule_of false type
unfolding rule_of rule_holds
rule_logged type c id size h = go (eqb type type_superblock) refl (eqb type type_forward) refl
  where
    no : rule_holds (rule_of false type) c id size ≡ false → ⊥
    no k = let z : ◌≡◌ {A = ℕ} 0 1 = cc in omega arith

    go : (s : Bool) → eqb type type_superblock ≡ s → (f : Bool) → eqb type type_forward ≡ f
        → rule_of true type ≡ rule_of false type
    go true e f k = absurd (no (let q : type ≡ type_superblock = eqb-true type type_superblock e in rw q))
    go false e true k = absurd (no (let q : type ≡ type_forward = eqb-true type type_forward k in rw q))
    go false e false k = rw (e, k)

pub good_entry : (dat : List ℕ) (c : ℕ) (e : Entry) → c ≤ most_slots → entry_holds dat c e ≡ true → GoodEntry dat c e
good_entry dat c e low h =
    let r = both_true (rule_holds (entry_rule e) c e.id e.len) (in_buffer dat e) h in
    let f = rule_fields false e.kind c e.id e.len low r.0 in
    let t : ℕ = tag_of e.kind e.id e.len in
    let is : tag_type3 (tag_of e.kind e.id e.len) ≡ e.kind =
    of_type3 e.kind e.id e.len f.type' f.id' f.size' in
    let k = made_holds false e.kind c e.id e.len low r.0 in
    let same : rule_of true (tag_type3 t) ≡ rule_of false (tag_type3 t) =
    rule_logged (tag_type3 t) c (tag_id t) (tag_size t) k in
    let u = ruled_entry (rule_of false (tag_type3 t)) c t (entry_body dat e) (rule_says (tag_type3 t) false) k in
    record {
      fields = f;
      made = item_made e.kind e.id e.len (entry_body dat e) f (body_length_lem dat e r.1);
      rule = same ∙ ap (rule_of false) is;
      holds = rw same k;
      few = rw is at (u.few low);
    }

-- ---- a list of them
pub good_bad : (i c : ℕ) → bad i ≡ good c → ⊥
good_bad i c h = let z : ◌≡◌ {A = ℕ} 0 1 = cc in omega arith

pub record GoodEntries (dat : List ℕ) (c : ℕ) (es : List Entry) : Type 0 where
  pub made : AllMade (items_of dat es)
  pub hold : items_hold c (items_of dat es) ≡ true

pub judged_good : (dat : List ℕ) (es : List Entry) (i c c' : ℕ) → c ≤ most_slots → judge dat i c es ≡ good c'
    → GoodEntries dat c es
unfolding judge items_hold
judged_good dat [] i c c' low h = record { made = tt; hold = refl }
judged_good dat (e ∷ es) i c c' low h = go (entry_holds dat c e) refl h
    (judged_good dat es (suc i) (count_after (entry_rule e) c) c')
  where
    go : (b : Bool) → entry_holds dat c e ≡ b → cond b (judge dat (suc i) (count_after (entry_rule e) c) es) (bad i)
        ≡ good c'
        → (count_after (entry_rule e) c ≤ most_slots → judge dat (suc i) (count_after (entry_rule e) c) es ≡ good c'
        → GoodEntries dat (count_after (entry_rule e) c) es)
        → GoodEntries dat c (e ∷ es)
    go false k h on = absurd (good_bad i c' h)
    go true k h on =
        let g = good_entry dat c e low k in
        let ih = on g.few h in
        record { made = (g.made, ih.made); hold = rw (g.holds, g.rule) ih.hold }
