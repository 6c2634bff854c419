-- The compacted log is regular by document 01's rule, whichever the old one was regular by, so that the next call is
-- not refused for it. Assumes nothing.
use Rattle.std.specs.Prelude.{◌≡◌, refl, Bool, true, false, ℕ, zero, suc, ◌+◌, ◌^◌, ◌≤◌, ◌<◌, length, None, Option, Some}
use Rattle.std.proofs.Common.{sym, ap, ◌∙◌, inl, arith, length-append, lt-ltb, le-leb}
use mathlib.Core.List.{List, [], ◌∷◌, ◌++◌, reverse, reverse_aux, map, reverse-reverse}
use Rattle.format.specs.Tag.{tag_type3, tag_id, tag_size, removal_size}
use Rattle.format.specs.Kind.{type_splice, type_create}
use Rattle.format.specs.Walk.{Event, ent, chk}
use Rattle.format.specs.Regular.{Rule, rule_of, between, rule_holds, count_after, regular_from, Regular, create, delete}
use Rattle.format.specs.Regular.{name, inlined, eight, attribute, tail, move, forward, bad}
use Rattle.format.specs.Commit.{Item, commit_sum, written, items_hold}
use Rattle.format.specs.Directory.{Act, Slot, mk, rm, put, skip, dir, apply, Load, classes}
use Rattle.format.specs.declared.Rules.TheVariants.{Document}
use Rattle.format.proofs.Tags.{of_type3, of_id, of_size}
use Rattle.format.proofs.Growing.{grows_never, raised_never}
use Rattle.theory.specs.Log.Stores.{commit_events}
use Rattle.theory.specs.Directory.Machine.{Allowed, behind_never, still_grows, inside_there, most_slots, AllAllowed}
use Rattle.theory.specs.Directory.Rebuild.{puts, puts_dir, up_to, emit, rebuild}
use Rattle.theory.proofs.Directory.Rebuild.{rebuilt}
use Rattle.theory.specs.Directory.Acts.{dir_rev}
use Rattle.theory.specs.Blocks.ActItems.{OkAct, to_item, type_low, AllOk, ok_rev}
use Rattle.theory.specs.Blocks.SlotItems.{OkSlots, all_held, rebuild_ok}
use Rattle.theory.specs.Blocks.Compact.{compact_items}
use Rattle.theory.specs.Lookup.SlotCount.{slots_after, AllowedFrom, slots_after_all, length_apply, slots_all}
use Rattle.theory.specs.Lookup.ByMask.{FewBack}
use Rattle.theory.specs.Lookup.OnBlock.{FewFrom}
use Rattle.theory.specs.Rules.RuledEntry.{Says, rule_says}
use Rattle.theory.specs.Commit.Tested.{items_regular}

-- ---- a load that passes its rule in one slot passes it in any that is there
slot_rule : (R : Rule) (type size n j : ℕ) → Says type R → type < type_splice → j < n → rule_holds R 1 0 size ≡ true
    → (rule_holds R n j size ≡ true) × (count_after R n ≡ n)
unfolding rule_holds count_after
slot_rule create type size n j s low h k = absurd (omega arith)
slot_rule delete type size n j s low h k = absurd (omega arith)
slot_rule name type size n j s low h k = (rw (lt-ltb j n h) k, refl)
slot_rule inlined type size n j s low h k = (rw (lt-ltb j n h) k, refl)
slot_rule eight type size n j s low h k = (rw (lt-ltb j n h) k, refl)
slot_rule attribute type size n j s low h k = (rw (lt-ltb j n h) k, refl)
slot_rule tail type size n j s low h k = absurd (omega (arith, s.0))
slot_rule move type size n j s low h k = absurd (omega arith)
slot_rule forward type size n j s low h k = absurd (omega arith)
slot_rule bad type size n j s low h k = absurd (let z : ◌≡◌ {A = ℕ} 0 1 = cc in omega arith)

-- ---- the item of an act that compaction writes passes its rule
abbrev Passes : ℕ → Item → ℕ → Type 0
Passes n i m =
    (rule_holds (rule_of true (tag_type3 i.tag)) n (tag_id i.tag) (tag_size i.tag) ≡ true)
    × (count_after (rule_of true (tag_type3 i.tag)) n ≡ m)

act_passes : (a : Act) (n : ℕ) → OkAct a → Allowed false a n → slots_after n a ≤ most_slots
    → Passes n (to_item a) (slots_after n a)
unfolding to_item slots_after rule_of rule_holds count_after
act_passes (mk j) n h al few =
    rw (
      of_type3 type_create j 0 (omega arith) h (omega arith),
      of_id type_create j 0 h (omega arith),
      of_size type_create j 0 (omega arith),
      le-leb j n al,
      le-leb n 1_022 (omega arith),
    ) (refl, refl)
act_passes (rm j) n h al few = absurd h
act_passes (put j c (Some v)) n h al few =
    let low : v.type < 2 ^ 10 = type_low c v.type h.1.0 in
    let short : length v.bytes < removal_size = h.1.1 in
    rw (
      of_type3 v.type j (length v.bytes) (omega arith) h.0 (omega arith),
      of_id v.type j (length v.bytes) h.0 (omega arith),
      of_size v.type j (length v.bytes) (omega arith),
    )
    (let p = slot_rule (rule_of true v.type) v.type (length v.bytes) n j (rule_says v.type true)
    low (inside_there al) h.1.2 in
    (p.0, p.1 ∙ omega (arith, inside_there al)))
act_passes (put j c None) n h al few = absurd h
act_passes skip n h al few = absurd h

acts_pass : (l : List Act) (n : ℕ) (more : List Event) → AllOk l → AllowedFrom false n l → FewFrom n l
    → regular_from false (slots_after_all n l) more ≡ true
    → regular_from false n (written (map to_item l) more) ≡ true
unfolding regular_from written slots_after_all
acts_pass [] n more ok al few k = k
acts_pass (a ∷ l) n more ok al few k =
    let p = act_passes a n ok.0 al.0 few.0 in
    let R : Rule = rule_of true (tag_type3 (to_item a).tag) in
    let al' : AllowedFrom false (slots_after n a) l = rw (behind_never a) at al.1 in
    rw (raised_never R n (tag_id (to_item a).tag), grows_never R, p.0, p.1)
    (acts_pass l (slots_after n a) more ok.1 al' few.1 k)

-- ---- what holds newest first holds oldest first
newest_from : (g : Bool) (l r : List Act) → AllAllowed g (reverse_aux l r) → FewBack (reverse_aux l r)
    → length (dir (reverse_aux l r)) ≤ most_slots
    → (AllAllowed g r × FewBack r × (length (dir r) ≤ most_slots)) × AllowedFrom (still_grows g r) (length (dir r)) l
    × FewFrom (length (dir r)) l
unfolding dir
newest_from g [] r al few n = ((al, few, n), tt, tt)
newest_from g (a ∷ l) r al few n =
    let ih = newest_from g l (a ∷ r) al few n in
    let e : length (apply (dir r) a) ≡ slots_after (length (dir r)) a = length_apply (still_grows g r) (dir r) a
    ih.0.0.0 in
    ((ih.0.0.1, ih.0.1.1, ih.0.1.0), (ih.0.0.0, rw e at ih.1), (rw e at ih.0.2, rw e at ih.2))

pub written_app : (is js : List Item) (more : List Event) → written (is ++ js) more ≡ written is (written js more)
unfolding written
written_app [] js more = refl
written_app (i ∷ is) js more = ap (λ z. ent i.tag i.body ∷ z) (written_app is js more)

-- ---- the entries that rebuild a directory are allowed, and leave at most 1,023 slots
length_puts : (n i : ℕ) (s : Slot) (l : List Act) → length (dir l) ≡ i → length (dir (puts n i s (mk i ∷ l))) ≡ suc i
length_puts n i s l h = rw (puts_dir n i s l h, length-append (dir l) (up_to n s ∷ [])) (omega arith)

puts_allowed : (n i : ℕ) (s : Slot) (l : List Act) → length (dir l) ≡ i → i < most_slots → AllAllowed false l → FewBack l
    → AllAllowed false (puts n i s (mk i ∷ l)) × FewBack (puts n i s (mk i ∷ l))
unfolding puts
puts_allowed zero i s l h few r k = ((omega arith, r), (omega arith, k))
puts_allowed (suc n) i s l h few r k = go (s n) (puts_allowed n i s l h few r k)
  where
    go : (v : Option Load) → AllAllowed false (puts n i s (mk i ∷ l)) × FewBack (puts n i s (mk i ∷ l))
        → AllAllowed false (emit i n v (puts n i s (mk i ∷ l))) × FewBack (emit i n v (puts n i s (mk i ∷ l)))
    go None q = q
    go (Some v) q = ((inl (omega (arith, length_puts n i s l h)), q.0), (omega (arith, length_puts n i s l h), q.1))

rebuild_allowed : (D : List Slot) (i : ℕ) (l : List Act) → length (dir l) ≡ i → i + length D ≤ most_slots → AllAllowed
    false l
    → FewBack l → AllAllowed false (rebuild i D l) × FewBack (rebuild i D l)
unfolding rebuild
rebuild_allowed [] i l h few r k = (r, k)
rebuild_allowed (s ∷ D) i l h few r k =
    let q = puts_allowed classes i s l h (omega arith) r k in
    rebuild_allowed D (suc i) (puts classes i s (mk i ∷ l)) (length_puts classes i s l h) (omega arith) q.0 q.1

-- ---- the compacted log
pub compact_regular : (D : List Slot) (ts : List Item) (sum p ct : ℕ) → OkSlots D → length D ≤ most_slots
    → items_hold (length D) ts ≡ true
    → between 4 1_022 (tag_size ct) ≡ true → Regular Document (commit_events sum p (compact_items D ts) ct) ≡ true
unfolding Regular commit_events compact_items dir
compact_regular D ts sum p ct ok few hold c =
    let R : List Act = rebuild 0 D [] in
    let x : ℕ = commit_sum sum p (map to_item (reverse R) ++ ts) ct in
    let back : reverse (reverse R) ≡ R = reverse-reverse R in
    let is : dir R ≡ D = rebuilt D (all_held D ok) in
    let al = rebuild_allowed D 0 [] refl (omega arith) tt tt in
    let f = newest_from false (reverse R) [] (rw back al.0) (rw back al.1) (rw (back, is) few) in
    let n : slots_after_all 0 (reverse R) ≡ length D = sym (slots_all false (reverse R) [] f.1)
    ∙ ap length (sym (dir_rev (reverse R) []) ∙ ap dir back ∙ is) in
    rw (written_app (map to_item (reverse R)) ts (chk ct x ∷ []))
    (acts_pass (reverse R) 0 (written ts (chk ct x ∷ [])) (ok_rev R [] (rebuild_ok D 0 [] ok (omega arith) tt) tt)
    f.1 f.2
    (rw n (items_regular ts (length D) ct x hold c)))
