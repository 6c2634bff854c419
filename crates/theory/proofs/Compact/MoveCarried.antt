-- Compaction carries the move state over: the entry that it writes behind the slots is the old one, and no other is.
-- Assumes nothing.
use Rattle.std.specs.Prelude.{◌≡◌, refl, Bool, true, false, cond, List, [], ◌∷◌, ◌++◌, reverse, map, ℕ, ◌+◌, ◌^◌, ◌≤◌, ◌<◌, length, eqb, None, Option, Some}
use Rattle.std.proofs.Common.{ap, ◌∙◌, inr, arith, eqb-true, ne_eqb, eq-eqb}
use Rattle.format.specs.Tag.{tag_type3, tag_id, tag_size, removal_size, tag_length, tag_of}
use Rattle.format.specs.Kind.{type_create, type_move, no_slot, is_wide}
use Rattle.format.specs.Walk.{Event, body_length, ent, chk, inv}
use Rattle.format.specs.Log.{log}
use Rattle.format.specs.Regular.{Rule, rule_of, between, rule_holds, count_after, grows_after, count_raised, regular_from}
use Rattle.format.specs.Regular.{Regular}
use Rattle.format.specs.declared.Rules.TheVariants.{Littlefs}
use Rattle.format.specs.Commit.{Item, commit_sum, written}
use Rattle.format.specs.Directory.{Load, Slot, Act, mk, rm, put, skip, load_of, move_of, is_move}
use Rattle.format.proofs.Tags.{length_size, of_type3, of_size}
use Rattle.theory.specs.Walk.Step.{both_true}
use Rattle.theory.specs.Log.Stores.{commit_events}
use Rattle.theory.specs.Directory.Machine.{most_slots}
use Rattle.theory.specs.Directory.Rebuild.{rebuild}
use Rattle.theory.specs.Back.EventBytes.{Stands, log_stands}
use Rattle.theory.specs.Directory.Types.{not_wide}
use Rattle.theory.specs.Blocks.ActItems.{to_item, OkAct, type_low, AllOk, ok_rev}
use Rattle.theory.specs.Blocks.SlotItems.{OkSlots, rebuild_ok}
use Rattle.theory.specs.Blocks.Compact.{compact_items}
use Rattle.theory.proofs.Compact.RegularAgain.{written_app}

-- ---- the move state of a regular log is one, with twelve bytes
abbrev pub MoveOk : Option Load → Type 0
MoveOk None = Unit {0}
MoveOk (Some v) = (v.type ≡ type_move) × (length v.bytes ≡ 12)

move_rule : (c t : ℕ) → tag_type3 t ≡ type_move → rule_holds (rule_of true (tag_type3 t)) c (tag_id t) (tag_size t) ≡ true
    → tag_size t ≡ 12
unfolding rule_of rule_holds
move_rule c t is h = eqb-true (tag_size t) 12 (both_true (eqb (tag_id t) no_slot) (eqb (tag_size t) 12) (rw is at h)).1

moves_ok : (es : List Event) (g : Bool) (c : ℕ) (v : Option Load) → Stands es → regular_from g c es ≡ true → MoveOk v
    → MoveOk (move_of v es)
unfolding regular_from move_of body_length
moves_ok [] g c v st h ok = ok
moves_ok (ent t d ∷ es) g c v st h ok =
    let R : Rule = rule_of true (tag_type3 t) in
    let n : ℕ = count_raised g R c (tag_id t) in
    let r = both_true (rule_holds R n (tag_id t) (tag_size t)) (regular_from (grows_after g R) (count_after R n) es) h in
    moves_ok es (grows_after g R) (count_after R n) (cond (is_move t) (load_of t d) v) st.1 r.1
    (go (is_move t) refl st.0.1 r.0)
  where
    go : (b : Bool) → is_move t ≡ b → length d ≡ body_length t
        → rule_holds (rule_of true (tag_type3 t)) (count_raised g (rule_of true (tag_type3 t)) c (tag_id t)) (tag_id t)
        (tag_size t) ≡ true → MoveOk (cond b (load_of t d) v)
    go false e n k = ok
    go true e n k =
        let is : tag_type3 t ≡ type_move = eqb-true (tag_type3 t) type_move e in
        let z : tag_size t ≡ 12 = move_rule (count_raised g (rule_of true (tag_type3 t)) c (tag_id t)) t is k in
        let w : is_wide t ≡ false = not_wide t (inr (omega arith)) in
        let l : tag_length t ≡ 4 + tag_size t = length_size t (λ q. omega arith) in
        rw (ne_eqb (tag_size t) removal_size (λ q. omega arith)) (is, rw w at n ∙ omega arith)
moves_ok (chk t x ∷ es) g c v st h ok =
    let r = both_true (between 4 1_022 (tag_size t)) (regular_from g c es) h in
    moves_ok es g c v st.1 r.1 ok
moves_ok (inv ∷ es) g c v st h ok = absurd st

pub regular_move : (b : List ℕ) (es : List Event) → log b ≡ es → Regular Littlefs es ≡ true → MoveOk (move_of None es)
unfolding Regular
regular_move b es is h = moves_ok es true 0 None (rw is at (log_stands b)) h tt

-- ---- compaction's entries for the slots hold none
to_item_move : (a : Act) → OkAct a → is_move (to_item a).tag ≡ false
unfolding to_item
to_item_move (mk j) h = rw (of_type3 type_create j 0 (omega arith) h (omega arith))
to_item_move (rm j) h = absurd h
to_item_move (put j c (Some v)) h =
    let low : v.type < 2 ^ 10 = type_low c v.type h.1.0 in
    let short : length v.bytes < removal_size = h.1.1 in
    rw (of_type3 v.type j (length v.bytes) (omega arith) h.0 (omega arith))
    (ne_eqb v.type type_move (λ q. omega arith))
to_item_move (put j c None) h = absurd h
to_item_move skip h = absurd h

-- entries that are no move state leave it alone
abbrev pub NoMove : List Item → Type 0
NoMove [] = Unit {0}
NoMove (i ∷ is) = (is_move i.tag ≡ false) × NoMove is

slots_no_move : (l : List Act) → AllOk l → NoMove (map to_item l)
slots_no_move [] ok = tt
slots_no_move (a ∷ l) ok = (to_item_move a ok.0, slots_no_move l ok.1)

move_stays : (is : List Item) (es : List Event) (v : Option Load) → NoMove is → move_of v (written is es) ≡ move_of v es
unfolding move_of written
move_stays [] es v h = refl
move_stays (i ∷ is) es v h = ap (λ (b : Bool). move_of (cond b (load_of i.tag i.body) v) (written is es)) h.0
    ∙ move_stays is es v h.1

-- ---- the entry that carries the move state
unfoldable pub carried : Option Load → List Item
carried None = []
carried (Some v) = record { tag = tag_of v.type no_slot (length v.bytes); body = v.bytes } ∷ []

carried_move : (v : Option Load) (t x : ℕ) → MoveOk v → move_of None (written (carried v) (chk t x ∷ [])) ≡ v
unfolding carried move_of written
carried_move None t x ok = refl
carried_move (Some v) t x ok =
    let is : v.type ≡ type_move = ok.0 in
    let n : length v.bytes ≡ 12 = ok.1 in
    rw (
      of_type3 v.type no_slot (length v.bytes) (omega arith) (omega arith) (omega arith),
      of_size v.type no_slot (length v.bytes) (omega arith),
      eq-eqb v.type type_move is,
      ne_eqb
          (length v.bytes) removal_size (λ q. omega arith),
    ) refl

-- so the compacted log's move state is the old one
pub compact_moves : (D : List Slot) (ts : List Item) (v : Option Load) (sum p ct : ℕ) → OkSlots D → length D ≤ most_slots
    → NoMove ts → MoveOk v
    → move_of None (commit_events sum p (compact_items D (ts ++ carried v)) ct) ≡ v
unfolding commit_events compact_items
compact_moves D ts v sum p ct ok few still mv =
    let R : List Act = rebuild 0 D [] in
    let x : ℕ = commit_sum sum p (map to_item (reverse R) ++ (ts ++ carried v)) ct in
    rw (
      written_app (map to_item (reverse R)) (ts ++ carried v) (chk ct x ∷ []),
      written_app ts (carried v) (chk ct x ∷ []),
    )
    (move_stays (map to_item (reverse R)) (written ts (written (carried v) (chk ct x ∷ []))) None
    (slots_no_move (reverse R) (ok_rev R [] (rebuild_ok D 0 [] ok (omega arith) tt) tt))
    ∙ move_stays ts (written (carried v) (chk ct x ∷ [])) None still ∙ carried_move v ct x mv)
