-- Entries of no slot, as a tail, a move state or a forward check is: they pass their rule at every count, leave the
-- count, and touch no slot; and two words in eight bytes. Assumes nothing.
use Rattle.std.specs.Prelude.{◌≡◌, refl, true, List, [], ◌∷◌, ◌++◌, ℕ, ◌+◌, ◌^◌, ◌≤◌, ◌<◌, length, drop}
use Rattle.std.proofs.Common.{sym, ap, ap₂, ◌∙◌, append-nil, arith, length-append, drop_at, ne_eqb}
use Rattle.format.specs.Word.{le32, to_le32}
use Rattle.format.specs.Tag.{tag_type3, tag_id, tag_size, removal_size, tag_of}
use Rattle.format.specs.Kind.{no_slot}
use Rattle.format.specs.Record.{pair_in}
use Rattle.format.specs.Regular.{rule_of, rule_holds, count_after, logged_rule}
use Rattle.format.specs.Commit.{Item, items_hold}
use Rattle.format.specs.Directory.{skip, act}
use Rattle.format.specs.declared.LfsPair.{LfsPair}
use Rattle.format.proofs.Words.{le32_to_le32, length_to_le32}
use Rattle.format.proofs.Tags.{of_type3, of_id, of_size}
use Rattle.theory.specs.Walk.Step.{both_true}
use Rattle.theory.specs.Blocks.Compact.{Still}
use Rattle.theory.specs.Blocks.OtherItems.{act_high}
use Rattle.theory.specs.Rules.MadeItem.{Made, AllMade, item_made}

-- ---- entries that pass their rule at every count, leave the count, and touch no slot
pub record Loose (i : Item) : Type 0 where
  pub made : Made i
  pub hold : (c : ℕ) → rule_holds (logged_rule i.tag) c (tag_id i.tag) (tag_size i.tag) ≡ true
  pub stays : (c : ℕ) → count_after (logged_rule i.tag) c ≡ c
  pub still : act i.tag i.body ≡ skip

abbrev pub AllLoose : List Item → Type 0
AllLoose [] = Unit {0}
AllLoose (i ∷ is) = Loose i × AllLoose is

pub loose_app : (is js : List Item) → AllLoose is → AllLoose js → AllLoose (is ++ js)
loose_app [] js h k = k
loose_app (i ∷ is) js h k = (h.0, loose_app is js h.1 k)

pub loose_made : (is : List Item) → AllLoose is → AllMade is
loose_made [] h = tt
loose_made (i ∷ is) h = (h.0.made, loose_made is h.1)

pub loose_hold : (is : List Item) (c : ℕ) → AllLoose is → items_hold c is ≡ true
unfolding items_hold
loose_hold [] c h = refl
loose_hold (i ∷ is) c h = rw (h.0.hold c, h.0.stays c) (loose_hold is c h.1)

-- behind others
pub made_behind : (is js : List Item) → AllMade is → AllLoose js → AllMade (is ++ js)
made_behind [] js h k = loose_made js k
made_behind (i ∷ is) js h k = (h.0, made_behind is js h.1 k)

pub hold_behind : (is js : List Item) (c : ℕ) → items_hold c is ≡ true → AllLoose js → items_hold c (is ++ js) ≡ true
unfolding items_hold
hold_behind [] js c h k = loose_hold js c k
hold_behind (i ∷ is) js c h k =
    let r = both_true (rule_holds (logged_rule i.tag) c (tag_id i.tag) (tag_size i.tag))
    (items_hold (count_after (logged_rule i.tag) c) is) h in
    rw r.0 (hold_behind is js (count_after (logged_rule i.tag) c) r.1 k)

pub loose_still : (is : List Item) → AllLoose is → Still is
loose_still [] h = tt
loose_still (i ∷ is) h = (h.0.still, loose_still is h.1)

-- ---- an entry of no slot, whose type's rule asks only id and size
pub loose_item : (T : ℕ) (d : List ℕ) → 0x500 ≤ T → T < 2 ^ 11 → length d < removal_size
    → ((c : ℕ) → (rule_holds (rule_of true T) c no_slot (length d) ≡ true) × (count_after (rule_of true T) c ≡ c))
    → Loose (record { tag = tag_of T no_slot (length d); body = d })
loose_item T d high low short rule =
    let is : tag_type3 (tag_of T no_slot (length d)) ≡ T = of_type3 T no_slot (length d) low (omega arith) (omega arith) in
    record {
      made = item_made T no_slot (length d) d (record { type' = low; id' = omega arith; size' = omega arith })
          (rw (ne_eqb (length d) removal_size (λ q. omega arith)));
      hold = λ c. rw (
        is,
        of_id T no_slot (length d) (omega arith) (omega arith),
        of_size T no_slot (length d) (omega arith),
      ) (rule c).0;
      stays = λ c. rw is (rule c).1;
      still = act_high T no_slot (length d) d high low (omega arith) (omega arith);
    }

-- ---- two words in eight bytes, as a tail has them
abbrev pub tail_body : LfsPair → List ℕ
tail_body p = to_le32 p.n0 ++ to_le32 p.n1

pub tail_eight : (p : LfsPair) → length (tail_body p) ≡ 8
tail_eight p = length-append (to_le32 p.n0) (to_le32 p.n1) ∙ ap₂ (λ (x y : ℕ). x + y) (length_to_le32 p.n0)
    (length_to_le32 p.n1)

-- a pair in eight bytes reads back
pub pair_back : (p : LfsPair) → pair_in (tail_body p) ≡ p
pair_back p =
    let second : le32 (drop 4 (tail_body p)) ≡ p.n1
    = ap le32 (drop_at (to_le32 p.n0) (to_le32 p.n1) 4 (length_to_le32 p.n0) ∙ sym (append-nil (to_le32 p.n1)))
    ∙ le32_to_le32 p.n1 [] in
    ap₂ (λ (x y : ℕ). record { n0 = x; n1 = y }) (le32_to_le32 p.n0 (to_le32 p.n1)) second
