-- Items made of a type, an id and a size that pass their rule: the fields hold them, and the tag gives them back.
-- Assumes nothing.
use Rattle.std.specs.Prelude.{◌≡◌, Bool, true, false, cond, ◌&&◌, List, [], ◌∷◌, ℕ, ◌+◌, ◌^◌, ◌≤◌, ◌<◌, length, leb, eqb, ltb}
use Rattle.std.proofs.Common.{arith, leb-true, eqb-true, ltb-true}
use Rattle.format.specs.Tag.{tag_type3, tag_id, tag_size, removal_size, tag_length, tag_of}
use Rattle.format.specs.Kind.{no_slot}
use Rattle.format.specs.Regular.{Rule, rule_of, between, rule_holds, create, delete, name, inlined, eight, attribute}
use Rattle.format.specs.Regular.{tail, move, forward, bad}
use Rattle.format.specs.Commit.{Item}
use Rattle.format.proofs.Tags.{of_type3, of_id, of_size, of_valid}
use Rattle.theory.specs.Walk.Step.{both_true}
use Rattle.theory.specs.Directory.Machine.{most_slots}
use Rattle.theory.specs.Rules.RuledEntry.{Says, rule_says}

-- what passes a rule at a count of at most 1,023 fits its field
pub record Fields (type id size : ℕ) : Type 0 where
  pub type' : type < 2 ^ 11
  pub id' : id < 2 ^ 10
  pub size' : size < 2 ^ 10

holds_fields : (R : Rule) (type c id size : ℕ) → c ≤ most_slots → Says type R → rule_holds R c id size ≡ true
    → Fields type id size
unfolding rule_holds
holds_fields create type c id size low s h =
    let r = both_true (leb id c && leb c 1_022) (eqb size 0) h in
    let q = both_true (leb id c) (leb c 1_022) r.0 in
    record {
      type' = omega arith;
      id' = omega (arith, leb-true id c q.0);
      size' = omega (arith, eqb-true size 0 r.1);
    }
holds_fields delete type c id size low s h =
    let r = both_true (ltb id c) (eqb size 0) h in
    record {
      type' = omega arith;
      id' = omega (arith, ltb-true id c r.0);
      size' = omega (arith, eqb-true size 0 r.1);
    }
holds_fields name type c id size low s h =
    let r = both_true (ltb id c) (between 1 1_022 size) h in
    let q = both_true (leb 1 size) (leb size 1_022) r.1 in
    record {
      type' = omega arith;
      id' = omega (arith, ltb-true id c r.0);
      size' = omega (arith, leb-true size 1_022 q.1);
    }
holds_fields inlined type c id size low s h =
    let r = both_true (ltb id c) (leb size 1_022) h in
    record {
      type' = omega arith;
      id' = omega (arith, ltb-true id c r.0);
      size' = omega (arith, leb-true size 1_022 r.1);
    }
holds_fields eight type c id size low s h =
    let r = both_true (ltb id c) (eqb size 8) h in
    record {
      type' = omega (arith, s.1);
      id' = omega (arith, ltb-true id c r.0);
      size' = omega (arith, eqb-true size 8 r.1);
    }
holds_fields attribute type c id size low s h =
    let r = both_true (ltb id c) (leb size removal_size) h in
    record {
      type' = omega (arith, s.1);
      id' = omega (arith, ltb-true id c r.0);
      size' = omega (arith, leb-true size removal_size r.1);
    }
holds_fields tail type c id size low s h =
    let r = both_true (eqb id no_slot) (eqb size 8) h in
    record {
      type' = omega (arith, s.1);
      id' = omega (arith, eqb-true id no_slot r.0);
      size' = omega (arith, eqb-true size 8 r.1);
    }
holds_fields move type c id size low s h =
    let r = both_true (eqb id no_slot) (eqb size 12) h in
    record {
      type' = omega arith;
      id' = omega (arith, eqb-true id no_slot r.0);
      size' = omega (arith, eqb-true size 12 r.1);
    }
holds_fields forward type c id size low s h =
    let r = both_true (eqb id no_slot) (eqb size 8) h in
    record {
      type' = omega arith;
      id' = omega (arith, eqb-true id no_slot r.0);
      size' = omega (arith, eqb-true size 8 r.1);
    }
holds_fields bad type c id size low s h = absurd (let z : ◌≡◌ {A = ℕ} 0 1 = cc in omega arith)

pub rule_fields : (logged : Bool) (type c id size : ℕ) → c ≤ most_slots → rule_holds (rule_of logged type) c id size ≡ true
    → Fields type id size
rule_fields logged type c id size low h = holds_fields (rule_of logged type) type c id size low (rule_says type logged) h

-- so an item made of them passes with the tag's own fields
pub made_holds : (logged : Bool) (type c id size : ℕ) → c ≤ most_slots → rule_holds (rule_of logged type) c id size ≡ true
    → rule_holds (rule_of logged (tag_type3 (tag_of type id size))) c (tag_id (tag_of type id size))
    (tag_size (tag_of type id size)) ≡ true
made_holds logged type c id size low h =
    let f = rule_fields logged type c id size low h in
    rw (
      of_type3 type id size f.type' f.id' f.size',
      of_id type id size f.id' f.size',
      of_size type id size f.size',
    ) h

-- an item as it was made: a valid tag, and the bytes that its length says
abbrev pub Made : Item → Type 0
Made i = (i.tag < 2 ^ 31) × (tag_length i.tag ≡ 4 + length i.body)

abbrev pub AllMade : List Item → Type 0
AllMade [] = Unit {0}
AllMade (i ∷ is) = Made i × AllMade is

-- the data of an entry: as many bytes as its size says, or none for a removal
pub item_made : (type id size : ℕ) (body : List ℕ) → Fields type id size
    → length body ≡ cond (eqb size removal_size) 0 size
    → Made (record { tag = tag_of type id size; body = body })
unfolding tag_length
item_made type id size body f n = (
  of_valid type id size f.type' f.id' f.size',
  rw (of_size type id size f.size') (go (eqb size removal_size) n),
)
  where
    go : (b : Bool) → length body ≡ cond b 0 size → cond b 4 (4 + size) ≡ 4 + length body
    go true e = omega arith
    go false e = omega arith
