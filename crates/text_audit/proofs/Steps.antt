-- One slot, and one slot more: the text and the two counts go together. Assumes nothing.
use mathlib.Core.Path.{◌≡◌, refl, sym, ap, ◌∙◌}
use mathlib.Core.Bool.{Bool, true, false, not, cond, ◌&&◌}
use mathlib.Core.List.{List, [], ◌∷◌, ◌++◌}
use Prim.Native.Nat.{ℕ, zero, suc, ◌+◌, ◌^◌, ◌≤◌, ◌<◌}
use native.Mathlib.Numerals.{add-one}
use native.Mathlib.Omega.{arith}
use lib.ListN.{length, take, get_or, length-take}
use Rattle.format.specs.Directory.{classes, Load, Slot, empty}
use Rattle.format.specs.Listing.{ascii}
use Rattle.format.specs.Audit.{is_instruction, is_payload, is_deadline, is_there, deadline_class, lacks_deadline}
use Rattle.format.specs.Audit.{lacks_payload, lack_line, deadline_line, audit_line, audit_lines, tally}
use Rattle.theory.specs.Lookup.ByMask.{holds}
use Rattle.text.specs.Put.{Puts}
use Rattle.text.specs.declared.Text.{Text}
use Rattle.text.proofs.Joined.{puts_none}
use Rattle.compact_slot.specs.Seat.{hit_at}
use Rattle.compact_slot.specs.Slots.{slot_in, AllInside}
use Rattle.text_input.proofs.Slots.{Shown, slots_each}
use Rattle.text_audit.specs.Audited.{Told, Few, SlotAudited, SlotsAudited}
use Rattle.text_audit.specs.declared.Audit.{Audit}
use Rattle.std.specs.Prelude.{None, Option, Some}
use Rattle.std.specs.Option.{is_some}
use Rattle.format.specs.declared.Found.{Found}

-- ---- what the seats tell: of h, that of class c, an answer
module _ (b seats : List ℕ) (i : AllInside b seats) where
  told : (asks : Option Load → Bool) (c : ℕ) → c < classes → (h : Option Found) → h ≡ hit_at seats c → (x : Bool)
      → Told asks h x → x ≡ asks (slot_in b seats c)
  told asks c l h e x t = t b (rw e (i c l)) ∙ ap (λ (k : Option Found). asks (holds b k)) e

-- what the code has asked of a slot's seats: n, p and d are what was found of its name, its struct and its attribute, x
-- tells whether it is an instruction, y whether it has a payload
pub record Asked (b seats : List ℕ) (n p d : Option Found) (x y : Bool) : Type 0 where
  pub inside : AllInside b seats
  pub name : n ≡ hit_at seats 0
  pub struct : p ≡ hit_at seats 1
  pub attribute : d ≡ hit_at seats deadline_class
  pub instruction : Told is_instruction n x
  pub payload : Told is_payload p y

pub asked : (b seats : List ℕ) (n p d : Option Found) (x y : Bool) → AllInside b seats → n ≡ hit_at seats 0
    → p ≡ hit_at seats 1 → d ≡ hit_at seats deadline_class → Told is_instruction n x → Told is_payload p y
    → Asked b seats n p d x y
asked b seats n p d x y i en ep ed tx ty =
    record { inside = i; name = en; struct = ep; attribute = ed; instruction = tx; payload = ty }

-- what was found is there
pub told_there : (h : Option Found) (w : Bool) → w ≡ is_some h → Told is_there h w
unfolding is_there holds
told_there None w e b i = e
told_there (Some u) w e b i = e

module _ (b seats : List ℕ) (n p d : Option Found) (x y : Bool) (k : Asked b seats n p d x y) where
  told_name : x ≡ is_instruction (slot_in b seats 0)
  told_name = told b seats k.inside is_instruction 0 (omega arith) n k.name x k.instruction

  told_struct : y ≡ is_payload (slot_in b seats 1)
  told_struct = told b seats k.inside is_payload 1 (omega arith) p k.struct y k.payload

  -- z tells whether its deadline can be read, w whether it is there
  pub tells_deadline : (z : Bool) → Told is_deadline d z → x && (y && not z) ≡ lacks_deadline (slot_in b seats)
  unfolding lacks_deadline
  tells_deadline z ez = rw (
    told_name,
    told_struct,
    told b seats k.inside is_deadline deadline_class (omega arith) d k.attribute z ez,
  )

  pub tells_payload : (w : Bool) → Told is_there d w → x && (w && not y) ≡ lacks_payload (slot_in b seats)
  unfolding lacks_payload
  tells_payload w ew = rw (
    told_name,
    told_struct,
    told b seats k.inside is_there deadline_class (omega arith) d k.attribute w ew,
  )

-- a slot lacks one of the two
one_lacks : (x y z w : Bool) → x && (y && not z) ≡ true → x && (w && not y) ≡ false
one_lacks false y z w h = refl
one_lacks true true z true h = refl
one_lacks true true z false h = refl
one_lacks true false z w h = cc

lacks_one : (s : Slot) → lacks_deadline s ≡ true → lacks_payload s ≡ false
unfolding lacks_deadline lacks_payload
lacks_one s h = one_lacks (is_instruction (s 0)) (is_payload (s 1)) (is_deadline (s deadline_class))
    (is_there (s deadline_class)) h

-- ---- a slot: x and y are what the code tests
module _ (s t : Text) (a : Audit) (id : ℕ) (slot : Slot) (u : Option Load) (eu : u ≡ slot 0) (x : Bool)
    (ex : x ≡ lacks_deadline slot) where
  pub slot_no_deadline : x ≡ true → (v : Option Load) → v ≡ slot deadline_class → Puts s t (deadline_line id u v)
      → SlotAudited s t a (record a { no_deadline = a.no_deadline + 1 }) id slot
  unfolding audit_line
  slot_no_deadline h v ev e =
      let d : lacks_deadline slot ≡ true = sym ex ∙ h in
      record { line = rw (d, ← eu, ← ev) e; deadline = rw d; payload = rw (lacks_one slot d) (omega arith) }

  module _ (y : Bool) (ey : y ≡ lacks_payload slot) (g : x ≡ false) where
    pub slot_no_payload : y ≡ true → Puts s t (lack_line id u (ascii " no payload\n"))
        → SlotAudited s t a (record a { no_payload = a.no_payload + 1 }) id slot
    unfolding audit_line
    slot_no_payload h e =
        let d : lacks_deadline slot ≡ false = sym ex ∙ g in
        let p : lacks_payload slot ≡ true = sym ey ∙ h in
        record { line = rw (d, p, ← eu) e; deadline = rw d (omega arith); payload = rw p }

    pub slot_whole : y ≡ false → SlotAudited s s a a id slot
    unfolding audit_line
    slot_whole h =
        let d : lacks_deadline slot ≡ false = sym ex ∙ g in
        let p : lacks_payload slot ≡ false = sym ey ∙ h in
        record {
          line = rw (d, p) (puts_none s);
          deadline = rw d (omega arith);
          payload = rw p (omega arith);
        }

-- ---- slots that hold the same lack the same
abbrev Same : Slot → Slot → Type 0
Same s t = (k : ℕ) → k < classes → s k ≡ t k

deadline_same : (s t : Slot) → Same s t → lacks_deadline s ≡ lacks_deadline t
unfolding lacks_deadline
deadline_same s t h = rw (h 0 (omega arith), h 1 (omega arith), h deadline_class (omega arith))

payload_same : (s t : Slot) → Same s t → lacks_payload s ≡ lacks_payload t
unfolding lacks_payload
payload_same s t h = rw (h 0 (omega arith), h 1 (omega arith), h deadline_class (omega arith))

line_same : (id : ℕ) (s t : Slot) → Same s t → audit_line id s ≡ audit_line id t
unfolding audit_line
line_same id s t h = rw (deadline_same s t h, payload_same s t h, h 0 (omega arith), h deadline_class (omega arith))

lines_next : (id : ℕ) (s : Slot) (D : List Slot) → audit_lines id (s ∷ D) ≡ audit_line id s ++ audit_lines (suc id) D
unfolding audit_lines
lines_next id s D = refl

lines_none : (id : ℕ) → audit_lines id [] ≡ []
unfolding audit_lines
lines_none id = refl

shown : Shown audit_lines audit_line
shown = record { next = lines_next; none = lines_none; same = line_same }

-- ---- the loop: one slot more to show, and to count
tally_more : (is : Slot → Bool) (D : List Slot) (id : ℕ) → id < length D
    → tally is (take (suc id) D) ≡ tally is (take id D) + cond (is (get_or D id empty)) 1 0
unfolding tally
tally_more is [] id h = absurd (omega arith)
tally_more is (s ∷ D) zero h = omega arith
tally_more is (s ∷ D) (suc id) h = omega (arith, tally_more is D id (omega arith))

one : (b : Bool) → cond b 1 0 ≤ 1
one true = omega arith
one false = omega arith

tally_most : (is : Slot → Bool) (D : List Slot) → tally is D ≤ length D
unfolding tally
tally_most is [] = omega arith
tally_most is (s ∷ D) = omega (arith, one (is s), tally_most is D)

pub none_yet : (s : Text) → SlotsAudited s s (record { no_deadline = 0; no_payload = 0 }) []
unfolding tally audit_lines
none_yet s = record { lines = puts_none s; deadline = refl; payload = refl }

module _ (s t : Text) (a : Audit) (D : List Slot) (id : ℕ) (w : SlotsAudited s t a (take id D)) where
  pub one_more : (t' : Text) (r : Audit) (slot : Slot) → id < length D → Same slot (get_or D id empty)
      → SlotAudited t t' a r id slot → SlotsAudited s t' r (take (id + 1) D)
  one_more t' r slot h same z =
      record {
        lines = slots_each audit_lines audit_line shown s t t' D id slot h same w.lines z.line;
        deadline = z.deadline
            ∙ rw (add-one id, tally_more lacks_deadline D id h, w.deadline, deadline_same slot (get_or D id empty) same);
        payload = z.payload
            ∙ rw (add-one id, tally_more lacks_payload D id h, w.payload, payload_same slot (get_or D id empty) same);
      }

  pub few_yet : id < 2 ^ 16 → Few a
  few_yet h = record {
    deadline = omega (arith, w.deadline, tally_most lacks_deadline (take id D), length-take {A = Slot} id D);
    payload = omega (arith, w.payload, tally_most lacks_payload (take id D), length-take {A = Slot} id D);
  }
