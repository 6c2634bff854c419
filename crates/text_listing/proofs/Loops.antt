-- The loops over a slot's user attributes and over the slots: one more is shown behind those before it. Assumes nothing.
use Rattle.std.proofs.Common.{◌≡◌, refl, sym, ap, ap₂, ◌∙◌, List, [], ◌∷◌, ◌++◌, append_assoc, append-nil, ℕ, zero, suc, ◌+◌, ◌^◌, ◌<◌}
use Rattle.std.proofs.Common.{arith, Option}
use Rattle.format.specs.Directory.{classes, Load, Slot}
use Rattle.format.specs.Listing.{ascii, decimal, name_fields, struct_fields, slot_line, attr_line, attr_lines}
use Rattle.format.specs.Listing.{slot_text, slot_lines}
use Rattle.text_input.proofs.Slots.{Shown}

-- ---- a class more
pub class_behind : (n c id : ℕ) (s : Slot)
    → attr_lines (suc n) c id s ≡ attr_lines n c id s ++ attr_line id (s (n + c))
unfolding attr_lines
class_behind zero c id s =
    let e : 0 + c ≡ c = omega arith in
    rw e (append-nil (attr_line id (s c)))
class_behind (suc n) c id s =
    let e : n + suc c ≡ suc n + c = omega arith in
    ap (λ (l : List ℕ). attr_line id (s c) ++ l) (class_behind n (suc c) id s)
    ∙ sym (append_assoc (attr_line id (s c)) (attr_lines n (suc c) id s) (attr_line id (s (n + suc c))))
    ∙ ap (λ (k : ℕ). attr_lines (suc n) c id s ++ attr_line id (s k)) e

-- ---- slots that hold the same are shown the same
attrs_same : (n c id : ℕ) (s t : Slot) → ((k : ℕ) → k < c + n → s k ≡ t k) → attr_lines n c id s ≡ attr_lines n c id t
unfolding attr_lines
attrs_same zero c id s t h = refl
attrs_same (suc n) c id s t h =
    ap₂ (λ (x : Option Load) (y : List ℕ). attr_line id x ++ y) (h c (omega arith))
    (attrs_same n (suc c) id s t (λ k l. h k (omega arith)))

text_same : (id : ℕ) (s t : Slot) → ((k : ℕ) → k < classes → s k ≡ t k) → slot_text id s ≡ slot_text id t
unfolding slot_line
text_same id s t h =
    ap₂ ◌++◌ (ap₂ (λ (x y : Option Load). ascii "slot " ++ (decimal id ++ (name_fields x ++ struct_fields y)))
    (h 0 (omega arith)) (h 1 (omega arith)))
    (attrs_same (2 ^ 8) 2 id s t (λ k l. h k (omega arith)))

lines_next : (id : ℕ) (s : Slot) (D : List Slot) → slot_lines id (s ∷ D) ≡ slot_text id s ++ slot_lines (suc id) D
unfolding slot_lines
lines_next id s D = sym (append_assoc (slot_line id s) (attr_lines (2 ^ 8) 2 id s) (slot_lines (suc id) D))

lines_none : (id : ℕ) → slot_lines id [] ≡ []
unfolding slot_lines
lines_none id = refl

pub slots_shown : Shown slot_lines slot_text
slots_shown = record { next = lines_next; none = lines_none; same = text_same }
