-- Document 02, L1: "What is accepted stays the same". Document 01's condition, by the erased byte (L7), and the three
-- reasons side by side: the room is clean exactly if none of them applies. Then each reason, exactly when it is given.
-- Assumes nothing.
use Rattle.std.specs.Prelude.{◌≡◌, refl, ◌≢◌, ◌↔◌, Bool, true, false, ◌&&◌, List, ℕ, ◌+◌, ◌-◌, ◌%◌, ◌≤◌, ◌<◌, length, get_or, drop, ltb, Err, Ok}
use Rattle.std.proofs.Math.Path.{sym}
use Rattle.std.proofs.Common.{ap, ◌∙◌, subst, get_or-drop}
use native.Mathlib.Omega.{arith}
use Rattle.std.proofs.Math.ListN.{length-drop}
use Rattle.std.proofs.Math.Dec.{eqb}
use borrow.Author.Tests.{ltb-true, ltb-false, eqb-true, eqb-false, eq-eqb}
use Rattle.format.specs.Erased.{erased_fits, all_erased, validity_fits, BitFits, BitWrong}
use Rattle.format.specs.Room.{room_clean, erased_run, first_unerased, room_of}
use Rattle.format.specs.declared.Refusal.{Refusal}
use Rattle.format.specs.declared.Refusal.TheVariants.{Misaligned, WrongValidity, NotErased}
use Rattle.format.proofs.Refusals.{misaligned_first, validity_next, byte_last}
use Rattle.format.proofs.Erased.{erases, bit_fits, bit_wrong, fits_bit, wrong_bit}
use Rattle.format.proofs.Rooms.{tested, room_tested, clean_holds, holds_clean, run_before, run_all, run_ends}
use Rattle.theory.specs.Walk.Step.{both_true}

module _ (e : ℕ) (byte : erased_fits e ≡ true) (prog : ℕ) (b : List ℕ) (end etag : ℕ) where
  -- ---- what is accepted
  -- none of the three applies
  pub record NoReason : Type 0 where
    -- not -211: the old end is a multiple of the program size
    pub aligned : end % prog ≡ 0
    -- not -212: the end tag's validity bit fits, clear for 0xff, set for 0x00
    pub validity : BitFits e etag
    -- not -213: every byte from the old end to the block's end is erased
    pub erased : (i : ℕ) → end ≤ i → i < length b → get_or b i 0 ≡ e

  -- of the bytes from the old end on, by their offset in the block
  byte_at : (i : ℕ) → end ≤ i → get_or (drop end b) (i - end) 0 ≡ get_or b i 0
  byte_at i h =
      let same : end + (i - end) ≡ i = omega arith in
      get_or-drop end b (i - end) 0 ∙ ap (λ (k : ℕ). get_or b k 0) same

  all_bytes_lem : all_erased e (drop end b) ≡ true → (i : ℕ) → end ≤ i → i < length b → get_or b i 0 ≡ e
  all_bytes_lem h i from inside =
      sym (byte_at i from)
      ∙ run_before e (drop end b) (i - end) (omega (arith, run_all e (drop end b) h, length-drop end b))

  -- the byte behind the erased ones
  unerased : all_erased e (drop end b) ≡ false → (first_unerased e b end < length b)
      × (get_or b (first_unerased e b end) 0 ≢ e)
  unfolding first_unerased
  unerased h =
      let r = run_ends e (drop end b) h in (
        omega (arith, r.0, length-drop end b),
        λ q. r.1 (get_or-drop end b (erased_run e (drop end b)) 0 ∙ q),
      )

  from_end : end ≤ first_unerased e b end
  unfolding first_unerased
  from_end = omega arith

  bytes_all : ((i : ℕ) → end ≤ i → i < length b → get_or b i 0 ≡ e) → all_erased e (drop end b) ≡ true
  bytes_all h = go (all_erased e (drop end b)) refl
    where
      go : (c : Bool) → all_erased e (drop end b) ≡ c → c ≡ true
      go true k = refl
      go false k = absurd ((unerased k).1 (h (first_unerased e b end) from_end (unerased k).0))

  no_reason : room_clean e prog b end etag ≡ true → NoReason
  unfolding room_clean
  no_reason h =
      let p = both_true (all_erased e (drop end b) && eqb (end % prog) 0) (validity_fits e etag) h in
      let q = both_true (all_erased e (drop end b)) (eqb (end % prog) 0) p.0 in
      record {
        aligned = eqb-true (end % prog) 0 q.1;
        validity = bit_fits e etag (erases e byte) p.1;
        erased = all_bytes_lem q.0;
      }

  then_clean : NoReason → room_clean e prog b end etag ≡ true
  unfolding room_clean
  then_clean r = rw (bytes_all r.erased, eq-eqb (end % prog) 0 r.aligned, fits_bit e etag r.validity)

  -- document 01's condition, and the reasons
  pub clean_exactly : (room_clean e prog b end etag ≡ true) ↔ NoReason
  clean_exactly = (no_reason, then_clean)

  -- what the call tests, and document 01's condition
  pub room_exactly : (room_of e prog b end etag ≡ (Ok tt)) ↔ (room_clean e prog b end etag ≡ true)
  room_exactly = (clean_holds e prog b end etag, holds_clean e prog b end etag)

  -- ---- each reason, by what the three tests answer
  abbrev aligned : Bool
  aligned = eqb (end % prog) 0

  abbrev bit : Bool
  bit = validity_fits e etag

  abbrev all : Bool
  all = all_erased e (drop end b)

  abbrev Tells : Refusal → Bool → Bool → Bool → Type 0
  Tells r a p c = tested e prog b end etag a p c ≡ Err r

  told : (r : Refusal) → room_of e prog b end etag ≡ Err r → Tells r aligned bit all
  told r h = sym (room_tested e prog b end etag) ∙ h

  told_misaligned : (a p c : Bool) → Tells Misaligned a p c → a ≡ false
  told_misaligned false p c h = refl
  told_misaligned true false c h = cc
  told_misaligned true true false h = cc
  told_misaligned true true true h = cc

  told_validity : (a p c : Bool) → Tells WrongValidity a p c → (a ≡ true) × (p ≡ false)
  told_validity false p c h = (cc, cc)
  told_validity true false c h = (refl, refl)
  told_validity true true false h = (cc, cc)
  told_validity true true true h = (cc, cc)

  told_not_erased : (k : ℕ) (a p c : Bool) → Tells (NotErased k) a p c
      → (a ≡ true) × (p ≡ true) × (c ≡ false) × (first_unerased e b end ≡ k)
  told_not_erased k false p c h = (cc, cc, cc, cc)
  told_not_erased k true false c h = (cc, cc, cc, cc)
  told_not_erased k true true false h = (refl, refl, refl, cc)
  told_not_erased k true true true h = (cc, cc, cc, cc)

  -- -211 wherever the old end is no multiple, whatever the end tag and the bytes
  pub misaligned_exactly : (room_of e prog b end etag ≡ Err Misaligned) ↔ (end % prog ≢ 0)
  misaligned_exactly = (
    λ h. eqb-false (end % prog) 0 (told_misaligned aligned bit all (told Misaligned h)),
    misaligned_first e prog b end etag,
  )

  validity_then : room_of e prog b end etag ≡ Err WrongValidity → (end % prog ≡ 0) × BitWrong e etag
  validity_then h = let t = told_validity aligned bit all (told WrongValidity h) in
      (eqb-true (end % prog) 0 t.0, bit_wrong e etag (erases e byte) t.1)

  -- -212 behind an end that is one, whatever the bytes
  pub validity_exactly : (room_of e prog b end etag ≡ Err WrongValidity) ↔ ((end % prog ≡ 0) × BitWrong e etag)
  validity_exactly = (validity_then, λ h. validity_next e prog b end etag h.0 (wrong_bit e etag h.1))

  -- k is the block offset of the first byte from the old end on that isn't erased
  pub record First (k : ℕ) : Type 0 where
    pub from : end ≤ k
    pub inside : k < length b
    pub is : get_or b k 0 ≢ e
    pub before : (i : ℕ) → end ≤ i → i < k → get_or b i 0 ≡ e

  before_first : (i : ℕ) → end ≤ i → i < first_unerased e b end → get_or b i 0 ≡ e
  unfolding first_unerased
  before_first i from h = sym (byte_at i from) ∙ run_before e (drop end b) (i - end) (omega arith)

  some_byte : (k : ℕ) → First k → all_erased e (drop end b) ≡ false
  some_byte k f = go (all_erased e (drop end b)) refl
    where
      go : (c : Bool) → all_erased e (drop end b) ≡ c → c ≡ false
      go true h = absurd (f.is (all_bytes_lem h k f.from f.inside))
      go false h = refl

  -- there is one such offset
  only_first : (k : ℕ) → First k → first_unerased e b end ≡ k
  only_first k f = go (ltb k (first_unerased e b end)) (ltb (first_unerased e b end) k) refl refl
    where
      go : (x y : Bool) → ltb k (first_unerased e b end) ≡ x → ltb (first_unerased e b end) k ≡ y → first_unerased e b end
          ≡ k
      go true y h i = absurd (f.is (before_first k f.from (ltb-true k (first_unerased e b end) h)))
      go false true h i = absurd ((unerased (some_byte k f)).1
          (f.before (first_unerased e b end) from_end (ltb-true (first_unerased e b end) k i)))
      go false false h i = omega (
        arith,
        ltb-false k (first_unerased e b end) h,
        ltb-false (first_unerased e b end) k i,
      )

  not_erased_then : (k : ℕ) → room_of e prog b end etag ≡ Err (NotErased k)
      → (end % prog ≡ 0) × BitFits e etag × First k
  not_erased_then k h =
      let t = told_not_erased k aligned bit all (told (NotErased k) h) in
      let u = unerased t.2 in (
        eqb-true (end % prog) 0 t.0,
        bit_fits e etag (erases e byte) t.1,
        subst First t.3 (record { from = from_end; inside = u.0; is = u.1; before = before_first }),
      )

  then_not_erased : (k : ℕ) → (end % prog ≡ 0) × BitFits e etag × First k
      → room_of e prog b end etag ≡ Err (NotErased k)
  then_not_erased k h = byte_last e prog b end etag h.0 (fits_bit e etag h.1) (some_byte k h.2)
      ∙ ap (λ (j : ℕ). Err (NotErased j)) (only_first k h.2)

  -- -213 behind both, with that offset
  pub not_erased_exactly : (k : ℕ) → (room_of e prog b end etag ≡ Err (NotErased k))
      ↔ ((end % prog ≡ 0) × BitFits e etag × First k)
  not_erased_exactly k = (not_erased_then k, then_not_erased k)
