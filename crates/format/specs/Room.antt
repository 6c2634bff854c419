-- Document 02, L1: why there is no room to append. Document 01's one condition, by the erased byte (L7), and the three
-- reasons that stand in its place. Assumes nothing.
use Rattle.std.specs.Prelude.{Bool, not, cond, ◌&&◌, List, [], ◌∷◌, ℕ, suc, ◌+◌, ◌%◌, drop, eqb, Err, Ok, Result}
use Rattle.format.specs.Erased.{all_erased, validity_fits}
use Rattle.format.specs.declared.Refusal.TheVariants.{Misaligned, WrongValidity, NotErased}
use Rattle.format.specs.declared.Refusal.{Refusal}

-- Document 01: "Append needs bytes 0xff from the old end to the block's end, an old end that is a multiple of the
-- program size, and an end tag with bit 31 clear", with the erased byte e in the place of 0xff, and the bit that goes
-- with it. This says still what is accepted (promises/specs/Room).
unfoldable pub room_clean : ℕ → ℕ → List ℕ → ℕ → ℕ → Bool
room_clean e prog b end etag = all_erased e (drop end b) && eqb (end % prog) 0 && validity_fits e etag

-- how many bytes at the front of a list are erased
unfoldable pub erased_run : ℕ → List ℕ → ℕ
erased_run e [] = 0
erased_run e (b ∷ l) = cond (eqb b e) (suc (erased_run e l)) 0

-- "a first byte that isn't erased .. with its offset in the block": it stands behind those that are erased from the old
-- end on.
unfoldable pub first_unerased : ℕ → List ℕ → ℕ → ℕ
first_unerased e b end = end + erased_run e (drop end b)

-- "Tell a misaligned end, an end tag with its top bit set, and a first byte that isn't erased apart, the last with its
-- offset in the block. Test them in that order"; "L1's second reason is now 'wrong validity bit'". Each test is one
-- part of the condition above, denied.
unfoldable pub room_of : ℕ → ℕ → List ℕ → ℕ → ℕ → Result Unit Refusal
room_of e prog b end etag =
    cond (not (eqb (end % prog) 0)) (Err Misaligned)
    (cond (not (validity_fits e etag)) (Err WrongValidity)
    (cond (not (all_erased e (drop end b))) (Err (NotErased (first_unerased e b end)))
    (Ok tt)))
