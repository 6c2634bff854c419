-- Why there is no room to append: each reason alone, every two of them at once, and none, of a block of twelve bytes
-- whose log ends at 4, for both erased bytes: by computation. (Of whole pairs: Commits, Erased.) Assumes nothing.
use Rattle.std.specs.Prelude.{◌≡◌, refl, true, false, List, [], ◌∷◌, ◌++◌, ℕ, ◌-◌, ◌^◌, Err, Ok}
use Rattle.format.specs.Erased.{erased, all_erased, validity_fits}
use Rattle.format.specs.Room.{room_clean, erased_run, first_unerased, room_of}
use Rattle.format.specs.declared.Refusal.TheVariants.{Misaligned, WrongValidity, NotErased}

abbrev clean : ℕ → List ℕ
clean e = (1 ∷ 2 ∷ 3 ∷ 4 ∷ []) ++ erased e 8

-- the bytes 5, 7 and 11 aren't erased, whichever byte is
abbrev torn : ℕ → List ℕ
torn e = 1 ∷ 2 ∷ 3 ∷ 4 ∷ e ∷ 0xfe ∷ e ∷ 0x01 ∷ e ∷ e ∷ e ∷ 0x7f ∷ []

-- an end tag whose top bit is clear, and one whose top bit is set
abbrev plain : ℕ
plain = 2 ^ 31 - 1

abbrev top : ℕ
top = 2 ^ 31

-- `fits` is an end tag with the validity bit of the erased byte e, `wrong` one with the other. The program size 4 has
-- the end 4 as a multiple, 8 has not.
abbrev Reasons : ℕ → ℕ → ℕ → Type 0
Reasons e fits wrong = (room_of e 4 (clean e) 4 fits ≡ (Ok tt))
    × (room_of e 8 (clean e) 4 fits ≡ Err Misaligned)
    × (room_of e 4 (clean e) 4 wrong ≡ Err WrongValidity)
    × (room_of e 4 (torn e) 4 fits ≡ Err (NotErased 5))
    × (room_of e 4 (torn e) 8 fits ≡ Err (NotErased 11))
    × (room_of e 4 (torn e) 12 fits ≡ (Ok tt))

-- "bit 31 of the end tag clear for 0xff, set for 0x00"
reasons : Reasons 0xff plain top × Reasons 0x00 top plain
unfolding room_of first_unerased erased_run all_erased validity_fits
reasons = ((refl, refl, refl, refl, refl, refl), (refl, refl, refl, refl, refl, refl))

-- two at once, and all three: "Test them in that order"
abbrev InOrder : ℕ → ℕ → ℕ → Type 0
InOrder e fits wrong = (room_of e 8 (clean e) 4 wrong ≡ Err Misaligned)
    × (room_of e 8 (torn e) 4 fits ≡ Err Misaligned)
    × (room_of e 4 (torn e) 4 wrong ≡ Err WrongValidity)
    × (room_of e 8 (torn e) 4 wrong ≡ Err Misaligned)

in_order_lem : InOrder 0xff plain top × InOrder 0x00 top plain
unfolding room_of first_unerased erased_run all_erased validity_fits
in_order_lem = ((refl, refl, refl, refl), (refl, refl, refl, refl))

-- a pair moved to a board that erases to the other byte: the end tag is wrong; where it fits, the first byte is
moved : (room_of 0x00 4 (clean 0xff) 4 plain ≡ Err WrongValidity)
    × (room_of 0x00 4 (clean 0xff) 4 top ≡ Err (NotErased 4))
    × (room_of 0xff 4 (clean 0x00) 4 top ≡ Err WrongValidity)
    × (room_of 0xff 4 (clean 0x00) 4 plain ≡ Err (NotErased 4))
unfolding room_of first_unerased erased_run all_erased validity_fits
moved = (refl, refl, refl, refl)

-- document 01's condition on the same
abbrev AsBefore : ℕ → ℕ → ℕ → Type 0
AsBefore e fits wrong = (room_clean e 4 (clean e) 4 fits ≡ true)
    × (room_clean e 8 (clean e) 4 fits ≡ false)
    × (room_clean e 4 (clean e) 4 wrong ≡ false)
    × (room_clean e 4 (torn e) 4 fits ≡ false)
    × (room_clean e 4 (torn e) 12 fits ≡ true)

as_before : AsBefore 0xff plain top × AsBefore 0x00 top plain
unfolding room_clean all_erased validity_fits
as_before = ((refl, refl, refl, refl, refl), (refl, refl, refl, refl, refl))
