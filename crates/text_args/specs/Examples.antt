-- The greatest word and the next number, zeros in front, and texts that are no numbers. Assumes nothing.
use Rattle.std.specs.Prelude.{◌≡◌, refl, [], None, Some}
use Rattle.format.specs.Listing.{ascii}
use Rattle.text_args.specs.Number.{all_digits, value_from, number_from, number_of}

pub numbers : (number_of (ascii "0") ≡ Some 0)
    × (number_of (ascii "512") ≡ Some 512)
    × (number_of (ascii "0016") ≡ Some 16)
    × (number_of (ascii "4294967295") ≡ Some 4_294_967_295)
unfolding all_digits value_from number_from number_of
numbers = (refl, refl, refl, refl)

pub none : (number_of [] ≡ None)
    × (number_of (ascii "4294967296") ≡ None)
    × (number_of (ascii "-1") ≡ None)
    × (number_of (ascii "1:") ≡ None)
    × (number_of (ascii "/1") ≡ None)
unfolding all_digits value_from number_from number_of
none = (refl, refl, refl, refl, refl)
