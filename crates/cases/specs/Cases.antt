-- Document 01, Cases: (1) to (12), as one statement over a list. Assumes nothing.
use Rattle.std.specs.Prelude.{◌≡◌, refl, List, [], ◌∷◌, map, ℤ, pos, neg_ℤ, replicate}
use Rattle.std.specs.Int.Count.{count_leading_zeros, count_trailing_zeros}
use Rattle.format.specs.Word.{be32, le32, xor}
use Rattle.format.specs.Crc.{crc, crc_byte, crc_bits, crc_bit}
use Rattle.format.specs.Walk.{read_behind, class_of, body_length, walk_in, walk_from, walk}
use Rattle.format.specs.Log.{committed, log}
use Rattle.format.specs.View.{rank, view}
use Rattle.format.specs.Fetch.{geometry_fits, pair_fits, too_high, fetch_of}
use Rattle.format.specs.Answer.{flag_of, result_number}
use Rattle.format.specs.Arith.{npw2, ctz}
use Rattle.format.specs.Count.{second_first, count_named, count_spliced}
use Rattle.format.specs.Tag.{tag_length, tag_flipped, tag_splice}

-- a case: what the definition gives, and what document 01 says that it is
pub record Case : Type 0 where
  pub given : ℤ
  pub said : ℤ

abbrev pub cases : List Case
cases =
    -- "(1) length of 0xffffffff is 4; (2) of 0x500ffc0d is 17"
    record { given = pos (tag_length 0xffff_ffff); said = pos 4 }
    ∷ record { given = pos (tag_length 0x500f_fc0d); said = pos 17 }
    -- "(3) splice of 0x4ff00000 is -1"
    ∷ record { given = tag_splice 0x4ff0_0000; said = neg_ℤ (pos 1) }
    -- "(4) revisions 0xffffffff, 0: second first; (5) 5, 5: first; (6) 0, 0x80000000: first": 1 where the second ranks
    -- first
    ∷ record { given = pos (flag_of (second_first 0xffff_ffff 0)); said = pos 1 }
    ∷ record { given = pos (flag_of (second_first 5 5)); said = pos 0 }
    ∷ record { given = pos (flag_of (second_first 0 0x8000_0000)); said = pos 0 }
    -- "(7) count 0, splice -1: 0; (8) 65,535, splice 1: 0; (9) name id 1,023: 1,024"
    ∷ record { given = pos (count_spliced 0 (neg_ℤ (pos 1))); said = pos 0 }
    ∷ record { given = pos (count_spliced 65_535 (pos 1)); said = pos 0 }
    ∷ record { given = pos (count_named 0 1_023); said = pos 1_024 }
    -- "(10) all 0xff pair: -84"
    ∷ record {
      given = result_number (fetch_of (record { block_size = 128; prog_size = 16 }) (replicate 128 0xff)
          (replicate 128 0xff) 0 1 0 0);
      said = neg_ℤ (pos 84);
    }
    -- "(11) `lfs_npw2` of 0, 1, 5: 32, 1, 3"
    ∷ record { given = pos (npw2 0); said = pos 32 }
    ∷ record { given = pos (npw2 1); said = pos 1 }
    ∷ record { given = pos (npw2 5); said = pos 3 }
    -- "(12) `lfs_ctz` of 0 and 0x80000000: 0, 31"
    ∷ record { given = pos (ctz 0); said = pos 0 }
    ∷ record { given = pos (ctz 0x8000_0000); said = pos 31 }
    ∷ []

pub all_said : map (λ c. c.given) cases ≡ map (λ c. c.said) cases
unfolding tag_length npw2 ctz count_leading_zeros count_trailing_zeros fetch_of geometry_fits pair_fits too_high view rank log committed
    walk walk_from walk_in class_of read_behind body_length tag_flipped be32 le32 xor crc crc_byte crc_bits crc_bit
all_said = refl
