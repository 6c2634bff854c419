-- The writer's other entries: the check tag, tails, move states, removals, forward checks. Assumes nothing.
use Rattle.std.specs.Prelude.{◌≡◌, List, ℕ, ◌+◌, ◌*◌, ◌/◌, ◌^◌, ◌≤◌, ◌<◌}
use Rattle.std.proofs.Common.{arith}
use Rattle.format.specs.Tag.{removal_size, tag_length, tag_of}
use Rattle.format.specs.Kind.{type_check, no_slot}
use Rattle.format.specs.Erased.{check_type}
use Rattle.format.specs.Commit.{check_tag}
use Rattle.format.specs.Directory.{skip, act}
use Rattle.format.proofs.Tags.{of_valid, of_type2, of_length, of_type3}
use Rattle.format.proofs.Erased.{check_type_lem}
use Rattle.theory.specs.Walk.ReadBack.{GoodCheck}
use Rattle.theory.specs.Directory.Types.{act_other}

-- the check tag of size s, for an erased byte: its type is 0x500 or 0x501, id 1,023
pub check_length_lem : (e s : ℕ) → s < removal_size → tag_length (check_tag e s) ≡ 4 + s
check_length_lem e s h = of_length (check_type e) no_slot s h

pub good_check : (e s : ℕ) → 4 ≤ s → s < removal_size → GoodCheck (check_tag e s)
good_check e s h k =
    let c = check_type_lem e in
    let type : check_type e / 2 ^ 7 * 2 ^ 7 ≡ type_check = omega (arith, c.0, c.1) in
    record {
      small = of_valid (check_type e) no_slot s (omega (arith, c.1)) (omega arith) (omega arith);
      check = rw (of_type2 (check_type e) no_slot s (omega (arith, c.1)) (omega arith) (omega arith), type);
      long = omega (arith, check_length_lem e s k);
    }

-- none of them touches a slot
pub act_high : (T id size : ℕ) (d : List ℕ) → type_check ≤ T → T < 2 ^ 11 → id < 2 ^ 10 → size < 2 ^ 10
    → act (tag_of T id size) d ≡ skip
act_high T id size d h a b c = act_other (tag_of T id size) d (rw (of_type3 T id size a b c) h)
