-- No listing is as long as 2^32 bytes: what a regular log holds is short, and there are at most 1,023 slots. Assumes
-- nothing.
use mathlib.Core.Path.{◌≡◌, refl}
use mathlib.Core.Bool.{Bool, true, false, cond}
use mathlib.Core.List.{List, [], ◌∷◌, ◌++◌}
use Prim.Native.Nat.{ℕ, zero, suc, ◌*◌, ◌^◌, ◌≤◌, ◌<◌}
use native.Mathlib.Omega.{arith}
use lib.ListN.{length, length-append}
use Rattle.format.specs.Log.{log}
use Rattle.format.specs.Regular.{Regular, rules_of}
use Rattle.format.specs.declared.Rules.{Rules}
use Rattle.format.proofs.Growing.{widest}
use Rattle.format.specs.Directory.{Load, Slot, dir_of}
use Rattle.format.specs.Compaction.{is_no_tail}
use Rattle.format.specs.Listing.{ascii, decimal, hex_byte, hex_bytes, hex_type, number_line, tail_kind, tail_line}
use Rattle.format.specs.Listing.{erased_line, record_lines, name_fields, struct_fields, slot_line, attr_data, attr_line}
use Rattle.format.specs.Listing.{attr_lines, slot_text, slot_lines, refused_line, dir_lines, block_text, fetch_input}
use Rattle.format.specs.Listing.{fetched_text, listing_as}
use Rattle.format.specs.declared.LfsPair.{LfsPair}
use Rattle.format.specs.declared.LfsMdir.{LfsMdir}
use Rattle.format.specs.declared.Refusal.TheVariants.{Irregular}
use Rattle.theory.specs.Blocks.SlotItems.{OkSlot, OkSlots, ok_dir_of}
use Rattle.theory.specs.Commit.Tested.{regular_loads}
use Rattle.theory.proofs.Compact.AcceptedVerdict.{slots_few}
use Rattle.text_input.proofs.Short.{decimal_short, name_length, number_short, refused_short, Short, slot_loads}
use Rattle.text_input.proofs.Short.{ruled_short, fetched_short}
use Rattle.std.specs.Prelude.{None, Option, Some}

-- ---- numbers and bytes
hex_length : (l : List ℕ) → length (hex_bytes l) ≤ 2 * length l
unfolding hex_bytes
hex_length [] = omega arith
hex_length (b ∷ l) = omega (arith, length-append (hex_byte b) (hex_bytes l), hex_length l)

-- ---- the record
tail_short : (split : Bool) (p : LfsPair) → length (tail_line split p) ≤ 32
unfolding tail_line
tail_short split p = go (is_no_tail split p) split
  where
    go : (x s : Bool) → length
        (cond x (ascii "tail none\n") (tail_kind s ++ (decimal p.n0 ++ number_line (ascii " ") p.n1))) ≤ 32
    go true s = omega arith
    go false true = omega (
      arith,
      length-append (decimal p.n0) (number_line (ascii " ") p.n1),
      decimal_short 10 p.n0,
      number_short (ascii " ") p.n1,
    )
    go false false = omega (
      arith,
      length-append (decimal p.n0) (number_line (ascii " ") p.n1),
      decimal_short 10 p.n0,
      number_short (ascii " ") p.n1,
    )

erased_short : (e : Bool) → length (erased_line e) ≤ 11
unfolding erased_line
erased_short true = omega arith
erased_short false = omega arith

record_short : (m : LfsMdir) → length (record_lines m) ≤ 120
unfolding record_lines
record_short m =
    let E : List ℕ = tail_line m.split m.tail ++ erased_line m.erased in
    let C : List ℕ = number_line (ascii "count ") m.count ++ E in
    let O : List ℕ = number_line (ascii "end ") m.off ++ C in
    let B : List ℕ = number_line (ascii "block ") m.pair.n0 ++ O in
    let e : length E ≤ 43 = omega (
      arith,
      length-append (tail_line m.split m.tail) (erased_line m.erased),
      tail_short m.split m.tail,
      erased_short m.erased,
    ) in
    let c : length C ≤ 60 = omega (
      arith,
      length-append (number_line (ascii "count ") m.count) E,
      number_short (ascii "count ") m.count,
      e,
    ) in
    let o : length O ≤ 75 = omega
    (arith, length-append (number_line (ascii "end ") m.off) C, number_short (ascii "end ") m.off, c) in
    let b : length B ≤ 92 = omega (
      arith,
      length-append (number_line (ascii "block ") m.pair.n0) O,
      number_short (ascii "block ") m.pair.n0,
      o,
    ) in
    omega (arith, length-append (number_line (ascii "rev ") m.rev) B, number_short (ascii "rev ") m.rev, b)

-- ---- a slot whose loads are short
name_fields_short : (o : Option Load) → Short o → length (name_fields o) ≤ 4_093
unfolding name_fields
name_fields_short None h = omega arith
name_fields_short (Some v) h = omega (arith, name_length v.bytes)

struct_fields_short : (o : Option Load) → length (struct_fields o) ≤ 16
unfolding struct_fields
struct_fields_short None = omega arith
struct_fields_short (Some v) = omega (arith, number_short (ascii " ") (length v.bytes))

data_short : (l : List ℕ) → length l ≤ 1_022 → length (attr_data l) ≤ 2_044
data_short [] h = omega arith
data_short (b ∷ l) h = omega (arith, hex_length (b ∷ l))

attr_short : (id : ℕ) (o : Option Load) → Short o → length (attr_line id o) ≤ 2_070
unfolding attr_line
attr_short id None h = omega arith
attr_short id (Some v) h =
    let D : List ℕ = attr_data v.bytes ++ ascii "\n" in
    let T : List ℕ = ascii " " ++ (hex_type v.type ++ (ascii " " ++ D)) in
    omega (
      arith,
      length-append (decimal id) T,
      length-append (attr_data v.bytes) (ascii "\n"),
      decimal_short 10 id,
      data_short v.bytes h,
    )

slot_short : (id : ℕ) (s : Slot) → OkSlot s → length (slot_line id s) ≤ 4_124
unfolding slot_line
slot_short id s ok =
    let F : List ℕ = name_fields (s 0) ++ struct_fields (s 1) in
    omega (
      arith,
      length-append (decimal id) F,
      length-append (name_fields (s 0)) (struct_fields (s 1)),
      decimal_short 10 id,
      name_fields_short (s 0) (slot_loads s ok 0),
      struct_fields_short (s 1),
    )

attrs_short : (n c id : ℕ) (s : Slot) → OkSlot s → length (attr_lines n c id s) ≤ n * 2_070
unfolding attr_lines
attrs_short zero c id s ok = omega arith
attrs_short (suc n) c id s ok =
    omega (
      arith,
      length-append (attr_line id (s c)) (attr_lines n (suc c) id s),
      attr_short id (s c) (slot_loads s ok c),
      attrs_short n (suc c) id s ok,
    )

pub text_short : (id : ℕ) (s : Slot) → OkSlot s → length (slot_text id s) ≤ 534_044
text_short id s ok =
    omega (
      arith,
      length-append (slot_line id s) (attr_lines (2 ^ 8) 2 id s),
      slot_short id s ok,
      attrs_short (2 ^ 8) 2 id s ok,
    )

slots_short : (D : List Slot) (id : ℕ) → OkSlots D → length (slot_lines id D) ≤ length D * 534_044
unfolding slot_lines
slots_short [] id h = omega arith
slots_short (s ∷ D) id h =
    let A : List ℕ = attr_lines (2 ^ 8) 2 id s in
    let R : List ℕ = slot_lines (suc id) D in
    omega (
      arith,
      length-append (slot_line id s) (A ++ R),
      length-append A R,
      length-append (slot_line id s) A,
      text_short id s h.0,
      slots_short D (suc id) h.1,
    )

-- ---- the whole text
dir_short : (r : Rules) (b : List ℕ) → length (dir_lines r b) ≤ 546_327_012
unfolding dir_lines
dir_short r b = go (Regular r (log b)) refl
  where
    go : (x : Bool) → Regular r (log b) ≡ x → length (cond x (slot_lines 0 (dir_of (log b))) (refused_line Irregular))
        ≤ 546_327_012
    go true e = omega (
      arith,
      slots_short (dir_of (log b)) 0 (ok_dir_of (log b) (regular_loads b (log b) refl (widest r (log b) e))),
      slots_few b (widest r (log b) e),
    )
    go false e = omega (arith, refused_short Irregular)

block_short : (r : Rules) (m : LfsMdir) (b : List ℕ) → length (block_text r m b) ≤ 546_327_132
unfolding block_text
block_short r m b = omega (arith, length-append (record_lines m) (dir_lines r b), record_short m, dir_short r b)

pub listing_short : (prog : ℕ) (p : LfsPair) (rules : ℕ) (input : List ℕ) → length (listing_as prog p rules input) < 2 ^
    32
listing_short prog p rules input =
    ruled_short rules (fetched_text (block_text (rules_of rules)) p input (fetch_input prog p input))
    (fetched_short (block_text (rules_of rules)) (λ m b. omega (arith, block_short (rules_of rules) m b)) p
    input (fetch_input prog p input))
