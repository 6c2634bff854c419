-- No audit is as long as 2^32 bytes. Assumes nothing.
use mathlib.Core.Path.{◌≡◌, refl}
use mathlib.Core.Bool.{Bool, true, false, cond}
use mathlib.Core.List.{List, [], ◌∷◌, ◌++◌}
use Prim.Native.Nat.{ℕ, suc, ◌+◌, ◌*◌, ◌^◌, ◌≤◌, ◌<◌}
use native.Mathlib.Omega.{arith}
use lib.ListN.{length, length-append}
use Rattle.format.specs.Log.{log}
use Rattle.format.specs.Regular.{Regular, rules_of}
use Rattle.format.specs.declared.Rules.{Rules}
use Rattle.format.proofs.Growing.{widest}
use Rattle.format.specs.Directory.{Load, Slot, dir_of}
use Rattle.format.specs.Listing.{ascii, decimal, number_line, refused_line, fetch_input, fetched_text}
use Rattle.format.specs.Audit.{deadline_class, lacks_deadline, lacks_payload, name_or_dash, lack_line, deadline_line}
use Rattle.format.specs.Audit.{audit_line, audit_lines, tally, total_lines, slots_audit, block_audit, audit_as}
use Rattle.format.specs.declared.LfsPair.{LfsPair}
use Rattle.format.specs.declared.LfsMdir.{LfsMdir}
use Rattle.format.specs.declared.Refusal.TheVariants.{Irregular}
use Rattle.theory.specs.Blocks.SlotItems.{OkSlot, OkSlots, ok_dir_of}
use Rattle.theory.specs.Commit.Tested.{regular_loads}
use Rattle.theory.proofs.Compact.AcceptedVerdict.{slots_few}
use Rattle.text_input.proofs.Short.{decimal_short, name_length, number_short, refused_short, Short, slot_loads}
use Rattle.text_input.proofs.Short.{ruled_short, fetched_short}
use Rattle.std.specs.Prelude.{None, Option, Some}

name_short : (o : Option Load) → Short o → length (name_or_dash o) ≤ 4_088
unfolding name_or_dash
name_short None h = omega arith
name_short (Some v) h = omega (arith, name_length v.bytes)

lack_short : (id : ℕ) (o : Option Load) (what : List ℕ) → Short o → length what ≤ 13
    → length (lack_line id o what) ≤ 4_117
unfolding lack_line
lack_short id o what h k =
    let N : List ℕ = name_or_dash o ++ what in
    omega (
      arith,
      length-append (decimal id) (ascii " " ++ N),
      length-append (name_or_dash o) what,
      decimal_short 10 id,
      name_short o h,
    )

deadline_short : (id : ℕ) (o v : Option Load) → Short o → length (deadline_line id o v) ≤ 4_134
unfolding deadline_line
deadline_short id o None h = omega (arith, lack_short id o (ascii " no deadline\n") h (omega arith))
deadline_short id o (Some v) h =
    let N : List ℕ = decimal (length v.bytes) ++ ascii " bytes\n" in
    omega (
      arith,
      length-append (lack_line id o (ascii " deadline of ")) N,
      length-append (decimal (length v.bytes)) (ascii " bytes\n"),
      lack_short id o (ascii " deadline of ") h (omega arith),
      decimal_short 10 (length v.bytes),
    )

line_short : (id : ℕ) (s : Slot) → OkSlot s → length (audit_line id s) ≤ 4_134
unfolding audit_line
line_short id s ok = go (lacks_deadline s) (lacks_payload s)
  where
    go : (x y : Bool) → length (cond x (deadline_line id (s 0) (s deadline_class))
        (cond y (lack_line id (s 0) (ascii " no payload\n")) [])) ≤ 4_134
    go true y = deadline_short id (s 0) (s deadline_class) (slot_loads s ok 0)
    go false true = omega (arith, lack_short id (s 0) (ascii " no payload\n") (slot_loads s ok 0) (omega arith))
    go false false = omega arith

lines_short : (D : List Slot) (id : ℕ) → OkSlots D → length (audit_lines id D) ≤ length D * 4_134
unfolding audit_lines
lines_short [] id h = omega arith
lines_short (s ∷ D) id h =
    omega (
      arith,
      length-append (audit_line id s) (audit_lines (suc id) D),
      line_short id s h.0,
      lines_short D (suc id) h.1,
    )

totals_short : (d p n : ℕ) → length (total_lines d p n) ≤ 89
unfolding total_lines
totals_short d p n =
    let P : List ℕ = number_line (ascii "deadline without payload ") p ++ number_line (ascii "slots ") n in
    let e : length P ≤ 53 = omega (
      arith,
      length-append (number_line (ascii "deadline without payload ") p) (number_line (ascii "slots ") n),
      number_short (ascii "deadline without payload ") p,
      number_short (ascii "slots ") n,
    ) in
    omega (
      arith,
      length-append (number_line (ascii "payload without deadline ") d) P,
      number_short (ascii "payload without deadline ") d,
      e,
    )

slots_short : (D : List Slot) → OkSlots D → length (slots_audit D) ≤ length D * 4_134 + 89
unfolding slots_audit
slots_short D h =
    let T : List ℕ = total_lines (tally lacks_deadline D) (tally lacks_payload D) (length D) in
    omega (
      arith,
      length-append (audit_lines 0 D) T,
      lines_short D 0 h,
      totals_short (tally lacks_deadline D) (tally lacks_payload D) (length D),
    )

block_short : (r : Rules) (m : LfsMdir) (b : List ℕ) → length (block_audit r m b) < 2 ^ 32
unfolding block_audit
block_short r m b = go (Regular r (log b)) refl
  where
    go : (x : Bool) → Regular r (log b) ≡ x → length (cond x (slots_audit (dir_of (log b)))
        (refused_line Irregular)) < 2 ^
        32
    go true e = omega (
      arith,
      slots_short (dir_of (log b)) (ok_dir_of (log b) (regular_loads b (log b) refl (widest r (log b) e))),
      slots_few b (widest r (log b) e),
    )
    go false e = omega (arith, refused_short Irregular)

pub audit_short : (prog : ℕ) (p : LfsPair) (rules : ℕ) (input : List ℕ) → length (audit_as prog p rules input) < 2 ^ 32
audit_short prog p rules input =
    ruled_short rules (fetched_text (block_audit (rules_of rules)) p input (fetch_input prog p input))
    (fetched_short (block_audit (rules_of rules)) (block_short (rules_of rules)) p input (fetch_input prog p input))
