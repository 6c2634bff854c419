-- The order of a commit's refusals where two would apply: "-202, -201, -28", and of the room's reasons: "-211
-- misaligned end, -212", now "wrong validity bit", "-213 byte with offset". Assumes nothing.
use mathlib.Core.Path.{◌≡◌}
use mathlib.Core.Logic.{◌≢◌}
use mathlib.Core.Bool.{Bool, true, false}
use mathlib.Core.List.{List}
use Prim.Native.Nat.{ℕ, ◌%◌}
use lib.ListN.{drop}
use borrow.Author.Tests.{eq-eqb, ne_eqb}
use Rattle.format.specs.Walk.{Event}
use Rattle.format.specs.Record.{count_of}
use Rattle.format.specs.Regular.{Regular}
use Rattle.format.specs.Erased.{all_erased, validity_fits}
use Rattle.format.specs.Room.{first_unerased, room_of}
use Rattle.format.specs.Entries.{bad, judge}
use Rattle.format.specs.Writer.{refused, appended}
use Rattle.format.specs.declared.Entry.{Entry}
use Rattle.format.specs.declared.Rules.{Rules}
use Rattle.format.specs.declared.Refusal.TheVariants.{BadEntry, Irregular, Misaligned, WrongValidity, NotErased}
use Rattle.std.specs.Prelude.{Err}

module _ (r : Rules) (e prog : ℕ) (second : Bool) (b : List ℕ) (es : List Event) (entries : List Entry)
    (dat : List ℕ) where
  -- a log that is not regular by the rule r is refused for it, whatever the entries
  pub irregular_first : Regular r es ≡ false → appended r e prog second b es entries dat ≡ refused Irregular
  unfolding appended
  irregular_first h = rw h

  -- a bad entry is refused for itself, whether there is room or not
  pub bad_before_space : Regular r es ≡ true → (i : ℕ) → judge dat 0 (count_of 0 es) entries ≡ bad i
      → appended r e prog second b es entries dat ≡ refused (BadEntry i)
  unfolding appended
  bad_before_space h i k = rw (h, k)

module _ (e prog : ℕ) (b : List ℕ) (end etag : ℕ) where
  -- an end that is no multiple of the program size is refused for it, whatever the end tag and the bytes
  pub misaligned_first : end % prog ≢ 0 → room_of e prog b end etag ≡ Err Misaligned
  unfolding room_of
  misaligned_first h = rw (ne_eqb (end % prog) 0 h)

  -- of one that is, the end tag's validity bit, whatever the bytes
  pub validity_next : end % prog ≡ 0 → validity_fits e etag ≡ false → room_of e prog b end etag ≡ Err WrongValidity
  unfolding room_of
  validity_next h t = rw (eq-eqb (end % prog) 0 h, t)

  -- and of one whose validity bit fits, the first byte that isn't erased
  pub byte_last : end % prog ≡ 0 → validity_fits e etag ≡ true → all_erased e (drop end b) ≡ false
      → room_of e prog b end etag ≡ Err (NotErased (first_unerased e b end))
  unfolding room_of
  byte_last h t k = rw (eq-eqb (end % prog) 0 h, t, k)
