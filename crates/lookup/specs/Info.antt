-- An info from a name that already has its zeros behind it, as the code has it. Assumes nothing.
use Rattle.std.specs.Prelude.{List, ℕ, ◌%◌, ◌^◌, Err, Ok, Result}
use Rattle.format.specs.Tag.{tag_type3}
use Rattle.format.specs.Lookup.{info_size}
use Rattle.format.specs.declared.Found.{Found}
use Rattle.format.specs.declared.LfsInfo.{LfsInfo}
use Rattle.format.specs.declared.Refusal.{Refusal}

-- from the name's tag and buffer, and the answer and the buffer of the struct's lookup
abbrev pub info_named : ℕ → List ℕ → Result Found Refusal → List ℕ → Result LfsInfo Refusal
info_named t name (Err r) struct = Err r
info_named t name (Ok u) struct =
    Ok (record { kind = tag_type3 t % 2 ^ 8; size = info_size u.tag struct; name = name })
