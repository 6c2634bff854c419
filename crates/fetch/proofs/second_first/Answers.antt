-- `fetch::second_first` meets its contract: the difference, signed, is tested as the definition does. Assumes nothing.
use mathlib.Core.Path.{◌≡◌, ap, ◌∙◌}
use Prim.Native.Nat.{ℕ}
use native.Mathlib.Omega.{arith}
use lib.IntN.{ℤ, pos}
use lib.Signed.{lt_z}
use mir.Syntax.{w32}
use mir.Val.{to_z, of_z}
use mir.Facts.{to_z-of_z, sfits_to_z}
use Rattle.format.specs.Word.{minus32}
use Rattle.format.specs.Count.{scmp}
use Rattle.fetch.proofs.second_first.Goals as goal

-- the difference fits the word that holds it
held : (a b : ℕ) → to_z w32 (of_z w32 (scmp a b)) ≡ scmp a b
held a b = to_z-of_z (sfits_to_z {w = w32} {n = minus32 a b} (record { fits = omega arith }))

pub returns : goal.returns
returns c = ap (λ (z : ℤ). lt_z (pos 0) (to_z w32 (of_z w32 z))) c.lfs_scmp-newer.ensures
    ∙ ap (λ (z : ℤ). lt_z (pos 0) z) (held c.args.rev1 c.args.rev0)
