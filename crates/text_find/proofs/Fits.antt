-- No text is as long as 2^32 bytes: what a slot of a regular log holds is short. Assumes nothing.
use mathlib.Core.Path.{◌≡◌, refl, sym}
use mathlib.Core.Bool.{Bool, true, false, cond}
use mathlib.Core.List.{List}
use Prim.Native.Nat.{ℕ, ◌^◌, ◌<◌}
use native.Mathlib.Omega.{arith}
use lib.ListN.{length, get_or}
use lib.Dec.{eqb}
use Rattle.format.specs.Log.{log}
use Rattle.format.specs.Regular.{rules_of}
use Rattle.format.specs.declared.Rules.{Rules}
use Rattle.format.proofs.Growing.{widest}
use Rattle.format.specs.Directory.{Slot, empty, dir_of}
use Rattle.format.specs.Find.{find_in}
use Rattle.format.specs.Listing.{refused_line, fetch_input, fetched_text}
use Rattle.format.specs.FindText.{named_text, found_text, named_by, find_text_as}
use Rattle.format.specs.declared.LfsPair.{LfsPair}
use Rattle.format.specs.declared.LfsMdir.{LfsMdir}
use Rattle.format.specs.declared.Refusal.TheVariants.{Invalid}
use Rattle.theory.specs.Blocks.SlotItems.{OkSlots, ok_get, ok_dir_of}
use Rattle.theory.specs.Commit.Tested.{regular_loads}
use Rattle.text_input.proofs.Short.{refused_short, ruled_short, fetched_short}
use Rattle.text_listing.proofs.Fits.{text_short}
use Rattle.text_find.proofs.Told.{found_there}
use Rattle.std.specs.Prelude.{Err, None, Ok, Option, Result, Some}
use Rattle.format.specs.declared.Refusal.{Refusal}

found_short : (r : Rules) (name : List ℕ) (kind : ℕ) (m : LfsMdir) (b : List ℕ)
    → length (found_text r name kind m b) < 2 ^ 32
unfolding found_text named_text
found_short r name kind m b = go (find_in r name kind (log b)) refl
  where
    go : (x : Result (Option ℕ) Refusal) → find_in r name kind (log b) ≡ x → length (named_text (dir_of (log b)) x) < 2 ^ 32
    go (Ok (Some id)) e =
        let t = found_there r name kind (log b) id (sym e) in
        let D : List Slot = dir_of (log b) in
        let ok : OkSlots D = ok_dir_of (log b) (regular_loads b (log b) refl (widest r (log b) t.regular)) in
        omega (arith, text_short id (get_or D id empty) (ok_get D id ok))
    go (Ok None) e = omega arith
    go (Err y) e = omega (arith, refused_short y)

named_short : (name text : List ℕ) → length text < 2 ^ 32 → length (named_by name text) < 2 ^ 32
named_short name text h = go (eqb (length name) 0)
  where
    go : (x : Bool) → length (cond x (refused_line Invalid) text) < 2 ^ 32
    go true = omega (arith, refused_short Invalid)
    go false = h

pub find_short : (prog : ℕ) (p : LfsPair) (rules : ℕ) (name : List ℕ) (kind : ℕ) (input : List ℕ)
    → length (find_text_as prog p rules name kind input) < 2 ^ 32
find_short prog p rules name kind input =
    let shows : LfsMdir → List ℕ → List ℕ = found_text (rules_of rules) name kind in
    let text : List ℕ = fetched_text shows p input (fetch_input prog p input) in
    ruled_short rules (named_by name text)
    (named_short name text (fetched_short shows (found_short (rules_of rules) name kind) p input
    (fetch_input prog p input)))
