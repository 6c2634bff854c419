-- An accepted verdict of a commit is the acceptance that demand 3 rests on (specs/Commit/Acceptance.antt). Assumes
-- nothing.
use Rattle.std.specs.Prelude.{◌≡◌, ◌≢◌, Bool, not, ℕ, length}
use Rattle.std.proofs.Math.Path.{refl}
use mathlib.Core.List.{List, []}
use borrow.Author.Tests.{not-false}
use Rattle.format.specs.Log.{log}
use Rattle.format.specs.Record.{count_of}
use Rattle.format.specs.Fetch.{fetch_of}
use Rattle.format.specs.Regular.{Regular, rules_of}
use Rattle.format.specs.Commit.{Item}
use Rattle.format.specs.Entries.{judge}
use Rattle.format.specs.Writer.{block_at, appended, verdict_of}
use Rattle.format.specs.Writer.{commit_fits, accepted}
use Rattle.format.specs.declared.Geometry.{Geometry}
use Rattle.format.specs.declared.Entry.{Entry}
use Rattle.format.specs.declared.Refusal.TheVariants.{Invalid, Irregular}
use Rattle.format.proofs.Growing.{widest}
use Rattle.theory.specs.Log.TwoBlocks.{view_log}
use Rattle.theory.specs.Fetch.FoundRecord.{found_answers}
use Rattle.theory.specs.Commit.AcceptedVerdict.{AppendsTo, past, fits_prog, fits_geometry, fits_byte, found_then, good_then, placed_accepts}

module _ (g : Geometry) (b0 b1 : List ℕ) (n0 n1 count seed rules e : ℕ) (entries : List Entry) (dat : List ℕ)
    (second : Bool)
    (is : List Item) (size : ℕ) where
  pub accepted_commit : verdict_of g b0 b1 n0 n1 count seed rules e entries dat ≡ accepted second is size
      → AppendsTo (rules_of rules) e g.prog_size b0 b1 entries dat second is size
  unfolding verdict_of appended
  accepted_commit h =
      let p = past (not (commit_fits g (length b0) (length b1) n0 n1 rules e (length entries) (length dat))) Invalid _
      second is size h in
      let fits = not-false _ p.0 in
      let prog = fits_prog g (fits_geometry g (length b0) (length b1) n0 n1 rules e (length entries)
      (length dat) fits) in
      let byte = fits_byte g (length b0) (length b1) n0 n1 rules e (length entries) (length dat) fits in
      let f = found_then (fetch_of g b0 b1 n0 n1 count seed) _ second is size p.1 in
      let a = found_answers g b0 b1 n0 n1 count seed f.m f.s f.found in
      let t : appended (rules_of rules) e g.prog_size a.w (block_at a.w b0 b1) (log (block_at a.w b0 b1))
      entries dat
      ≡ accepted second is size = rw a.place at f.then in
      let q = past (not (Regular (rules_of rules) (log (block_at a.w b0 b1)))) Irregular _ second is size t in
      let j = good_then (judge dat 0 (count_of 0 (log (block_at a.w b0 b1))) entries) _ second is size q.1 in
      let some : log (block_at a.w b0 b1) ≢ [] = (view_log a.w (block_at a.w b0 b1) (block_at (not a.w) b0 b1)
      a.rev (log (block_at a.w b0 b1)) a.answers).1 in
      let k = placed_accepts e byte g.prog_size prog.0 prog.1 (block_at a.w b0 b1)
      (log (block_at a.w b0 b1))
      refl some (widest (rules_of rules) _ (not-false _ q.0)) dat entries j.c j.all a.w second is size
      j.then in
      rw k.0 (record {
        rev = a.rev;
        sized = prog;
        items = k.1;
        rounded' = k.2;
        answers = a.answers;
        ruled = not-false _ q.0;
        accepts = k.3;
      })
