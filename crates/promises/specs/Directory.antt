-- The directory machine. "In a regular log, for ids below count and no pending move, lookup with these masks equals a
-- simple directory machine: slots inserted, removed, attributes set." `Shows` (format/specs/Stopped.antt) says it of
-- `lfs_dir_getslice`'s own definition on the bytes, answer word and buffer. Assumes nothing.
use Rattle.std.specs.Prelude.{◌≡◌, refl, true, List, ℕ, Ok}
use Rattle.format.specs.Log.{log}
use Rattle.format.specs.Fetch.{fetch_of}
use Rattle.format.specs.Lookup.{block_of}
use Rattle.format.specs.Regular.{Regular}
use Rattle.format.specs.Writer.{block_at, is_second}
use Rattle.format.specs.Machine.{machine_of}
use Rattle.format.specs.Stopped.{Shows}
use Rattle.format.specs.declared.Rules.{Rules}
use Rattle.format.specs.declared.Geometry.{Geometry}
use Rattle.format.specs.declared.LfsMdir.{LfsMdir}
use Rattle.theory.proofs.Stopped.Shown.{block_is, shows}
use Rattle.format.specs.Record.{fetched}

-- A pair that fetch finds, and whose log is regular by either rule, shows the machine of that log: the record's count
-- is its number of slots, its tail is the record's, and every directory lookup with the record answers what the machine
-- has.
pub directory_lookups : (g : Geometry) (b0 b1 : List ℕ) (n0 n1 count seed : ℕ) (dir : LfsMdir) (read : ℕ)
    (r : Rules) → fetch_of g b0 b1 n0 n1 count seed ≡ Ok (fetched dir read) → Regular r (log (block_of b0 b1 n0 dir)) ≡ true
    → Shows g n0 n1 r b0 b1 (machine_of (log (block_of b0 b1 n0 dir)))
directory_lookups g b0 b1 n0 n1 count seed dir read r f regular =
    let e : block_of b0 b1 n0 dir ≡ block_at (is_second n0 dir) b0 b1 = block_is b0 b1 n0 dir (is_second n0 dir) refl in
    rw e (shows g b0 b1 n0 n1 count seed dir read f r (is_second n0 dir) refl (rw e at regular))
