-- The acts that a compaction writes give the directory back. Assumes nothing.
use Rattle.std.specs.Prelude.{◌≡◌, refl, List, []}
use Rattle.format.specs.Directory.{Slot, dir}
use Rattle.theory.specs.Directory.Rebuild.{AllHeld, rebuild, rebuild_dir}

-- the compacted log's directory is the old one
pub rebuilt : (D : List Slot) → AllHeld D → dir (rebuild 0 D []) ≡ D
unfolding dir
rebuilt D a = rebuild_dir D 0 [] a refl
