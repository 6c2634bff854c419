-- The search back for a slot's class over the bytes of a block with a regular log finds what the directory holds there.
-- Assumes nothing.
use Rattle.std.specs.Prelude.{◌≡◌, true, List, [], reverse, map, ℕ, ◌%◌, ◌^◌, ◌≤◌, ◌<◌, take, drop, length, get_or}
use Rattle.std.proofs.Common.{ap, ◌∙◌, inl, arith, length-drop}
use Rattle.format.specs.Word.{all_ones}
use Rattle.format.specs.Crc.{crc}
use Rattle.format.specs.Walk.{Event, walk_from, walk}
use Rattle.format.specs.Log.{log, log_end, log_end_tag}
use Rattle.format.specs.Back.{back, places}
use Rattle.format.specs.Directory.{empty, acts, dir_of}
use Rattle.theory.specs.Walk.Locality.{AllContained}
use Rattle.theory.specs.Log.Committed.{committed_split}
use Rattle.theory.specs.Directory.Machine.{find, find_dir}
use Rattle.theory.specs.Back.WalkBack.{back_log}
use Rattle.theory.specs.Back.EventBytes.{chains}
use Rattle.theory.specs.Back.BackActs.{Eights, bytes_at, seen, seen_places, map_reverse_aux, bytes_topless}
use Rattle.theory.specs.Back.BackActs.{back_without_top}
use Rattle.theory.specs.Lookup.SlotCount.{allowed_newest}
use Rattle.theory.specs.Lookup.OnBlock.{RegularLog}

-- the walk back from a log's end, read as acts, is the log's acts, newest first
pub back_acts : (b : List ℕ) (es : List Event) → log b ≡ es → AllContained es → Eights es
    → map (seen b) (back b (log_end es) (log_end_tag es)) ≡ reverse (acts es)
unfolding log walk
back_acts b es h reg eight =
    let sp = committed_split (walk_from (crc all_ones (take 4 b)) all_ones (drop 4 b)) in
    let ch = chains es sp.0 (crc all_ones (take 4 b)) all_ones b 4 (rw h at sp.1) reg in
    let bl : back b (log_end es) (log_end_tag es % 2 ^ 31) ≡ reverse (places 4 es) = back_log es b ch.0 in
    back_without_top (bytes_at b) (bytes_topless b) b (log_end es) (log_end_tag es) ∙ ap (map (seen b)) bl
    ∙ map_reverse_aux (seen b) (places 4 es) []
    ∙ ap reverse (seen_places es b 4 ch.2 eight)

-- the log ends inside the block
pub log_inside : (b : List ℕ) (es : List Event) → log b ≡ es → AllContained es → 4 ≤ length b → log_end es ≤ length b
unfolding log walk
log_inside b es h reg four =
    let sp = committed_split (walk_from (crc all_ones (take 4 b)) all_ones (drop 4 b)) in
    let ch = chains es sp.0 (crc all_ones (take 4 b)) all_ones b 4 (rw h at sp.1) reg in
    omega (arith, ch.1, length-drop 4 b)

pub directory_find : (b : List ℕ) (es : List Event) (c i : ℕ) → log b ≡ es → RegularLog es → i < length (dir_of es)
    → find c i (map (seen b) (back b (log_end es) (log_end_tag es))) ≡ get_or (dir_of es) i empty c
unfolding dir_of
directory_find b es c i h r hi =
    rw (back_acts b es h r.base.reg r.base.eight)
    (find_dir true (reverse (acts es)) c i (allowed_newest true (acts es) r.base.rules) (inl hi))
