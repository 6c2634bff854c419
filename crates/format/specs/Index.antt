-- Document 02, L8: "Build, in one forward pass into a lent table of numbers, where each live name, struct and user
-- attribute of each slot stands, and answer from it." The table of a log, said of the directory machine; what is
-- answered from any table; and how an entry alters one, by which a table is extended. That the three agree are theorems
-- (`index_answers` and `index_extends` of promises). Assumes nothing.
use Rattle.std.specs.Prelude.{Bool, true, not, cond, ◌&&◌, List, [], ◌∷◌, ◌++◌, ℕ, zero, suc, ◌+◌, ◌-◌, ◌*◌, ◌/◌, ◌^◌, length, take, drop, replicate, get_or, leb, ltb, eqb, Err, None, Ok, Option, Result, Some}
use Rattle.format.specs.Word.{plus32}
use Rattle.format.specs.Tag.{tag_id, tag_size, tag_length, tag_of}
use Rattle.format.specs.Kind.{no_slot}
use Rattle.format.specs.Walk.{Event, ent, chk, inv}
use Rattle.format.specs.Log.{log, log_end}
use Rattle.format.specs.Fetch.{fetch_of}
use Rattle.format.specs.Lookup.{record_fits, block_of, slice_answer, slice_buffer, getslice_fits}
use Rattle.format.specs.Regular.{Regular, rules_fit, rules_of}
use Rattle.format.specs.Directory.{classes, seat_class, Load, Slot, Act, mk, rm, put, skip, act, apply, apply_all}
use Rattle.format.specs.Writer.{block_at, is_second, writes_fit}
use Rattle.format.specs.declared.Geometry.{Geometry}
use Rattle.format.specs.declared.LfsMdir.{LfsMdir}
use Rattle.format.specs.declared.Rules.{Rules}
use Rattle.format.specs.declared.Refusal.TheVariants.{Invalid, Irregular, TableFull}
use Rattle.format.specs.declared.Fetched.{Fetched}
use Rattle.format.specs.declared.Found.{Found}
use Rattle.format.specs.declared.Refusal.{Refusal}

-- ---- the table of a log
-- An entry whose tag t stands at `off`, as the directory machine takes it, with two numbers for its bytes: how many
-- they are, and "the block offset of its first data byte".
unfoldable pub placed_act : ℕ → ℕ → Act
placed_act off t = act t (tag_size t ∷ (off + 4) ∷ [])

-- the acts of a log whose first event stands at `off`
unfoldable pub placed_from : ℕ → List Event → List Act
placed_from off [] = []
placed_from off (ent t d ∷ es) = placed_act off t ∷ placed_from (off + tag_length t) es
placed_from off (chk t c ∷ es) = skip ∷ placed_from (off + tag_length t) es
placed_from off (inv ∷ es) = placed_from off es

-- "A place is two words: the live entry's tag (its type, the slot's PRESENT id, its size) and the block offset of its
-- first data byte." Of what stands under a class: one place, or none.
abbrev pub class_places : ℕ → Option Load → List ℕ
class_places id None = []
class_places id (Some v) = tag_of v.type id (get_or v.bytes 0 0) ∷ get_or v.bytes 1 0 ∷ []

-- "in a slot name, struct, attributes by rising type": n classes from c on
unfoldable pub slot_places : ℕ → ℕ → ℕ → Slot → List ℕ
slot_places zero c id s = []
slot_places (suc n) c id s = class_places id (s c) ++ slot_places n (suc c) id s

-- "sorted by id"
unfoldable pub dir_places : ℕ → List Slot → List ℕ
dir_places id [] = []
dir_places id (s ∷ D) = slot_places classes 0 id s ++ dir_places (suc id) D

-- The places of a log: "one line over the directory machine".
abbrev pub places_of : List Event → List ℕ
places_of es = dir_places 0 (apply_all [] (placed_from 4 es))

-- "unused places are zero and stand last, as is an odd last word": a table of n words
abbrev pub padded : ℕ → List ℕ → List ℕ
padded n P = P ++ replicate (n - length P) 0

-- "-221 exactly when after SOME entry of the log more are live than the table has places (the peak counts, not the
-- end)": all fit in n words, from the directory D on
unfoldable pub fit_from : ℕ → List Slot → List Act → Bool
fit_from n D [] = true
fit_from n D (a ∷ l) = leb (length (dir_places 0 (apply D a))) n && fit_from n (apply D a) l

abbrev pub all_fit : ℕ → List Event → Bool
all_fit n es = fit_from n [] (placed_from 4 es)

-- ---- which log: "Of a record pair and end are read; regular means the log up to that end"
abbrev pub log_to : List ℕ → ℕ → List Event
log_to b end = log (take end b)

-- the end is a "commit boundary of its block's committed log": a commit ends there. (One whose checksum reaches past
-- its own end is not found so, and is irregular.)
abbrev pub ends_at : List ℕ → ℕ → Bool
ends_at b end = ltb 4 end && eqb (log_end (log_to b end)) end

-- "-202 for a log that is irregular by the given rule, or a record whose end is no commit boundary"
abbrev pub indexable : Rules → List ℕ → ℕ → Bool
indexable r b end = ends_at b end && Regular r (log_to b end)

-- "record test -22 as for a lookup", and of the rule
abbrev pub index_fits : Geometry → List ℕ → List ℕ → ℕ → ℕ → LfsMdir → ℕ → Bool
index_fits g b0 b1 n0 n1 dir rules = record_fits g (length b0) (length b1) n0 n1 dir && rules_fit rules

-- ---- what a table can hold: places, or that there are too many. What is answered, and the table of n words.
abbrev pub indexed_as : Option (List ℕ) → Result ℕ Refusal
indexed_as None = Err TableFull
indexed_as (Some P) = Ok (length P / 2)

-- "and the table is then all zero"
abbrev pub table_as : ℕ → Option (List ℕ) → List ℕ
table_as n None = replicate n 0
table_as n (Some P) = padded n P

-- what a build comes to, in n words
unfoldable pub built : ℕ → List Event → Option (List ℕ)
built n es = cond (all_fit n es) (Some (places_of es)) None

-- ---- `lfs_dir_index`
unfoldable pub index_of : Geometry → List ℕ → List ℕ → ℕ → ℕ → LfsMdir → ℕ → List ℕ → Result ℕ Refusal
index_of g b0 b1 n0 n1 dir rules table =
    cond (not (index_fits g b0 b1 n0 n1 dir rules)) (Err Invalid)
    (cond (not (indexable (rules_of rules) (block_of b0 b1 n0 dir) dir.off)) (Err Irregular)
    (indexed_as (built (length table) (log_to (block_of b0 b1 n0 dir) dir.off))))

-- "-202 .., table unchanged; then -221 .., and the table is then all zero"
unfoldable pub index_table : Geometry → List ℕ → List ℕ → ℕ → ℕ → LfsMdir → ℕ → List ℕ → List ℕ
index_table g b0 b1 n0 n1 dir rules table =
    cond (not (index_fits g b0 b1 n0 n1 dir rules)) table
    (cond (not (indexable (rules_of rules) (block_of b0 b1 n0 dir) dir.off)) table
    (table_as (length table) (built (length table) (log_to (block_of b0 b1 n0 dir) dir.off))))

-- ---- finding a place, in any table
-- The order of places: by id, and in a slot by class. A tag of zero is no place's, and stands behind all.
abbrev pub rank_at : ℕ → ℕ → ℕ
rank_at id c = id * 2 ^ 9 + c

unfoldable pub rank_of : ℕ → ℕ
rank_of t = cond (eqb t 0) (2 ^ 20) (rank_at (tag_id t) (seat_class t))

-- the two words of the place i
abbrev pub tag_in : List ℕ → ℕ → ℕ
tag_in P i = get_or P (2 * i) 0

abbrev pub off_in : List ℕ → ℕ → ℕ
off_in P i = get_or P (2 * i + 1) 0

-- "an entry is found by halving": of the n places from `at` on, the first that is not before the rank r, or the one
-- behind them; in k steps, of which n are enough
unfoldable pub halving : ℕ → ℕ → List ℕ → ℕ → ℕ → ℕ
halving zero r P at n = at
halving (suc k) r P at n =
    cond (eqb n 0) at
    (cond (ltb (rank_of (tag_in P (at + n / 2))) r) (halving k r P (at + n / 2 + 1) (n - n / 2 - 1))
    (halving k r P at (n / 2)))

abbrev pub seek_from : ℕ → List ℕ → ℕ → ℕ
seek_from r P at = halving (length P / 2 - at) r P at (length P / 2 - at)

abbrev pub seek : ℕ → List ℕ → ℕ
seek r P = seek_from r P 0

-- whether the place i has the rank r
abbrev pub is_at : ℕ → List ℕ → ℕ → Bool
is_at r P i = ltb i (length P / 2) && eqb (rank_of (tag_in P i)) r

-- ---- `lfs_dir_index_get`: "any 0x0xx asks the name, any 0x2xx the struct, 0x300 to 0x3ff that attribute; any other
-- type, and an id that the table has not (above 1,023 too), finds nothing: -2". What the table says of it.
abbrev pub place_hit : List ℕ → ℕ → Option Found
place_hit P i = Some (record { tag = tag_in P i; length = tag_length (tag_in P i); off = off_in P i })

abbrev pub askable : ℕ → ℕ → Bool
askable type id = ltb type (2 ^ 11) && leb id no_slot && ltb (seat_class (type * 2 ^ 20)) classes

unfoldable pub index_hit : List ℕ → ℕ → ℕ → Option Found
index_hit table type id =
    let r : ℕ = rank_at id (seat_class (type * 2 ^ 20)) in
    cond (askable type id && is_at r table (seek r table)) (place_hit table (seek r table)) None

-- -22 as a lookup. "what it says is checked against the block (an offset past it is -84), and nothing else is asked of
-- it"
unfoldable pub index_get_of : Geometry → List ℕ → List ℕ → ℕ → ℕ → LfsMdir → List ℕ → ℕ → ℕ → List ℕ → Result Found Refusal
index_get_of g b0 b1 n0 n1 dir table type id buffer =
    cond (getslice_fits g b0 b1 n0 n1 dir buffer)
    (slice_answer (block_of b0 b1 n0 dir) 0 (length buffer) (index_hit table type id))
    (Err Invalid)

unfoldable pub index_get_buffer : Geometry → List ℕ → List ℕ → ℕ → ℕ → LfsMdir → List ℕ → ℕ → ℕ → List ℕ → List ℕ
index_get_buffer g b0 b1 n0 n1 dir table type id buffer =
    cond (getslice_fits g b0 b1 n0 n1 dir buffer)
    (slice_buffer (block_of b0 b1 n0 dir) 0 buffer (index_hit table type id))
    buffer

-- ---- how an entry alters the places P, whatever they are
-- ids that are higher by some ids, as words that wrap
unfoldable pub shifted : ℕ → List ℕ → List ℕ
shifted by [] = []
shifted by (x ∷ []) = x ∷ []
shifted by (t ∷ o ∷ P) = plus32 t by ∷ o ∷ shifted by P

abbrev pub one_up : ℕ
one_up = 2 ^ 10

abbrev pub one_down : ℕ
one_down = 2 ^ 32 - 2 ^ 10

-- a slot is made: the places from it on get the next id
abbrev pub slot_made : ℕ → List ℕ → List ℕ
slot_made j P = let p : ℕ = seek (rank_at j 0) P in take (2 * p) P ++ shifted one_up (drop (2 * p) P)

-- a slot is removed: its own places go, and those behind them get the id before
abbrev pub slot_removed : ℕ → List ℕ → List ℕ
slot_removed j P =
    let p : ℕ = seek (rank_at j 0) P in
    take (2 * p) P ++ shifted one_down (drop (2 * seek_from (rank_at (suc j) 0) P p) P)

-- what is set under a class stands in its place, or in a new one
abbrev pub place_set : ℕ → ℕ → ℕ → List ℕ → List ℕ
place_set r t o P = let p : ℕ = seek r P in
    take (2 * p) P ++ t ∷ o ∷ drop (cond (is_at r P p) (2 * p + 2) (2 * p)) P

-- what is removed leaves none
abbrev pub place_cleared : ℕ → List ℕ → List ℕ
place_cleared r P = let p : ℕ = seek r P in take (2 * p) P ++ drop (cond (is_at r P p) (2 * p + 2) (2 * p)) P

unfoldable pub places_after : List ℕ → Act → List ℕ
places_after P (mk j) = slot_made j P
places_after P (rm j) = slot_removed j P
places_after P (put j c None) = place_cleared (rank_at j c) P
places_after P (put j c (Some v)) = place_set (rank_at j c) (tag_of v.type j (get_or v.bytes 0 0))
    (get_or v.bytes 1 0) P
places_after P skip = P

-- more entries, in a table of n words
unfoldable pub ran_on : ℕ → List ℕ → List Act → Option (List ℕ)
ran_on n P [] = Some P
ran_on n P (a ∷ l) = cond (leb (length (places_after P a)) n) (ran_on n (places_after P a) l) None

-- ---- `lfs_dir_index_extend`
-- the places of any table: those before the first that is zero
unfoldable pub leading : List ℕ → List ℕ
leading [] = []
leading (x ∷ []) = []
leading (t ∷ o ∷ ws) = cond (eqb t 0) [] (t ∷ o ∷ leading ws)

-- "-22 too where the two records are not of one block or the old end is above the new one"
abbrev pub extend_fits : Geometry → List ℕ → List ℕ → ℕ → ℕ → LfsMdir → LfsMdir → ℕ → Bool
extend_fits g b0 b1 n0 n1 old dir rules =
    index_fits g b0 b1 n0 n1 dir rules && record_fits g (length b0) (length b1) n0 n1 old
    && eqb old.pair.n0 dir.pair.n0 && leb old.off dir.off

-- "The refusals as for build": of both ends
abbrev pub extendable : Rules → List ℕ → ℕ → ℕ → Bool
extendable r b old end = ends_at b old && indexable r b end

-- the entries between the two ends: as many events as the old log has are left out
abbrev pub new_acts : List ℕ → ℕ → ℕ → List Act
new_acts b old end = placed_from old (drop (length (log_to b old)) (log_to b end))

abbrev pub extended : List ℕ → List ℕ → ℕ → ℕ → Option (List ℕ)
extended table b old end = ran_on (length table) (leading table) (new_acts b old end)

unfoldable pub extend_of : Geometry → List ℕ → List ℕ → ℕ → ℕ → LfsMdir → LfsMdir → ℕ → List ℕ → Result ℕ Refusal
extend_of g b0 b1 n0 n1 old dir rules table =
    cond (not (extend_fits g b0 b1 n0 n1 old dir rules)) (Err Invalid)
    (cond (not (extendable (rules_of rules) (block_of b0 b1 n0 dir) old.off dir.off)) (Err Irregular)
    (indexed_as (extended table (block_of b0 b1 n0 dir) old.off dir.off)))

unfoldable pub extend_table : Geometry → List ℕ → List ℕ → ℕ → ℕ → LfsMdir → LfsMdir → ℕ → List ℕ → List ℕ
extend_table g b0 b1 n0 n1 old dir rules table =
    cond (not (extend_fits g b0 b1 n0 n1 old dir rules)) table
    (cond (not (extendable (rules_of rules) (block_of b0 b1 n0 dir) old.off dir.off)) table
    (table_as (length table) (extended table (block_of b0 b1 n0 dir) old.off dir.off)))

-- ---- `lfs_dir_compact_with`: compaction "with a table lent as working memory". Answer and images are those of
-- `lfs_dir_compact`; the table "is as lanolin_index leaves it for the log that was compacted (all 0 where that is
-- -221); unchanged on -22, fetch's own refusals and -202".
abbrev pub table_renewed : Rules → List Event → List ℕ → List ℕ
table_renewed r es table = cond (not (Regular r es)) table (table_as (length table) (built (length table) es))

abbrev pub table_fetched : Rules → List ℕ → List ℕ → ℕ → List ℕ → Result Fetched Refusal → List ℕ
table_fetched r b0 b1 n0 table (Err q) = table
table_fetched r b0 b1 n0 table (Ok f) = table_renewed r (log (block_at (is_second n0 f.dir) b0 b1)) table

unfoldable pub compact_table : Geometry → List ℕ → List ℕ → ℕ → ℕ → ℕ → ℕ → ℕ → ℕ → List ℕ → List ℕ
compact_table g b0 b1 n0 n1 count seed rules e table =
    cond (not (writes_fit rules e)) table
    (table_fetched (rules_of rules) b0 b1 n0 table (fetch_of g b0 b1 n0 n1 count seed))
