-- Demand 2: commit and compaction, without a limit of stores and with one, give no refusals but those of Possible.
-- Assumes nothing.
use Rattle.std.specs.Prelude.{Bool, not, length, drop, ltb, eqb, Err, Ok, Result}
use mathlib.Core.List.{List}
use Prim.Native.Nat.{ℕ, ◌%◌}
use Rattle.format.specs.Word.{le32, to_le32, all_ones, plus32}
use Rattle.format.specs.Crc.{crc}
use Rattle.format.specs.Walk.{Event}
use Rattle.format.specs.Log.{log, log_end, log_end_tag}
use Rattle.format.specs.Record.{count_of}
use Rattle.format.specs.Fetch.{fetch_of}
use Rattle.format.specs.Regular.{Regular, rules_of}
use Rattle.format.specs.declared.Rules.{Rules}
use Rattle.format.specs.Commit.{Item, check_tag}
use Rattle.format.specs.Erased.{all_erased, validity_fits}
use Rattle.format.specs.Stores.{coincides}
use Rattle.format.specs.Entries.{items_of, Judged, bad, good, judge}
use Rattle.format.specs.Room.{room_of}
use Rattle.format.specs.Writer.{rounded_end, check_size, with_forward, check_at, commit_fits, block_at, room_then, is_second}
use Rattle.format.specs.Writer.{Verdict, refused, accepted, placed, appended, judged_by, fetched_then, verdict_of}
use Rattle.format.specs.Writer.{writes_fit, Images, unlimited, answer_of, stores_made, commit_images, commit_of}
use Rattle.format.specs.Writer.{commit_stores_of}
use Rattle.format.specs.Compaction.{CompactVerdict, compact_refused, compact_accepted, compaction_items, compact_check_at}
use Rattle.format.specs.Compaction.{placed_anew, compactable, compact_fetched, compact_verdict, compact_answer, compact_made}
use Rattle.format.specs.Compaction.{compact_images, compact_of, compact_stores_of}
use Rattle.format.specs.declared.Geometry.{Geometry}
use Rattle.format.specs.declared.Entry.{Entry}
use Rattle.format.specs.declared.LfsMdir.{LfsMdir}
use Rattle.promises.specs.Possible.{CommitRefuses, commit22, commit_fetch, commit202, commit201, commit28}
use Rattle.promises.specs.Possible.{commit211, commit212, commit213, commit204}
use Rattle.promises.specs.Possible.{CompactRefuses, compact_fetch, compact202, compact28, compact204, fetch22}
use Rattle.promises.specs.Possible.{AnswerOr, through, Fetches, fetch_possible}
use Rattle.format.specs.declared.Fetched.{Fetched}
use Rattle.format.specs.declared.Refusal.{Refusal}

-- ---- commit: a verdict that is no refusal, or one of these
abbrev Commits : Verdict → Type 0
Commits (refused r) = CommitRefuses r
Commits (accepted second is size) = Unit {0}

judged_possible : (j : Judged) (v : Verdict) → Commits v → Commits (judged_by j v)
judged_possible (bad i) v h = commit201
judged_possible (good c) v h = h

-- a room that is clean, or one of its reasons
abbrev Rooms : Result Unit Refusal → Type 0
Rooms (Ok x) = Unit {0}
Rooms (Err r) = CommitRefuses r

room_then_lem : (r : Result Unit Refusal) (v : Verdict) → Rooms r → Commits v → Commits (room_then r v)
room_then_lem (Ok x) v h k = k
room_then_lem (Err r) v h k = h

room_possible : (e prog : ℕ) (b : List ℕ) (end etag : ℕ) → Rooms (room_of e prog b end etag)
unfolding room_of
room_possible e prog b end etag =
    through Rooms (not (eqb (end % prog) 0)) commit211
    (through Rooms (not (validity_fits e etag)) commit212
    (through Rooms (not (all_erased e (drop end b))) commit213 tt))

placed_possible : (e prog : ℕ) (second : Bool) (b : List ℕ) (es : List Event) (is : List Item)
    → Commits (placed e prog second b es is)
unfolding placed
placed_possible e prog second b es is =
    through Commits (ltb (length b) (rounded_end prog (check_at es is))) commit28
    (room_then_lem (room_of e prog b (log_end es) (log_end_tag es)) _ (room_possible e prog b (log_end es) (log_end_tag es))
    (through Commits (coincides e all_ones (log_end_tag es) is (check_tag e (check_size prog (check_at es is)))) commit204
    tt))

appended_possible : (r : Rules) (e prog : ℕ) (second : Bool) (b : List ℕ) (es : List Event) (entries : List Entry)
    (dat : List ℕ) → Commits (appended r e prog second b es entries dat)
unfolding appended
appended_possible r e prog second b es entries dat =
    through Commits (not (Regular r es)) commit202
    (judged_possible (judge dat 0 (count_of 0 es) entries) _
    (placed_possible e prog second b es (with_forward e prog (length b) (log_end es) (items_of dat entries))))

fetched_then_lem : (f : Result Fetched Refusal) (on : LfsMdir → Verdict) → Fetches f → ((m : LfsMdir) → Commits (on m))
    → Commits (fetched_then f on)
fetched_then_lem (Ok f) on h k = k f.dir
fetched_then_lem (Err r) on h k = commit_fetch h

-- an accepted call answers as fetch does on the finished pair
verdict_answer : (f : Result Fetched Refusal) (v : Verdict) → Fetches f → Commits v → AnswerOr CommitRefuses (answer_of f v)
verdict_answer f (refused r) h k = k
verdict_answer (Ok f) (accepted second is size) h k = tt
verdict_answer (Err r) (accepted second is size) h k = commit_fetch h

verdict_made : (n : ℕ) (v : Verdict) → Commits v → AnswerOr CommitRefuses (stores_made n v)
verdict_made n (refused r) h = h
verdict_made n (accepted second is size) h = tt

-- ---- compaction, the same
abbrev Compacts : CompactVerdict → Type 0
Compacts (compact_refused r) = CompactRefuses r
Compacts (compact_accepted second rev is size) = Unit {0}

anew_possible : (e prog block : ℕ) (second : Bool) (rev : ℕ) (is : List Item)
    → Compacts (placed_anew e prog block second rev is)
unfolding placed_anew
anew_possible e prog block second rev is =
    let check : ℕ = check_tag e (check_size prog (compact_check_at is)) in
    through Compacts (ltb block (rounded_end prog (compact_check_at is))) compact28
    (through Compacts (coincides e (crc all_ones (to_le32 rev)) all_ones is check) compact204 tt)

compactable_possible : (r : Rules) (e prog : ℕ) (second : Bool) (b : List ℕ) (es : List Event)
    → Compacts (compactable r e prog second b es)
unfolding compactable
compactable_possible r e prog second b es =
    through Compacts (not (Regular r es)) compact202
    (anew_possible e prog (length b) second (plus32 (le32 b) 1) (with_forward e prog (length b) 4 (compaction_items es)))

compact_fetched_lem : (r : Rules) (e prog : ℕ) (b0 b1 : List ℕ) (n0 : ℕ) (f : Result Fetched Refusal) → Fetches f
    → Compacts (compact_fetched r e prog b0 b1 n0 f)
compact_fetched_lem r e prog b0 b1 n0 (Err q) h = compact_fetch h
compact_fetched_lem r e prog b0 b1 n0 (Ok f) h =
    let b : List ℕ = block_at (is_second n0 f.dir) b0 b1 in
    compactable_possible r e prog (is_second n0 f.dir) b (log b)

compact_answer_lem : (f : Result Fetched Refusal) (v : CompactVerdict) → Fetches f → Compacts v
    → AnswerOr CompactRefuses (compact_answer f v)
compact_answer_lem f (compact_refused r) h k = k
compact_answer_lem (Ok f) (compact_accepted second rev is size) h k = tt
compact_answer_lem (Err r) (compact_accepted second rev is size) h k = compact_fetch h

compact_made_lem : (n : ℕ) (v : CompactVerdict) → Compacts v → AnswerOr CompactRefuses (compact_made n v)
compact_made_lem n (compact_refused r) h = h
compact_made_lem n (compact_accepted second rev is size) h = tt

-- ---- the four calls that write: without a limit of stores, and with one
module _ (g : Geometry) (b0 b1 : List ℕ) (n0 n1 count seed rules e : ℕ) where
  verdict_possible : (entries : List Entry) (dat : List ℕ) → Commits
      (verdict_of g b0 b1 n0 n1 count seed rules e entries dat)
  unfolding verdict_of
  verdict_possible entries dat =
      through Commits (not (commit_fits g (length b0) (length b1) n0 n1 rules e (length entries) (length dat))) commit22
      (fetched_then_lem (fetch_of g b0 b1 n0 n1 count seed) _ (fetch_possible g b0 b1 n0 n1 count seed)
      (λ m. let b : List ℕ = block_at (is_second n0 m) b0 b1 in
      appended_possible (rules_of rules) e g.prog_size (is_second n0 m) b (log b) entries dat))

  pub commit_possible : (entries : List Entry) (dat : List ℕ)
      → AnswerOr CommitRefuses (commit_of g b0 b1 n0 n1 count seed rules e entries dat)
  unfolding commit_of
  commit_possible entries dat =
      let after : Images = commit_images g b0 b1 n0 n1 count seed rules e entries dat unlimited in
      verdict_answer (fetch_of g after.b0 after.b1 n0 n1 count seed)
      (verdict_of g b0 b1 n0 n1 count seed rules e entries dat)
      (fetch_possible g after.b0 after.b1 n0 n1 count seed) (verdict_possible entries dat)

  pub commit_stores_possible : (entries : List Entry) (dat : List ℕ) (n : ℕ)
      → AnswerOr CommitRefuses (commit_stores_of g b0 b1 n0 n1 count seed rules e entries dat n)
  unfolding commit_stores_of
  commit_stores_possible entries dat n =
      verdict_made n (verdict_of g b0 b1 n0 n1 count seed rules e entries dat) (verdict_possible entries dat)

  compact_verdict_possible : Compacts (compact_verdict g b0 b1 n0 n1 count seed rules e)
  unfolding compact_verdict
  compact_verdict_possible =
      through Compacts (not (writes_fit rules e)) (compact_fetch fetch22)
      (compact_fetched_lem (rules_of rules) e g.prog_size b0 b1 n0 (fetch_of g b0 b1 n0 n1 count seed)
      (fetch_possible g b0 b1 n0 n1 count seed))

  pub compact_possible : AnswerOr CompactRefuses (compact_of g b0 b1 n0 n1 count seed rules e)
  unfolding compact_of
  compact_possible =
      let after : Images = compact_images g b0 b1 n0 n1 count seed rules e unlimited in
      compact_answer_lem (fetch_of g after.b0 after.b1 n0 n1 count seed)
      (compact_verdict g b0 b1 n0 n1 count seed rules e)
      (fetch_possible g after.b0 after.b1 n0 n1 count seed) compact_verdict_possible

  pub compact_stores_possible : (n : ℕ) → AnswerOr CompactRefuses (compact_stores_of g b0 b1 n0 n1 count seed rules e n)
  unfolding compact_stores_of
  compact_stores_possible n = compact_made_lem n (compact_verdict g b0 b1 n0 n1 count seed rules e) compact_verdict_possible
