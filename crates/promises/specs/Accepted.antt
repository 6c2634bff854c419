-- Demand 2: "Commit and compaction are accepted exactly when document 01 says". The conditions, one by one, each the
-- negation of one refusal; a call is accepted exactly if all of them hold, and then with these entries and this check.
-- Assumes nothing.
use Rattle.std.specs.Prelude.{◌≡◌, refl, ◌↔◌, true, false, not, length, ltb, Ok}
use Rattle.std.proofs.Math.Bool.{Bool}
use mathlib.Core.List.{List}
use Prim.Native.Nat.{ℕ}
use borrow.Author.Tests.{not-false}
use Rattle.format.specs.Word.{le32, to_le32, plus32, all_ones}
use Rattle.format.specs.Crc.{crc}
use Rattle.format.specs.Log.{log, log_end, log_end_tag}
use Rattle.format.specs.Record.{count_of}
use Rattle.format.specs.Fetch.{fetch_of}
use Rattle.format.specs.Regular.{Regular, rules_of}
use Rattle.format.specs.Commit.{Item, check_tag}
use Rattle.format.specs.Stores.{coincides}
use Rattle.format.specs.Entries.{items_of, good, judge}
use Rattle.format.specs.Room.{room_clean, room_of}
use Rattle.format.specs.Writer.{rounded_end, check_size, check_at, commit_fits, block_at, is_second, accepted}
use Rattle.format.specs.Writer.{writes_fit, with_forward, placed, appended, verdict_of}
use Rattle.format.specs.Compaction.{compaction_items, compact_accepted, compact_check_at, placed_anew, compactable}
use Rattle.format.specs.Compaction.{compact_verdict}
use Rattle.format.specs.declared.Geometry.{Geometry}
use Rattle.format.specs.declared.LfsMdir.{LfsMdir}
use Rattle.format.specs.declared.Entry.{Entry}
use Rattle.format.specs.declared.Refusal.TheVariants.{Invalid, Irregular, NoSpace, Coincidence}
use Rattle.format.proofs.Rooms.{clean_holds, holds_clean}
use Rattle.theory.specs.Commit.AcceptedVerdict.{past, past_room, found_then, good_then}
use Rattle.theory.proofs.Compact.AcceptedVerdict as anew
use Rattle.format.specs.Record.{fetched}

-- ---- a commit
module _ (g : Geometry) (b0 b1 : List ℕ) (n0 n1 count seed rules e : ℕ) (entries : List Entry) (dat : List ℕ) where
  -- b is the block that answers
  pub record CommitConditions (second : Bool) (b : List ℕ) (is : List Item) (size : ℕ) : Type 0 where
    -- not -22: no "size or number above is broken", and no other rule or erased byte than the two
    pub fits : commit_fits g (length b0) (length b1) n0 n1 rules e (length entries) (length dat) ≡ true
    -- none of "fetch's own refusals"
    pub dir : LfsMdir
    pub read : ℕ
    pub found : fetch_of g b0 b1 n0 n1 count seed ≡ Ok (fetched dir read)
    pub place : is_second n0 dir ≡ second
    pub block : b ≡ block_at second b0 b1
    -- not -202: "the committed log" is "regular", by the rule that was asked for
    pub regular : Regular (rules_of rules) (log b) ≡ true
    -- not -201: no entry "is bad", from the record's count on
    pub slots : ℕ
    pub judged : judge dat 0 (count_of 0 (log b)) entries ≡ good slots
    -- not -28: "the rounded end" of what is really laid does not pass the block (Forward: nor does that of the entries)
    pub room : ltb (length b) (rounded_end g.prog_size (check_at (log b) is)) ≡ false
    -- none of -211, -212, -213: "the room behind the end" is clean (Room takes it apart)
    pub clean : room_clean e g.prog_size b (log_end (log b)) (log_end_tag (log b)) ≡ true
    -- not -204: no "checksum coincidence"
    pub lucky : coincides e all_ones (log_end_tag (log b)) is (check_tag e size) ≡ false
    -- what it writes: the entries, and behind them the forward check, or none
    pub items : is ≡ with_forward e g.prog_size (length b) (log_end (log b)) (items_of dat entries)
    pub check : size ≡ check_size g.prog_size (check_at (log b) is)

-- of a verdict that says the same
alike : (g : Geometry) (b0 b1 : List ℕ) (n0 n1 count seed rules e : ℕ) (entries : List Entry) (dat : List ℕ)
    (w v : Bool)
    (is js : List Item) (k l : ℕ) → w ≡ v → is ≡ js → k ≡ l
    → CommitConditions g b0 b1 n0 n1 count seed rules e entries dat w (block_at w b0 b1) is k
    → CommitConditions g b0 b1 n0 n1 count seed rules e entries dat v (block_at v b0 b1) js l
alike g b0 b1 n0 n1 count seed rules e entries dat w v is js k l q f h c = rw (← q, ← f, ← h) c

module _ (g : Geometry) (b0 b1 : List ℕ) (n0 n1 count seed rules e : ℕ) (entries : List Entry) (dat : List ℕ)
    (second : Bool)
    (is : List Item) (size : ℕ) where
  abbrev prog : ℕ
  prog = g.prog_size

  conditions : verdict_of g b0 b1 n0 n1 count seed rules e entries dat ≡ accepted second is size
      → CommitConditions g b0 b1 n0 n1 count seed rules e entries dat second (block_at second b0 b1) is size
  unfolding verdict_of appended placed
  conditions h =
      let p = past (not (commit_fits g (length b0) (length b1) n0 n1 rules e (length entries) (length dat))) Invalid _
      second is size h in
      let f = found_then (fetch_of g b0 b1 n0 n1 count seed)
      (λ m. appended (rules_of rules) e prog (is_second n0 m) (block_at (is_second n0 m) b0 b1)
      (log (block_at (is_second n0 m) b0 b1)) entries
      dat) second is size p.1 in
      let w : Bool = is_second n0 f.m in
      let b : List ℕ = block_at (is_second n0 f.m) b0 b1 in
      let I : List Item = with_forward e prog (length b) (log_end (log b)) (items_of dat entries) in
      let q = past (not (Regular (rules_of rules) (log b))) Irregular _ second is size f.then in
      let j = good_then (judge dat 0 (count_of 0 (log b)) entries) _ second is size q.1 in
      let r = past (ltb (length b) (rounded_end prog (check_at (log b) I))) NoSpace _ second is size j.then in
      let c = past_room (room_of e prog b (log_end (log b)) (log_end_tag (log b))) _ second is size r.1 in
      let l = past (coincides e all_ones (log_end_tag (log b)) I (check_tag e (check_size prog (check_at (log b) I))))
      Coincidence
      _ second is size c.1 in
      let place : is_second n0 f.m ≡ second = cc in
      let items : I ≡ is = cc in
      let check : check_size prog (check_at (log b) I) ≡ size = cc in
      alike g b0 b1 n0 n1 count seed rules e entries dat w second I is (check_size prog (check_at (log b) I)) size place
      items check
      (record {
        fits = not-false _ p.0;
        dir = f.m;
        read = f.s;
        found = f.found;
        place = refl;
        block = refl;
        regular = not-false _ q.0;
        slots = j.c;
        judged = j.all;
        room = r.0;
        clean = clean_holds e prog b (log_end (log b)) (log_end_tag (log b)) c.0;
        lucky = l.0;
        items = refl;
        check = refl;
      })

  accepts : CommitConditions g b0 b1 n0 n1 count seed rules e entries dat second (block_at second b0 b1) is size
      → verdict_of g b0 b1 n0 n1 count seed rules e entries dat ≡ accepted second is size
  unfolding verdict_of appended placed
  accepts c = rw (
    c.fits,
    c.found,
    c.place,
    c.regular,
    c.judged,
    ← c.items,
    c.room,
    holds_clean e prog (block_at second b0 b1) (log_end (log (block_at second b0 b1)))
        (log_end_tag (log (block_at second b0 b1))) c.clean,
    ← c.check,
    c.lucky,
  )

  pub commit_accepted_exactly : (verdict_of g b0 b1 n0 n1 count seed rules e entries dat ≡ accepted second is size)
      ↔ CommitConditions g b0 b1 n0 n1 count seed rules e entries dat second (block_at second b0 b1) is size
  commit_accepted_exactly = (conditions, accepts)

-- ---- a compaction
module _ (g : Geometry) (b0 b1 : List ℕ) (n0 n1 count seed rules e : ℕ) where
  -- b is the block that answers
  pub record CompactConditions (second : Bool) (b : List ℕ) (rev : ℕ) (is : List Item) (size : ℕ) : Type 0 where
    -- not -22: the rule is one of the two, and so is the erased byte; and none of fetch's own refusals
    pub writes : writes_fit rules e ≡ true
    pub dir : LfsMdir
    pub read : ℕ
    pub found : fetch_of g b0 b1 n0 n1 count seed ≡ Ok (fetched dir read)
    pub place : is_second n0 dir ≡ second
    pub block : b ≡ block_at second b0 b1
    -- not -202, by the rule that was asked for
    pub regular : Regular (rules_of rules) (log b) ≡ true
    -- not -28
    pub room : ltb (length b) (rounded_end g.prog_size (compact_check_at is)) ≡ false
    -- not -204
    pub lucky : coincides e (crc all_ones (to_le32 rev)) all_ones is (check_tag e size) ≡ false
    -- what it writes: "revision plus one (wrapping) and one commit", with the forward check, or none
    pub next : rev ≡ plus32 (le32 b) 1
    pub items : is ≡ with_forward e g.prog_size (length b) 4 (compaction_items (log b))
    pub check : size ≡ check_size g.prog_size (compact_check_at is)

alike_anew : (g : Geometry) (b0 b1 : List ℕ) (n0 n1 count seed rules e : ℕ) (w v : Bool) (r s : ℕ) (is js : List Item)
    (k l : ℕ)
    → w ≡ v → r ≡ s → is ≡ js → k ≡ l
    → CompactConditions g b0 b1 n0 n1 count seed rules e w (block_at w b0 b1) r is k
    → CompactConditions g b0 b1 n0 n1 count seed rules e v (block_at v b0 b1) s js l
alike_anew g b0 b1 n0 n1 count seed rules e w v r s is js k l q d f h c = rw (← q, ← d, ← f, ← h) c

module _ (g : Geometry) (b0 b1 : List ℕ) (n0 n1 count seed rules e : ℕ) (second : Bool) (rev : ℕ) (is : List Item)
    (size : ℕ) where
  compact_conditions : compact_verdict g b0 b1 n0 n1 count seed rules e ≡ compact_accepted second rev is size
      → CompactConditions g b0 b1 n0 n1 count seed rules e second (block_at second b0 b1) rev is size
  unfolding compact_verdict compactable placed_anew
  compact_conditions h =
      let p : ℕ = g.prog_size in
      let k = anew.past (not (writes_fit rules e)) Invalid _ second rev is size h in
      let f = anew.found_then (rules_of rules) e p b0 b1 n0 (fetch_of g b0 b1 n0 n1 count seed) second rev is size
      k.1 in
      let t : compactable (rules_of rules) e p (is_second n0 f.0) (block_at (is_second n0 f.0) b0 b1)
      (log (block_at (is_second n0 f.0) b0 b1)) ≡ compact_accepted second rev is size = rw f.2 at k.1 in
      let b : List ℕ = block_at (is_second n0 f.0) b0 b1 in
      let I : List Item = with_forward e p (length b) 4 (compaction_items (log b)) in
      let R : ℕ = plus32 (le32 b) 1 in
      let q = anew.past (not (Regular (rules_of rules) (log b))) Irregular _ second rev is size t in
      let r = anew.past (ltb (length b) (rounded_end p (compact_check_at I))) NoSpace _ second rev is size q.1 in
      let l = anew.past (coincides e (crc all_ones (to_le32 R)) all_ones I (check_tag e (check_size p (compact_check_at I))))
      Coincidence _ second rev is size r.1 in
      let place : is_second n0 f.0 ≡ second = cc in
      let next : R ≡ rev = cc in
      let items : I ≡ is = cc in
      let check : check_size p (compact_check_at I) ≡ size = cc in
      alike_anew g b0 b1 n0 n1 count seed rules e (is_second n0 f.0) second R rev I is
      (check_size p (compact_check_at I))
      size place next items check
      (record {
        writes = not-false _ k.0;
        dir = f.0;
        read = f.1;
        found = f.2;
        place = refl;
        block = refl;
        regular = not-false _ q.0;
        room = r.0;
        lucky = l.0;
        next = refl;
        items = refl;
        check = refl;
      })

  compact_accepts : CompactConditions g b0 b1 n0 n1 count seed rules e second (block_at second b0 b1) rev is size
      → compact_verdict g b0 b1 n0 n1 count seed rules e ≡ compact_accepted second rev is size
  unfolding compact_verdict compactable placed_anew
  compact_accepts c = rw (
    c.writes,
    c.found,
    c.place,
    c.regular,
    ← c.items,
    ← c.next,
    c.room,
    ← c.check,
    c.lucky,
  )

  pub compact_accepted_exactly : (compact_verdict g b0 b1 n0 n1 count seed rules e ≡ compact_accepted second rev is size)
      ↔ CompactConditions g b0 b1 n0 n1 count seed rules e second (block_at second b0 b1) rev is size
  compact_accepted_exactly = (compact_conditions, compact_accepts)
