-- Document 01's rule and littlefs's: which logs are regular, and what the second changes for those that are so by the
-- first: nothing. Document 01's stays as it was; littlefs's is wider; on a pair that document 01's rule takes the
-- directory machine is as it was, and both calls that write answer and leave the same by either rule. (That all of it
-- holds by either rule is said where it is said: Directory, Accepted, Stopped. What a compaction leaves is regular by
-- document 01's whichever was asked for: `CompactStopped`.) Assumes nothing.
use Rattle.std.specs.Prelude.{◌≡◌, Bool, not, ◌&&◌, List, [], ◌∷◌, ◌++◌, ℕ, suc, length, take, drop, set, get_or, Err, Ok, Result}
use Rattle.std.proofs.Math.Path.{refl}
use Rattle.std.proofs.Common.{ap, ◌∙◌, arith}
use Rattle.std.proofs.Math.Bool.{true, false, cond}
use Rattle.format.specs.Tag.{tag_type3, tag_id, tag_size}
use Rattle.format.specs.Walk.{Event, ent, chk, inv}
use Rattle.format.specs.Log.{log, log_end}
use Rattle.format.specs.Regular.{Rule, rule_of, rule_holds, count_after, between, regular_from, Regular}
use Rattle.format.specs.Directory.{Slot, empty, upd, Act, mk, rm, put, skip, reaching, apply, dir, apply_all, acts}
use Rattle.format.specs.Directory.{dir_of}
use Rattle.format.specs.Word.{le32, plus32}
use Rattle.format.specs.Record.{count_of}
use Rattle.format.specs.Fetch.{fetch_of}
use Rattle.format.specs.Erased.{erased_fits}
use Rattle.format.specs.Writer.{refused, block_at, is_second, commit_fits, placed, judged_by, appended}
use Rattle.format.specs.Writer.{with_forward, fetched_then, verdict_of}
use Rattle.format.specs.Compaction.{compaction_items, compact_refused, placed_anew, compactable}
use Rattle.format.specs.Compaction.{compact_fetched, compact_verdict}
use Rattle.format.specs.Entries.{items_of, judge}
use Rattle.format.specs.declared.Geometry.{Geometry}
use Rattle.format.specs.declared.LfsMdir.{LfsMdir}
use Rattle.format.specs.declared.Entry.{Entry}
use Rattle.format.specs.declared.Refusal.TheVariants.{Invalid, Irregular}
use Rattle.format.specs.declared.Rules.TheVariants.{Document, Littlefs}
use Rattle.format.proofs.Growing.{raised_never, grows_never, widest}
use Rattle.format.proofs.Slots.{reaching_there}
use Rattle.theory.specs.Directory.Machine.{inside_there}
use Rattle.theory.specs.Directory.Acts.{dir_rev}
use Rattle.theory.specs.Lookup.SlotCount.{slots_after, AllowedFrom, length_apply}
use Rattle.theory.specs.Back.EventBytes.{log_stands}
use Rattle.theory.specs.Commit.Tested.{regular_from_lem}
use Rattle.format.specs.declared.Fetched.{Fetched}
use Rattle.format.specs.declared.Refusal.{Refusal}

-- ---- document 01's rule is what it was before there was another
-- "A log is regular if every check tag's size is 4 to 1,022 and its committed entries pass these rules from c = 0"
pub passes_from : ℕ → List Event → Bool
passes_from c [] = true
passes_from c (ent t d ∷ es) = rule_holds (rule_of true (tag_type3 t)) c (tag_id t) (tag_size t)
    && passes_from (count_after (rule_of true (tag_type3 t)) c) es
passes_from c (chk t x ∷ es) = between 4 1_022 (tag_size t) && passes_from c es
passes_from c (inv ∷ es) = passes_from c es

passes_same : (es : List Event) (c : ℕ) → regular_from false c es ≡ passes_from c es
unfolding regular_from passes_from
passes_same [] c = refl
passes_same (ent t d ∷ es) c =
    let R : Rule = rule_of true (tag_type3 t) in
    rw (raised_never R c (tag_id t), grows_never R, passes_same es (count_after R c))
passes_same (chk t x ∷ es) c = ap (λ (b : Bool). between 4 1_022 (tag_size t) && b) (passes_same es c)
passes_same (inv ∷ es) c = passes_same es c

pub document_stays : (es : List Event) → Regular Document es ≡ passes_from 0 es
unfolding Regular
document_stays es = passes_same es 0

-- ---- littlefs's is wider
pub littlefs_wider : (es : List Event) → Regular Document es ≡ true → Regular Littlefs es ≡ true
littlefs_wider es h = widest Document es h

-- ---- the directory machine is what it was
-- "a simple directory machine: slots inserted, removed, attributes set", where what is set makes no slot
pub simply : List Slot → List Act → List Slot
simply D [] = D
simply D (mk j ∷ l) = simply (take j D ++ empty ∷ drop j D) l
simply D (rm j ∷ l) = simply (take j D ++ drop (suc j) D) l
simply D (put j c v ∷ l) = simply (set D j (upd (get_or D j empty) c v)) l
simply D (skip ∷ l) = simply D l

-- what is allowed without making slots makes none
simply_same : (l : List Act) (D : List Slot) → AllowedFrom false (length D) l → apply_all D l ≡ simply D l
unfolding apply_all apply simply slots_after
simply_same [] D f = refl
simply_same (mk j ∷ l) D f = simply_same l (take j D ++ empty ∷ drop j D)
    (rw (length_apply false D (mk j) f.0) f.1)
simply_same (rm j ∷ l) D f = simply_same l (take j D ++ drop (suc j) D) (rw (length_apply false D (rm j) f.0) f.1)
simply_same (put j c v ∷ l) D f =
    simply_same l (set (reaching j D) j (upd (get_or D j empty) c v))
    (rw (length_apply false D (put j c v) f.0) f.1)
    ∙ ap (λ (E : List Slot). simply (set E j (upd (get_or D j empty) c v)) l) (reaching_there j D (inside_there f.0))
simply_same (skip ∷ l) D f = simply_same l D f.1

pub machine_stays : (b : List ℕ) → Regular Document (log b) ≡ true → dir_of (log b) ≡ simply [] (acts (log b))
unfolding Regular dir_of dir
machine_stays b h =
    let r = regular_from_lem (log b) false 0 (log_stands b) (omega arith) h in
    dir_rev (acts (log b)) [] ∙ simply_same (acts (log b)) [] r.allowed

-- ---- where document 01's rule does not refuse, littlefs's answers the same
-- a test of regularity before all else that a verdict v depends on
either_rule : {A : Type 0} (es : List Event) (bad v : A) → (cond (not (Regular Document es)) bad v ≡ bad → ⊥)
    → cond (not (Regular Littlefs es)) bad v ≡ cond (not (Regular Document es)) bad v
either_rule es bad v = go (Regular Document es) refl
  where
    go : (x : Bool) → Regular Document es ≡ x → (cond (not x) bad v ≡ bad → ⊥)
        → cond (not (Regular Littlefs es)) bad v ≡ cond (not x) bad v
    go true e h = rw (littlefs_wider es e)
    go false e h = absurd (h refl)

module _ (g : Geometry) (b0 b1 : List ℕ) (n0 n1 count seed e : ℕ) where
  abbrev block : LfsMdir → List ℕ
  block m = block_at (is_second n0 m) b0 b1

  pub commit_same : (entries : List Entry) (dat : List ℕ)
      → (verdict_of g b0 b1 n0 n1 count seed 0 e entries dat ≡ refused Irregular → ⊥)
      → verdict_of g b0 b1 n0 n1 count seed 1 e entries dat ≡ verdict_of g b0 b1 n0 n1 count seed 0 e entries dat
  unfolding verdict_of commit_fits appended
  commit_same entries dat = go (commit_fits g (length b0) (length b1) n0 n1 0 e (length entries) (length dat))
      (fetch_of g b0 b1 n0 n1 count seed)
    where
      go : (x : Bool) (f : Result Fetched Refusal)
          → (cond (not x) (refused Invalid) (fetched_then f (λ m. appended Document e g.prog_size (is_second n0 m)
          (block m) (log (block m)) entries dat)) ≡ refused Irregular → ⊥)
          → cond (not x) (refused Invalid) (fetched_then f (λ m. appended Littlefs e g.prog_size (is_second n0 m)
          (block m) (log (block m)) entries dat))
          ≡ cond (not x) (refused Invalid) (fetched_then f (λ m. appended Document e g.prog_size (is_second n0 m)
          (block m) (log (block m)) entries dat))
      go false f h = refl
      go true (Err r) h = refl
      go true (Ok f) h = either_rule (log (block f.dir)) (refused Irregular)
          (judged_by (judge dat 0 (count_of 0 (log (block f.dir))) entries)
          (placed e g.prog_size (is_second n0 f.dir) (block f.dir) (log (block f.dir))
          (with_forward e g.prog_size (length (block f.dir)) (log_end (log (block f.dir))) (items_of dat entries)))) h

  pub compact_same : (compact_verdict g b0 b1 n0 n1 count seed 0 e ≡ compact_refused Irregular → ⊥)
      → compact_verdict g b0 b1 n0 n1 count seed 1 e ≡ compact_verdict g b0 b1 n0 n1 count seed 0 e
  unfolding compact_verdict compactable
  compact_same = go (erased_fits e) (fetch_of g b0 b1 n0 n1 count seed)
    where
      go : (x : Bool) (f : Result Fetched Refusal)
          → (cond (not x) (compact_refused Invalid) (compact_fetched Document e g.prog_size b0 b1 n0 f)
          ≡ compact_refused Irregular → ⊥)
          → cond (not x) (compact_refused Invalid) (compact_fetched Littlefs e g.prog_size b0 b1 n0 f)
          ≡ cond (not x) (compact_refused Invalid) (compact_fetched Document e g.prog_size b0 b1 n0 f)
      go false f h = refl
      go true (Err r) h = refl
      go true (Ok f) h = either_rule (log (block f.dir)) (compact_refused Irregular)
          (placed_anew e g.prog_size (length (block f.dir)) (is_second n0 f.dir)
          (plus32 (le32 (block f.dir)) 1)
          (with_forward e g.prog_size (length (block f.dir)) 4 (compaction_items (log (block f.dir))))) h
