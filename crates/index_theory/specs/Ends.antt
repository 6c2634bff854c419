-- The log up to an end where a commit ends: it is the beginning of the block's log and of every longer one, and each
-- regular beginning of the block's log that ends in a commit is one. Assumes nothing.
use Rattle.std.specs.Prelude.{◌≡◌, refl, ◌≢◌, Bool, true, List, [], ◌∷◌, ◌++◌, ℕ, ◌+◌, ◌≤◌, ◌<◌, length, take, drop, ltb, eqb}
use Rattle.std.proofs.Common.{sym, ◌∙◌, append-nil, append_assoc, arith, add-zero, take-append-drop, length-take, length-drop, length-append, drop_of_length-le, take-take, eqb-true, ltb-true}
use Rattle.std.proofs.Math.Path.{ap}
use Rattle.std.proofs.Math.Seq.{drop-append_seam}
use Rattle.std.proofs.lemmas.List.{drop-append-le}
use Rattle.format.specs.Word.{all_ones}
use Rattle.format.specs.Crc.{crc}
use Rattle.format.specs.Walk.{Event, ent, chk, inv, class_of, walk_from, walk}
use Rattle.format.specs.Log.{committed, log, event_length, span, log_end, log_end_tag}
use Rattle.format.specs.Regular.{rule_holds, between, logged_rule, count_at, count_after, grows_after, regular_from, Regular}
use Rattle.format.specs.declared.Rules.{Rules}
use Rattle.format.specs.declared.Rules.TheVariants.{Littlefs}
use Rattle.format.specs.Tag.{tag_id, tag_size, tag_length}
use Rattle.format.specs.Directory.{Act, skip}
use Rattle.format.specs.Index.{placed_act, placed_from, log_to, ends_at, new_acts}
use Rattle.format.proofs.Walk.{walk_step}
use Rattle.format.proofs.Growing.{widest}
use Rattle.theory.specs.Walk.Step.{both_true}
use Rattle.theory.specs.Log.Committed.{committed_split}
use Rattle.theory.specs.Log.Continued.{continues, log_read_within, log_continues, contained_end}
use Rattle.theory.specs.Log.Folds.{span_app}
use Rattle.theory.specs.Back.EventBytes.{Stands, log_stands}
use Rattle.theory.specs.Commit.Tested.{regular_from_lem}

-- ---- a commit ends there
module _ (b : List ℕ) (end : ℕ) (h : ends_at b end ≡ true) where
  pub end_high : 4 < end
  end_high = ltb-true 4 end (both_true (ltb 4 end) (eqb (log_end (log_to b end)) end) h).0

  pub end_is : log_end (log_to b end) ≡ end
  end_is = eqb-true (log_end (log_to b end)) end (both_true (ltb 4 end) (eqb (log_end (log_to b end)) end) h).1

  pub end_some : log_to b end ≢ []
  unfolding span
  end_some e = omega (arith, end_high, end_is, ap log_end e)

  module _ (inside : end ≤ length b) where
    pub long : length (take end b) ≡ end
    long = length-take end b ∙ omega arith

    -- whatever stands behind it
    pub log_behind : (y : List ℕ) → log (take end b ++ y)
        ≡ log_to b end ++ committed (walk_from all_ones (log_end_tag (log_to b end)) (drop end (take end b ++ y)))
    log_behind y =
        let e : log_to b end ≡ log (take end b ++ []) = ap log (sym (append-nil (take end b))) in
        log_continues (take end b) [] (log_to b end) (sym e) end_some
        (log_read_within (take end b) (omega (arith, long, end_high)) end_some) y
        ∙ ap (λ (n : ℕ). log_to b end ++ committed
        (walk_from all_ones (log_end_tag (log_to b end)) (drop n (take end b ++ y))))
        end_is

    -- it is the beginning of the block's log
    pub log_begins : (more : List Event) × (log b ≡ log_to b end ++ more)
    log_begins = (
      committed (walk_from all_ones (log_end_tag (log_to b end)) (drop end (take end b ++ drop end b))),
      ap log (sym (take-append-drop end b)) ∙ log_behind (drop end b),
    )

    -- and of the log up to any end behind it
    module _ (next : ℕ) (le : end ≤ next) where
      -- what is committed behind the one and before the other
      abbrev pub between_ends : List Event
      between_ends = committed (walk_from all_ones (log_end_tag (log_to b end)) (drop end (take next b)))

      joined : take end b ++ drop end (take next b) ≡ take next b
      joined = ap (λ (l : List ℕ). l ++ drop end (take next b)) (sym (take-take end next b le)) ∙ take-append-drop end
          (take next b)

      pub log_next : log_to b next ≡ log_to b end ++ between_ends
      log_next = ap log (sym joined) ∙ log_behind (drop end (take next b))
          ∙ ap (λ (l : List ℕ). log_to b end ++ committed (walk_from all_ones (log_end_tag (log_to b end)) (drop end l)))
          joined

      pub new_acts_lem : new_acts b end next ≡ placed_from end between_ends
      new_acts_lem = ap (placed_from end)
          (ap (drop (length (log_to b end))) log_next ∙ drop-append_seam (log_to b end) between_ends)

      -- where the walk that goes on ends
      pub end_next : log_end (log_to b next) ≡ end + span between_ends
      end_next = ap log_end log_next ∙ omega (arith, span_app (log_to b end) between_ends, end_is)

-- ---- a beginning of a regular log is regular
pub regular_front : (es more : List Event) (g : Bool) (c : ℕ) → regular_from g c (es ++ more) ≡ true
    → regular_from g c es ≡ true
unfolding regular_from
regular_front [] more g c h = refl
regular_front (ent t d ∷ es) more g c h =
    let r = both_true (rule_holds (logged_rule t) (count_at g c t) (tag_id t) (tag_size t)) (regular_from
    (grows_after g (logged_rule t)) (count_after (logged_rule t) (count_at g c t)) (es ++ more)) h in
    rw (r.0, regular_front es more (grows_after g (logged_rule t)) (count_after (logged_rule t) (count_at g c t)) r.1)
regular_front (chk t x ∷ es) more g c h =
    let r = both_true (between 4 1_022 (tag_size t)) (regular_from g c (es ++ more)) h in
    rw (r.0, regular_front es more g c r.1)
regular_front (inv ∷ es) more g c h = regular_front es more g c h

-- ---- the acts of a log, in two parts
pub placed_app : (es more : List Event) (off : ℕ) → Stands es
    → placed_from off (es ++ more) ≡ placed_from off es ++ placed_from (off + span es) more
unfolding placed_from span event_length
placed_app [] more off st = rw (add-zero off)
placed_app (ent t d ∷ es) more off st =
    let e : off + tag_length t + span es ≡ off + (tag_length t + span es) = omega arith in
    ap (λ (l : List Act). placed_act off t ∷ l) (placed_app es more (off + tag_length t) st.1
    ∙ ap (λ (n : ℕ). placed_from (off + tag_length t) es ++ placed_from n more) e)
placed_app (chk t c ∷ es) more off st =
    let e : off + tag_length t + span es ≡ off + (tag_length t + span es) = omega arith in
    ap (λ (l : List Act). skip ∷ l) (placed_app es more (off + tag_length t) st.1
    ∙ ap (λ (n : ℕ). placed_from (off + tag_length t) es ++ placed_from n more) e)
placed_app (inv ∷ es) more off st = absurd st

-- ---- each regular beginning of the block's log that ends in a commit
walk_nothing : (sum p : ℕ) → walk_from sum p [] ≡ []
unfolding class_of
walk_nothing sum p = walk_step sum p []

by_littlefs : (es : List Event) → Regular Littlefs es ≡ true → regular_from true 0 es ≡ true
unfolding Regular
by_littlefs es h = h

stands_front : (es more : List Event) → Stands (es ++ more) → Stands es
stands_front [] more st = tt
stands_front (ent t d ∷ es) more st = (st.0, stands_front es more st.1)
stands_front (chk t c ∷ es) more st = (st.0, stands_front es more st.1)
stands_front (inv ∷ es) more st = absurd st

pub ends_there : (r : Rules) (b : List ℕ) (es more : List Event) → 4 ≤ length b → log b ≡ es ++ more → committed es ≡ es
    → es ≢ [] → Regular r es ≡ true → log_end es ≤ length b → log_to b (log_end es) ≡ es
unfolding log walk Regular
ends_there r b es more four is whole some regular inside =
    let n : ℕ = log_end es in
    let a : List ℕ = drop 4 (take n b) in
    let sum : ℕ = crc all_ones (take 4 b) in
    let k : length (take n b) ≡ n = length-take n b ∙ omega arith in
    let la : length a ≡ span es = length-drop 4 (take n b) ∙ omega (arith, k) in
    let sp = committed_split (walk_from sum all_ones (drop 4 b)) in
    let parts : drop 4 b ≡ a ++ drop n b = ap (drop 4) (sym (take-append-drop n b))
    ∙ drop-append-le 4 (take n b) (drop n b) (omega (arith, k)) in
    let walked : walk_from sum all_ones (a ++ drop n b) ≡ es ++ (more ++ sp.0) =
    ap (walk_from sum all_ones) (sym parts) ∙ sp.1 ∙ ap (λ (l : List Event). l ++ sp.0) is
    ∙ append_assoc es more sp.0 in
    let st : Stands es = stands_front es more (rw is at (log_stands b)) in
    let reg = regular_from_lem es true 0 st (omega arith) (by_littlefs es (widest r es regular)) in
    let eight : 8 ≤ tag_length (log_end_tag es) = contained_end es all_ones whole some reg.contained in
    let w = continues es (more ++ sp.0) sum all_ones a (drop n b) [] walked whole (λ q. absurd (some q))
    (omega (arith, la)) in
    let none : drop (span es) (a ++ []) ≡ [] = drop_of_length-le (a ++ []) {i = span es}
    (omega (arith, length-append a [], la)) in
    let four' : take 4 (take n b) ≡ take 4 b = take-take 4 n b (omega arith) in
    rw (four', ← append-nil (drop 4 (take n b)), w, none, walk_nothing all_ones (log_end_tag es), append-nil es) whole
