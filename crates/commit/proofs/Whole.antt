-- The steps of a commit, all of them, answer and leave what format's verdict says: the images, the answer, and the
-- number of stores. Assumes nothing.
use mathlib.Core.Path.{◌≡◌, refl, sym, ap, ap₂, ◌∙◌, subst}
use mathlib.Core.Bool.{Bool, true, false, not, cond, ◌&&◌}
use mathlib.Core.List.{List, [], ◌∷◌, ◌++◌, append-nil}
use Prim.Native.Nat.{ℕ, ◌+◌, ◌-◌, ◌≤◌, min}
use native.Mathlib.Nat.{zero-add}
use native.Mathlib.Omega.{arith}
use lib.ListN.{length}
use lib.Dec.{ltb, leb, eqb}
use borrow.Author.Tests.{ltb-false, leb-true}
use Rattle.std.specs.Prelude.{Err, Ok, Result}
use Rattle.format.specs.Word.{all_ones, to_be32, xor}
use Rattle.format.specs.Tag.{tag_length}
use Rattle.format.specs.Crc.{crc}
use Rattle.format.specs.Log.{log, log_end, log_end_tag}
use Rattle.format.specs.Record.{count_of, no_forward}
use Rattle.format.specs.Fetch.{geometry_fits, pair_fits, fetch_of}
use Rattle.format.specs.Lookup.{block_of}
use Rattle.format.specs.Regular.{Regular, rules_of}
use Rattle.format.specs.declared.Rules.TheVariants.{Littlefs}
use Rattle.format.proofs.Growing.{widest}
use Rattle.format.specs.Commit.{Item, check_tag, commit_bytes}
use Rattle.format.specs.Stores.{entries_length, appending, coincides}
use Rattle.format.specs.Entries.{items_of, Judged, judge, bad, good}
use Rattle.format.specs.Room.{room_of}
use Rattle.format.specs.Writer.{rounded_end, check_size, check_at, all_stores, most_data, most_entries, commit_fits}
use Rattle.format.specs.Writer.{Verdict, refused, accepted, block_at, room_then, placed, judged_by, appended, is_second}
use Rattle.format.specs.Writer.{writes_fit, fetched_then, verdict_of, images_after, stored_to, answer_of}
use Rattle.format.specs.Writer.{stores_made}
use Rattle.format.specs.Writer.{unit_check, forward_tag, forward_item, carries, carried_for, forward_items, with_forward}
use Rattle.format.specs.declared.LfsFcrc.{LfsFcrc}
use Rattle.format.specs.declared.LfsMdir.{LfsMdir}
use Rattle.format.specs.declared.Geometry.{Geometry}
use Rattle.format.specs.declared.Fetched.{Fetched}
use Rattle.format.specs.declared.Entry.{Entry}
use Rattle.format.specs.declared.Refusal.{Refusal}
use Rattle.format.specs.declared.Refusal.TheVariants.{Invalid, Irregular, NoSpace, Coincidence}
use Rattle.theory.specs.Walk.Step.{both_true}
use Rattle.theory.specs.Directory.Machine.{most_slots}
use Rattle.theory.specs.Commit.Tested.{regular_count}
use Rattle.theory.specs.Rules.FetchCount.{regular_slots}
use Rattle.theory.specs.Rules.MadeItem.{AllMade}
use Rattle.theory.specs.Fetch.FoundRecord.{found_answers}
use Rattle.theory.specs.Rules.JudgedEntries.{judged_good}
use Rattle.theory.specs.Commit.ForwardCheck.{with_made, length_app, forward_long}
use Rattle.theory.specs.Commit.AcceptedVerdict.{fits_prog, fits_geometry, rounded}
use Rattle.commit_lay.specs.Laid.{laid, puts_of}
use Rattle.commit_lay.proofs.Pasted.{run_at, puts_paste}
use Rattle.commit_steps.specs.Steps.{onto, and_then, judging_from, started_of, begun_of, summed_of, forward_summed}
use Rattle.commit_steps.specs.Steps.{tested_of, placed_of, laid_to}
use Rattle.commit_steps.specs.declared.Judging.{Judging}
use Rattle.commit_steps.specs.declared.Laying.{Laying}
use Rattle.commit.specs.Passes.{judged_all, decided_of, written_of, Left, left, into, ran_by, ran_of}
use Rattle.commit.proofs.Chained.{last_tag, last_sum, tag_app, sum_app, meets_last, bytes_length}
use Rattle.commit.proofs.Judges.{after, judged_to, judge_pass, items_long}
use Rattle.commit.proofs.Lays.{Tagged, judged_tagged, written_done}

-- What a call with the limit n answers and leaves, where fetch answered F, by its verdict: a refusal changes nothing;
-- what was laid has the stores, goes on from what was fetched, and has what is left of the limit.
module _ (byte : ℕ) (F : Result Fetched Refusal) (b0 b1 : List ℕ) (n : ℕ) where
  abbrev pub Ran : Verdict → Left → Type 0
  Ran (refused r) t = t ≡ left (Err r) b0 b1
  Ran (accepted w is size) t = (l : Laying) × (F ≡ Ok l.old) × (l.run.left ≡ n - all_stores is)
      × (t ≡ into w b0 b1 (onto l (stored_to byte (block_at w b0 b1) is size n)))

  pub ran_images : (v : Verdict) (t : Left) → Ran v t
      → (t.b0 ≡ (images_after byte n b0 b1 v).b0) × (t.b1 ≡ (images_after byte n b0 b1 v).b1)
  ran_images (refused r) t e = (ap (λ (u : Left). u.b0) e, ap (λ (u : Left). u.b1) e)
  ran_images (accepted false is size) t h = (ap (λ (u : Left). u.b0) h.3, ap (λ (u : Left). u.b1) h.3)
  ran_images (accepted true is size) t h = (ap (λ (u : Left). u.b0) h.3, ap (λ (u : Left). u.b1) h.3)

  -- the answer is f, if that is what is fetched again behind what was laid
  pub ran_answers : (v : Verdict) (t : Left) → Ran v t → (on : Laying → Result Fetched Refusal)
      (f : Result Fetched Refusal) → ((l : Laying) → F ≡ Ok l.old → on l ≡ f)
      → and_then t.answer on ≡ answer_of f v
  ran_answers (refused r) t e on f h = ap (λ (u : Left). and_then u.answer on) e
  ran_answers (accepted false is size) t e on f h = ap (λ (u : Left). and_then u.answer on) e.3 ∙ h e.0 e.1
  ran_answers (accepted true is size) t e on f h = ap (λ (u : Left). and_then u.answer on) e.3 ∙ h e.0 e.1

  made_count : (k x : ℕ) → x ≡ n - k → n - x ≡ min n k
  made_count k x e = omega arith

  pub ran_made : (v : Verdict) (t : Left) → Ran v t
      → and_then t.answer (λ l. Ok (n - l.run.left)) ≡ stores_made n v
  ran_made (refused r) t e = ap (λ (u : Left). and_then u.answer (λ l. Ok (n - l.run.left))) e
  ran_made (accepted false is size) t e =
      ap (λ (u : Left). and_then u.answer (λ l. Ok (n - l.run.left))) e.3
      ∙ ap Ok (made_count (all_stores is) e.0.run.left e.2)
  ran_made (accepted true is size) t e =
      ap (λ (u : Left). and_then u.answer (λ l. Ok (n - l.run.left))) e.3
      ∙ ap Ok (made_count (all_stores is) e.0.run.left e.2)

-- the stores of a run with room for all of them
stores_are : (byte : ℕ) (b : List ℕ) (is : List Item) (size n : ℕ) → AllMade is
    → log_end (log b) + all_stores is ≤ length b → puts_of (laid (run_at (log_end (log b)) n) b)
    (commit_bytes all_ones (log_end_tag (log b)) is (check_tag byte size))
    ≡ laid (run_at (log_end (log b) + min n (all_stores is)) (n - all_stores is)) (stored_to byte b is size n)
unfolding appending
stores_are byte b is size n made room =
    let l : length (commit_bytes all_ones (log_end_tag (log b)) is (check_tag byte size)) ≡ all_stores is =
    bytes_length is all_ones (log_end_tag (log b)) (check_tag byte size) made in
    puts_paste (commit_bytes all_ones (log_end_tag (log b)) is (check_tag byte size)) (log_end (log b)) n b
    (omega arith)
    ∙ rw l

-- ---- good entries over the block B, from which f was fetched
module _ (byte prog n : ℕ) (B : List ℕ) (dat : List ℕ) (entries : List Entry) (f : Fetched) where
  -- the entries, the forward check that is carried, and all that is laid
  abbrev E : List Item
  E = items_of dat entries

  abbrev fcrc : LfsFcrc
  fcrc = carried_for byte prog (length B) (log_end (log B) + entries_length (items_of dat entries))

  abbrev I : List Item
  I = with_forward byte prog (length B) (log_end (log B)) (items_of dat entries)

  abbrev ct : ℕ
  ct = check_tag byte (check_size prog (check_at (log B) I))

  abbrev word : ℕ
  word = xor ct (last_tag (log_end_tag (log B)) I)

  abbrev laying : Laying
  laying =
      record {
        old = f;
        run = run_at (log_end (log B)) n;
        prev = log_end_tag (log B);
        fcrc = fcrc;
        word = word;
        sum = crc (last_sum all_ones (log_end_tag (log B)) I) (to_be32 word);
      }

  -- what the first pass starts from
  abbrev start : Judging
  start = record {
    old = f;
    index = 0;
    count = count_of 0 (log B);
    size = 0;
    prev = log_end_tag (log B);
    sum = all_ones;
  }

  abbrev tests : Bool → Result Unit Refusal → Bool → Result Laying Refusal
  tests x y z = cond x (Err NoSpace) (and_then y (λ u. cond z (Err Coincidence) (Ok laying)))

  abbrev verdict : Bool → Bool → Result Unit Refusal → Bool → Verdict
  verdict w x y z = cond x (refused NoSpace)
      (room_then y
      (cond z (refused Coincidence) (accepted w I (check_size prog (check_at (log B) I)))))

  -- what is written
  written : Tagged entries → AllMade I → log_end (log B) + all_stores I ≤ length B
      → written_of entries dat laying B ≡ laid_to laying (last_tag (log_end_tag (log B)) I)
      (laid (run_at (log_end (log B) + min n (all_stores I)) (n - all_stores I))
      (stored_to byte B I (check_size prog (check_at (log B) I)) n))
  unfolding with_forward
  written h made room =
      written_done dat entries laying all_ones (log_end_tag (log B)) ct refl refl refl B h
      ∙ ap (laid_to laying (last_tag (log_end_tag (log B)) I))
      (stores_are byte B I (check_size prog (check_at (log B) I)) n made room)

  -- j is behind all that is laid
  pub record Behind (j : Judging) (is : List Item) : Type 0 where
    pub old' : j.old ≡ f
    pub size' : j.size ≡ entries_length is
    pub prev' : j.prev ≡ last_tag (log_end_tag (log B)) is
    pub sum' : j.sum ≡ last_sum all_ones (log_end_tag (log B)) is

  -- the forward check is summed as one entry more
  summed_behind : (len c : ℕ) (i : Item) → i.tag ≡ forward_tag → length entries ≤ most_entries
      → Behind (summed_of (after start E len c) c i.tag i.body) (E ++ (i ∷ []))
  unfolding summed_of last_tag last_sum entries_length
  summed_behind len c i is few =
      record {
        old' = refl;
        size' = omega (arith, items_long dat entries, length_app E (i ∷ []), ap tag_length is ∙ forward_long);
        prev' = sym (tag_app E (i ∷ []) (log_end_tag (log B)));
        sum' = sym (sum_app E (i ∷ []) all_ones (log_end_tag (log B)));
      }

  behind_forward : (len c : ℕ) → length entries ≤ most_entries → Behind (forward_summed (after start E len c) fcrc) I
  unfolding forward_summed with_forward carried_for
  behind_forward len c few = go (carries prog (length B) (log_end (log B) + entries_length E))
    where
      go : (q : Bool) → (let f : LfsFcrc = cond q (unit_check byte prog) no_forward in
          Behind (cond f.seen (summed_of (after start E len c) c forward_tag (forward_item f).body) (after start E len c))
          (E ++ forward_items f))
      go false = rw (append-nil E)
          (record { old' = refl; size' = zero-add (entries_length E); prev' = refl; sum' = refl })
      go true = summed_behind len c (forward_item (unit_check byte prog)) refl few

  module _ (ends : f.dir.off ≡ log_end (log B)) (end_tag_lem : f.dir.etag ≡ log_end_tag (log B)) where
    tested_tests : (j : Judging) → Behind j I → tested_of byte j fcrc prog B n
        ≡ tests (ltb (length B) (rounded_end prog (check_at (log B) I)))
        (room_of byte prog B (log_end (log B)) (log_end_tag (log B)))
        (coincides byte all_ones (log_end_tag (log B)) I ct)
    unfolding tested_of
    tested_tests j k =
        rw (k.old', ends, end_tag_lem, k.size', k.prev', k.sum', meets_last byte I all_ones (log_end_tag (log B)) ct)

    placed_tests : (len c : ℕ) → length entries ≤ most_entries → placed_of byte (after start E len c) prog B n
        ≡ tests (ltb (length B) (rounded_end prog (check_at (log B) I)))
        (room_of byte prog B (log_end (log B)) (log_end_tag (log B)))
        (coincides byte all_ones (log_end_tag (log B)) I ct)
    unfolding placed_of
    placed_tests len c few =
        let j : Judging = after start E len c in
        ap₂ (λ (e k : ℕ). let f : LfsFcrc = carried_for byte prog (length B) (e + k) in
        tested_of byte (forward_summed j f) f prog B n) ends (zero-add (entries_length E))
        ∙ tested_tests (forward_summed j fcrc) (behind_forward len c few)

-- a record's block, by its place
block_is : (b0 b1 : List ℕ) (n0 : ℕ) (m : LfsMdir) (w : Bool) → is_second n0 m ≡ w
    → block_of b0 b1 n0 m ≡ block_at w b0 b1
block_is b0 b1 n0 m w place = go (eqb m.pair.n0 n0) ∙ ap (λ (v : Bool). block_at v b0 b1) place
  where
    go : (x : Bool) → cond x b0 b1 ≡ block_at (not x) b0 b1
    go true = refl
    go false = refl

-- ---- all of it
module _ (g : Geometry) (b0 b1 : List ℕ) (n0 n1 count seed rules byte : ℕ) (entries : List Entry) (dat : List ℕ)
    (n : ℕ) where
  abbrev F : Result Fetched Refusal
  F = fetch_of g b0 b1 n0 n1 count seed

  abbrev R : Result Laying Refusal → Left
  R r = ran_by r b0 b1 n0 entries dat

  -- between the passes, and from a begun state on
  abbrev between : Judging → Result Laying Refusal
  between k = placed_of byte k g.prog_size (block_of b0 b1 n0 k.old.dir) n

  abbrev passes : Judging → Result Laying Refusal
  passes j = and_then (judged_all entries dat j) between

  -- all that is laid, of the block at place w
  abbrev laid_at : Bool → List Item
  laid_at w = with_forward byte g.prog_size (length (block_at w b0 b1)) (log_end (log (block_at w b0 b1)))
      (items_of dat entries)

  module _ (fits : commit_fits g (length b0) (length b1) n0 n1 rules byte (length entries) (length dat) ≡ true) where
    few : length entries ≤ 8_192
    unfolding commit_fits
    few =
        let r = both_true (pair_fits g (length b0) (length b1) n0 n1 && leb (length dat) most_data
        && leb (length entries) most_entries) (writes_fit rules byte) fits in
        leb-true (length entries) most_entries
        (both_true (pair_fits g (length b0) (length b1) n0 n1 && leb (length dat) most_data)
        (leb (length entries) most_entries) r.0).1

    geometry : geometry_fits g ≡ true
    geometry = fits_geometry g (length b0) (length b1) n0 n1 rules byte (length entries) (length dat) fits

    -- the block at place w answers: f was fetched from it
    module _ (f : Fetched) (found : F ≡ Ok f) (w : Bool) (place : is_second n0 f.dir ≡ w)
        (ends : f.dir.off ≡ log_end (log (block_at w b0 b1)))
        (end_tag_lem : f.dir.etag ≡ log_end_tag (log (block_at w b0 b1))) where
      abbrev B : List ℕ
      B = block_at w b0 b1

      abbrev begins : Judging
      begins = start byte g.prog_size n B dat entries f

      abbrev lays : Laying
      lays = laying byte g.prog_size n B dat entries f

      abbrev last : Verdict
      last = placed byte g.prog_size w B (log B) (laid_at w)

      ran_tests : Tagged entries → AllMade (laid_at w) → (x : Bool) (y : Result Unit Refusal) (z : Bool)
          → ltb (length B) (rounded_end g.prog_size (check_at (log B) (laid_at w))) ≡ x
          → Ran byte F b0 b1 n (verdict byte g.prog_size n B dat entries f w x y z)
          (R (tests byte g.prog_size n B dat entries f x y z))
      ran_tests h made true y z e = refl
      ran_tests h made false (Err r) z e = refl
      ran_tests h made false (Ok u) true e = refl
      ran_tests h made false (Ok u) false e =
          let fit : rounded_end g.prog_size (check_at (log B) (laid_at w)) ≤ length B =
          ltb-false (length B) (rounded_end g.prog_size (check_at (log B) (laid_at w))) e in
          let room : log_end (log B) + all_stores (laid_at w) ≤ length B = omega (
            arith,
            (rounded g.prog_size (check_at (log B) (laid_at w)) (fits_prog g geometry).0).0,
          ) in
          let l : Laying = record {
            old = f;
            run = run_at (log_end (log B) + min n (all_stores (laid_at w))) (n - all_stores (laid_at w));
            prev = last_tag (log_end_tag (log B)) (laid_at w);
            fcrc = lays.fcrc;
            word = lays.word;
            sum = lays.sum;
          } in (
            l,
            found,
            refl,
            ap (λ (v : Bool). into v b0 b1 (written_of entries dat lays (block_at v b0 b1))) place
                ∙ ap (into w b0 b1) (written byte g.prog_size n B dat entries f h made room),
          )

      ran_placed : Tagged entries → AllMade (laid_at w) → (len c : ℕ)
          → Ran byte F b0 b1 n last (R (between (after begins (items_of dat entries) len c)))
      unfolding placed
      ran_placed h made len c =
          subst (λ (b : List ℕ). Ran byte F b0 b1 n last
          (R (placed_of byte (after begins (items_of dat entries) len c) g.prog_size b n)))
          (sym (block_is b0 b1 n0 f.dir w place))
          (subst (λ (r : Result Laying Refusal). Ran byte F b0 b1 n last (R r))
          (sym (placed_tests byte g.prog_size n B dat entries f ends end_tag_lem len c few))
          (ran_tests h made (ltb (length B) (rounded_end g.prog_size (check_at (log B) (laid_at w))))
          (room_of byte g.prog_size B (log_end (log B)) (log_end_tag (log B)))
          (coincides byte all_ones (log_end_tag (log B)) (laid_at w) (ct byte g.prog_size n B dat entries f)) refl))

      -- the log is regular by littlefs's rule, the wider one
      module _ (regular : Regular Littlefs (log B) ≡ true) where
        low : count_of 0 (log B) ≤ most_slots
        low = subst (λ (k : ℕ). k ≤ most_slots) (sym (regular_slots (log B) regular))
            (regular_count B (log B) refl regular)

        ran_judged : (j : Judged) → judge dat 0 (count_of 0 (log B)) entries ≡ j
            → Ran byte F b0 b1 n (judged_by j last)
            (R (and_then (judged_to j begins (items_of dat entries) (length entries)) between))
        ran_judged (bad k) e = refl
        ran_judged (good c) e =
            ran_placed (judged_tagged dat entries 0 (count_of 0 (log B)) c low e)
            (with_made byte g.prog_size (length B) (log_end (log B)) (items_of dat entries)
            (judged_good dat entries 0 (count_of 0 (log B)) c low e).made) (length entries) c

        ran_regular : Ran byte F b0 b1 n (judged_by (judge dat 0 (count_of 0 (log B)) entries) last)
            (R (passes begins))
        ran_regular =
            subst (λ (r : Result Judging Refusal). Ran byte F b0 b1 n
            (judged_by (judge dat 0 (count_of 0 (log B)) entries) last) (R (and_then r between)))
            (sym (judge_pass dat entries begins low (omega (arith, few)) (omega (arith, few))))
            (ran_judged (judge dat 0 (count_of 0 (log B)) entries) refl)

      ran_started : f.dir.count ≡ count_of 0 (log B)
          → Ran byte F b0 b1 n (appended (rules_of rules) byte g.prog_size w B (log B) entries dat)
          (R (and_then (started_of (rules_of rules) (block_of b0 b1 n0 f.dir) f) passes))
      unfolding appended started_of
      ran_started ec =
          subst (λ (b : List ℕ). Ran byte F b0 b1 n
          (appended (rules_of rules) byte g.prog_size w B (log B) entries dat)
          (R (and_then (started_of (rules_of rules) b f) passes)))
          (sym (block_is b0 b1 n0 f.dir w place)) (go (Regular (rules_of rules) (log B)) refl)
        where
          later : Verdict
          later = judged_by (judge dat 0 (count_of 0 (log B)) entries) last

          from_record : judging_from f ≡ begins
          from_record = λ k. record {
            old = f;
            index = 0;
            count = ec k;
            size = 0;
            prev = end_tag_lem k;
            sum = all_ones;
          }

          go : (x : Bool) → Regular (rules_of rules) (log B) ≡ x
              → Ran byte F b0 b1 n (cond (not x) (refused Irregular) later)
              (R (and_then (cond (not x) (Err Irregular) (Ok (judging_from f))) passes))
          go false e = refl
          go true e = subst (λ (j : Judging). Ran byte F b0 b1 n later (R (passes j))) (sym from_record)
              (ran_regular (widest (rules_of rules) _ e))

    abbrev on : LfsMdir → Verdict
    on m = appended (rules_of rules) byte g.prog_size (is_second n0 m) (block_at (is_second n0 m) b0 b1)
        (log (block_at (is_second n0 m) b0 b1)) entries dat

    ran_fetched : (r : Result Fetched Refusal) → F ≡ r → Ran byte F b0 b1 n (fetched_then r on)
        (R (and_then (and_then r (λ f. started_of (rules_of rules) (block_of b0 b1 n0 f.dir) f)) passes))
    ran_fetched (Err r) e = refl
    ran_fetched (Ok f) e =
        let a = found_answers g b0 b1 n0 n1 count seed f.dir f.seed e in
        subst (λ (v : Bool). Ran byte F b0 b1 n (appended (rules_of rules) byte g.prog_size v (block_at v b0 b1)
        (log (block_at v b0 b1)) entries dat)
        (R (and_then (started_of (rules_of rules) (block_of b0 b1 n0 f.dir) f) passes))) (sym a.place)
        (ran_started f e a.w a.place a.end a.end_tag a.count)

  pub ran : Ran byte F b0 b1 n (verdict_of g b0 b1 n0 n1 count seed rules byte entries dat)
      (ran_of g b0 b1 n0 n1 count seed rules byte entries dat n)
  unfolding verdict_of decided_of begun_of
  ran = go (commit_fits g (length b0) (length b1) n0 n1 rules byte (length entries) (length dat)) refl
    where
      go : (x : Bool) → commit_fits g (length b0) (length b1) n0 n1 rules byte (length entries) (length dat) ≡ x
          → Ran byte F b0 b1 n (cond (not x) (refused Invalid)
          (fetched_then F (λ m. appended (rules_of rules) byte g.prog_size (is_second n0 m)
          (block_at (is_second n0 m) b0 b1)
          (log (block_at (is_second n0 m) b0 b1)) entries dat)))
          (R (and_then (cond (not x) (Err Invalid)
          (and_then F (λ f. started_of (rules_of rules) (block_of b0 b1 n0 f.dir) f))) passes))
      go false e = refl
      go true e = ran_fetched e F refl
