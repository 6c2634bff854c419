-- The first pass is format's `judge`: the first bad entry's index, or the count, the bytes, the tag and the checksum
-- behind good ones. Assumes nothing.
use mathlib.Core.Path.{◌≡◌, refl, sym, ap, ◌∙◌}
use mathlib.Core.Bool.{Bool, true, false, cond, ◌&&◌}
use mathlib.Core.List.{List, [], ◌∷◌, ◌++◌}
use Prim.Native.Nat.{ℕ, suc, ◌+◌, ◌*◌, ◌^◌, ◌≤◌, ◌<◌}
use native.Mathlib.Nat.{add-zero}
use native.Mathlib.Numerals.{add-one}
use native.Mathlib.Omega.{arith}
use lib.ListN.{length}
use Rattle.std.specs.Prelude.{Result, Ok, Err, fold}
use Rattle.std.proofs.lemmas.List.Folds.{fold_stays}
use Rattle.format.specs.Word.{to_be32, xor, plus32}
use Rattle.format.specs.Tag.{tag_length, mk_tag, tag_of}
use Rattle.format.specs.Crc.{crc}
use Rattle.format.specs.Regular.{rule_holds, count_after}
use Rattle.format.specs.Commit.{Item}
use Rattle.format.specs.Stores.{entries_length}
use Rattle.format.specs.Entries.{entry_body, items_of, entry_item, entry_rule, in_buffer, entry_holds, Judged, judge, bad}
use Rattle.format.specs.Entries.{good}
use Rattle.format.specs.declared.Entry.{Entry}
use Rattle.format.specs.declared.Refusal.{Refusal}
use Rattle.format.specs.declared.Refusal.TheVariants.{BadEntry}
use Rattle.format.proofs.Words.{mk_tag_sum}
use Rattle.theory.specs.Directory.Machine.{most_slots}
use Rattle.theory.specs.Rules.MadeItem.{Fields}
use Rattle.theory.specs.Rules.JudgedEntries.{good_entry}
use Rattle.commit_rules.specs.Rules.{counted_as, counted_by}
use Rattle.commit_lay.specs.Laid.{body_of}
use Rattle.fetch_walk.proofs.Seen.{length_most}
use Rattle.commit_steps.specs.Steps.{and_then, summed_of, judged_as, judged_of}
use Rattle.commit_steps.specs.declared.Judging.{Judging}
use Rattle.commit.specs.Passes.{judged_all}
use Rattle.commit.proofs.Chained.{last_tag, last_sum}

-- ---- an entry that fits its fields
pub tag_is : (type id size : ℕ) → Fields type id size → mk_tag type id size ≡ tag_of type id size
unfolding tag_of
tag_is type id size f = mk_tag_sum type id size (omega (arith, f.type')) f.id' f.size'

pub body_is : (dat : List ℕ) (e : Entry) → body_of dat e.off e.len ≡ entry_body dat e
unfolding body_of entry_body
body_is dat e = refl

-- ---- one entry
abbrev pub judging : Judging → ℕ → ℕ → ℕ → ℕ → ℕ → Judging
judging j i c n t s = record { old = j.old; index = i; count = c; size = n; prev = t; sum = s }

-- behind a good entry
abbrev pub behind : List ℕ → Judging → Entry → Judging
behind dat j e =
    judging j (j.index + 1) (count_after (entry_rule e) j.count) (j.size + tag_length (entry_item dat e).tag)
    (entry_item dat e).tag
    (crc j.sum (to_be32 (xor (entry_item dat e).tag j.prev) ++ entry_body dat e))

module _ (dat : List ℕ) (j : Judging) (e : Entry) where
  judged_cases : judged_of j dat e.kind e.id e.off e.len
      ≡ cond (entry_holds dat j.count e)
      (Ok (summed_of j (count_after (entry_rule e) j.count) (mk_tag e.kind e.id e.len)
      (body_of dat e.off e.len)))
      (Err (BadEntry j.index))
  unfolding judged_of counted_by
  judged_cases = go (rule_holds (entry_rule e) j.count e.id e.len) (in_buffer dat e)
    where
      t : ℕ
      t = mk_tag e.kind e.id e.len

      d : List ℕ
      d = body_of dat e.off e.len

      n : ℕ
      n = count_after (entry_rule e) j.count

      go : (h k : Bool) → judged_as (counted_as h n) k j t d ≡ cond (h && k) (Ok (summed_of j n t d))
          (Err (BadEntry j.index))
      go true true = refl
      go true false = refl
      go false k = refl

  pub judged_bad : entry_holds dat j.count e ≡ false
      → judged_of j dat e.kind e.id e.off e.len ≡ Err (BadEntry j.index)
  judged_bad h = judged_cases ∙ rw h

  pub judged_behind : (low : j.count ≤ most_slots) (h : entry_holds dat j.count e ≡ true) → j.index + 1 < 2 ^ 32
      → j.size + 1_026 < 2 ^ 32
      → judged_of j dat e.kind e.id e.off e.len ≡ Ok (behind dat j e)
  unfolding summed_of
  judged_behind low h hi hs =
      let g = good_entry dat j.count e low h in
      let et : mk_tag e.kind e.id e.len ≡ tag_of e.kind e.id e.len =
      tag_is e.kind e.id e.len g.fields in
      let ei : plus32 j.index 1 ≡ j.index + 1 = omega arith in
      let en : plus32 j.size (tag_length (tag_of e.kind e.id e.len))
      ≡ j.size + tag_length (tag_of e.kind e.id e.len) =
      omega (arith, length_most (tag_of e.kind e.id e.len)) in
      judged_cases ∙ rw (h, et, body_is dat e, ei, en)

-- ---- the pass
abbrev pub after : Judging → List Item → ℕ → ℕ → Judging
after j is n c = judging j (j.index + n) c (j.size + entries_length is) (last_tag j.prev is)
    (last_sum j.sum j.prev is)

abbrev pub judged_to : Judged → Judging → List Item → ℕ → Result Judging Refusal
judged_to (bad k) j is n = Err (BadEntry k)
judged_to (good c) j is n = Ok (after j is n c)

same : (j : Judging) {i i' n n' : ℕ} (c t s : ℕ) → i ≡ i' → n ≡ n'
    → ◌≡◌ {A = Result Judging Refusal} (Ok (judging j i c n t s)) (Ok (judging j i' c n' t s))
same j c t s ei en = λ k. Ok (judging j (ei k) c (en k) t s)

judged_behind_to : (dat : List ℕ) (j : Judging) (e : Entry) (es : List Entry) (r : Judged)
    → judged_to r (behind dat j e) (items_of dat es) (length es)
    ≡ judged_to r j (items_of dat (e ∷ es)) (length (e ∷ es))
unfolding entries_length last_tag last_sum
judged_behind_to dat j e es (bad k) = refl
judged_behind_to dat j e es (good c) =
    same j c (last_tag (entry_item dat e).tag (items_of dat es))
    (last_sum (crc j.sum (to_be32 (xor (entry_item dat e).tag j.prev) ++ entry_body dat e))
    (entry_item dat e).tag (items_of dat es)) (omega arith) (omega arith)

module _ (dat : List ℕ) where
  abbrev step : Result Judging Refusal → Entry → Result Judging Refusal
  step u e = and_then u (λ k. judged_of k dat e.kind e.id e.off e.len)

  pub judge_pass : (es : List Entry) (j : Judging) → j.count ≤ most_slots → j.index + length es < 2 ^ 32
      → j.size + 1_026 * length es < 2 ^ 32
      → judged_all es dat j ≡ judged_to (judge dat j.index j.count es) j (items_of dat es) (length es)
  unfolding judge entries_length last_tag last_sum
  judge_pass [] j low hi hs = same j j.count j.prev j.sum (sym (add-zero j.index)) (sym (add-zero j.size))
  judge_pass (e ∷ es) j low hi hs = go (entry_holds dat j.count e) refl
      (λ k l. judge_pass es (behind dat j e) k (omega arith) l)
    where
      go : (b : Bool) → entry_holds dat j.count e ≡ b
          → (count_after (entry_rule e) j.count ≤ most_slots
          → j.size + tag_length (entry_item dat e).tag + 1_026 * length es < 2 ^ 32
          → fold step (Ok (behind dat j e)) es
          ≡ judged_to (judge dat (j.index + 1) (count_after (entry_rule e) j.count) es)
          (behind dat j e) (items_of dat es) (length es))
          → fold step (judged_of j dat e.kind e.id e.off e.len) es
          ≡ judged_to (cond b (judge dat (suc j.index) (count_after (entry_rule e) j.count) es)
          (bad j.index)) j (items_of dat (e ∷ es)) (length (e ∷ es))
      go false h ih = rw (judged_bad dat j e h) (fold_stays step (Err (BadEntry j.index)) (λ x. refl) es)
      go true h ih =
          let g = good_entry dat j.count e low h in
          rw (judged_behind dat j e low h (omega arith) (omega arith))
          (ih g.few (omega (arith, length_most (entry_item dat e).tag))
          ∙ ap (λ (i : ℕ). judged_to (judge dat i (count_after (entry_rule e) j.count) es)
          (behind dat j e) (items_of dat es) (length es)) (add-one j.index)
          ∙ judged_behind_to dat j e es (judge dat (suc j.index) (count_after (entry_rule e) j.count) es))

-- ---- the bytes of so many entries
pub items_long : (dat : List ℕ) (es : List Entry) → entries_length (items_of dat es) ≤ 1_026 * length es
unfolding entries_length
items_long dat [] = omega arith
items_long dat (e ∷ es) = omega (arith, items_long dat es, length_most (entry_item dat e).tag)
