-- The second pass lays the entries' bytes into the block that answers, and the check behind them makes the commit's
-- bytes of them. Assumes nothing.
use mathlib.Core.Path.{◌≡◌, refl, sym, ap, ◌∙◌}
use mathlib.Core.Bool.{Bool, true, false, cond}
use mathlib.Core.List.{List, [], ◌∷◌, ◌++◌, append-nil}
use Prim.Native.Nat.{ℕ, suc, ◌≤◌}
use Rattle.format.specs.Word.{to_be32, to_le32, xor}
use Rattle.format.specs.Tag.{mk_tag, tag_of}
use Rattle.format.specs.Crc.{crc}
use Rattle.format.specs.Regular.{count_after}
use Rattle.format.specs.Commit.{Item, commit_bytes}
use Rattle.format.specs.Entries.{items_of, entry_item, entry_rule, entry_holds, judge, bad, good}
use Rattle.format.specs.Writer.{forward_item, forward_items}
use Rattle.format.specs.declared.Entry.{Entry}
use Rattle.theory.specs.Directory.Machine.{most_slots}
use Rattle.theory.specs.Rules.JudgedEntries.{good_entry, good_bad}
use Rattle.commit_lay.specs.Laid.{Laid, laid, puts_of}
use Rattle.commit_lay.proofs.Puts.{puts_app}
use Rattle.commit_steps.specs.Steps.{Onto, onto, laid_to, lay_of, laid_of, forward_laid, checked_of, sealed_of}
use Rattle.commit_steps.specs.declared.Laying.{Laying}
use Rattle.commit.specs.Passes.{laid_all, written_of}
use Rattle.commit.proofs.Chained.{last_tag, last_sum, entries_bytes, tag_app, entries_app, check_bytes, bytes_cut}
use Rattle.commit.proofs.Judges.{tag_is, body_is}

-- entries whose tags are made of fields that fit
abbrev pub Tagged : List Entry → Type 0
Tagged [] = Unit {0}
Tagged (e ∷ es) = (mk_tag e.kind e.id e.len ≡ tag_of e.kind e.id e.len) × Tagged es

pub judged_tagged : (dat : List ℕ) (es : List Entry) (i c c' : ℕ) → c ≤ most_slots → judge dat i c es ≡ good c'
    → Tagged es
unfolding judge
judged_tagged dat [] i c c' low h = tt
judged_tagged dat (e ∷ es) i c c' low h = go (entry_holds dat c e) refl h
    (judged_tagged dat es (suc i) (count_after (entry_rule e) c) c')
  where
    go : (b : Bool) → entry_holds dat c e ≡ b → cond b (judge dat (suc i) (count_after (entry_rule e) c) es) (bad i)
        ≡ good c'
        → (count_after (entry_rule e) c ≤ most_slots → judge dat (suc i) (count_after (entry_rule e) c) es ≡ good c'
        → Tagged es) → Tagged (e ∷ es)
    go false k h on = absurd (good_bad i c' h)
    go true k h on = let g = good_entry dat c e low k in (tag_is e.kind e.id e.len g.fields, on g.few h)

-- one entry, laid
laid_item : (dat : List ℕ) (l : Laying) (b : List ℕ) (e : Entry)
    → mk_tag e.kind e.id e.len ≡ tag_of e.kind e.id e.len
    → laid_of l b dat e.kind e.id e.off e.len
    ≡ laid_to l (entry_item dat e).tag
    (puts_of (laid l.run b) (to_be32 (xor (entry_item dat e).tag l.prev) ++ (entry_item dat e).body))
unfolding laid_of lay_of
laid_item dat l b e h = rw (h, body_is dat e)

module _ (dat : List ℕ) where
  -- what the pass leaves of the state and the block
  abbrev pub all_laid : Laying → List ℕ → List Entry → Onto
  all_laid l b es = laid_to l (last_tag l.prev (items_of dat es))
      (puts_of (laid l.run b) (entries_bytes l.prev (items_of dat es)))

  lay_pass : (es : List Entry) (l : Laying) (b : List ℕ) → Tagged es → laid_all es dat (onto l b) ≡ all_laid l b es
  unfolding last_tag entries_bytes puts_of
  lay_pass [] l b h = refl
  lay_pass (e ∷ es) l b h =
      let i : Item = entry_item dat e in
      let s : Laid = puts_of (laid l.run b) (to_be32 (xor (entry_item dat e).tag l.prev)
      ++ (entry_item dat e).body) in
      rw (laid_item dat l b e h.0) (lay_pass es (laid_to l i.tag s).to s.block h.1)
      ∙ ap (λ (u : Laid). laid_to l (last_tag i.tag (items_of dat es)) u)
      (puts_app (to_be32 (xor i.tag l.prev) ++ i.body) (entries_bytes i.tag (items_of dat es))
      (laid l.run b))

  -- ---- the forward check behind them
  -- the state and the block behind the items is
  abbrev laid_up : Laying → List ℕ → List Item → Onto
  laid_up l b is = laid_to l (last_tag l.prev is) (puts_of (laid l.run b) (entries_bytes l.prev is))

  forward_done : (es : List Entry) (l : Laying) (b : List ℕ) → forward_laid (all_laid l b es).to (all_laid l b es).block
      ≡ laid_up l b (items_of dat es ++ forward_items l.fcrc)
  unfolding forward_laid lay_of last_tag entries_bytes
  forward_done es l b = go l.fcrc.seen
    where
      I : List Item
      I = items_of dat es

      i : Item
      i = forward_item l.fcrc

      d : List ℕ
      d = to_be32 (xor i.tag (last_tag l.prev I)) ++ i.body

      go : (q : Bool) → cond q (lay_of (all_laid l b es).to (all_laid l b es).block i.tag i.body)
          (onto (all_laid l b es).to (all_laid l b es).block) ≡ laid_up l b (I ++ cond q (i ∷ []) [])
      go false = ap (laid_up l b) (sym (append-nil I))
      go true =
          ap (laid_to l i.tag) (puts_app (entries_bytes l.prev I) d (laid l.run b)
          ∙ ap (λ (x : List ℕ). puts_of (laid l.run b) (entries_bytes l.prev I ++ x)) (sym (append-nil d)))
          ∙ λ k. laid_to l (sym (tag_app I (i ∷ []) l.prev) k)
          (puts_of (laid l.run b) (sym (entries_app I (i ∷ []) l.prev) k))

  -- ---- and the check: s and p are the checksum and the tag before the commit, ct its check tag
  module _ (es : List Entry) (l : Laying) (s p ct : ℕ) (ep : l.prev ≡ p) where
    -- all that is laid before the check
    abbrev pub all : List Item
    all = items_of dat es ++ forward_items l.fcrc

    module _ (ew : l.word ≡ xor ct (last_tag p all))
        (ec : l.sum ≡ crc (last_sum s p all) (to_be32 (xor ct (last_tag p all)))) where
      -- what all of it leaves
      abbrev pub done : List ℕ → Onto
      done b = laid_to l (last_tag p all) (puts_of (laid l.run b) (commit_bytes s p all ct))

      checked_done : (b : List ℕ) → checked_of (laid_up l b all).to (laid_up l b all).block ≡ done b
      unfolding checked_of
      checked_done b =
          let C : List ℕ = check_bytes (last_sum s p all) (xor ct (last_tag p all)) in
          let ek : to_be32 l.word ++ to_le32 l.sum ≡ C = λ k. to_be32 (ew k) ++ to_le32 (ec k) in
          ap (λ (u : List ℕ). laid_to l (last_tag l.prev all)
          (puts_of (puts_of (laid l.run b) (entries_bytes l.prev all)) u)) ek
          ∙ ap (λ (q : ℕ). laid_to l (last_tag q all) (puts_of (puts_of (laid l.run b) (entries_bytes q all)) C)) ep
          ∙ ap (laid_to l (last_tag p all)) (puts_app (entries_bytes p all) C (laid l.run b)
          ∙ ap (puts_of (laid l.run b)) (bytes_cut all s p ct))

      both_done : (b : List ℕ) → checked_of (forward_laid (all_laid l b es).to (all_laid l b es).block).to
          (forward_laid (all_laid l b es).to (all_laid l b es).block).block ≡ done b
      both_done b = ap (λ (o : Onto). checked_of o.to o.block) (forward_done es l b) ∙ checked_done b

      pub written_done : (b : List ℕ) → Tagged es → written_of es dat l b ≡ done b
      unfolding written_of sealed_of
      written_done b h = ap (λ (o : Onto). sealed_of o.to o.block) (lay_pass es l b h) ∙ both_done b
