-- Document 01's acceptance of a commit as one record of Booleans, and what follows of it: what demand 3 asks, the
-- directory, regularity. Assumes nothing.
use Rattle.std.specs.Prelude.{◌≡◌, refl, ◌≢◌, Bool, true, false, ◌||◌, List, [], ◌∷◌, ◌++◌, ℕ, zero, suc, ◌+◌, ◌-◌, ◌≤◌, ◌<◌, length, drop, eqb, leb}
use Rattle.std.proofs.Common.{ap, ap₂, ◌∙◌, arith, length-drop, eqb-true, leb-true}
use Rattle.std.proofs.lemmas.Bool.{eqb-false}
use Rattle.format.specs.Word.{le32, to_be32, xor, all_ones}
use Rattle.format.specs.Tag.{tag_length}
use Rattle.format.specs.Kind.{no_slot}
use Rattle.format.specs.Crc.{crc}
use Rattle.format.specs.Walk.{Event}
use Rattle.format.specs.Log.{log, log_end, log_end_tag}
use Rattle.format.specs.Regular.{between, Regular}
use Rattle.format.specs.declared.Rules.{Rules}
use Rattle.format.specs.declared.Rules.TheVariants.{Littlefs}
use Rattle.format.specs.Commit.{check_tag, Item, items_hold}
use Rattle.format.specs.Erased.{erased_fits, erased, all_erased, validity_fits, check_type}
use Rattle.format.specs.Stores.{fill, meets_erased, tag_coincides, entries_length, coincides}
use Rattle.format.specs.Directory.{acts}
use Rattle.format.proofs.Tags.{of_size}
use Rattle.format.proofs.Erased.{erases, check_fits}
use Rattle.theory.specs.Walk.Step.{both_true}
use Rattle.theory.specs.Walk.Cut.{NoCoincidence}
use Rattle.theory.specs.Log.Stores.{commit_events}
use Rattle.theory.specs.Blocks.Append.{AppendOk}
use Rattle.theory.specs.Blocks.OtherItems.{good_check}
use Rattle.theory.specs.Lookup.SlotCount.{slots_after_all}
use Rattle.theory.specs.Rules.MadeItem.{AllMade}
use Rattle.theory.specs.Commit.Tested.{ItemsOk, items_ok, regular_count, regular_log, regular_again}

-- ---- the Booleans, read
pub erased_is : (e : ℕ) (l : List ℕ) → all_erased e l ≡ true → l ≡ erased e (length l)
unfolding all_erased
erased_is e [] h = refl
erased_is e (b ∷ l) h =
    let r = both_true (eqb b e) (all_erased e l) h in
    ap₂ (λ (x : ℕ) (y : List ℕ). x ∷ y) (eqb-true b e r.0) (erased_is e l r.1)

none_of_three : (a b c : Bool) → a || b || c ≡ false → (a ≡ false) × (b ≡ false) × (c ≡ false)
none_of_three false false false h = (refl, refl, refl)
none_of_three true b c h = (cc, cc, cc)
none_of_three false true c h = (cc, cc, cc)
none_of_three false false true h = (cc, cc, cc)

pub no_coincidence : (e : ℕ) (is : List Item) (sum p ct : ℕ) → coincides e sum p is ct ≡ false
    → NoCoincidence e sum p is ct
unfolding coincides tag_coincides
no_coincidence e (i ∷ is) sum p ct h = no_coincidence e is (crc sum (to_be32 (xor i.tag p) ++ i.body)) i.tag ct h
no_coincidence e [] sum p ct h = go
  where
    meets : ℕ → Bool
    meets k = meets_erased e k sum (xor ct p)

    three : (meets 1 ≡ false) × (meets 2 ≡ false) × (meets 3 ≡ false)
    three = none_of_three (meets 1) (meets 2) (meets 3) h

    no : (k : ℕ) → meets k ≡ false → crc sum (fill e k (to_be32 (xor ct p))) ≢ le32 (erased e 4)
    no k = eqb-false (crc sum (fill e k (to_be32 (xor ct p)))) (le32 (erased e 4))

    go : (j : ℕ) → 0 < j → j < 4 → crc sum (fill e j (to_be32 (xor ct p))) ≢ le32 (erased e 4)
    go zero a b = absurd (omega arith)
    go (suc zero) a b = no 1 three.0
    go (suc (suc zero)) a b = no 2 three.1
    go (suc (suc (suc zero))) a b = no 3 three.2
    go (suc (suc (suc (suc j)))) a b = absurd (omega arith)

-- ---- a commit of `is` with a check of this size is accepted on the block b whose log is es, over the erased byte e
pub record Accepts (e : ℕ) (b : List ℕ) (es : List Event) (is : List Item) (size : ℕ) : Type 0 where
  pub byte : erased_fits e ≡ true
  pub old : log b ≡ es
  pub nonempty : es ≢ []
  -- "-202 | the committed log isn't regular", by littlefs's rule, the wider one
  pub regular : Regular Littlefs es ≡ true
  -- "-201 | an entry is bad"
  pub made : AllMade is
  pub hold : items_hold (slots_after_all 0 (acts es)) is ≡ true
  -- "Its size, 4 or more"
  pub check : between 4 1_022 size ≡ true
  -- "-28 | the rounded end passes the block"
  pub fits : leb (log_end es + entries_length is + tag_length (check_tag e size)) (length b) ≡ true
  -- "-203 | append only: the room behind the end isn't clean"
  pub clean : all_erased e (drop (log_end es) b) ≡ true
  pub validity : validity_fits e (log_end_tag es) ≡ true
  -- "-204 | the checksum coincidence"
  pub lucky : coincides e all_ones (log_end_tag es) is (check_tag e size) ≡ false

module _ (e : ℕ) (b : List ℕ) (es : List Event) (is : List Item) (size : ℕ) (a : Accepts e b es is size) where
  check_size_lem : (4 ≤ size) × (size ≤ 1_022)
  check_size_lem = let r = both_true (leb 4 size) (leb size 1_022) a.check in
      (leb-true 4 size r.0, leb-true size 1_022 r.1)

  pub accepted_items : ItemsOk (slots_after_all 0 (acts es)) is
  accepted_items = items_ok is (slots_after_all 0 (acts es)) a.made (regular_count b es a.old a.regular)
      a.hold

  pub accepted : AppendOk e b es is (check_tag e size)
  accepted =
      let n : length (drop (log_end es) b) ≡ length b - log_end es = length-drop (log_end es) b in
      record {
        byte = erases e a.byte;
        old = a.old;
        nonempty = a.nonempty;
        reg = (regular_log b es a.old a.regular).base.reg;
        items = accepted_items.good;
        check = good_check e size check_size_lem.0 (omega (arith, check_size_lem.1));
        flips = check_fits e size (omega (arith, check_size_lem.1));
        fits = leb-true (log_end es + entries_length is + tag_length (check_tag e size)) (length b) a.fits;
        clean = erased_is e (drop (log_end es) b) a.clean ∙ ap (erased e) n;
        validity = a.validity;
        lucky = no_coincidence e is all_ones (log_end_tag es) (check_tag e size) a.lucky;
      }

  -- the finished log is regular again, by each rule by which it was, so that the next commit is not refused for it
  pub finished_regular : (r : Rules) → Regular r es ≡ true
      → Regular r (es ++ commit_events all_ones (log_end_tag es) is (check_tag e size)) ≡ true
  finished_regular r h =
      regular_again r es all_ones (log_end_tag es) is (check_tag e size) h a.hold
      (rw (of_size (check_type e) no_slot size (omega (arith, check_size_lem.1))) a.check)
