-- The table that is lent: what the build leaves in it, and the verdict of a log that is regular by the rule. Assumes
-- nothing.
use Rattle.std.proofs.Common.{◌≡◌, ℕ, ◌-◌, ◌*◌, ◌≤◌, Bool, true, false, not, List, length, take, sym, refl, ◌∙◌, arith}
use borrow.Author.Tests.{not-true, not-false}
use Rattle.format.specs.Log.{log}
use Rattle.format.specs.Regular.{Regular}
use Rattle.format.specs.declared.Rules.{Rules}
use Rattle.format.specs.declared.Rules.TheVariants.{Littlefs}
use Rattle.format.specs.Compaction.{CompactVerdict, compactable, compact_made}
use Rattle.format.specs.Index.{places_of, indexed_as, table_as, built, table_renewed}
use Rattle.format.specs.declared.LfsMdir.{LfsMdir}
use Rattle.format.specs.declared.Refusal.TheVariants.{Irregular}
use Rattle.format.proofs.Growing.{widest}
use Rattle.index_theory.proofs.Extended.{built_front}
use Rattle.index_pass.specs.Run.{Buildable}
use Rattle.compact_block.specs.Renewed.{Recorded, renewed_to, anew}
use Rattle.std.specs.Prelude.{Err, Ok, Result, Option, Some, None}
use Rattle.compact_entries.specs.Placed.{Indexes}
use Rattle.format.specs.declared.Refusal.{Refusal}

-- r is the rule that was asked for, x whether the log is regular by it
module _ (old : List ℕ) (r : Rules) (x : Bool) (ex : x ≡ Regular r (log old)) where
  ruled : (y : Bool) → x ≡ y → Regular r (log old) ≡ y
  ruled y h = sym ex ∙ h

  -- what is answered and left: of the call, the other block and the table
  module _ (byte prog : ℕ) (new table : List ℕ) (n : ℕ) where
    abbrev v : CompactVerdict
    v = compactable r byte prog false old (log old)

    abbrev pub Renewed : Result ℕ Refusal → List ℕ → List ℕ → Type 0
    Renewed s b t = (s ≡ compact_made n v) × ((b ≡ renewed_to byte n new v)
        × (t ≡ table_renewed r (log old) table))

    pub renew_irregular : not x ≡ true → Renewed (Err Irregular) new table
    unfolding compactable
    renew_irregular h = rw (ruled false (not-true x h)) (refl, (refl, refl))

    -- t is the table behind the build, s and b are what `rewrite` answers and leaves
    pub renew_done : not x ≡ false → (t : List ℕ) → t ≡ table_as (length table) (built (length table) (log old))
        → (s : Result ℕ Refusal) (b : List ℕ) → s ≡ compact_made n (anew byte prog old)
        → b ≡ renewed_to byte n new (anew byte prog old) → Renewed s b t
    unfolding compactable
    renew_done h t et s b es eb = rw (ruled true (not-false x h)) (es, (eb, et))

  module _ (h : not x ≡ false) where
    pub renew_regular : Regular Littlefs (log old) ≡ true
    renew_regular = widest r (log old) (ruled true (not-false x h))

    pub renew_builds : (dir : LfsMdir) → Recorded old dir → Buildable old dir.off
    renew_builds dir w = record {
      word = w.word;
      small = w.most;
      ends = w.ends;
      regular = renew_regular;
    }

    -- the build answered q in n words and left t
    module _ (n : ℕ) (q : Result ℕ Refusal) (eq : q ≡ indexed_as (built n (log old))) (t : List ℕ)
        (et : t ≡ table_as n (built n (log old))) (long : length t ≡ n) where
      front : (k : ℕ) → q ≡ Ok k
          → (2 * k ≤ n) × (take (2 * k) (table_as n (built n (log old))) ≡ places_of (log old))
      front k is = built_front n old renew_regular k (sym is ∙ eq)

      pub places_few : (k : ℕ) → q ≡ Ok k → 2 * k ≤ n
      places_few k is = (front k is).0

      pub lent_places : (k : ℕ) → q ≡ Ok k → (places : List ℕ) → places ≡ take (2 * k - 0) t
          → places ≡ places_of (log old)
      lent_places k is places ep =
          let e : 2 * k - 0 ≡ 2 * k = omega arith in
          ep ∙ rw (e, et) (front k is).1

pub indexes_some : (old : List ℕ) (o : Option (List ℕ)) (places : List ℕ) → o ≡ Some places
    → places ≡ places_of (log old) → Indexes old o
indexes_some old o places e h = rw e h

pub indexes_none : (old : List ℕ) (o : Option (List ℕ)) → o ≡ None → Indexes old o
indexes_none old o e = rw e tt
