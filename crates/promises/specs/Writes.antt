-- Demand 1 for writing: "a refused call alters no byte". Of the calls with a limit of stores, as answered: where the
-- answer is a refusal, both images are as they were, for every limit. Assumes nothing.
use Rattle.std.specs.Prelude.{◌≡◌, refl, List, ℕ, Err}
use Rattle.format.specs.Writer.{Verdict, refused, accepted, verdict_of, images, images_after, stores_made, commit_images}
use Rattle.format.specs.Writer.{commit_stores_of}
use Rattle.format.specs.Compaction.{CompactVerdict, compact_refused, compact_accepted, compact_verdict, compact_images_after}
use Rattle.format.specs.Compaction.{compact_made, compact_images, compact_stores_of}
use Rattle.format.specs.declared.Geometry.{Geometry}
use Rattle.format.specs.declared.Entry.{Entry}
use Rattle.format.specs.declared.Refusal.{Refusal}

commit_kept : (e n : ℕ) (b0 b1 : List ℕ) (v : Verdict) (r : Refusal) → stores_made n v ≡ Err r
    → images_after e n b0 b1 v ≡ images b0 b1
commit_kept e n b0 b1 (refused q) r h = refl
commit_kept e n b0 b1 (accepted second is size) r h = cc

compact_kept : (e n : ℕ) (b0 b1 : List ℕ) (v : CompactVerdict) (r : Refusal) → compact_made n v ≡ Err r
    → compact_images_after e n b0 b1 v ≡ images b0 b1
compact_kept e n b0 b1 (compact_refused q) r h = refl
compact_kept e n b0 b1 (compact_accepted second rev is size) r h = cc

module _ (g : Geometry) (b0 b1 : List ℕ) (n0 n1 count seed rules e : ℕ) where
  pub commit_refused : (entries : List Entry) (dat : List ℕ) (n : ℕ) (r : Refusal)
      → commit_stores_of g b0 b1 n0 n1 count seed rules e entries dat n ≡ Err r
      → commit_images g b0 b1 n0 n1 count seed rules e entries dat n ≡ images b0 b1
  unfolding commit_stores_of commit_images
  commit_refused entries dat n r = commit_kept e n b0 b1 (verdict_of g b0 b1 n0 n1 count seed rules e entries dat) r

  pub compact_refused_lem : (n : ℕ) (r : Refusal)
      → compact_stores_of g b0 b1 n0 n1 count seed rules e n ≡ Err r
      → compact_images g b0 b1 n0 n1 count seed rules e n ≡ images b0 b1
  unfolding compact_stores_of compact_images
  compact_refused_lem n r = compact_kept e n b0 b1 (compact_verdict g b0 b1 n0 n1 count seed rules e) r
