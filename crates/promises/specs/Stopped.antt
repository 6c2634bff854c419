-- Demand 3: "Stop an accepted commit or compaction after any number of its stores: fetch gives the finished directory
-- if the finished bytes are there, else the old one; only the old record's erased mark may differ." What that says is
-- `CommitStopped` and `CompactStopped` (format/specs/Stopped.antt), of a fetch from every seed and with every block
-- count that the two numbers pass; all four calls that write have it in their contracts. Assumes nothing.
use Rattle.std.specs.Prelude.{◌≡◌, Bool, List, ℕ, Err, Ok}
use Rattle.std.proofs.Math.Path.{refl}
use Rattle.format.specs.Commit.{Item}
use Rattle.format.specs.Writer.{Verdict, refused, accepted, verdict_of, images, images_after, unlimited, commit_images}
use Rattle.format.specs.Writer.{commit_of}
use Rattle.format.specs.Compaction.{CompactVerdict, compact_refused, compact_accepted, compact_verdict}
use Rattle.format.specs.Compaction.{compact_images_after, compact_images, compact_of}
use Rattle.format.specs.Stopped.{Bytes, CommitStopped, CompactStopped}
use Rattle.format.specs.declared.Geometry.{Geometry}
use Rattle.format.specs.declared.LfsMdir.{LfsMdir}
use Rattle.format.specs.declared.Entry.{Entry}
use Rattle.format.specs.declared.Refusal.{Refusal}
use Rattle.theory.proofs.Stopped.Commit.{stopped_commit, commit_refetched}
use Rattle.theory.proofs.Stopped.Compaction.{block_bytes, stopped_compaction, compact_refetched}
use Rattle.format.specs.Record.{fetched}

module _ (g : Geometry) (b0 b1 : List ℕ) (n0 n1 count seed rules e : ℕ) where
  -- ---- DEMAND 3
  -- every pair, every accepted commit, every n
  pub commit_stopped : (entries : List Entry) (dat : List ℕ) (n : ℕ)
      → CommitStopped g b0 b1 n0 n1 count seed rules e entries dat
      (commit_images g b0 b1 n0 n1 count seed rules e entries dat n).b0
      (commit_images g b0 b1 n0 n1 count seed rules e entries dat n).b1
  commit_stopped = stopped_commit g b0 b1 n0 n1 count seed rules e

  -- every pair of bytes, every accepted compaction, every n
  pub compact_stopped : (n : ℕ) → Bytes b0 → Bytes b1
      → CompactStopped g b0 b1 n0 n1 count seed rules e
      (compact_images g b0 b1 n0 n1 count seed rules e n).b0 (compact_images g b0 b1 n0 n1 count seed rules e n).b1
  compact_stopped = stopped_compaction g b0 b1 n0 n1 count seed rules e

  -- ---- an accepted call is done
  pub commit_done : (entries : List Entry) (dat : List ℕ) (second : Bool) (is : List Item) (size : ℕ)
      → verdict_of g b0 b1 n0 n1 count seed rules e entries dat ≡ accepted second is size
      → (m : LfsMdir) × (s : ℕ) × (commit_of g b0 b1 n0 n1 count seed rules e entries dat ≡ Ok (fetched m s))
  unfolding commit_of
  commit_done entries dat second is size h =
      let f = commit_refetched g b0 b1 n0 n1 count seed rules e entries dat second is size h in
      (f.0, f.1, rw (h, f.2))

  pub compact_done : Bytes b0 → Bytes b1 → (second : Bool) (rev : ℕ) (is : List Item) (size : ℕ)
      → compact_verdict g b0 b1 n0 n1 count seed rules e ≡ compact_accepted second rev is size
      → (m : LfsMdir) × (s : ℕ) × (compact_of g b0 b1 n0 n1 count seed rules e ≡ Ok (fetched m s))
  unfolding compact_of
  compact_done y0 y1 second rev is size h =
      let f = compact_refetched g b0 b1 n0 n1 count seed rules e second rev is size h
      (block_bytes second b0 b1 y0 y1) in
      (f.0, f.1, rw (h, f.2))

  -- ---- so a refused one has altered nothing (demand 1, of the calls without a limit)
  pub commit_all_refused : (entries : List Entry) (dat : List ℕ) (r : Refusal)
      → commit_of g b0 b1 n0 n1 count seed rules e entries dat ≡ Err r
      → commit_images g b0 b1 n0 n1 count seed rules e entries dat unlimited ≡ images b0 b1
  unfolding commit_images
  commit_all_refused entries dat r h = go (verdict_of g b0 b1 n0 n1 count seed rules e entries dat) refl
    where
      go : (v : Verdict) → verdict_of g b0 b1 n0 n1 count seed rules e entries dat ≡ v
          → images_after e unlimited b0 b1 v ≡ images b0 b1
      go (refused q) a = refl
      go (accepted w is size) a =
          let d = commit_done entries dat w is size a in
          let z : Err r ≡ Ok (fetched d.0 d.1) = cc in
          cc

  pub compact_all_refused : Bytes b0 → Bytes b1 → (r : Refusal)
      → compact_of g b0 b1 n0 n1 count seed rules e ≡ Err r
      → compact_images g b0 b1 n0 n1 count seed rules e unlimited ≡ images b0 b1
  unfolding compact_images
  compact_all_refused y0 y1 r h = go (compact_verdict g b0 b1 n0 n1 count seed rules e) refl
    where
      go : (v : CompactVerdict) → compact_verdict g b0 b1 n0 n1 count seed rules e ≡ v
          → compact_images_after e unlimited b0 b1 v ≡ images b0 b1
      go (compact_refused q) a = refl
      go (compact_accepted w rev is size) a =
          let d = compact_done y0 y1 w rev is size a in
          let z : Err r ≡ Ok (fetched d.0 d.1) = cc in
          cc
