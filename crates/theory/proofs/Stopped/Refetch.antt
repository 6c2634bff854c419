-- Document 02, L6, after a commit: whatever number of its stores is made, and also where it is refused, a refetch from
-- the record before it is a fetch. Assumes nothing.
use Rattle.std.proofs.Math.Path.{◌≡◌, refl}
use Rattle.std.proofs.Common.{sym, ◌∙◌, inl, inr, arith}
use Rattle.std.specs.Prelude.{Bool, true, false, not, cond, List, ℕ, min, take, eqb, Ok}
use Rattle.format.specs.Word.{all_ones}
use Rattle.format.specs.Log.{log, log_end, log_end_tag}
use Rattle.format.specs.Commit.{Item}
use Rattle.format.specs.Fetch.{fetch_of}
use Rattle.format.specs.Lookup.{block_of}
use Rattle.format.specs.Refetch.{refetch_of, known_to, Gave}
use Rattle.format.specs.Writer.{Verdict, refused, accepted, block_at, is_second, verdict_of, Images, images_after}
use Rattle.format.specs.Writer.{all_stores}
use Rattle.format.specs.Writer.{commit_images}
use Rattle.format.specs.declared.Geometry.{Geometry}
use Rattle.format.specs.declared.LfsMdir.{LfsMdir}
use Rattle.format.specs.declared.Entry.{Entry}
use Rattle.theory.specs.Log.Continued.{log_whole, contained_end}
use Rattle.theory.specs.Fetch.FoundRecord.{found_answers}
use Rattle.theory.specs.Fetch.Places.{same_place}
use Rattle.theory.specs.Fetch.Refetched.{refetched}
use Rattle.theory.proofs.Stopped.Commit.{appends, ok, commit_found, commit_written, stored_front}
use Rattle.format.specs.Record.{fetched}

-- the block that a record was read from, by its place
at_place : (b0 b1 : List ℕ) (n0 : ℕ) (m : LfsMdir) (w : Bool) → is_second n0 m ≡ w
    → (block_of b0 b1 n0 m ≡ block_at w b0 b1) × (block_of b1 b0 n0 m ≡ block_at (not w) b0 b1)
at_place b0 b1 n0 m w h = rw (← h) (go (eqb m.pair.n0 n0))
  where
    go : (q : Bool) → (cond q b0 b1 ≡ block_at (not q) b0 b1) × (cond q b1 b0 ≡ block_at (not (not q)) b0 b1)
    go true = (refl, refl)
    go false = (refl, refl)

module _ (g : Geometry) (b0 b1 : List ℕ) (n0 n1 count seed rules e : ℕ) (entries : List Entry) (dat : List ℕ) (n : ℕ)
    (m : LfsMdir) (s : ℕ) where
  abbrev i : Images
  i = commit_images g b0 b1 n0 n1 count seed rules e entries dat n

  module _ (found : fetch_of g b0 b1 n0 n1 count seed ≡ Ok (fetched m s)) (w : Bool) (is : List Item) (size : ℕ)
      (h : verdict_of g b0 b1 n0 n1 count seed rules e entries dat ≡ accepted w is size) where
    x : List ℕ
    x = block_at w b0 b1

    place : is_second n0 m ≡ w
    place =
        let a = found_answers g b0 b1 n0 n1 count seed m s found in
        let t = appends g b0 b1 n0 n1 count seed rules e entries dat w is size h in
        a.place ∙ same_place b0 b1 a.w w a.rev t.rev (log (block_at a.w b0 b1)) (log (block_at w b0 b1))
        a.answers t.answers

    -- a regular log is read to its end, where the first store is
    known : known_to m ≡ log_end (log (block_at w b0 b1))
    known =
        let a = found_answers g b0 b1 n0 n1 count seed m s found in
        let o = ok g b0 b1 n0 n1 count seed rules e entries dat w is size h in
        let p : a.w ≡ w = sym a.place ∙ place in
        let q : m.off ≡ log_end (log (block_at w b0 b1)) = rw p at a.end in
        let t : m.etag ≡ log_end_tag (log (block_at w b0 b1)) = rw p at a.end_tag in
        let long = contained_end (log (block_at w b0 b1)) all_ones (log_whole (block_at w b0 b1)) o.nonempty o.reg in
        rw (q, t) (omega arith)

    -- up to there the block is unchanged
    pub commit_front : take (known_to m) (block_of i.b0 i.b1 n0 m) ≡ take (known_to m) (block_of b0 b1 n0 m)
    commit_front = rw (
      known,
      (at_place i.b0 i.b1 n0 m w place).0,
      (at_place b0 b1 n0 m w place).0,
      (commit_written g b0 b1 n0 n1 count seed rules e entries dat w is size h n).0,
    ) (stored_front g b0 b1 n0 n1 count seed rules e entries dat w is size h (min n (all_stores is)))

    accepted_again : refetch_of g i.b0 i.b1 n0 n1 count s m ≡ fetch_of g i.b0 i.b1 n0 n1 count seed
    accepted_again =
        refetched g g b0 b1 i.b0 i.b1 n0 n1 count count seed m s (inl found) commit_front
        ((at_place i.b0 i.b1 n0 m w place).1
        ∙ (commit_written g b0 b1 n0 n1 count seed rules e entries dat w is size h n).1
        ∙ sym (at_place b0 b1 n0 m w place).1)

  pub refetch_behind : Gave (fetch_of g b0 b1 n0 n1 count seed) m s
      → refetch_of g i.b0 i.b1 n0 n1 count s m ≡ fetch_of g i.b0 i.b1 n0 n1 count seed
  unfolding commit_images
  refetch_behind gave = go (verdict_of g b0 b1 n0 n1 count seed rules e entries dat) refl gave
    where
      go : (v : Verdict) → verdict_of g b0 b1 n0 n1 count seed rules e entries dat ≡ v
          → Gave (fetch_of g b0 b1 n0 n1 count seed) m s
          → refetch_of g (images_after e n b0 b1 v).b0 (images_after e n b0 b1 v).b1 n0 n1 count s m
          ≡ fetch_of g (images_after e n b0 b1 v).b0 (images_after e n b0 b1 v).b1 n0 n1 count seed
      go (refused r) h gave = refetched g g b0 b1 b0 b1 n0 n1 count count seed m s gave refl refl
      go (accepted w is size) h (inl found) = rw h at (accepted_again found w is size h)
      go (accepted w is size) h (inr many) =
          let f = commit_found g b0 b1 n0 n1 count seed rules e entries dat w is size h in
          absurd (let z : ◌≡◌ {A = ℕ} 0 1 = cc in omega arith)
