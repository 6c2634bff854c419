-- Document 02, L1: where an append that was cut short shows. After one or more stores of an accepted commit the room
-- behind the old end is refused with -213 at the old end itself, so that an offset further behind it is of bytes that
-- no commit here left. Assumes nothing.
use Rattle.std.specs.Prelude.{◌≡◌, ◌≢◌, Bool, true, ℕ, ◌+◌, ◌/◌, ◌^◌, ◌≤◌, ◌<◌, min, Err}
use Rattle.std.proofs.Math.Path.{sym, ap}
use Rattle.std.proofs.Common.{◌∙◌, inl, inr, le_refl, arith}
use mathlib.Core.List.{List, [], ◌∷◌, ◌++◌}
use Rattle.std.proofs.lemmas.Nat.{xor_lt}
use Rattle.std.proofs.Math.ListN.{length, get_or, take}
use Rattle.std.proofs.Math.Seq.{paste, get_or-take, get_or-append-add, length-take-le}
use Rattle.std.proofs.lemmas.List.Edits.{take-paste}
use Rattle.format.specs.Word.{to_be32, xor, all_ones}
use Rattle.format.specs.Log.{log, log_end, log_end_tag}
use Rattle.format.specs.Erased.{erased_fits, BitFits}
use Rattle.format.specs.Commit.{Item, check_tag, commit_bytes}
use Rattle.format.specs.Stores.{appending}
use Rattle.format.specs.Room.{room_of}
use Rattle.format.specs.Writer.{all_stores, block_at, accepted, verdict_of, stored_to, Images, commit_images}
use Rattle.format.specs.declared.Geometry.{Geometry}
use Rattle.format.specs.declared.Entry.{Entry}
use Rattle.format.specs.declared.Refusal.TheVariants.{NotErased}
use Rattle.format.proofs.Tags.{apart_invalid}
use Rattle.theory.specs.Rules.MadeItem.{AllMade}
use Rattle.theory.specs.Commit.AcceptedVerdict.{fits_byte}
use Rattle.theory.proofs.Stopped.Commit as stopped
use Rattle.promises.specs.Accepted.{CommitConditions, commit_accepted_exactly}
use Rattle.promises.specs.Room.{NoReason, clean_exactly, not_erased_exactly}

-- ---- a commit's first byte: its top bit is the other one than the erased byte's, since its first tag is valid and the
-- tag before it has the validity bit that fits
first_byte : (e t prev : ℕ) → BitFits e prev → t < 2 ^ 31 → xor t prev / 2 ^ 24 ≢ e
unfolding xor
first_byte e t prev (inl h) k = λ q. omega (arith, xor_lt 31 t prev k h.1, h.0)
first_byte e t prev (inr h) k = λ q. omega (arith, apart_invalid t prev k h.1, h.0)

begins : (e sum prev : ℕ) (is : List Item) (ct : ℕ) → BitFits e prev → ct < 2 ^ 31 → AllMade is
    → get_or (commit_bytes sum prev is ct) 0 0 ≢ e
unfolding commit_bytes to_be32
begins e sum prev [] ct h k m = first_byte e ct prev h k
begins e sum prev (i ∷ is) ct h k m = first_byte e i.tag prev h m.0.0

-- ---- the call: the images after n stores, by the end and the end tag that were there before
module _ (g : Geometry) (b0 b1 : List ℕ) (n0 n1 count seed rules e : ℕ) (entries : List Entry) (dat : List ℕ)
    (second : Bool)
    (is : List Item) (size : ℕ) (h : verdict_of g b0 b1 n0 n1 count seed rules e entries dat ≡ accepted second is size)
    (n : ℕ) (some : 1 ≤ n) where
  abbrev old : List ℕ
  old = block_at second b0 b1

  abbrev end : ℕ
  end = log_end (log old)

  abbrev etag : ℕ
  etag = log_end_tag (log old)

  abbrev left : Images
  left = commit_images g b0 b1 n0 n1 count seed rules e entries dat n

  abbrev bytes : List ℕ
  bytes = commit_bytes all_ones etag is (check_tag e size)

  abbrev made : ℕ
  made = min n (all_stores is)

  -- what every accepted commit has: its bytes, room for them, and a block that keeps its length
  long : length bytes ≡ all_stores is
  long = stopped.bytes_length g b0 b1 n0 n1 count seed rules e entries dat second is size h

  fits : end + all_stores is ≤ length old
  fits = stopped.room g b0 b1 n0 n1 count seed rules e entries dat second is size h

  same_length : length (stored_to e old is size n) ≡ length old
  same_length = stopped.stored_length g b0 b1 n0 n1 count seed rules e entries dat second is size h made (omega arith)

  conditions : CommitConditions g b0 b1 n0 n1 count seed rules e entries dat second old is size
  conditions = (commit_accepted_exactly g b0 b1 n0 n1 count seed rules e entries dat second is size).0 h

  byte : erased_fits e ≡ true
  byte = fits_byte g (length b0) (length b1) n0 n1 rules e (length entries) (length dat) conditions.fits

  no_reason : NoReason e byte g.prog_size old end etag
  no_reason = (clean_exactly e byte g.prog_size old end etag).0 conditions.clean

  stored_byte : get_or (stored_to e old is size n) end 0 ≡ get_or bytes 0 0
  unfolding appending
  stored_byte =
      let at : length (take end old) + 0 ≡ end = omega (arith, length-take-le end old (omega (arith, fits))) in
      sym (get_or-take (end + made) (paste old end bytes made) end 0 (omega (arith, some)))
      ∙ ap (λ (l : List ℕ). get_or l end 0) (take-paste old end bytes made (omega (arith, fits)) (omega (arith, long)))
      ∙ ap (λ (i : ℕ). get_or (take end old ++ take made bytes) i 0) (sym at)
      ∙ get_or-append-add (take end old) (take made bytes) 0 0
      ∙ get_or-take made bytes 0 0 (omega (arith, some))

  stored : get_or bytes 0 0 ≢ e
  stored =
      begins e all_ones etag is (check_tag e size) no_reason.validity
      (stopped.ok g b0 b1 n0 n1 count seed rules e entries dat second is size h).check.small
      (stopped.takes g b0 b1 n0 n1 count seed rules e entries dat second is size h).made

  pub torn_at_end : room_of e g.prog_size (block_at second left.b0 left.b1) end etag ≡ Err (NotErased end)
  torn_at_end =
      ap (λ (b : List ℕ). room_of e g.prog_size b end etag)
      (stopped.commit_written g b0 b1 n0 n1 count seed rules e entries dat second is size h n).0
      ∙ (not_erased_exactly e byte g.prog_size (stored_to e old is size n) end etag end).1 (
        no_reason.aligned,
        no_reason.validity,
        record {
          from = le_refl end;
          inside = omega (arith, same_length, fits);
          is = λ q. stored (sym stored_byte ∙ q);
          before = λ i from below. absurd (omega arith);
        },
      )
