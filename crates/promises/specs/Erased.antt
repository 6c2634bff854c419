-- Document 02, L7: the erased byte. Any other than the two is refused with -22, whatever the pair; what the byte
-- decides, for each of the two: for 0xff what document 01 has; and that behind an accepted call the end tag's bit fits
-- the byte again. That demands 2 and 3 hold for both is said where they are said, with the byte as a variable:
-- Accepted, Room, Torn, Forward, Stopped. Assumes nothing.
use Rattle.std.specs.Prelude.{◌≡◌, Bool, true, false, not, ◌&&◌, List, ℕ, Err, Ok, Result}
use Rattle.std.proofs.Math.Path.{refl, ap₂}
use Rattle.format.specs.Word.{le32, all_ones}
use Rattle.format.specs.Tag.{tag_valid, tag_of}
use Rattle.format.specs.Kind.{type_check, no_slot}
use Rattle.format.specs.Erased.{erased_fits, erased, validity_fits, BitFits, check_type}
use Rattle.format.specs.Commit.{Item, check_tag}
use Rattle.format.specs.Fetch.{mdir_of}
use Rattle.format.specs.Regular.{rules_fit}
use Rattle.format.specs.Writer.{commit_fits, block_at, refused, accepted, verdict_of, answer_of, commit_of, commit_stores_of}
use Rattle.format.specs.Compaction.{compact_refused, compact_accepted, compact_verdict, compact_answer, compact_of}
use Rattle.format.specs.Compaction.{compact_stores_of}
use Rattle.format.specs.Stopped.{Bytes}
use Rattle.format.specs.declared.Geometry.{Geometry}
use Rattle.format.specs.declared.Entry.{Entry}
use Rattle.format.specs.declared.LfsMdir.{LfsMdir}
use Rattle.format.specs.declared.Refusal.TheVariants.{Invalid}
use Rattle.format.proofs.Erased.{erases, bit_fits}
use Rattle.theory.proofs.Stopped.Commit as commit
use Rattle.theory.proofs.Stopped.Compaction as compaction
use Rattle.format.specs.declared.Fetched.{Fetched}
use Rattle.format.specs.declared.Refusal.{Refusal}
use Rattle.format.specs.Record.{fetched}

-- ---- what the byte decides: the check tag, the end tag's bit, and what the coincidence is compared with
pub for_ones : (size etag : ℕ) → (check_tag 0xff size ≡ tag_of type_check no_slot size)
    × (validity_fits 0xff etag ≡ tag_valid etag) × (le32 (erased 0xff 4) ≡ all_ones)
unfolding check_type validity_fits le32
for_ones size etag = (refl, refl, refl)

pub for_zeros : (size etag : ℕ) → (check_tag 0x00 size ≡ tag_of 0x501 no_slot size)
    × (validity_fits 0x00 etag ≡ not (tag_valid etag)) × (le32 (erased 0x00 4) ≡ 0)
unfolding check_type validity_fits le32
for_zeros size etag = (refl, refl, refl)

-- ---- "Any other erased byte is -22": of the four calls, before fetch's refusals
never : (a : Bool) → a && false ≡ false
never true = refl
never false = refl

module _ (g : Geometry) (b0 b1 : List ℕ) (n0 n1 count seed rules e : ℕ) (other : erased_fits e ≡ false) where
  no_commit : (entries : List Entry) (dat : List ℕ)
      → verdict_of g b0 b1 n0 n1 count seed rules e entries dat ≡ refused Invalid
  unfolding verdict_of commit_fits
  no_commit entries dat = rw (other, never (rules_fit rules), never _)

  no_compaction : compact_verdict g b0 b1 n0 n1 count seed rules e ≡ compact_refused Invalid
  unfolding compact_verdict
  no_compaction = rw (other, never (rules_fit rules))

  pub other_byte : (entries : List Entry) (dat : List ℕ) (n : ℕ)
      → (commit_of g b0 b1 n0 n1 count seed rules e entries dat ≡ Err Invalid)
      × (commit_stores_of g b0 b1 n0 n1 count seed rules e entries dat n ≡ Err Invalid)
      × (compact_of g b0 b1 n0 n1 count seed rules e ≡ Err Invalid)
      × (compact_stores_of g b0 b1 n0 n1 count seed rules e n ≡ Err Invalid)
  unfolding commit_of commit_stores_of compact_of compact_stores_of
  other_byte entries dat n = rw (no_commit entries dat, no_compaction) (refl, refl, refl, refl)

-- ---- an accepted call leaves an end tag whose validity bit fits the byte: with the same byte the next commit is not
-- -212. Said of the record that it answers.
pub record EndsFitting (e : ℕ) (answer : Result Fetched Refusal) : Type 0 where
  pub dir : LfsMdir
  pub read : ℕ
  pub done : answer ≡ Ok (fetched dir read)
  pub fits : BitFits e dir.etag

module _ (g : Geometry) (b0 b1 : List ℕ) (n0 n1 count seed rules e : ℕ) where
  pub commit_ends_fitting : (entries : List Entry) (dat : List ℕ) (second : Bool) (is : List Item) (size : ℕ)
      → verdict_of g b0 b1 n0 n1 count seed rules e entries dat ≡ accepted second is size
      → EndsFitting e (commit_of g b0 b1 n0 n1 count seed rules e entries dat)
  unfolding commit_of mdir_of
  commit_ends_fitting entries dat second is size h =
      let ok = commit.ok g b0 b1 n0 n1 count seed rules e entries dat second is size h in
      record {
        dir = _;
        read = _;
        done = ap₂ answer_of (commit.commit_found_again g b0 b1 n0 n1 count seed rules e entries dat second is size h) h;
        fits = bit_fits e _ ok.byte
            (commit.commit_fits_lem g b0 b1 n0 n1 count seed rules e entries dat second is size h);
      }

  -- a compaction, of images that are bytes
  pub compact_ends_fitting : (second : Bool) (rev : ℕ) (is : List Item) (size : ℕ)
      → compact_verdict g b0 b1 n0 n1 count seed rules e ≡ compact_accepted second rev is size
      → Bytes (block_at second b0 b1)
      → EndsFitting e (compact_of g b0 b1 n0 n1 count seed rules e)
  unfolding compact_of mdir_of
  compact_ends_fitting second rev is size h bytes =
      let byte = (compaction.compacts g b0 b1 n0 n1 count seed rules e second rev is size h bytes).compacts.byte in
      record {
        dir = _;
        read = _;
        done = ap₂ compact_answer
            (compaction.compact_found_again g b0 b1 n0 n1 count seed rules e second rev is size h bytes) h;
        fits = bit_fits e _ (erases e byte)
            (compaction.compact_end_fits g b0 b1 n0 n1 count seed rules e second rev is size h bytes);
      }
