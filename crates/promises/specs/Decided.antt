-- Demand 2: "the contracts decide": of any two results that a contract allows, equality is proved. Every clause of a
-- public contract is an equation: the answer, or what stands in a buffer, a state or an image when the call returns, is
-- a definition of `format` applied to what the call was given. So one law decides each, applied here to the definitions
-- that the contracts of the calls cite. What the four writing calls leave in both images is one definition of `format`,
-- which their contracts cite whole (`CommitLeaves` and its like), and of which the same is shown. Assumes nothing.
use Rattle.std.specs.Prelude.{◌≡◌, Bool, List, ℕ, length}
use Rattle.std.proofs.Common.{sym, ◌∙◌}
use Rattle.format.specs.Fetch.{fetch_of}
use Rattle.format.specs.Lookup.{getslice_of, getslice_buffer, get_of, get_buffer, getinfo_of, getgstate_of, getgstate_state}
use Rattle.format.specs.Writer.{Images, unlimited, commit_images, commit_of, commit_stores_of}
use Rattle.format.specs.Compaction.{compact_images, compact_of, compact_stores_of}
use Rattle.format.specs.Stopped.{CommitLeaves, CommitStoresLeaves, CompactLeaves, CompactStoresLeaves}
use Rattle.format.specs.Listing.{listing_as, listing_of, written_to}
use Rattle.format.specs.Audit.{audit_as, audit_of}
use Rattle.format.specs.RawLog.{raw_log_of}
use Rattle.format.specs.Bytes.{le32_at, be32_at, put_answer, put_le32, put_be32}
use Rattle.format.specs.Arith.{align_down, align_up}
use Rattle.format.specs.Gstate.{gstate_xor}
use Rattle.format.specs.declared.Geometry.{Geometry}
use Rattle.format.specs.declared.LfsPair.{LfsPair}
use Rattle.format.specs.declared.LfsMdir.{LfsMdir}
use Rattle.format.specs.declared.LfsGstate.{LfsGstate}
use Rattle.format.specs.declared.Entry.{Entry}

-- what an equation with d says of two results
abbrev pub Decides : {A : Type 0} → A → Type 0
Decides {A} d = (x y : A) → x ≡ d → y ≡ d → x ≡ y

-- THE LAW: what is equal to one definition is equal.
pub decided : {A : Type 0} (d : A) → Decides d
decided d x y a b = a ∙ sym b

-- both images of a call that writes
abbrev pub BothDecided : (List ℕ → List ℕ → Type 0) → Type 0
BothDecided Leaves = (x0 x1 y0 y1 : List ℕ) → Leaves x0 x1 → Leaves y0 y1 → (x0 ≡ y0) × (x1 ≡ y1)

-- ---- fetch, and the calls that write: the answer, and both images afterwards
module _ (g : Geometry) (b0 b1 : List ℕ) (n0 n1 count seed : ℕ) where
  pub fetch_decided : Decides (fetch_of g b0 b1 n0 n1 count seed)
  fetch_decided = decided (fetch_of g b0 b1 n0 n1 count seed)

-- whatever number the rule has, and whatever the erased byte e
module _ (g : Geometry) (b0 b1 : List ℕ) (n0 n1 count seed rules e : ℕ) where
  module _ (entries : List Entry) (dat : List ℕ) where
    abbrev left : ℕ → Images
    left n = commit_images g b0 b1 n0 n1 count seed rules e entries dat n

    pub commit_decided : Decides (commit_of g b0 b1 n0 n1 count seed rules e entries dat)
        × BothDecided (CommitLeaves g b0 b1 n0 n1 count seed rules e entries dat)
    commit_decided = (
      decided (commit_of g b0 b1 n0 n1 count seed rules e entries dat),
      λ x0 x1 y0 y1 a b. (
        decided (left unlimited).b0 x0 y0 a.0 b.0,
        decided (left unlimited).b1 x1 y1 a.1 b.1,
      ),
    )

    pub commit_stores_decided : (n : ℕ) → Decides (commit_stores_of g b0 b1 n0 n1 count seed rules e entries dat n)
        × BothDecided (CommitStoresLeaves g b0 b1 n0 n1 count seed rules e entries dat n)
    commit_stores_decided n = (
      decided (commit_stores_of g b0 b1 n0 n1 count seed rules e entries dat n),
      λ x0 x1 y0 y1 a b. (decided (left n).b0 x0 y0 a.0 b.0, decided (left n).b1 x1 y1 a.1 b.1),
    )

  abbrev compacted : ℕ → Images
  compacted n = compact_images g b0 b1 n0 n1 count seed rules e n

  pub compact_decided : Decides (compact_of g b0 b1 n0 n1 count seed rules e)
      × BothDecided (CompactLeaves g b0 b1 n0 n1 count seed rules e)
  compact_decided = (
    decided (compact_of g b0 b1 n0 n1 count seed rules e),
    λ x0 x1 y0 y1 a b. (
      decided (compacted unlimited).b0 x0 y0 a.0 b.0,
      decided (compacted unlimited).b1 x1 y1 a.1 b.1,
    ),
  )

  pub compact_stores_decided : (n : ℕ) → Decides (compact_stores_of g b0 b1 n0 n1 count seed rules e n)
      × BothDecided (CompactStoresLeaves g b0 b1 n0 n1 count seed rules e n)
  compact_stores_decided n = (
    decided (compact_stores_of g b0 b1 n0 n1 count seed rules e n),
    λ x0 x1 y0 y1 a b. (decided (compacted n).b0 x0 y0 a.0 b.0, decided (compacted n).b1 x1 y1 a.1 b.1),
  )

-- ---- the lookups: the answer, and the buffer or the state afterwards
module _ (g : Geometry) (b0 b1 : List ℕ) (n0 n1 : ℕ) (dir : LfsMdir) (gdisk : LfsGstate) where
  pub getslice_decided : (mask key offset : ℕ) (buffer : List ℕ)
      → Decides (getslice_of g b0 b1 n0 n1 dir gdisk mask key offset buffer)
      × Decides (getslice_buffer g b0 b1 n0 n1 dir gdisk mask key offset buffer)
  getslice_decided mask key offset buffer = (
    decided (getslice_of g b0 b1 n0 n1 dir gdisk mask key offset buffer),
    decided (getslice_buffer g b0 b1 n0 n1 dir gdisk mask key offset buffer),
  )

  pub get_decided : (mask key : ℕ) (buffer : List ℕ) → Decides (get_of g b0 b1 n0 n1 dir gdisk mask key buffer)
      × Decides (get_buffer g b0 b1 n0 n1 dir gdisk mask key buffer)
  get_decided mask key buffer = (
    decided (get_of g b0 b1 n0 n1 dir gdisk mask key buffer),
    decided (get_buffer g b0 b1 n0 n1 dir gdisk mask key buffer),
  )

  pub getinfo_decided : (nameMax id : ℕ) → Decides (getinfo_of g b0 b1 n0 n1 dir gdisk nameMax id)
  getinfo_decided nameMax id = decided (getinfo_of g b0 b1 n0 n1 dir gdisk nameMax id)

  pub getgstate_decided : (gstate : LfsGstate) → Decides (getgstate_of g b0 b1 n0 n1 dir gdisk)
      × Decides (getgstate_state g b0 b1 n0 n1 dir gdisk gstate)
  getgstate_decided gstate = (
    decided (getgstate_of g b0 b1 n0 n1 dir gdisk),
    decided (getgstate_state g b0 b1 n0 n1 dir gdisk gstate),
  )

-- ---- the texts: the length, and the buffer afterwards
abbrev pub TextDecided : List ℕ → List ℕ → Type 0
TextDecided out text = Decides (length text) × Decides (written_to out text)

pub text_decided : (out text : List ℕ) → TextDecided out text
text_decided out text = (decided (length text), decided (written_to out text))

pub list_as_decided : (prog : ℕ) (p : LfsPair) (rules : ℕ) (input out : List ℕ)
    → TextDecided out (listing_as prog p rules input)
list_as_decided prog p rules input out = text_decided out (listing_as prog p rules input)

pub list_decided : (input out : List ℕ) → TextDecided out (listing_of input)
list_decided input out = text_decided out (listing_of input)

pub audit_as_decided : (prog : ℕ) (p : LfsPair) (rules : ℕ) (input out : List ℕ)
    → TextDecided out (audit_as prog p rules input)
audit_as_decided prog p rules input out = text_decided out (audit_as prog p rules input)

pub audit_decided : (input out : List ℕ) → TextDecided out (audit_of input)
audit_decided input out = text_decided out (audit_of input)

pub log_decided : (full : Bool) (prog : ℕ) (p : LfsPair) (input out : List ℕ)
    → TextDecided out (raw_log_of full prog p input)
log_decided full prog p input out = text_decided out (raw_log_of full prog p input)

-- ---- words at an offset, alignment, the state's XOR
pub words_decided : (s : List ℕ) (off : ℕ) → Decides (le32_at s off) × Decides (be32_at s off)
words_decided s off = (decided (le32_at s off), decided (be32_at s off))

pub puts_decided : (s : List ℕ) (off v : ℕ) → Decides (put_answer s off) × Decides (put_le32 s off v)
    × Decides (put_be32 s off v)
puts_decided s off v = (decided (put_answer s off), decided (put_le32 s off v), decided (put_be32 s off v))

pub aligned_decided : (a alignment : ℕ) → Decides (align_down a alignment) × Decides (align_up a alignment)
aligned_decided a alignment = (decided (align_down a alignment), decided (align_up a alignment))

pub xor_decided : (a b : LfsGstate) → Decides (gstate_xor a b)
xor_decided a b = decided (gstate_xor a b)
