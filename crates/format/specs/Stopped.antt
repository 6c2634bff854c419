-- DEMAND 3: "Stop an accepted commit or compaction after any number of its stores: fetch gives the finished directory
-- if the finished bytes are there, else the old one; only the old record's erased mark may differ." What that says of a
-- pair, of its images after a stop, and of both calls. Fetch is any fetch: a restart asks with a seed of its own, and
-- with the block count that it knows. Assumes nothing.
use Rattle.std.specs.Prelude.{◌≡◌, ◌⊎◌, Bool, true, false, ◌||◌, List, [], ℕ, ◌^◌, ◌≤◌, ◌<◌, length, get_or, Ok}
use Rattle.format.specs.Log.{log}
use Rattle.format.specs.Gstate.{gstate_has_move_here}
use Rattle.format.specs.Fetch.{too_high, fetch_of}
use Rattle.format.specs.Answer.{got_word}
use Rattle.format.specs.Lookup.{block_of, longest_buffer, getslice_of, getslice_buffer}
use Rattle.format.specs.Regular.{Regular, rules_of}
use Rattle.format.specs.Commit.{Item, written}
use Rattle.format.specs.Entries.{items_of}
use Rattle.format.specs.Writer.{accepted, block_at, verdict_of, Images, unlimited, commit_images}
use Rattle.format.specs.Compaction.{compact_accepted, compact_verdict, compact_images}
use Rattle.format.specs.declared.Geometry.{Geometry}
use Rattle.format.specs.declared.Rules.{Rules}
use Rattle.format.specs.declared.Rules.TheVariants.{Document}
use Rattle.format.specs.declared.LfsMdir.{LfsMdir}
use Rattle.format.specs.declared.LfsGstate.{LfsGstate}
use Rattle.format.specs.declared.Entry.{Entry}
use Rattle.format.specs.Machine.{Machine, machine_of, ran, Ask, ask_mask, ask_key, ask_fits, ask_id, asked, held_word}
use Rattle.format.specs.Machine.{held_buffer}
use Rattle.format.specs.Record.{fetched}

-- what an image is: a list of bytes
abbrev pub Bytes : List ℕ → Type 0
Bytes b = (i : ℕ) → get_or b i 0 < 2 ^ 8

-- a record with its erased mark put aside
abbrev pub unmarked : LfsMdir → LfsMdir
unmarked m =
    record {
      pair = m.pair;
      rev = m.rev;
      off = m.off;
      etag = m.etag;
      count = m.count;
      erased = false;
      split = m.split;
      tail = m.tail;
      fcrc = m.fcrc;
    }

module _ (g : Geometry) (n0 n1 : ℕ) where
  -- Fetch gives the record m, whoever asks: from every seed, and for every block count that the two numbers pass (0,
  -- which means none, is one). `read` is the seed that comes back, of the one that was given.
  abbrev pub Finds : List ℕ → List ℕ → LfsMdir → (ℕ → ℕ) → Type 0
  Finds b0 b1 m read = (count seed : ℕ) → too_high count n0 || too_high count n1 ≡ false
      → fetch_of g b0 b1 n0 n1 count seed ≡ Ok (fetched m (read seed))

  -- A pair shows a machine: fetch gives a record with its number of slots and its tail, the log is regular by the rule
  -- r, and with that record every directory lookup, "for ids below count and no pending move", answers what the machine
  -- has, word and buffer.
  pub record Shows (r : Rules) (b0 b1 : List ℕ) (M : Machine) : Type 0 where
    pub dir : LfsMdir
    pub read : ℕ → ℕ
    pub fetched : Finds b0 b1 dir read
    pub slots : dir.count ≡ length M.slots
    pub split : dir.split ≡ M.split
    pub tail : dir.tail ≡ M.tail
    pub regular : Regular r (log (block_of b0 b1 n0 dir)) ≡ true
    pub lookups : (a : Ask) (gdisk : LfsGstate) (size : ℕ) (buffer : List ℕ)
        → ask_fits M a ≡ true → gstate_has_move_here gdisk dir.pair ≡ false → size < 2 ^ 10
        → length buffer ≤ longest_buffer
        → (got_word (getslice_of g b0 b1 n0 n1 dir gdisk (ask_mask a) (ask_key a size) 0 buffer)
        ≡ held_word (ask_id a) (asked M a))
        × (getslice_buffer g b0 b1 n0 n1 dir gdisk (ask_mask a) (ask_key a size) 0 buffer ≡ held_buffer buffer (asked M a))

  -- The images i0, i1 read as b0, b1 did: fetch gives the same record but for the erased mark, and from every seed the
  -- same seed; and every lookup at offset 0 with it, whatever mask, key and global state, gives the same answer,
  -- tag, length and place, and the same buffer.
  pub record ReadsAs (b0 b1 i0 i1 : List ℕ) : Type 0 where
    pub before : LfsMdir
    pub after : LfsMdir
    pub read : ℕ → ℕ
    pub fetched : Finds b0 b1 before read
    pub refetched : Finds i0 i1 after read
    pub same : unmarked after ≡ unmarked before
    pub lookups : (gdisk : LfsGstate) (mask key : ℕ) (buffer : List ℕ)
        → (getslice_of g i0 i1 n0 n1 after gdisk mask key 0 buffer ≡ getslice_of g b0 b1 n0 n1 before gdisk mask key 0
        buffer)
        × (getslice_buffer g i0 i1 n0 n1 after gdisk mask key 0 buffer
        ≡ getslice_buffer g b0 b1 n0 n1 before gdisk mask key 0 buffer)

  -- i0, i1 are images of a call on b0, b1 that was stopped, f those of the finished call; M is what the pair held
  -- before it, regular by the rule r, N what the finished one holds, regular by the rule s
  pub record Stopped (r s : Rules) (b0 b1 i0 i1 : List ℕ) (f : Images) (M N : Machine) : Type 0 where
    pub either : ((i0 ≡ f.b0) × (i1 ≡ f.b1)) ⊎ ReadsAs b0 b1 i0 i1
    pub old : Shows r b0 b1 M
    pub finished : Shows s f.b0 f.b1 N

module _ (g : Geometry) (b0 b1 : List ℕ) (n0 n1 count seed rules e : ℕ) where
  -- a commit: what the finished pair holds is the old machine with the entries applied
  abbrev pub CommitStopped : List Entry → List ℕ → List ℕ → List ℕ → Type 0
  CommitStopped entries dat i0 i1 = (second : Bool) (is : List Item) (size : ℕ)
      → verdict_of g b0 b1 n0 n1 count seed rules e entries dat ≡ accepted second is size
      → Stopped g n0 n1 (rules_of rules) (rules_of rules) b0 b1 i0 i1
      (commit_images g b0 b1 n0 n1 count seed rules e entries dat unlimited)
      (machine_of (log (block_at second b0 b1)))
      (ran (machine_of (log (block_at second b0 b1))) (written (items_of dat entries) []))

  -- a compaction: the finished pair holds what the old one did, and is regular by document 01 whatever the old one was:
  -- "for each id create"
  abbrev pub CompactStopped : List ℕ → List ℕ → Type 0
  CompactStopped i0 i1 = (second : Bool) (rev : ℕ) (is : List Item) (size : ℕ)
      → compact_verdict g b0 b1 n0 n1 count seed rules e ≡ compact_accepted second rev is size
      → Stopped g n0 n1 (rules_of rules) Document b0 b1 i0 i1 (compact_images g b0 b1 n0 n1 count seed rules e unlimited)
      (machine_of (log (block_at second b0 b1))) (machine_of (log (block_at second b0 b1)))

-- ---- what the calls that write leave in both images: their contracts cite these beside the answer
module _ (g : Geometry) (b0 b1 : List ℕ) (n0 n1 count seed rules e : ℕ) where
  module _ (entries : List Entry) (dat : List ℕ) where
    -- `lfs_dir_commit_stores` with the limit n: exactly its first n stores, and DEMAND 3 of what is there then
    abbrev pub CommitStoresLeaves : ℕ → List ℕ → List ℕ → Type 0
    CommitStoresLeaves n i0 i1 =
        (i0 ≡ (commit_images g b0 b1 n0 n1 count seed rules e entries dat n).b0)
        × (i1 ≡ (commit_images g b0 b1 n0 n1 count seed rules e entries dat n).b1)
        × CommitStopped g b0 b1 n0 n1 count seed rules e entries dat i0 i1

    -- `lfs_dir_commit`: all of its stores; and DEMAND 3 wherever it is stopped, after each number n of them, of the
    -- images that the call with this limit leaves
    abbrev pub CommitLeaves : List ℕ → List ℕ → Type 0
    CommitLeaves i0 i1 =
        (i0 ≡ (commit_images g b0 b1 n0 n1 count seed rules e entries dat unlimited).b0)
        × (i1 ≡ (commit_images g b0 b1 n0 n1 count seed rules e entries dat unlimited).b1)
        × ((n : ℕ) → CommitStopped g b0 b1 n0 n1 count seed rules e entries dat
        (commit_images g b0 b1 n0 n1 count seed rules e entries dat n).b0
        (commit_images g b0 b1 n0 n1 count seed rules e entries dat n).b1)

  -- `lfs_dir_compact_stores` with the limit n
  abbrev pub CompactStoresLeaves : ℕ → List ℕ → List ℕ → Type 0
  CompactStoresLeaves n i0 i1 =
      (i0 ≡ (compact_images g b0 b1 n0 n1 count seed rules e n).b0)
      × (i1 ≡ (compact_images g b0 b1 n0 n1 count seed rules e n).b1)
      × CompactStopped g b0 b1 n0 n1 count seed rules e i0 i1

  -- `lfs_dir_compact`
  abbrev pub CompactLeaves : List ℕ → List ℕ → Type 0
  CompactLeaves i0 i1 =
      (i0 ≡ (compact_images g b0 b1 n0 n1 count seed rules e unlimited).b0)
      × (i1 ≡ (compact_images g b0 b1 n0 n1 count seed rules e unlimited).b1)
      × ((n : ℕ) → CompactStopped g b0 b1 n0 n1 count seed rules e
      (compact_images g b0 b1 n0 n1 count seed rules e n).b0 (compact_images g b0 b1 n0 n1 count seed rules e n).b1)
