-- The record that fetch answers of an input is one of the block that answers. Assumes nothing.
use Rattle.std.proofs.Common.{◌≡◌, ℕ, ◌/◌, ◌%◌, Bool, true, false, cond, ◌||◌, List, length, take, drop, arith, sym, ◌∙◌, eqb, ltb, Err, Ok, Result}
use Rattle.format.specs.Fetch.{fetch_of}
use Rattle.format.specs.Regular.{Regular}
use Rattle.format.specs.Log.{log}
use Rattle.format.specs.declared.Rules.{Rules}
use Rattle.format.specs.declared.Rules.TheVariants.{Littlefs}
use Rattle.format.proofs.Growing.{widest}
use Rattle.format.specs.Writer.{block_at, is_second}
use Rattle.format.specs.Listing.{input_geometry, fetch_input}
use Rattle.format.specs.declared.LfsPair.{LfsPair}
use Rattle.format.specs.declared.LfsMdir.{LfsMdir}
use Rattle.format.specs.declared.Refusal.{Refusal}
use Rattle.format.specs.declared.Refusal.TheVariants.{Invalid}
use Rattle.format.specs.declared.Fetched.{Fetched}
use Rattle.theory.specs.Fetch.FoundBlock.{Sized, found_sized, found_reads}
use Rattle.theory.proofs.Compact.AcceptedVerdict.{slots_counted}
use Rattle.compact_slot.specs.Slots.{Slots}
use Rattle.text_input.specs.Input.{Listable}

-- ---- a block and its record
-- x is what the test of regularity answers, by the rule q
pub block_slots : (b : List ℕ) (m : LfsMdir) (q : Rules) (x : Bool) → Listable b m → x ≡ Regular q (log b)
    → x ≡ true → Slots b m.off m.etag m.count
block_slots b m q x w ex h =
    let regular : Regular Littlefs (log b) ≡ true = widest q (log b) (sym ex ∙ h) in
    record {
      word = w.word;
      most = w.most;
      regular = regular;
      ends = w.ends;
      end_tag = w.end_tag;
      count' = w.count' ∙ slots_counted b regular;
    }

-- ---- an input, with its program size and its block numbers
module _ (prog : ℕ) (p : LfsPair) (input : List ℕ) where
  abbrev half : ℕ
  half = length input / 2

  abbrev b0 : List ℕ
  b0 = take half input

  abbrev b1 : List ℕ
  b1 = drop half input

  abbrev fetches : Result Fetched Refusal
  fetches = fetch_of (input_geometry prog half) b0 b1 p.n0 p.n1 0 0

  -- what is found is found by fetch
  by_fetch : (f : Fetched) → Ok f ≡ fetch_input prog p input → Ok f ≡ fetches
  unfolding fetch_input
  by_fetch f e = go (eqb (length input % 2) 1 || ltb 65_536 (length input)) e
    where
      go : (x : Bool) → Ok f ≡ cond x (Err Invalid) fetches → Ok f ≡ fetches
      go true e = cc e
      go false e = e

  pub listable : (f : Fetched) → Ok f ≡ fetch_input prog p input
      → (b : List ℕ) → b ≡ block_at (is_second p.n0 f.dir) b0 b1 → Listable b f.dir
  listable f e b at =
      let found : Ok f ≡ fetches = by_fetch f e in
      let z = found_sized (input_geometry prog half) b0 b1 p.n0 p.n1 0 0 f.dir f.seed (sym found) in
      let a = found_reads (input_geometry prog half) b0 b1 p.n0 p.n1 0 0 f.dir f.seed (sym found) in
      let same : block_at a.w b0 b1 ≡ b = rw (← a.place) (sym at) in
      rw (← same)
      (record {
        word = omega (arith, long a.w z, z.block.0);
        most = omega (arith, long a.w z, z.block.1);
        ends = a.ends;
        end_tag = a.end_tag;
        count' = a.count';
      })
    where
      long : (v : Bool) → Sized (input_geometry prog half) b0 b1 → length (block_at v b0 b1) ≡ half
      long false z = z.first
      long true z = z.second
