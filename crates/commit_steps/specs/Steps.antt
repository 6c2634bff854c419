-- A commit's steps as the code makes them, each as what it answers: a refusal, or what the next one goes on from.
-- Assumes nothing.
use Rattle.std.specs.Prelude.{◌≡◌, ℕ, ◌+◌, Bool, false, cond, not, List, ◌++◌, length, nat_lt}
use Rattle.std.specs.Prelude.{Err, Ok, Result, None, Option, Some}
use Rattle.format.specs.Word.{to_be32, to_le32, xor, all_ones, plus32}
use Rattle.format.specs.Tag.{tag_length, mk_tag}
use Rattle.format.specs.Crc.{crc}
use Rattle.format.specs.Log.{log}
use Rattle.format.specs.Fetch.{images_fit, fetch_of}
use Rattle.format.specs.Lookup.{block_of}
use Rattle.format.specs.Regular.{Regular, rules_of}
use Rattle.format.specs.Commit.{check_tag}
use Rattle.format.specs.Stores.{tag_coincides}
use Rattle.format.specs.Room.{room_of}
use Rattle.format.specs.Writer.{rounded_end, check_size, forward_tag, forward_item, carried_for, commit_fits}
use Rattle.format.specs.declared.Rules.{Rules}
use Rattle.format.specs.declared.Geometry.{Geometry}
use Rattle.format.specs.declared.Fetched.{Fetched}
use Rattle.format.specs.declared.LfsFcrc.{LfsFcrc}
use Rattle.format.specs.declared.Refusal.{Refusal}
use Rattle.format.specs.declared.Refusal.TheVariants.{Invalid, BadEntry, Irregular, NoSpace, Coincidence}
use Rattle.commit_rules.specs.Rules.{counted_by}
use Rattle.commit_lay.specs.Laid.{Laid, laid, puts_of, body_of, in_buffer_of}
use Rattle.commit_steps.specs.declared.Judging.{Judging}
use Rattle.commit_steps.specs.declared.Laying.{Laying}
use Rattle.commit_steps.specs.declared.LayingOnto.{LayingOnto}

-- what is laid, and the block that it is laid onto
pub record Onto : Type 0 where
  pub to : Laying
  pub block : List ℕ

abbrev pub onto : Laying → List ℕ → Onto
onto l b = record { to = l; block = b }

-- a refusal is handed on; a value goes on
abbrev pub and_then : {A B : Type 0} → Result A Refusal → (A → Result B Refusal) → Result B Refusal
and_then (Err r) on = Err r
and_then (Ok x) on = on x

-- ---- before the entries
-- "Entries run against a count c", the record's; tags are chained from its end tag on.
abbrev pub judging_from : Fetched → Judging
judging_from f = record {
  old = f;
  index = 0;
  count = f.dir.count;
  size = 0;
  prev = f.dir.etag;
  sum = all_ones;
}

-- "-202 | the committed log isn't regular", of the block b that the record was read from
unfoldable pub started_of : Rules → List ℕ → Fetched → Result Judging Refusal
started_of r b f = cond (not (Regular r (log b))) (Err Irregular) (Ok (judging_from f))

-- "Commit: -22, fetch's own refusals, -202"
unfoldable pub begun_of : Geometry → List ℕ → List ℕ → ℕ → ℕ → ℕ → ℕ → ℕ → ℕ → ℕ → List ℕ → Result Judging Refusal
begun_of g b0 b1 n0 n1 count seed rules e entries dat =
    cond (not (commit_fits g (length b0) (length b1) n0 n1 rules e entries (length dat))) (Err Invalid)
    (and_then (fetch_of g b0 b1 n0 n1 count seed) (λ f. started_of (rules_of rules) (block_of b0 b1 n0 f.dir) f))

-- ---- an entry: judged
-- behind an entry with the tag t and these bytes
unfoldable pub summed_of : Judging → ℕ → ℕ → List ℕ → Judging
summed_of j count t body =
    record {
      old = j.old;
      index = plus32 j.index 1;
      count = count;
      size = plus32 j.size (tag_length t);
      prev = t;
      sum = crc j.sum (to_be32 (xor t j.prev) ++ body);
    }

-- "-201 | an entry is bad | index from 0 of the first bad one": by the rule of its type, or as its data pass the buffer
abbrev pub judged_as : Option ℕ → Bool → Judging → ℕ → List ℕ → Result Judging Refusal
judged_as None inside j t body = Err (BadEntry j.index)
judged_as (Some count) inside j t body = cond inside (Ok (summed_of j count t body)) (Err (BadEntry j.index))

unfoldable pub judged_of : Judging → List ℕ → (kind id off len : ℕ) → Result Judging Refusal
judged_of j dat kind id off len =
    judged_as (counted_by false kind j.count id len) (in_buffer_of dat off len) j (mk_tag kind id len)
    (body_of dat off len)

-- behind the forward check
unfoldable pub forward_summed : Judging → LfsFcrc → Judging
forward_summed j f = cond f.seen (summed_of j j.count forward_tag (forward_item f).body) j

-- ---- between the passes
abbrev pub laying_from : Judging → LfsFcrc → ℕ → ℕ → Laying
laying_from j f word stores =
    record {
      old = j.old;
      run = record { at = j.old.dir.off; left = stores };
      prev = j.old.dir.etag;
      fcrc = f;
      word = word;
      sum = crc j.sum (to_be32 word);
    }

-- "-28", the room's reasons, "-204": j is behind all entries, the forward check f included
unfoldable pub tested_of : ℕ → Judging → LfsFcrc → ℕ → List ℕ → ℕ → Result Laying Refusal
tested_of e j f prog b stores =
    let word : ℕ = xor (check_tag e (check_size prog (j.old.dir.off + j.size))) j.prev in
    cond (nat_lt (length b) (rounded_end prog (j.old.dir.off + j.size))) (Err NoSpace)
    (and_then (room_of e prog b j.old.dir.off j.old.dir.etag)
    (λ _. cond (tag_coincides e j.sum word) (Err Coincidence) (Ok (laying_from j f word stores))))

-- what is to be laid: the entries, "before its check tag, a forward check entry", and the check
unfoldable pub placed_of : ℕ → Judging → ℕ → List ℕ → ℕ → Result Laying Refusal
placed_of e j prog b stores =
    let f : LfsFcrc = carried_for e prog (length b) (j.old.dir.off + j.size) in
    tested_of e (forward_summed j f) f prog b stores

-- of any pair: the record's block is judged, if the sizes fit
unfoldable pub decided_of : Geometry → List ℕ → List ℕ → ℕ → ℕ → ℕ → Judging → ℕ → Result Laying Refusal
decided_of g b0 b1 n0 n1 e j stores =
    cond (not (images_fit g (length b0) (length b1))) (Err Invalid)
    (placed_of e j g.prog_size (block_of b0 b1 n0 j.old.dir) stores)

-- ---- an entry: laid
abbrev pub laid_to : Laying → ℕ → Laid → Onto
laid_to l prev s = onto (record {
  old = l.old;
  run = s.run;
  prev = prev;
  fcrc = l.fcrc;
  word = l.word;
  sum = l.sum;
}) s.block

-- "tags chained as above, data"
unfoldable pub lay_of : Laying → List ℕ → ℕ → List ℕ → Onto
lay_of l b t body = laid_to l t (puts_of (laid l.run b) (to_be32 (xor t l.prev) ++ body))

unfoldable pub laid_of : Laying → List ℕ → List ℕ → (kind id off len : ℕ) → Onto
laid_of l b dat kind id off len = lay_of l b (mk_tag kind id len) (body_of dat off len)

-- q is p with an entry laid, in the same block
pub record LaidBehind (p : LayingOnto) (dat : List ℕ) (kind id off len : ℕ) (q : LayingOnto) : Type 0 where
  pub block : q.block.ghost_name ≡ p.block.ghost_name
  pub behind : onto q.laying q.block.now ≡ laid_of p.laying p.block.now dat kind id off len

-- ---- behind the entries
-- the forward check, laid
unfoldable pub forward_laid : Laying → List ℕ → Onto
forward_laid l b = cond l.fcrc.seen (lay_of l b forward_tag (forward_item l.fcrc).body) (onto l b)

-- "then a check tag .. and the checksum little-endian"
unfoldable pub checked_of : Laying → List ℕ → Onto
checked_of l b = laid_to l l.prev (puts_of (laid l.run b) (to_be32 l.word ++ to_le32 l.sum))

unfoldable pub sealed_of : Laying → List ℕ → Onto
sealed_of l b =
    let o : Onto = forward_laid l b in
    checked_of o.to o.block
