-- The first pass, and the verdict that it finds. Assumes nothing.
use Rattle.std.proofs.Common.{◌≡◌, ℕ, ◌+◌, ◌<◌, ◌≤◌, min, Bool, true, false, List, [], ◌∷◌, length, sym, refl, ap, ◌∙◌, arith, le-ltb, lt-ltb}
use lib.Bits.{bit_xor}
use Rattle.format.specs.Word.{le32, to_le32, xor, plus32, all_ones}
use Rattle.format.specs.Crc.{crc}
use Rattle.format.specs.Log.{log}
use Rattle.format.specs.Regular.{Regular}
use Rattle.format.specs.declared.Rules.TheVariants.{Littlefs}
use Rattle.format.specs.Commit.{Item, check_tag}
use Rattle.format.specs.Stores.{tag_coincides, coincides}
use Rattle.format.specs.Writer.{check_length, rounded_end, check_size}
use Rattle.format.specs.Compaction.{compact_check_at, compact_stores, CompactVerdict, compact_refused}
use Rattle.format.specs.Compaction.{compact_accepted, placed_anew, compact_made}
use Rattle.format.specs.declared.LfsMdir.{LfsMdir}
use Rattle.format.specs.declared.Refusal.{Refusal}
use Rattle.format.specs.declared.Refusal.TheVariants.{NoSpace, Coincidence}
use Rattle.theory.specs.Commit.AcceptedVerdict.{rounded}
use Rattle.theory.proofs.Compact.AcceptedVerdict.{slots_few}
use Rattle.commit_lay.specs.Laid.{Laid, puts_of}
use Rattle.commit_lay.proofs.Puts.{put_none}
use Rattle.commit_room.specs.Tests.{Prog}
use Rattle.compact_entries.specs.Emitted.{Standing, standing, item_bytes, emitted, emits}
use Rattle.compact_entries.specs.declared.Emit.{Emit}
use Rattle.compact_entries.proofs.Joined.{emits_end, emits_coincides, laid_most}
use Rattle.compact_block.specs.Renewed.{begins, renewed_items, Renewable, Writable, written_to, renewed_to}
use Rattle.compact_block.specs.Renewed.{anew}
use Rattle.std.specs.Prelude.{Err, Ok, Result}

-- ---- with no store left to make nothing is altered
puts_spent : (bs : List ℕ) (l : Laid) → l.run.left ≡ 0 → puts_of l bs ≡ l
unfolding puts_of
puts_spent [] l h = refl
puts_spent (x ∷ xs) l h = rw (← put_none l.run l.block x h) (puts_spent xs l h)

emits_spent : (is : List Item) (s : Standing) → s.stores.run.left ≡ 0 → (emits s is).stores ≡ s.stores
unfolding emits emitted
emits_spent [] s h = refl
emits_spent (i ∷ is) s h =
    let e : puts_of s.stores (item_bytes s.prev i) ≡ s.stores = puts_spent (item_bytes s.prev i) s.stores h in
    emits_spent is (emitted s i) (ap (λ (l : Laid). l.run.left) e ∙ h) ∙ e

-- ---- what the pass knows: e stands behind the entries, b is the block then
module _ (byte rev : ℕ) (is : List Item) (s e : Emit) (es : s ≡ begins rev (record { at = 0; left = 0 }))
    (b new : List ℕ)
    (ee : standing e b ≡ emits (standing s new) is) where
  begun : standing e b ≡ emits (standing (begins rev (record { at = 0; left = 0 })) new) is
  begun = ee ∙ ap (λ (z : Emit). emits (standing z new) is) es

  pub measured_block : b ≡ new
  unfolding begins
  measured_block = ap (λ (z : Standing). z.stores.block) begun
      ∙ ap (λ (l : Laid). l.block) (emits_spent is (standing (begins rev (record { at = 0; left = 0 })) new) refl)

  pub measured_end : e.end ≡ compact_check_at is
  unfolding begins
  measured_end = ap (λ (z : Standing). z.end) begun
      ∙ emits_end is (standing (begins rev (record { at = 0; left = 0 })) new)

  pub measured_meets : (ct : ℕ) → tag_coincides byte e.sum (bit_xor ct e.prev)
      ≡ coincides byte (crc all_ones (to_le32 rev)) all_ones is
      ct
  unfolding begins xor
  measured_meets ct =
      ap (λ (z : Standing). tag_coincides byte z.sum (xor ct z.prev)) begun
      ∙ emits_coincides byte is (standing (begins rev (record { at = 0; left = 0 })) new) ct

-- ---- the verdict on a log that is regular
module _ (byte prog : ℕ) (x : List ℕ) where
  abbrev I : List Item
  I = renewed_items byte prog x

  abbrev at : ℕ
  at = compact_check_at (renewed_items byte prog x)

  abbrev next : ℕ
  next = plus32 (le32 x) 1

  verdict_full : length x < rounded_end prog at → anew byte prog x ≡ compact_refused NoSpace
  unfolding placed_anew
  verdict_full h = rw (lt-ltb (length x) (rounded_end prog at) h)

  module _ (fits : rounded_end prog at ≤ length x) where
    verdict_coincides : coincides byte (crc all_ones (to_le32 next)) all_ones I (check_tag byte (check_size prog at)) ≡ true
        → anew byte prog x ≡ compact_refused Coincidence
    unfolding placed_anew
    verdict_coincides h = rw (le-ltb (length x) (rounded_end prog at) fits, h)

    verdict_accepted : coincides byte (crc all_ones (to_le32 next)) all_ones I (check_tag byte (check_size prog at)) ≡ false
        → anew byte prog x ≡ compact_accepted false next I (check_size prog at)
    unfolding placed_anew
    verdict_accepted h = rw (le-ltb (length x) (rounded_end prog at) fits, h)

    verdict_room : 4 ≤ prog → at + check_length ≤ length x
    verdict_room h = omega (arith, (rounded prog at h).0, fits)

-- ---- what `rewrite` answers and leaves, by its tests: e stands behind the entries with the block b, z is the rounded
-- end, ct the check tag, y whether it coincides
abbrev pub Answered : ℕ → ℕ → List ℕ → CompactVerdict → Result ℕ Refusal → List ℕ → Type 0
Answered byte n new v r b = (r ≡ compact_made n v) × (b ≡ renewed_to byte n new v)

refuses : (byte n : ℕ) (new b : List ℕ) (v : CompactVerdict) (r : Refusal) → v ≡ compact_refused r → b ≡ new
    → Answered byte n new v (Err r) b
refuses byte n new b v r h e = rw h (refl, e)

module _ (byte prog : ℕ) (old new : List ℕ) (dir : LfsMdir) (n : ℕ) (w : Renewable prog old new dir)
    (regular : Regular Littlefs (log old) ≡ true) (rev : ℕ) (er : rev ≡ plus32 dir.rev 1) (s e : Emit)
    (es : s ≡ begins rev (record { at = 0; left = 0 })) (b : List ℕ)
    (ee : standing e b ≡ emits (standing s new) (renewed_items byte prog old)) where
  abbrev v : CompactVerdict
  v = anew byte prog old

  next_is : rev ≡ next byte prog old
  next_is = er ∙ ap (λ (k : ℕ). plus32 k 1) w.recorded.rev'

  same : b ≡ new
  same = measured_block byte rev (renewed_items byte prog old) s e es b new ee

  end_is : e.end ≡ at byte prog old
  end_is = measured_end byte rev (renewed_items byte prog old) s e es b new ee

  pub rewrite_prog : Prog prog e.end
  rewrite_prog = record {
    low = w.low;
    high = w.high;
    near = omega (arith, end_is, laid_most byte prog (length old) 4 (log old) (slots_few old regular));
  }

  module _ (z : ℕ) (ez : z ≡ rounded_end prog e.end) where
    rounded_is : z ≡ rounded_end prog (at byte prog old)
    rounded_is = ez ∙ ap (rounded_end prog) end_is

    pub rewrite_full : length old < z → Answered byte n new v (Err NoSpace) b
    rewrite_full h = refuses byte n new b v NoSpace (verdict_full byte prog old (rw (← rounded_is) h)) same

    module _ (hz : z ≤ length old) (ct : ℕ) (ect : ct ≡ check_tag byte (check_size prog e.end)) (y : Bool)
        (ey : y ≡ tag_coincides byte e.sum (bit_xor ct e.prev)) where
      fits : rounded_end prog (at byte prog old) ≤ length old
      fits = rw (← rounded_is) hz

      tag_is : ct ≡ check_tag byte (check_size prog (at byte prog old))
      tag_is = ect ∙ ap (λ (k : ℕ). check_tag byte (check_size prog k)) end_is

      coincides_is : coincides byte (crc all_ones (to_le32 (next byte prog old))) all_ones (renewed_items byte prog old)
          (check_tag byte (check_size prog (at byte prog old))) ≡ y
      coincides_is =
          sym (ey ∙ measured_meets byte rev (renewed_items byte prog old) s e es b new ee ct ∙ rw (next_is, tag_is))

      pub rewrite_coincides : y ≡ true → Answered byte n new v (Err Coincidence) b
      rewrite_coincides h = refuses byte n new b v Coincidence
          (verdict_coincides byte prog old fits (coincides_is ∙ h)) same

      pub rewrite_writes : Writable byte prog old b dir
      rewrite_writes =
          record {
            low = w.low;
            high = w.high;
            recorded = w.recorded;
            regular = regular;
            room = rw (same, w.long) (verdict_room byte prog old fits w.low);
          }

      pub rewrite_made : y ≡ false → (k : ℕ) → k ≡ min n (compact_stores (renewed_items byte prog old)) → (c : List ℕ)
          → c ≡ written_to byte prog old b rev ct n → Answered byte n new v (Ok k) c
      rewrite_made h k ek c ec =
          rw (verdict_accepted byte prog old fits (coincides_is ∙ h))
          (ap Ok ek, ec ∙ rw (same, next_is, tag_is))
