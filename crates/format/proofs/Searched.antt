-- An entry that was found: what it holds stands behind its tag, whole where the entry does, and a lookup that finds it
-- answers it as it is, whatever its offset and its buffer. Assumes nothing.
use mathlib.Core.Path.{◌≡◌, sym, ap}
use mathlib.Core.Bool.{Bool, true, false, cond}
use mathlib.Core.List.{List}
use Prim.Native.Nat.{ℕ, ◌+◌, ◌-◌, ◌≤◌}
use native.Mathlib.Omega.{arith}
use lib.ListN.{length, take, drop, length-drop}
use lib.Seq.{drop-drop, length-take-le}
use lib.Dec.{leb}
use borrow.Author.Tests.{eqb-false}
use Rattle.format.specs.Tag.{tag_size, removal_size, tag_delete, tag_length}
use Rattle.format.specs.Look.{found_at, data_size, bytes_of, FoundIn, HitIn}
use Rattle.format.specs.Lookup.{slice_end, slice_answer}
use Rattle.format.specs.declared.Refusal.TheVariants.{Corrupt}
use Rattle.format.specs.declared.Found.{Found}
use Rattle.format.proofs.Tags.{length_size}
use Rattle.std.specs.Prelude.{Err, None, Ok, Option, Some}

module _ (t off diff : ℕ) where
  pub found_bytes : (b : List ℕ) → bytes_of b (found_at t off diff) ≡ take (tag_length t - 4) (drop 4 (drop off b))
  found_bytes b = ap (take (tag_length t - 4)) (sym (drop-drop 4 off b))

  pub found_in : (n : ℕ) → tag_delete t ≡ false → off + tag_length t ≤ n → FoundIn n (found_at t off diff)
  found_in n kept h =
      let some : (tag_size t ≡ removal_size → ⊥) = eqb-false (tag_size t) removal_size kept in
      let size : tag_length t ≡ 4 + tag_size t = length_size t some in
      record { counted = omega arith; kept = omega arith; inside = omega arith }

-- what a search's answer says of the entry in it
pub hit_in : (n : ℕ) (h : Option Found) {e : Found} → HitIn n h → h ≡ Some e → FoundIn n e
hit_in n h i q = rw q at i

-- what stands before an end stands before a later one
pub hit_before : (n m : ℕ) (h : Option Found) → n ≤ m → HitIn n h → HitIn m h
hit_before n m None l i = tt
hit_before n m (Some e) l i = record {
  counted = i.counted;
  kept = i.kept;
  inside = omega (arith, i.inside);
}

-- its bytes are as many as it says, and they are what is read from its place to its end
module _ (b : List ℕ) (e : Found) where
  pub bytes_length : FoundIn (length b) e → length (bytes_of b e) ≡ data_size e
  bytes_length i = length-take-le (data_size e) (drop e.off b) (omega (arith, i.inside, length-drop e.off b))

  abbrev pub part : List ℕ
  part = take (e.off + data_size e - e.off) (drop e.off b)

  pub part_is : part ≡ bytes_of b e
  part_is =
      let n : e.off + data_size e - e.off ≡ data_size e = omega arith in
      ap (λ (k : ℕ). take k (drop e.off b)) n

pub slice_is : (b : List ℕ) (offset size : ℕ) (f : Option Found) (e : Found) → slice_answer b offset size f ≡ Ok e
    → f ≡ Some e
slice_is b offset size None e h = cc
slice_is b offset size (Some u) e h = go (leb (slice_end u offset size) (length b)) h
  where
    go : (c : Bool) → cond c (Ok u) (Err Corrupt) ≡ Ok e → Some u ≡ Some e
    go true h = cc
    go false h = cc
