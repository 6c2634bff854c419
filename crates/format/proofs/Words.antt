-- Laws of words in bytes and of tag fields. Assumes nothing.
use mathlib.Core.Path.{◌≡◌, refl}
use mathlib.Core.Bool.{Bool, true, false, cond}
use mathlib.Core.List.{List, ◌++◌}
use Prim.Native.Nat.{ℕ, ◌+◌, ◌*◌, ◌%◌, ◌^◌, ◌≤◌, ◌<◌}
use native.Mathlib.Omega.{arith}
use native.Mathlib.Nat.{add-zero}
use lib.Bits.{bit_or, or_shifted}
use lib.ListN.{length, get_or, drop}
use lib.Pow.{shl_exact}
use lib.Seq.{get_or-drop}
use Rattle.format.specs.Word.{be32, le32, to_be32, to_le32, xor}
use Rattle.format.specs.Tag.{tag_size, tag_delete, tag_length, mk_tag}
use Rattle.format.proofs.Xor.{xor_cancel}

-- ---- a word that was stored is read back, whatever follows it
pub be32_to_be32 : (w : ℕ) (r : List ℕ) → be32 (to_be32 w ++ r) ≡ w
unfolding be32 to_be32
be32_to_be32 w r = omega arith

pub le32_to_le32 : (w : ℕ) (r : List ℕ) → le32 (to_le32 w ++ r) ≡ w
unfolding le32 to_le32
le32_to_le32 w r = omega arith

pub length_to_be32 : (w : ℕ) → length (to_be32 w) ≡ 4
unfolding to_be32
length_to_be32 w = refl

pub length_to_le32 : (w : ℕ) → length (to_le32 w) ≡ 4
unfolding to_le32
length_to_le32 w = refl

-- ---- a word at an offset, byte by byte
pub be32_at_lem : (b : List ℕ) (a : ℕ) → be32 (drop a b) ≡ get_or b a 0 * 2 ^ 24 + get_or b (a + 1) 0 * 2 ^ 16 + get_or b (a + 2)
    0 * 2 ^ 8 + get_or b (a + 3) 0
unfolding be32
be32_at_lem b a = rw (get_or-drop a b 0 0, get_or-drop a b 1 0, get_or-drop a b 2 0, get_or-drop a b 3 0, add-zero a)

pub le32_at_lem : (b : List ℕ) (a : ℕ) → le32 (drop a b) ≡ get_or b a 0 + get_or b (a + 1) 0 * 2 ^ 8 + get_or b (a + 2) 0 * 2 ^ 16
    + get_or b (a + 3) 0 * 2 ^ 24
unfolding le32
le32_at_lem b a = rw (get_or-drop a b 0 0, get_or-drop a b 1 0, get_or-drop a b 2 0, get_or-drop a b 3 0, add-zero a)

-- ---- the XOR chain: a tag that was stored is had back
pub xor_undo : (tag prev : ℕ) → xor (xor tag prev) prev ≡ tag
unfolding xor
xor_undo tag prev = xor_cancel tag prev

-- ---- tags
-- a step takes four bytes or more
pub tag_length_ge : (t : ℕ) → 4 ≤ tag_length t
unfolding tag_length
tag_length_ge t = either (tag_delete t)
  where
    either : (d : Bool) → 4 ≤ cond d 4 (4 + tag_size t)
    either true = omega arith
    either false = omega arith

-- of a type of 12 bits (the validity with it), an id and a size of 10 bits each, LFS_MKTAG is their sum
pub mk_tag_sum : (type id size : ℕ) → type < 2 ^ 12 → id < 2 ^ 10 → size < 2 ^ 10
    → mk_tag type id size ≡ type * 2 ^ 20 + id * 2 ^ 10 + size
mk_tag_sum type id size ht hi hs =
    let e : bit_or (type * 2 ^ 20 % 2 ^ 32) (id * 2 ^ 10 % 2 ^ 32) ≡ (type * 2 ^ 10 + id) * 2 ^ 10 =
    rw (shl_exact {a = type} 12 20 32 ht (omega arith), shl_exact {a = id} 10 10 32 hi (omega arith))
    (rw (or_shifted type 20 (id * 2 ^ 10) (omega arith)) (omega arith)) in
    rw e (rw (or_shifted (type * 2 ^ 10 + id) 10 size hs) (omega arith))
