-- A splice as ids, from how far it lies above the lowest. Assumes nothing.
use Rattle.std.proofs.Common.{◌≡◌, ℕ, ◌*◌, ◌^◌, ◌<◌, ℤ, pos, negsuc, ap, ◌∙◌, arith, w8, SFits}
use Rattle.format.specs.Word.{minus32}
use Rattle.format.specs.Tag.{tag_splice}
use Rattle.format.specs.Look.{as_ids}
use Rattle.tag.specs.Splice.{from_lowest}
use Rattle.tag.proofs.Splice.{splice_fits}

as_ids_lem : (z : ℤ) → SFits w8 z → minus32 (from_lowest z * 0x400) 0x2_0000 ≡ as_ids z
unfolding as_ids
as_ids_lem (pos n) h = let l : n < 2 ^ 7 = h.sfits in omega arith
as_ids_lem (negsuc n) h = let l : n < 2 ^ 7 = h.sfits in omega arith

-- r is that of the tag t
pub ids_of : (t r : ℕ) → r ≡ from_lowest (tag_splice t) → minus32 (r * 0x400) 0x2_0000 ≡ as_ids (tag_splice t)
ids_of t r e = ap (λ (x : ℕ). minus32 (x * 0x400) 0x2_0000) e ∙ as_ids_lem (tag_splice t) (splice_fits t)
