-- A commit's bytes cut before the check: the entries' bytes, and the tag and the checksum behind them. Assumes nothing.
use mathlib.Core.Path.{◌≡◌, refl, sym, ap, ◌∙◌}
use mathlib.Core.List.{List, [], ◌∷◌, ◌++◌, append_assoc}
use Prim.Native.Nat.{ℕ}
use native.Mathlib.Omega.{arith}
use lib.ListN.{length, length-append}
use Rattle.format.specs.Word.{to_be32, to_le32, xor}
use Rattle.format.specs.Crc.{crc}
use Rattle.format.specs.Commit.{Item, commit_bytes}
use Rattle.format.specs.Stores.{entries_length, tag_coincides, coincides}
use Rattle.format.specs.Writer.{all_stores}
use Rattle.format.proofs.Words.{length_to_be32, length_to_le32}
use Rattle.theory.specs.Rules.MadeItem.{AllMade}

unfoldable pub last_tag : ℕ → List Item → ℕ
last_tag p [] = p
last_tag p (i ∷ is) = last_tag i.tag is

unfoldable pub last_sum : ℕ → ℕ → List Item → ℕ
last_sum s p [] = s
last_sum s p (i ∷ is) = last_sum (crc s (to_be32 (xor i.tag p) ++ i.body)) i.tag is

unfoldable pub entries_bytes : ℕ → List Item → List ℕ
entries_bytes p [] = []
entries_bytes p (i ∷ is) = (to_be32 (xor i.tag p) ++ i.body) ++ entries_bytes i.tag is

-- of entries and more entries
pub tag_app : (is js : List Item) (p : ℕ) → last_tag p (is ++ js) ≡ last_tag (last_tag p is) js
unfolding last_tag
tag_app [] js p = refl
tag_app (i ∷ is) js p = tag_app is js i.tag

pub sum_app : (is js : List Item) (s p : ℕ) → last_sum s p (is ++ js) ≡ last_sum (last_sum s p is) (last_tag p is) js
unfolding last_sum last_tag
sum_app [] js s p = refl
sum_app (i ∷ is) js s p = sum_app is js (crc s (to_be32 (xor i.tag p) ++ i.body)) i.tag

pub entries_app : (is js : List Item) (p : ℕ)
    → entries_bytes p (is ++ js) ≡ entries_bytes p is ++ entries_bytes (last_tag p is) js
unfolding entries_bytes last_tag
entries_app [] js p = refl
entries_app (i ∷ is) js p =
    let t : List ℕ = to_be32 (xor i.tag p) ++ i.body in
    ap (λ (l : List ℕ). t ++ l) (entries_app is js i.tag)
    ∙ sym (append_assoc t (entries_bytes i.tag is) (entries_bytes (last_tag i.tag is) js))

-- the check, behind them
abbrev pub check_bytes : ℕ → ℕ → List ℕ
check_bytes s word = to_be32 word ++ to_le32 (crc s (to_be32 word))

pub bytes_cut : (is : List Item) (s p ct : ℕ) → entries_bytes p is ++ check_bytes (last_sum s p is) (xor ct (last_tag p is))
    ≡ commit_bytes s p is ct
unfolding entries_bytes last_sum last_tag commit_bytes
bytes_cut [] s p ct = refl
bytes_cut (i ∷ is) s p ct =
    let t : List ℕ = to_be32 (xor i.tag p) in
    let s1 : ℕ = crc s (to_be32 (xor i.tag p) ++ i.body) in
    let c : List ℕ = check_bytes (last_sum s1 i.tag is) (xor ct (last_tag i.tag is)) in
    append_assoc (t ++ i.body) (entries_bytes i.tag is) c ∙ append_assoc t i.body (entries_bytes i.tag is ++ c)
    ∙ ap (λ (l : List ℕ). t ++ (i.body ++ l)) (bytes_cut is s1 i.tag ct)

pub meets_last : (byte : ℕ) (is : List Item) (s p ct : ℕ)
    → tag_coincides byte (last_sum s p is) (xor ct (last_tag p is)) ≡ coincides byte s p is ct
unfolding last_sum last_tag coincides
meets_last byte [] s p ct = refl
meets_last byte (i ∷ is) s p ct = meets_last byte is (crc s (to_be32 (xor i.tag p) ++ i.body)) i.tag ct

pub bytes_length : (is : List Item) (s p ct : ℕ) → AllMade is → length (commit_bytes s p is ct) ≡ all_stores is
unfolding commit_bytes entries_length
bytes_length [] s p ct m =
    rw (
      length-append (to_be32 (xor ct p)) (to_le32 (crc s (to_be32 (xor ct p)))),
      length_to_be32 (xor ct p),
      length_to_le32 (crc s (to_be32 (xor ct p))),
    ) refl
bytes_length (i ∷ is) s p ct m =
    let N : List ℕ = commit_bytes (crc s (to_be32 (xor i.tag p) ++ i.body)) i.tag is ct in
    let ih : length N ≡ all_stores is = bytes_length is (crc s (to_be32 (xor i.tag p) ++ i.body)) i.tag ct
    m.1 in
    rw (
      length-append (to_be32 (xor i.tag p)) (i.body ++ N),
      length-append i.body N,
      length_to_be32 (xor i.tag p),
      ih,
    ) (omega (arith, m.0.1))
