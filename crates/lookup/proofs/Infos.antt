-- The info: what the two lookups say of it, and the test before them. Assumes nothing.
use mathlib.Core.Path.{◌≡◌, refl, sym, ap, ◌∙◌}
use mathlib.Core.Bool.{Bool, true, false, ◌&&◌}
use mathlib.Core.List.{List, ◌∷◌, ◌++◌}
use Prim.Native.Nat.{ℕ, zero, suc, ◌+◌, ◌-◌, ◌%◌, ◌^◌, ◌≤◌}
use native.Mathlib.Omega.{arith}
use lib.Dec.{leb}
use lib.ListN.{length, take, drop, length-replicate}
use borrow.Author.Tests.{leb-true, eq-eqb, ne_eqb}
use Rattle.format.specs.Tag.{tag_type3, mk_tag}
use Rattle.format.specs.Lookup.{record_fits, block_of, searched, slice_answer, slice_buffer, blank_buffer, name_mask}
use Rattle.format.specs.Lookup.{name_key}
use Rattle.format.specs.Lookup.{struct_mask, struct_key, info_root, info_size, info_from, read_answer}
use Rattle.format.specs.Lookup.{read_buffer, info_of, getinfo_fits, getinfo_of}
use Rattle.format.specs.declared.Geometry.{Geometry}
use Rattle.format.specs.declared.LfsMdir.{LfsMdir}
use Rattle.format.specs.declared.LfsGstate.{LfsGstate}
use Rattle.format.specs.declared.Refusal.{Refusal}
use Rattle.format.specs.declared.Refusal.TheVariants.{Invalid}
use Rattle.format.specs.declared.Found.{Found}
use Rattle.lookup.specs.Info.{info_named}
use Rattle.sizes.proofs.Sized.{both}
use Rattle.sizes.proofs.Records.{end_inside}
use Rattle.lookup_search.proofs.Slices.{slice_length}
use Rattle.lookup.proofs.Moves.{tag_made}
use Rattle.std.specs.Prelude.{Err, Ok, Option, Result}
use Rattle.format.specs.declared.LfsInfo.{LfsInfo}

-- ---- the front and the back of a blank buffer are blank
take_blank : (n m : ℕ) → n ≤ m → take n (blank_buffer m) ≡ blank_buffer n
take_blank zero m h = refl
take_blank (suc n) zero h = absurd (omega arith)
take_blank (suc n) (suc m) h = ap (λ (l : List ℕ). 0 ∷ l) (take_blank n m (omega arith))

drop_blank : (n m k : ℕ) → n + k ≡ m → drop n (blank_buffer m) ≡ blank_buffer k
drop_blank zero m k h = let e : m ≡ k = omega arith in ap blank_buffer e
drop_blank (suc n) zero k h = absurd (omega arith)
drop_blank (suc n) (suc m) k h = drop_blank n m k (omega arith)

-- ---- the struct's lookup; gm and gt are the mask and the key that LFS_MKTAG makes, a its answer
module _ (b : List ℕ) (dir : LfsMdir) (gdisk : LfsGstate) (id t : ℕ) (name : List ℕ) (h : id ≤ 1023) (gm gt : ℕ)
    (em : gm ≡ mk_tag 0x700 1023 0)
    (et : gt ≡ mk_tag 0x200 id 8) (a : Result Found Refusal) (e : a ≡ read_answer b 8 (searched b dir gdisk gm gt)) where
  struct : searched b dir gdisk gm gt ≡ searched b dir gdisk struct_mask (struct_key id)
  struct =
      let m : gm ≡ struct_mask = tag_made 0x700 1023 0 gm (omega arith) (omega arith) (omega arith) em in
      let k : gt ≡ struct_key id = tag_made 0x200 id 8 gt (omega arith) (omega arith) (omega arith) et in
      λ i. searched b dir gdisk (m i) (k i)

  -- from the answer and a buffer to what is promised
  abbrev told : Result Found Refusal → List ℕ → Result LfsInfo Refusal
  told x d = info_named t name x d

  abbrev promised : Result LfsInfo Refusal
  promised = told (read_answer b 8 (searched b dir gdisk struct_mask (struct_key id)))
      (read_buffer b 8 (searched b dir gdisk struct_mask (struct_key id)))

  answers : a ≡ read_answer b 8 (searched b dir gdisk struct_mask (struct_key id))
  answers = e ∙ ap (λ u. read_answer b 8 u) struct

  pub named_refused : (r : Refusal) → a ≡ Err r → Err r ≡ promised
  named_refused r q = ap (λ y. told y (read_buffer b 8 (searched b dir gdisk struct_mask (struct_key id))))
      (sym q ∙ answers)

  -- d is the buffer, z the size in it, k the name's type
  pub named_found_lem : (u : Found) → a ≡ Ok u → (d : List ℕ) → d ≡ read_buffer b 8 (searched b dir gdisk gm gt)
      → (z k : ℕ) → z ≡ info_size u.tag d → k ≡ tag_type3 t
      → Ok (record { kind = k % 2 ^ 8; size = z; name = name }) ≡ promised
  named_found_lem u q d ed z k ez ek =
      (λ i. Ok (record { kind = ek i % 2 ^ 8; size = ez i; name = name }))
      ∙ (λ i. told ((sym q ∙ answers) i) ((ed ∙ ap (λ v. read_buffer b 8 v) struct) i))

-- ---- the name's lookup, into the front of a blank buffer
abbrev blank : ℕ → List ℕ
blank nameMax = take (nameMax + 1) (blank_buffer 256)

padded : (t : Found) (name : List ℕ) (u : Result Found Refusal) (d : List ℕ)
    → info_named t.tag (name ++ blank_buffer (256 - length name)) u d ≡ info_from (Ok t) name u d
padded t name (Err r) d = refl
padded t name (Ok u) d = refl

module _ (b : List ℕ) (dir : LfsMdir) (gdisk : LfsGstate) (nameMax id : ℕ) (hn : nameMax ≤ 255) (hi : id ≤ 1023)
    (gm gt : ℕ) (em : gm ≡ mk_tag 0x780 1023 0)
    (et : gt ≡ mk_tag 0x000 id (nameMax + 1)) (a : Result Found Refusal)
    (e : a ≡ slice_answer b 0 (length (blank nameMax)) (searched b dir gdisk gm gt)) where
  abbrev u : Option Found
  u = searched b dir gdisk name_mask (name_key id nameMax)

  abbrev v : Option Found
  v = searched b dir gdisk struct_mask (struct_key id)

  name_search : searched b dir gdisk gm gt ≡ u
  name_search =
      let m : gm ≡ name_mask = tag_made 0x780 1023 0 gm (omega arith) (omega arith) (omega arith) em in
      let k : gt ≡ name_key id nameMax = tag_made 0x000 id (nameMax + 1) gt (omega arith) (omega arith) (omega arith)
      et in
      λ i. searched b dir gdisk (m i) (k i)

  lent : blank nameMax ≡ blank_buffer (nameMax + 1)
  lent = take_blank (nameMax + 1) 256 (omega arith)

  name_answer_lem : a ≡ read_answer b (nameMax + 1) u
  name_answer_lem = e ∙ ap (λ f. slice_answer b 0 (length (blank nameMax)) f) name_search
      ∙ ap (λ (k : ℕ). slice_answer b 0 k u) (ap length lent ∙ length-replicate {A = ℕ} (nameMax + 1) 0)

  pub info_refused_lem : (r : Refusal) → a ≡ Err r → Err r ≡ info_of b nameMax u v
  info_refused_lem r q =
      ap (λ y. info_from y (read_buffer b (nameMax + 1) u) (read_answer b 8 v) (read_buffer b 8 v))
      (sym q ∙ name_answer_lem)

  -- l is the part that was lent, x the info with the buffer of which it is the front
  pub info_found : (t : Found) → a ≡ Ok t → (l : List ℕ)
      → l ≡ slice_buffer b 0 (blank nameMax) (searched b dir gdisk gm gt) → (x : Result LfsInfo Refusal)
      → x ≡ info_named t.tag (l ++ drop (nameMax + 1) (blank_buffer 256)) (read_answer b 8 v) (read_buffer b 8 v)
      → x ≡ info_of b nameMax u v
  info_found t q l el x ex =
      let name : List ℕ = read_buffer b (nameMax + 1) u in
      let same : l ≡ name = el ∙ ap (λ f. slice_buffer b 0 (blank nameMax) f) name_search
      ∙ ap (λ (d : List ℕ). slice_buffer b 0 d u) lent in
      let long : length name ≡ nameMax + 1 = slice_length b 0 (blank_buffer (nameMax + 1)) u
      ∙ length-replicate {A = ℕ} (nameMax + 1) 0 in
      let behind : drop (nameMax + 1) (blank_buffer 256) ≡ blank_buffer (256 - length name) =
      drop_blank (nameMax + 1) 256 (256 - length name) (omega arith) in
      ex ∙ (λ i. info_named t.tag (same i ++ behind i) (read_answer b 8 v) (read_buffer b 8 v))
      ∙ padded t name (read_answer b 8 v) (read_buffer b 8 v)
      ∙ ap (λ y. info_from y name (read_answer b 8 v) (read_buffer b 8 v)) (sym q ∙ name_answer_lem)

-- ---- `lfs_dir_getinfo`; fits is what `record_fits` answers
module _ (g : Geometry) (b0 b1 : List ℕ) (n0 n1 : ℕ) (dir : LfsMdir) (gdisk : LfsGstate) (nameMax id : ℕ) (fits : Bool)
    (e : fits ≡ record_fits g (length b0) (length b1) n0 n1 dir) where
  abbrev taken : Bool
  taken = fits && leb 1 nameMax && leb nameMax 255 && leb id 1023

  pub getinfo_refused : taken ≡ false → Err Invalid ≡ getinfo_of g b0 b1 n0 n1 dir gdisk nameMax id
  unfolding getinfo_of getinfo_fits
  getinfo_refused h = sym (rw (← e, h))

  module _ (h : taken ≡ true) where
    pub getinfo_inside : ((dir.off ≤ length b0) × (dir.off ≤ length b1)) × ((nameMax ≤ 255) × (id ≤ 1023))
    getinfo_inside =
        let p = both (fits && leb 1 nameMax && leb nameMax 255) (leb id 1023) h in
        let q = both (fits && leb 1 nameMax) (leb nameMax 255) p.0 in
        let r = both fits (leb 1 nameMax) q.0 in (
          end_inside g (length b0) (length b1) n0 n1 dir (sym e ∙ r.0),
          (leb-true nameMax 255 q.1, leb-true id 1023 p.1),
        )

    pub getinfo_root : id ≡ 1023 → (x : LfsInfo) → x ≡ info_root → Ok x ≡ getinfo_of g b0 b1 n0 n1 dir gdisk nameMax id
    unfolding getinfo_of getinfo_fits
    getinfo_root q x ex = ap Ok ex ∙ sym (rw (← e, h, eq-eqb id 1023 q))

    -- b is the block that is read
    pub getinfo_read : (id ≡ 1023 → ⊥) → (b : List ℕ) → b ≡ block_of b0 b1 n0 dir → (x : Result LfsInfo Refusal)
        → x ≡ info_of b nameMax (searched b dir gdisk name_mask (name_key id nameMax))
        (searched b dir gdisk struct_mask (struct_key id))
        → x ≡ getinfo_of g b0 b1 n0 n1 dir gdisk nameMax id
    unfolding getinfo_of getinfo_fits
    getinfo_read n b eb x ex = ex ∙ sym (rw (← e, h, ne_eqb id 1023 n, ← eb))
