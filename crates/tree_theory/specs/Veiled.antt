-- `lfs_dir_getinfo` looks for a name under 0x780, and so passes over those of the types 0x080 to 0x0ff: in a regular
-- log the superblock's. Its lookup is the one under 0x700 in a log where each such name is taken for a user attribute
-- of its slot, "veiled": it makes its slot, and is no name. Assumes nothing.
use Rattle.std.specs.Prelude.{◌≡◌, refl, Bool, true, false, cond, ◌&&◌, List, ℕ, ◌+◌, ◌*◌, ◌/◌, ◌%◌, ◌^◌, ◌≤◌, ◌<◌, eqb, leb, ltb}
use Rattle.std.proofs.Common.{sym, ap, ap₂, ◌∙◌, arith, eq-eqb, ne_eqb, leb-true, leb-false, ltb-true, ltb-false}
use Rattle.std.specs.Int.Bits.{bit_and}
use Rattle.std.proofs.lemmas.Nat.{and_block, and_mask}
use Rattle.std.proofs.lemmas.Nat.Bits.{and_high}
use Rattle.std.proofs.Math.Pow.{split}
use Rattle.format.specs.Tag.{tag_type1, tag_type2, tag_type3, tag_chunk, tag_id, tag_size, tag_of}
use Rattle.format.specs.Kind.{type_name}
use Rattle.format.specs.Lookup.{name_mask}
use Rattle.format.specs.TreeMachine.{hidden}
use Rattle.format.specs.Directory.{Act, mk, rm, put, skip, act, load_of}
use Rattle.format.proofs.Tags.{of_type2, of_type3, of_chunk, of_id}
use Rattle.theory.specs.Walk.Step.{both_true}
use Rattle.theory.specs.Directory.Types.{type1_of, type2_of, act_name, act_attr}
use Rattle.theory.specs.Lookup.Masks.{QueryBy, hit_act, fields, type1_hit, and_no, query_name}
use Rattle.theory.specs.Lookup.ByMask.{Shape, ShapeBy}

-- ---- the types of the names that it passes over
pub hidden_between : (type : ℕ) → hidden type ≡ true → (0x080 ≤ type) × (type < 0x100)
unfolding hidden
hidden_between type h =
    let r = both_true (leb 0x080 type) (ltb type 0x100) h in
    (leb-true 0x080 type r.0, ltb-true type 0x100 r.1)

-- ---- a tag
unfoldable pub veil : ℕ → ℕ
veil t = cond (hidden (tag_type3 t)) (tag_of 0x3ff (tag_id t) (tag_size t)) t

-- a name that is seen stays what it is
pub veil_not : (t : ℕ) → hidden (tag_type3 t) ≡ false → veil t ≡ t
unfolding veil
veil_not t h = rw h

veil_is : (t : ℕ) → hidden (tag_type3 t) ≡ true → veil t ≡ tag_of 0x3ff (tag_id t) (tag_size t)
unfolding veil
veil_is t h = rw h

-- one that is not is the user attribute 0xff of its slot
pub veil_act : (t : ℕ) (x : List ℕ) → hidden (tag_type3 t) ≡ true
    → act (veil t) x ≡ put (tag_id t) 257 (load_of (tag_of 0x3ff (tag_id t) (tag_size t)) x)
veil_act t x h =
    let u : ℕ = tag_of 0x3ff (tag_id t) (tag_size t) in
    let k : tag_type3 u ≡ 0x3ff = of_type3 0x3ff (tag_id t) (tag_size t) (omega arith) (omega arith) (omega arith) in
    let c : tag_chunk u ≡ 0xff = of_chunk 0x3ff (tag_id t) (tag_size t) (omega arith) (omega arith) in
    let i : tag_id u ≡ tag_id t = of_id 0x3ff (tag_id t) (tag_size t) (omega arith) (omega arith) in
    rw (veil_is t h) (act_attr u x (omega (arith, k)) (omega (arith, k)) ∙ rw (c, i))

-- ---- the lookup under 0x780
low_field : (n : ℕ) → n % 2 ^ 27 / 2 ^ 10 % 2 ^ 10 ≡ tag_id n
low_field n = omega arith

mask_type2 : (n : ℕ) → bit_and n name_mask ≡ tag_type2 n * 2 ^ 20 + tag_id n * 2 ^ 10
unfolding tag_of
mask_type2 n =
    ap (λ x. bit_and x 0x780f_fc00) (sym (split n 27))
    ∙ and_block 27 (n / 2 ^ 27) 15 (n % 2 ^ 27) 0xf_fc00 (omega arith) (omega arith)
    ∙ ap₂ (λ x y. x * 2 ^ 27 + y) (and_mask (n / 2 ^ 27) 4) (and_high (n % 2 ^ 27) 10 10
    ∙ ap (λ x. x * 2 ^ 10) (low_field n))
    ∙ omega arith

-- a tag against the key of a name
type2_hit : (t i s : ℕ) → i < 2 ^ 10 → s < 2 ^ 10
    → eqb (bit_and t name_mask) (bit_and (tag_of type_name i s) name_mask) ≡ eqb (tag_id t) i && eqb (tag_type2 t) 0
type2_hit t i s h k =
    rw (mask_type2 t, mask_type2 (tag_of type_name i s), of_type2 type_name i s (omega arith) h k, of_id type_name i s h k)
    (fields (tag_type2 t) (tag_id t) 0 i (omega arith) h)

-- a name that is not hidden has type2 0, as type1
seen_type2 : (t : ℕ) → hidden (tag_type3 t) ≡ false → eqb (tag_type2 t) 0 ≡ eqb (tag_type1 t) 0
unfolding hidden
seen_type2 t h = go (leb 0x080 (tag_type3 t)) refl (ltb (tag_type3 t) 0x100) refl h
  where
    go : (a : Bool) → leb 0x080 (tag_type3 t) ≡ a → (b : Bool) → ltb (tag_type3 t) 0x100 ≡ b → a && b ≡ false
        → eqb (tag_type2 t) 0 ≡ eqb (tag_type1 t) 0
    go true ea true eb e = absurd (let z : ◌≡◌ {A = ℕ} 0 1 = cc in omega arith)
    go true ea false eb e =
        let n : 0x100 ≤ tag_type3 t = ltb-false (tag_type3 t) 0x100 eb in
        ne_eqb (tag_type2 t) 0 (λ q. omega (arith, type2_of t))
        ∙ sym (ne_eqb (tag_type1 t) 0 (λ q. omega (arith, type1_of t)))
    go false ea b eb e =
        let n : tag_type3 t < 0x080 = leb-false 0x080 (tag_type3 t) ea in
        eq-eqb (tag_type2 t) 0 (omega (arith, type2_of t)) ∙ sym (eq-eqb (tag_type1 t) 0 (omega (arith, type1_of t)))

hit_veiled : (t i : ℕ) (x : List ℕ) → hidden (tag_type3 t) ≡ true → hit_act 0 i (act (veil t) x) ≡ false
unfolding hit_act
hit_veiled t i x h = rw (veil_act t x h) (and_no (eqb (tag_id t) i))

pub query_seen : QueryBy veil name_mask type_name 0
query_seen = (
  omega arith,
  λ t i s x h k. type2_hit t i s h k ∙ go t i s x h k (hidden (tag_type3 t)) refl,
  λ t i x e. itself t i x (hidden (tag_type3 t)) refl e,
)
  where
    go : (t i s : ℕ) (x : List ℕ) → i < 2 ^ 10 → s < 2 ^ 10 → (b : Bool) → hidden (tag_type3 t) ≡ b
        → eqb (tag_id t) i && eqb (tag_type2 t) 0 ≡ hit_act 0 i (act (veil t) x)
    go t i s x h k true e =
        let r = hidden_between (tag_type3 t) e in
        rw (ne_eqb (tag_type2 t) 0 (λ q. omega (arith, type2_of t, r.0, r.1)))
        (and_no (eqb (tag_id t) i) ∙ sym (hit_veiled t i x e))
    go t i s x h k false e = rw (veil_not t e, seen_type2 t e)
        (sym (type1_hit t type_name i s (omega arith) h k) ∙ query_name.1 t i s x h k)

    itself : (t i : ℕ) (x : List ℕ) (b : Bool) → hidden (tag_type3 t) ≡ b → hit_act 0 i (act (veil t) x) ≡ true
        → veil t ≡ t
    itself t i x true e h = absurd (let z : false ≡ true = sym (hit_veiled t i x e) ∙ h in
        let n : ◌≡◌ {A = ℕ} 0 1 = cc in omega arith)
    itself t i x false e h = veil_not t e

-- ---- the shapes of a regular log's tags
pub veil_shape : (t : ℕ) (x : List ℕ) → Shape t x (act t x) → ShapeBy veil t x (act (veil t) x)
veil_shape t x h = go (hidden (tag_type3 t)) refl
  where
    same : veil t ≡ t → (a : Act) → Shape t x a → ShapeBy veil t x a
    same e (mk j) s = s
    same e (rm j) s = s
    same e (put j k v) s = (s.0, s.1 ∙ ap (λ u. load_of u x) (sym e), s.2, s.3)
    same e skip s = s

    go : (b : Bool) → hidden (tag_type3 t) ≡ b → ShapeBy veil t x (act (veil t) x)
    go true e =
        let r = hidden_between (tag_type3 t) e in
        let p : Shape t x (put (tag_id t) 0 (load_of t x)) = rw (act_name t x r.1) at h in
        rw (veil_act t x e) (p.0, ap (λ u. load_of u x) (sym (veil_is t e)), refl, p.3)
    go false e = rw (veil_not t e) (same (veil_not t e) (act t x) h)
