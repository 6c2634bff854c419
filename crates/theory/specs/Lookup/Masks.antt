-- The directory lookups as queries: a mask and a type that match exactly the tags of one class of one slot. Assumes
-- nothing.
use Rattle.std.specs.Prelude.{◌≡◌, refl, ◌≢◌, Bool, true, false, cond, ◌&&◌, List, ℕ, ◌+◌, ◌*◌, ◌/◌, ◌%◌, ◌^◌, ◌<◌, eqb}
use Rattle.std.proofs.Common.{sym, ap, ap₂, ◌∙◌, arith, eq-eqb, eqb-true, ne_eqb}
use Rattle.std.specs.Int.Bits.{bit_and}
use Rattle.std.proofs.lemmas.Nat.{and_block, and_mask}
use Rattle.std.proofs.lemmas.Nat.Bits.{and_high}
use Rattle.std.proofs.Math.Pow.{split}
use Rattle.std.proofs.lemmas.Bool.{eqb-false}
use Rattle.format.specs.Tag.{tag_type1, tag_type3, tag_chunk, tag_id, tag_of}
use Rattle.format.specs.Kind.{type_name, type_dir_struct, type_user_attr, type_create, type_delete, is_name}
use Rattle.format.specs.Look.{mask_type1, mask_type3}
use Rattle.format.specs.Directory.{Act, put, mk, rm, skip, act, is_struct, is_attr, load_of}
use Rattle.format.proofs.Tags.{of_type1, of_id, of_type3}
use Rattle.theory.specs.Directory.Types.{type1_of, chunk_of}

-- ---- the masks as fields
low_field : (n : ℕ) → n % 2 ^ 28 / 2 ^ 10 % 2 ^ 10 ≡ tag_id n
low_field n = omega arith

both_fields : (n : ℕ) → n / 2 ^ 10 % 2 ^ 21 ≡ tag_type3 n * 2 ^ 10 + tag_id n
both_fields n = omega arith

pub mask_type1_lem : (n : ℕ) → bit_and n mask_type1 ≡ tag_type1 n * 2 ^ 20 + tag_id n * 2 ^ 10
mask_type1_lem n =
    ap (λ x. bit_and x mask_type1) (sym (split n 28))
    ∙ and_block 28 (n / 2 ^ 28) 7 (n % 2 ^ 28) 0xf_fc00 (omega arith) (omega arith)
    ∙ ap₂ (λ x y. x * 2 ^ 28 + y) (and_mask (n / 2 ^ 28) 3) (and_high (n % 2 ^ 28) 10 10
    ∙ ap (λ x. x * 2 ^ 10) (low_field n))
    ∙ omega arith

pub mask_type3_lem : (n : ℕ) → bit_and n mask_type3 ≡ tag_type3 n * 2 ^ 20 + tag_id n * 2 ^ 10
mask_type3_lem n = and_high n 21 10 ∙ ap (λ x. x * 2 ^ 10) (both_fields n) ∙ omega arith

-- ---- two fields decide
top_field : (K I : ℕ) → I < 2 ^ 10 → (K * 2 ^ 20 + I * 2 ^ 10) / 2 ^ 20 ≡ K
top_field K I h = omega arith

same_top : (K I T i : ℕ) → I < 2 ^ 10 → i < 2 ^ 10 → K * 2 ^ 20 + I * 2 ^ 10 ≡ T * 2 ^ 20 + i * 2 ^ 10 → K ≡ T
same_top K I T i h k e = sym (top_field K I h) ∙ ap (λ x. x / 2 ^ 20) e ∙ top_field T i k

both : (a b c d e f : ℕ) → (a ≡ b → (c ≡ d) × (e ≡ f)) → (c ≡ d → e ≡ f → a ≡ b) → eqb a b ≡ eqb c d && eqb e f
both a b c d e f h k = go (eqb c d) refl (eqb e f) refl
  where
    go : (x : Bool) → eqb c d ≡ x → (y : Bool) → eqb e f ≡ y → eqb a b ≡ x && y
    go true p true q = eq-eqb a b (k (eqb-true c d p) (eqb-true e f q))
    go true p false q = ne_eqb a b (λ z. eqb-false e f q (h z).1)
    go false p y q = ne_eqb a b (λ z. eqb-false c d p (h z).0)

pub fields : (K I T i : ℕ) → I < 2 ^ 10 → i < 2 ^ 10 → eqb (K * 2 ^ 20 + I * 2 ^ 10) (T * 2 ^ 20 + i * 2 ^ 10) ≡ eqb I i
    && eqb K T
fields K I T i h k =
    both (K * 2 ^ 20 + I * 2 ^ 10) (T * 2 ^ 20 + i * 2 ^ 10) I i K T
    (λ e. let f : K ≡ T = same_top K I T i h k e in (omega arith, f)) (λ e f. omega arith)

-- a tag against a key of type T, id i and size s
pub type1_hit : (t T i s : ℕ) → T < 2 ^ 11 → i < 2 ^ 10 → s < 2 ^ 10
    → eqb (bit_and t mask_type1) (bit_and (tag_of T i s) mask_type1) ≡ eqb (tag_id t) i
    && eqb (tag_type1 t) (T / 2 ^ 8 * 2 ^ 8)
type1_hit t T i s a h k =
    rw (mask_type1_lem t, mask_type1_lem (tag_of T i s), of_type1 T i s a h k, of_id T i s h k)
    (fields (tag_type1 t) (tag_id t) (T / 2 ^ 8 * 2 ^ 8) i (omega arith) h)

type3_hit : (t T i s : ℕ) → T < 2 ^ 11 → i < 2 ^ 10 → s < 2 ^ 10
    → eqb (bit_and t mask_type3) (bit_and (tag_of T i s) mask_type3) ≡ eqb (tag_id t) i && eqb (tag_type3 t) T
type3_hit t T i s a h k =
    rw (mask_type3_lem t, mask_type3_lem (tag_of T i s), of_type3 T i s a h k, of_id T i s h k)
    (fields (tag_type3 t) (tag_id t) T i (omega arith) h)

-- ---- a query of class c: the mask and the type T match what puts something under c of slot i
unfoldable pub hit_act : ℕ → ℕ → Act → Bool
hit_act c i (put j k v) = eqb j i && eqb c k
hit_act c i (mk j) = false
hit_act c i (rm j) = false
hit_act c i skip = false

abbrev pub Query : ℕ → ℕ → ℕ → Type 0
Query mask T c = (T < 2 ^ 11) × ((t i s : ℕ) (x : List ℕ) → i < 2 ^ 10 → s < 2 ^ 10
    → eqb (bit_and t mask) (bit_and (tag_of T i s) mask) ≡ hit_act c i (act t x))

-- the same where a tag t is taken for `see t`; one that is matched is taken for itself
abbrev pub QueryBy : (ℕ → ℕ) → ℕ → ℕ → ℕ → Type 0
QueryBy see mask T c = (T < 2 ^ 11) × ((t i s : ℕ) (x : List ℕ) → i < 2 ^ 10 → s < 2 ^ 10
    → eqb (bit_and t mask) (bit_and (tag_of T i s) mask) ≡ hit_act c i (act (see t) x))
    × ((t i : ℕ) (x : List ℕ) → hit_act c i (act (see t) x) ≡ true → see t ≡ t)

hit_act_lem : (c i t : ℕ) (x : List ℕ) → hit_act c i (act t x)
    ≡ cond (is_name t) (eqb (tag_id t) i && eqb c 0) (cond (is_struct t) (eqb (tag_id t) i && eqb c 1)
    (cond (is_attr t) (eqb (tag_id t) i && eqb c (2 + tag_chunk t)) false))
unfolding hit_act act
hit_act_lem c i t x = go (is_name t) (is_struct t) (is_attr t) (eqb (tag_type3 t) type_create) (eqb (tag_type3 t) type_delete)
  where
    go : (b0 b2 b3 bc bd : Bool)
        → hit_act c i (cond b0 (put (tag_id t) 0 (load_of t x))
        (cond b2 (put (tag_id t) 1 (load_of t x)) (cond b3 (put (tag_id t) (2 + tag_chunk t) (load_of t x))
        (cond bc (mk (tag_id t)) (cond bd (rm (tag_id t)) skip)))))
        ≡ cond b0 (eqb (tag_id t) i && eqb c 0) (cond b2 (eqb (tag_id t) i && eqb c 1)
        (cond b3 (eqb (tag_id t) i && eqb c (2 + tag_chunk t)) false))
    go true b2 b3 bc bd = refl
    go false true b3 bc bd = refl
    go false false true bc bd = refl
    go false false false true bd = refl
    go false false false false true = refl
    go false false false false false = refl

pub and_no : (a : Bool) → a && false ≡ false
and_no true = refl
and_no false = refl

-- the name, "type under 0x700"
pub query_name : Query mask_type1 type_name 0
query_name = (
  omega arith,
  λ t i s x h k. type1_hit t type_name i s (omega arith) h k ∙ sym (hit_act_lem 0 i t x
      ∙ go t i (is_name t) refl (is_struct t) (is_attr t)),
)
  where
    go : (t i : ℕ) (b0 : Bool) → is_name t ≡ b0 → (b2 b3 : Bool)
        → cond b0 (eqb (tag_id t) i && eqb 0 0) (cond b2 (eqb (tag_id t) i && eqb 0 1)
        (cond b3 (eqb (tag_id t) i && eqb 0 (2 + tag_chunk t)) false))
        ≡ eqb (tag_id t) i && is_name t
    go t i true e b2 b3 = rw e
    go t i false e true b3 = rw e
    go t i false e false true = rw (e, ne_eqb 0 (2 + tag_chunk t) (λ z. omega arith))
    go t i false e false false = rw e (sym (and_no (eqb (tag_id t) i)))

-- the struct, "under 0x700"
pub query_struct : Query mask_type1 type_dir_struct 1
query_struct = (
  omega arith,
  λ t i s x h k. type1_hit t type_dir_struct i s (omega arith) h k ∙ sym (hit_act_lem 1 i t x
      ∙ go t i (is_name t) refl (is_struct t) refl (is_attr t)),
)
  where
    go : (t i : ℕ) (b0 : Bool) → is_name t ≡ b0 → (b2 : Bool) → is_struct t ≡ b2 → (b3 : Bool)
        → cond b0 (eqb (tag_id t) i && eqb 1 0) (cond b2 (eqb (tag_id t) i && eqb 1 1)
        (cond b3 (eqb (tag_id t) i && eqb 1 (2 + tag_chunk t)) false))
        ≡ eqb (tag_id t) i && is_struct t
    go t i true e b2 f b3 = let z : tag_type1 t ≡ type_name = eqb-true (tag_type1 t) type_name e in rw z
    go t i false e true f b3 = rw f
    go t i false e false f true = rw (f, ne_eqb 1 (2 + tag_chunk t) (λ z. omega arith))
    go t i false e false f false = rw f (sym (and_no (eqb (tag_id t) i)))

-- user attribute u, by its whole type
pub query_attr : (u : ℕ) → u < 2 ^ 8 → Query mask_type3 (type_user_attr + u) (2 + u)
query_attr u hu = (
  omega arith,
  λ t i s x h k.
      type3_hit t (type_user_attr + u) i s (omega arith) h k
      ∙ sym (hit_act_lem (2 + u) i t x ∙ rw (type1_of t, chunk_of t)
      (go (eqb (tag_id t) i) (tag_type3 t) (eqb (tag_type3 t / 2 ^ 8 * 2 ^ 8) type_name) refl
      (eqb (tag_type3 t / 2 ^ 8 * 2 ^ 8) type_dir_struct) refl (eqb (tag_type3 t / 2 ^ 8 * 2 ^ 8) type_user_attr) refl)),
)
  where
    go : (a : Bool) (Y : ℕ) (b0 : Bool) → eqb (Y / 2 ^ 8 * 2 ^ 8) type_name ≡ b0 → (b2 : Bool)
        → eqb (Y / 2 ^ 8 * 2 ^ 8) type_dir_struct ≡ b2
        → (b3 : Bool) → eqb (Y / 2 ^ 8 * 2 ^ 8) type_user_attr ≡ b3
        → cond b0 (a && eqb (2 + u) 0) (cond b2 (a && eqb (2 + u) 1) (cond b3 (a && eqb (2 + u) (2 + Y % 2 ^ 8)) false))
        ≡ a && eqb Y (type_user_attr + u)
    go a Y true e b2 f b3 g =
        let z : Y / 2 ^ 8 * 2 ^ 8 ≡ type_name = eqb-true (Y / 2 ^ 8 * 2 ^ 8) type_name e in
        rw (ne_eqb (2 + u) 0 (λ q. omega arith), ne_eqb Y (type_user_attr + u) (λ q. omega arith))
    go a Y false e true f b3 g =
        let z : Y / 2 ^ 8 * 2 ^ 8 ≡ type_dir_struct = eqb-true (Y / 2 ^ 8 * 2 ^ 8) type_dir_struct f in
        rw (ne_eqb (2 + u) 1 (λ q. omega arith), ne_eqb Y (type_user_attr + u) (λ q. omega arith))
    go a Y false e false f true g = ap (λ x. a && x) (fin (eqb Y (type_user_attr + u)) refl)
      where
        z : Y / 2 ^ 8 * 2 ^ 8 ≡ type_user_attr
        z = eqb-true (Y / 2 ^ 8 * 2 ^ 8) type_user_attr g

        fin : (b : Bool) → eqb Y (type_user_attr + u) ≡ b → eqb (2 + u) (2 + Y % 2 ^ 8) ≡ b
        fin true q = let w : Y ≡ type_user_attr + u = eqb-true Y (type_user_attr + u) q in eq-eqb (2 + u) (2 + Y % 2 ^ 8)
            (omega arith)
        fin false q =
            let w : Y ≢ type_user_attr + u = eqb-false Y (type_user_attr + u) q in
            ne_eqb (2 + u) (2 + Y % 2 ^ 8) (λ p. w (omega (arith, z)))
    go a Y false e false f false g =
        let z : Y / 2 ^ 8 * 2 ^ 8 ≢ type_user_attr = eqb-false (Y / 2 ^ 8 * 2 ^ 8) type_user_attr g in
        rw (ne_eqb Y (type_user_attr + u) (λ q. z (omega arith))) (sym (and_no a))
