-- What a tag's type makes of it: which act of the directory machine, whether a check, a splice, or read by eight bytes.
-- Assumes nothing.
use Rattle.std.specs.Prelude.{◌≡◌, ◌⊎◌, true, false, List, ℕ, ◌+◌, ◌*◌, ◌/◌, ◌%◌, ◌^◌, ◌≤◌, ◌<◌}
use Rattle.std.proofs.Common.{◌∙◌, inl, inr, arith, ne_eqb, eqb-true}
use Rattle.format.specs.Tag.{tag_type1, tag_type2, tag_type3, tag_chunk, tag_id}
use Rattle.format.specs.Kind.{type_name, type_dir_struct, type_user_attr, type_splice, type_create, type_delete, type_check}
use Rattle.format.specs.Kind.{type_forward, type_tail, is_splice, is_check, is_wide}
use Rattle.format.specs.Directory.{put, mk, rm, skip, act, load_of}
use Rattle.format.proofs.Tags.{low_type1, low_id, low_type3, low_chunk, low_size}

-- ---- the types under 0x700 and 0x780, from the whole type
pub type1_of : (t : ℕ) → tag_type1 t ≡ tag_type3 t / 2 ^ 8 * 2 ^ 8
type1_of t = omega arith

pub type2_of : (t : ℕ) → tag_type2 t ≡ tag_type3 t / 2 ^ 7 * 2 ^ 7
type2_of t = omega arith

pub chunk_of : (t : ℕ) → tag_chunk t ≡ tag_type3 t % 2 ^ 8
chunk_of t = omega arith

-- ---- acts
pub act_name : (t : ℕ) (d : List ℕ) → tag_type3 t < 2 ^ 8 → act t d ≡ put (tag_id t) 0 (load_of t d)
unfolding act
act_name t d h = let e : tag_type1 t ≡ type_name = type1_of t ∙ omega arith in rw e

pub act_struct : (t : ℕ) (d : List ℕ) → type_dir_struct ≤ tag_type3 t → tag_type3 t < type_dir_struct + 2 ^ 8
    → act t d ≡ put (tag_id t) 1 (load_of t d)
unfolding act
act_struct t d h k = let e : tag_type1 t ≡ type_dir_struct = type1_of t ∙ omega arith in rw e

pub act_attr : (t : ℕ) (d : List ℕ) → type_user_attr ≤ tag_type3 t → tag_type3 t < type_user_attr + 2 ^ 8
    → act t d ≡ put (tag_id t) (2 + tag_chunk t) (load_of t d)
unfolding act
act_attr t d h k = let e : tag_type1 t ≡ type_user_attr = type1_of t ∙ omega arith in rw e

pub act_create : (t : ℕ) (d : List ℕ) → tag_type3 t ≡ type_create → act t d ≡ mk (tag_id t)
unfolding act
act_create t d h = let e : tag_type1 t ≡ type_splice = type1_of t ∙ omega arith in rw (e, h)

pub act_delete : (t : ℕ) (d : List ℕ) → tag_type3 t ≡ type_delete → act t d ≡ rm (tag_id t)
unfolding act
act_delete t d h = let e : tag_type1 t ≡ type_splice = type1_of t ∙ omega arith in rw (e, h)

-- checks, tails, move states: no slot is touched
pub act_other : (t : ℕ) (d : List ℕ) → type_check ≤ tag_type3 t → act t d ≡ skip
unfolding act
act_other t d h =
    let k : type_check ≤ tag_type1 t = rw (type1_of t) (omega arith) in
    rw (
      ne_eqb (tag_type1 t) type_name (λ q. omega arith),
      ne_eqb (tag_type1 t) type_dir_struct (λ q. omega arith),
      ne_eqb (tag_type1 t) type_user_attr (λ q. omega arith),
      ne_eqb (tag_type3 t) type_create (λ q. omega arith),
      ne_eqb (tag_type3 t) type_delete (λ q. omega arith),
    )

-- ---- which tests of the walk and the lookup a type fails
pub not_check : (t : ℕ) → (tag_type3 t < type_check) ⊎ (type_check + 2 ^ 7 ≤ tag_type3 t) → is_check t ≡ false
not_check t (inl h) = ne_eqb (tag_type2 t) type_check (λ q. omega (arith, type2_of t))
not_check t (inr h) = ne_eqb (tag_type2 t) type_check (λ q. omega (arith, type2_of t))

pub not_splice : (t : ℕ) → (tag_type3 t < type_splice) ⊎ (type_check ≤ tag_type3 t) → is_splice t ≡ false
not_splice t (inl h) = ne_eqb (tag_type1 t) type_splice (λ q. omega (arith, type1_of t))
not_splice t (inr h) = ne_eqb (tag_type1 t) type_splice (λ q. omega (arith, type1_of t))

pub not_wide : (t : ℕ) → (tag_type3 t < type_forward) ⊎ (type_tail + 2 ^ 8 ≤ tag_type3 t) → is_wide t ≡ false
not_wide t (inl h) = rw (
  ne_eqb (tag_type1 t) type_tail (λ q. omega (arith, type1_of t)),
  ne_eqb (tag_type3 t) type_forward (λ q. omega arith),
)
not_wide t (inr h) = rw (
  ne_eqb (tag_type1 t) type_tail (λ q. omega (arith, type1_of t)),
  ne_eqb (tag_type3 t) type_forward (λ q. omega arith),
)

-- ---- a check by the other readings of its type
ten : (t : ℕ) → is_check t ≡ true → t / 2 ^ 27 % 2 ^ 4 ≡ 10
ten t h = let c : tag_type2 t ≡ type_check = eqb-true (tag_type2 t) type_check h in omega arith

pub check_type1 : (t : ℕ) → is_check t ≡ true → tag_type1 t ≡ type_check
check_type1 t h = let c : t / 2 ^ 27 % 2 ^ 4 ≡ 10 = ten t h in let d : t / 2 ^ 28 % 2 ^ 3 ≡ 5 = omega arith in rw d

pub check_type3 : (t : ℕ) → is_check t ≡ true → (type_check ≤ tag_type3 t) × (tag_type3 t < type_check + 2 ^ 7)
check_type3 t h = let c : t / 2 ^ 27 % 2 ^ 4 ≡ 10 = ten t h in (omega arith, omega arith)

pub act_check : (t : ℕ) (d : List ℕ) → is_check t ≡ true → act t d ≡ skip
act_check t d h = act_other t d (check_type3 t h).0

-- bit 31 does not show in an act
pub act_without_top : (t : ℕ) (d : List ℕ) → act (t % 2 ^ 31) d ≡ act t d
unfolding act
act_without_top t d = rw (low_type1 t, low_id t, low_type3 t, low_chunk t, low_size t)
