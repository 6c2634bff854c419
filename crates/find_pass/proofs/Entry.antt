-- What an entry does to the ids: a name, a create, a delete, and all others. Assumes nothing.
use mathlib.Core.Path.{◌≡◌, refl, sym, ap, subst, ◌∙◌}
use mathlib.Core.Logic.{◌≢◌, inl}
use mathlib.Core.Bool.{Bool, true, false, cond}
use mathlib.Core.List.{List}
use Prim.Native.Nat.{ℕ, ◌+◌, ◌-◌, ◌≤◌}
use native.Mathlib.Omega.{arith}
use lib.ListN.{length, take, drop}
use lib.Seq.{drop-drop}
use borrow.Author.Tests.{eq-eqb, ne_eqb, eqb-false}
use Rattle.format.specs.Tag.{tag_type1, tag_type3, tag_chunk, tag_id, tag_size, removal_size, tag_delete, tag_length}
use Rattle.format.specs.Kind.{type_name, type_create, type_delete}
use Rattle.format.specs.Walk.{body_length, body_of}
use Rattle.format.specs.Directory.{Load, Act, put, skip, is_struct, is_attr, load_of, act}
use Rattle.format.specs.Find.{is_named}
use Rattle.format.proofs.Tags.{length_size}
use Rattle.theory.specs.Directory.Types.{type1_of, not_wide, act_name, act_create, act_delete}
use Rattle.find_set.specs.Set.{made, removed, assigned}
use Rattle.find_pass.specs.Pass.{Keeps, marked, Followable}
use Rattle.std.specs.Prelude.{Option, Some}

-- ---- a name's data
name_type : (t : ℕ) → tag_type1 t ≡ type_name → tag_type3 t ≤ 0xff
name_type t h = omega (arith, type1_of t)

module _ (b : List ℕ) (at t : ℕ) (f : Followable b at t) (h : tag_type1 t ≡ type_name) where
  kept : tag_delete t ≡ false
  kept = f.kept (eq-eqb (tag_type1 t) type_name h)

  long : tag_length t ≡ 4 + tag_size t
  long = length_size t (eqb-false (tag_size t) removal_size kept)

  pub name_inside : at + 4 + tag_size t ≤ length b
  name_inside = omega (arith, long, f.whole)

  name_load : load_of t (body_of t (drop at b)) ≡ Some (record {
    type = tag_type3 t;
    bytes = take (tag_size t) (drop (at + 4) b);
  })
  unfolding body_length
  name_load =
      let n : tag_length t - 4 ≡ tag_size t = omega (arith, long) in
      rw (kept, not_wide t (inl (omega (arith, name_type t h))), n, drop-drop 4 at b)

  -- x is what `is_named` answers
  pub name_followed : (name : List ℕ) (kind j : ℕ) (x : Bool) (old : List ℕ) (any : Bool) (new : List ℕ) (still : Bool)
      → j ≡ tag_id t
      → x ≡ is_named name kind (Some (record { type = tag_type3 t; bytes = take (tag_size t) (drop (at + 4) b) }))
      → Keeps old any new still (assigned j x)
      → Keeps old any new still (marked (is_named name kind) (act t (body_of t (drop at b))))
  unfolding marked
  name_followed name kind j x old any new still ej ex k =
      let e : act t (body_of t (drop at b)) ≡ put (tag_id t) 0 (Some (record {
        type = tag_type3 t;
        bytes = take (tag_size t) (drop (at + 4) b);
      })) = act_name t (body_of t (drop at b)) (omega (arith, name_type t h)) ∙ ap (put (tag_id t) 0) name_load in
      subst (λ (a : Act). Keeps old any new still (marked (is_named name kind) a)) (sym e) (rw (ej, ex) at k)

-- ---- creates, deletes and all others; x is the type that the code read
module _ (q : Option Load → Bool) (t : ℕ) (d : List ℕ) (j x : ℕ) (ej : j ≡ tag_id t) (ex : x ≡ tag_type3 t)
    (old : List ℕ) (any : Bool) where
  pub create_followed : (new : List ℕ) (still : Bool) → x ≡ type_create → Keeps old any new still (made j)
      → Keeps old any new still (marked q (act t d))
  unfolding marked
  create_followed new still h k = rw (act_create t d (sym ex ∙ h), ← ej) k

  pub delete_followed : (new : List ℕ) (still : Bool) → x ≡ type_delete → Keeps old any new still (removed j)
      → Keeps old any new still (marked q (act t d))
  unfolding marked
  delete_followed new still h k = rw (act_delete t d (sym ex ∙ h), ← ej) k

  other_same : tag_type1 t ≢ type_name → x ≢ type_create → x ≢ type_delete → (f : ℕ → Bool) (i : ℕ)
      → marked q (act t d) f i ≡ f i
  unfolding marked act
  other_same n c r f i = rw (
    ne_eqb (tag_type1 t) type_name n,
    ne_eqb (tag_type3 t) type_create (λ e. c (ex ∙ e)),
    ne_eqb (tag_type3 t) type_delete (λ e. r (ex ∙ e)),
  ) (go (is_struct t) (is_attr t))
    where
      go : (s a : Bool) → marked q (cond s (put (tag_id t) 1 (load_of t d))
          (cond a (put (tag_id t) (2 + tag_chunk t) (load_of t d)) skip)) f i ≡ f i
      go true a = refl
      go false true = rw (ne_eqb (2 + tag_chunk t) 0 (λ e. omega arith))
      go false false = refl

  pub other_followed : tag_type1 t ≢ type_name → x ≢ type_create → x ≢ type_delete → Keeps old any old any
      (marked q (act t d))
  other_followed n c r f top h = record {
    marks = λ i l. h.marks i l ∙ sym (other_same n c r f i);
    never = λ e i. other_same n c r f i ∙ h.never e i;
  }
