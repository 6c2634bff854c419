-- What an entry does to the places, by its class and its type. Assumes nothing.
use mathlib.Core.Path.{◌≡◌, refl, sym, ◌∙◌}
use mathlib.Core.Logic.{◌≢◌}
use mathlib.Core.Bool.{Bool, true, false, cond}
use mathlib.Core.List.{List, [], ◌∷◌}
use Prim.Native.Nat.{ℕ, ◌+◌, ◌^◌, ◌≤◌, ◌<◌}
use native.Mathlib.Omega.{arith}
use lib.Dec.{eqb}
use borrow.Author.Tests.{ne_eqb}
use Rattle.format.specs.Tag.{tag_type3, tag_chunk, tag_id, tag_size, tag_delete}
use Rattle.format.specs.Kind.{is_name, type_create, type_delete}
use Rattle.format.specs.Directory.{classes, seat_class, Act, mk, rm, put, skip, is_struct, is_attr, load_of, act}
use Rattle.format.specs.Index.{rank_at, placed_act, places_after, slot_made, slot_removed, place_set, place_cleared}
use Rattle.format.proofs.Tags.{of_fields}
use Rattle.index_table.specs.Held.{Keeps, Goes}
use Rattle.index_table.specs.declared.Places.{Places}
use Rattle.format.specs.declared.Refusal.{Refusal}
use Rattle.std.specs.Prelude.{Err, Ok, Result}

-- ---- the act of a tag, by its class
class_act : (t : ℕ) (d : List ℕ) → seat_class t < classes → act t d ≡ put (tag_id t) (seat_class t) (load_of t d)
unfolding act seat_class
class_act t d h = go (is_name t) (is_struct t) (is_attr t) h
  where
    other : Act
    other = cond (eqb (tag_type3 t) type_create) (mk (tag_id t)) (cond (eqb (tag_type3 t) type_delete) (rm (tag_id t)) skip)

    go : (n s a : Bool) → cond n 0 (cond s 1 (cond a (2 + tag_chunk t) classes)) < classes
        → cond n (put (tag_id t) 0 (load_of t d)) (cond s (put (tag_id t) 1 (load_of t d))
        (cond a (put (tag_id t) (2 + tag_chunk t) (load_of t d)) other))
        ≡ put (tag_id t) (cond n 0 (cond s 1 (cond a (2 + tag_chunk t) classes))) (load_of t d)
    go true s a h = refl
    go false true a h = refl
    go false false true h = refl
    go false false false h = absurd (omega arith)

other_act : (t : ℕ) (d : List ℕ) → classes ≤ seat_class t
    → act t d ≡ cond (eqb (tag_type3 t) type_create) (mk (tag_id t))
    (cond (eqb (tag_type3 t) type_delete) (rm (tag_id t)) skip)
unfolding act seat_class
other_act t d h = go (is_name t) (is_struct t) (is_attr t) h
  where
    other : Act
    other = cond (eqb (tag_type3 t) type_create) (mk (tag_id t)) (cond (eqb (tag_type3 t) type_delete) (rm (tag_id t)) skip)

    go : (n s a : Bool) → classes ≤ cond n 0 (cond s 1 (cond a (2 + tag_chunk t) classes))
        → cond n (put (tag_id t) 0 (load_of t d)) (cond s (put (tag_id t) 1 (load_of t d))
        (cond a (put (tag_id t) (2 + tag_chunk t) (load_of t d)) other)) ≡ other
    go true s a h = absurd (omega arith)
    go false true a h = absurd (omega arith)
    go false false true h = absurd (omega arith)
    go false false false h = refl

-- ---- what an entry at `at` makes of the places
abbrev pub after : (at t : ℕ) → List ℕ → List ℕ
after at t P = places_after P (placed_act at t)

module _ (at t : ℕ) (G : List ℕ → List ℕ) (e : (P : List ℕ) → G P ≡ after at t P) (old new : Places) where
  kept : Keeps old new G → Keeps old new (after at t)
  kept k = record { stays = k.stays; has = λ P h. rw (← e P) (k.has P h) }

  same : (r : Result Unit Refusal) → Goes old new r G → Goes old new r (after at t)
  unfolding Goes
  same (Ok _) k = kept k
  same (Err q) k = (k.0, record { same = k.1.same; short = λ P h. rw (← e P) (k.1.short P h) })

-- ---- it, by the code: j, c and x are the id, the class and the type that the code read
module _ (at t : ℕ) {j : ℕ} (ej : j ≡ tag_id t) (old : Places) where
  module _ {c : ℕ} (ec : c ≡ seat_class t) (seat : c < classes) {rank : ℕ} (er : rank ≡ rank_at j c) where
    is : placed_act at t ≡ put (tag_id t) (seat_class t) (load_of t (tag_size t ∷ (at + 4) ∷ []))
    unfolding placed_act
    is = class_act t (tag_size t ∷ (at + 4) ∷ []) (rw (← ec) seat)

    pub unset_follows : tag_delete t ≡ true → (new : Places) → Keeps old new (place_cleared rank)
        → Goes old new (Ok tt) (after at t)
    unfolding places_after Goes
    unset_follows gone new k = kept at t (place_cleared rank) (λ P. rw (is, gone, er, ej, ec)) old new k

    pub set_follows : tag_delete t ≡ false → t < 2 ^ 31 → (new : Places) (r : Result Unit Refusal)
        → Goes old new r (place_set rank t (at + 4)) → Goes old new r (after at t)
    unfolding places_after Goes
    set_follows stays small new r k = same at t (place_set rank t (at + 4))
        (λ P. rw (is, stays, er, ej, ec, of_fields t small)) old new r k

  module _ (none : seat_class t ≡ classes) {x : ℕ} (ex : x ≡ tag_type3 t) where
    is_other : placed_act at t ≡ cond (eqb (tag_type3 t) type_create) (mk (tag_id t)) (cond (eqb (tag_type3 t) type_delete)
        (rm (tag_id t)) skip)
    unfolding placed_act
    is_other = other_act t (tag_size t ∷ (at + 4) ∷ []) (omega (arith, none))

    pub make_follows : x ≡ type_create → (new : Places) → Keeps old new (slot_made j) → Goes old new (Ok tt) (after at t)
    unfolding places_after Goes
    make_follows h new k =
        let e : tag_type3 t ≡ type_create = sym ex ∙ h in
        kept at t (slot_made j) (λ P. rw (is_other, e, ej)) old new k

    pub remove_follows : x ≡ type_delete → (new : Places) → Keeps old new (slot_removed j) → Goes old new (Ok tt) (after at t)
    unfolding places_after Goes
    remove_follows h new k =
        let e : tag_type3 t ≡ type_delete = sym ex ∙ h in
        kept at t (slot_removed j) (λ P. rw (is_other, e, ej)) old new k

    pub other_follows : x ≢ type_create → x ≢ type_delete → Goes old old (Ok tt) (after at t)
    unfolding places_after Goes
    other_follows n m = kept at t (λ P. P)
        (λ P. rw (
          is_other,
          ne_eqb (tag_type3 t) type_create (λ e. n (ex ∙ e)),
          ne_eqb (tag_type3 t) type_delete (λ e. m (ex ∙ e)),
        )) old old (record { stays = record { same = refl; long = refl }; has = λ P h. h })
