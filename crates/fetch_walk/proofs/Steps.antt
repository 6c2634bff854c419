-- The directory record's steps: each kind of entry moves the parts that its folds say and no other. Assumes nothing.
use mathlib.Core.Path.{◌≡◌, refl, sym, ◌∙◌}
use mathlib.Core.Bool.{Bool, true, false, cond, ◌||◌}
use mathlib.Core.List.{List}
use Prim.Native.Nat.{ℕ, ◌-◌, ◌/◌, ◌%◌, ◌^◌}
use native.Mathlib.Omega.{arith}
use lib.Dec.{eqb}
use lib.ListN.{take, drop}
use mir.Syntax.{w8}
use mir.Val.{to_z}
use borrow.Author.Tests.{eq-eqb, ne_eqb}
use Rattle.format.specs.Tag.{tag_type1, tag_type2, tag_type3, tag_chunk, tag_id, tag_length}
use Rattle.format.specs.Kind.{is_name, is_splice, is_tail, is_forward}
use Rattle.format.specs.Walk.{read_behind, body_length, body_of}
use Rattle.format.specs.Count.{count_named, count_spliced}
use Rattle.format.specs.Record.{counted, pair_in, forward_in}
use Rattle.format.proofs.Parts.{le32_take, le32_take_second}
use Rattle.format.proofs.Classes.{behind_wide}
use Rattle.fetch_walk.specs.Dir.{named, spliced, tailed, forwarded, entered}
use Rattle.fetch_walk.specs.declared.dir.DirState.{DirState}

-- ---- the types are apart
kinds_apart : (t : ℕ) → t / 2 ^ 28 % 8 ≡ 6 → t / 2 ^ 27 % 16 ≡ 10 → ⊥
kinds_apart t h k = omega arith

forward_apart : (t : ℕ) → t / 2 ^ 20 % 2 ^ 11 ≡ 0x5ff → t / 2 ^ 27 % 16 ≡ 10 → ⊥
forward_apart t h k = omega arith

tail_not_check : (t : ℕ) → tag_type1 t ≡ 0x600 → tag_type2 t ≡ 0x500 → ⊥
tail_not_check t h k = kinds_apart t (omega arith) (omega arith)

forward_not_check : (t : ℕ) → tag_type3 t ≡ 0x5ff → tag_type2 t ≡ 0x500 → ⊥
forward_not_check t h k = forward_apart t h (omega arith)

forward_type1 : (t : ℕ) → tag_type3 t ≡ 0x5ff → tag_type1 t ≡ 0x500
forward_type1 t h = omega arith

or_true : (a : Bool) → a || true ≡ true
or_true true = refl
or_true false = refl

pub tail_reads : (t : ℕ) → tag_type1 t ≡ 0x600 → read_behind t ≡ 8
tail_reads t h = behind_wide t (ne_eqb (tag_type2 t) 0x500 (tail_not_check t h)) (rw (eq-eqb (tag_type1 t) 0x600 h))

pub forward_reads : (t : ℕ) → tag_type3 t ≡ 0x5ff → read_behind t ≡ 8
forward_reads t h = behind_wide t (ne_eqb (tag_type2 t) 0x500 (forward_not_check t h))
    (rw (eq-eqb (tag_type3 t) 0x5ff h) (or_true (is_tail t)))

-- ---- an entry's step, of the four answers to "which kind is it"
abbrev stepped : Bool → Bool → Bool → Bool → ℕ → List ℕ → DirState → DirState
stepped n s l f t x d =
    record {
      count = cond n (count_named d.count (tag_id t))
          (cond s (count_spliced d.count (to_z w8 (tag_chunk t))) d.count);
      split = cond l (eqb (tag_chunk t % 2) 1) d.split;
      tail = cond l (pair_in x) d.tail;
      fcrc = cond f (forward_in x) d.fcrc;
    }

by_kind : (t : ℕ) (x : List ℕ) (d : DirState) {n s l f : Bool} → is_name t ≡ n → is_splice t ≡ s → is_tail t ≡ l
    → is_forward t ≡ f
    → stepped n s l f t x d ≡ entered t x d
unfolding entered counted
by_kind t x d en es el ef = λ i. stepped (sym en i) (sym es i) (sym el i) (sym ef i) t x d

-- r is what the step of the kind answers; the tests in order
module _ (t : ℕ) (x : List ℕ) (d r : DirState) where
  no_forward_lem : (tag_type1 t ≡ 0x500 → ⊥) → is_forward t ≡ false
  no_forward_lem n = ne_eqb (tag_type3 t) 0x5ff (λ q. n (forward_type1 t q))

  pub enter_name : tag_type1 t ≡ 0 → r ≡ named t d → r ≡ entered t x d
  unfolding named
  enter_name h e = e ∙ by_kind t x d (eq-eqb (tag_type1 t) 0 h) (ne_eqb (tag_type1 t) 0x400 (λ q. omega arith))
      (ne_eqb (tag_type1 t) 0x600 (λ q. omega arith)) (no_forward_lem (λ q. omega arith))

  module _ (n0 : tag_type1 t ≡ 0 → ⊥) where
    pub enter_splice : tag_type1 t ≡ 0x400 → r ≡ spliced t d → r ≡ entered t x d
    unfolding spliced
    enter_splice h e = e ∙ by_kind t x d (ne_eqb (tag_type1 t) 0 n0) (eq-eqb (tag_type1 t) 0x400 h)
        (ne_eqb (tag_type1 t) 0x600 (λ q. omega arith)) (no_forward_lem (λ q. omega arith))

    module _ (n4 : tag_type1 t ≡ 0x400 → ⊥) where
      pub enter_tail : tag_type1 t ≡ 0x600 → r ≡ tailed t x d → r ≡ entered t x d
      unfolding tailed
      enter_tail h e = e ∙ by_kind t x d (ne_eqb (tag_type1 t) 0 n0) (ne_eqb (tag_type1 t) 0x400 n4)
          (eq-eqb (tag_type1 t) 0x600 h) (no_forward_lem (λ q. omega arith))

      module _ (n6 : tag_type1 t ≡ 0x600 → ⊥) where
        pub enter_forward : tag_type3 t ≡ 0x5ff → r ≡ forwarded x d → r ≡ entered t x d
        unfolding forwarded
        enter_forward h e = e ∙ by_kind t x d (ne_eqb (tag_type1 t) 0 n0) (ne_eqb (tag_type1 t) 0x400 n4)
            (ne_eqb (tag_type1 t) 0x600 n6) (eq-eqb (tag_type3 t) 0x5ff h)

        pub enter_other : (tag_type3 t ≡ 0x5ff → ⊥) → r ≡ d → r ≡ entered t x d
        enter_other h e = e ∙ by_kind t x d (ne_eqb (tag_type1 t) 0 n0) (ne_eqb (tag_type1 t) 0x400 n4)
            (ne_eqb (tag_type1 t) 0x600 n6) (ne_eqb (tag_type3 t) 0x5ff h)

-- ---- an entry's step sees of the bytes behind the tag only those that its event has
pub entered_body : (t : ℕ) (rest : List ℕ) (d : DirState) → entered t (body_of t rest) d ≡ entered t (drop 4 rest) d
unfolding entered counted body_length
entered_body t rest d = go (is_tail t) (is_forward t)
  where
    x : List ℕ
    x = drop 4 rest

    go : (l f : Bool) → stepped (is_name t) (is_splice t) l f t (take (cond (l || f) 8 (tag_length t - 4)) x) d
        ≡ stepped (is_name t) (is_splice t) l f t x d
    go true f = rw (le32_take x, le32_take_second x)
    go false true = rw (le32_take x, le32_take_second x)
    go false false = refl
