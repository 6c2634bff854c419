-- An entry that passes its rule, and what the directory machine, the walk and the lookups ask of it. Assumes nothing.
use Rattle.std.specs.Prelude.{◌≡◌, ◌≢◌, ◌⊎◌, Bool, true, cond, ◌&&◌, ◌||◌, List, ℕ, suc, ◌+◌, ◌-◌, ◌^◌, ◌≤◌, ◌<◌, max, length, eqb, leb, ltb, None, Some}
use Rattle.std.proofs.Math.Path.{refl}
use Rattle.std.proofs.Common.{sym, ap, subst, ◌∙◌, inl, inr, arith}
use Rattle.std.proofs.Math.Bool.{false}
use borrow.Author.Tests.{eqb-true, leb-true, ltb-true, eqb-false}
use Rattle.format.specs.Tag.{tag_type3, tag_chunk, tag_id, tag_size, removal_size, tag_delete, tag_length, tag_of}
use Rattle.format.specs.Kind.{type_file, type_directory, type_superblock, type_dir_struct, type_inline_struct, type_ctz_struct}
use Rattle.format.specs.Kind.{type_user_attr, type_splice, type_create, type_delete, type_check, type_forward, type_tail}
use Rattle.format.specs.Kind.{type_hard_tail, type_move, no_slot, is_check, is_wide}
use Rattle.format.specs.Walk.{body_length}
use Rattle.format.specs.Regular.{Rule, rule_of, between, rule_holds, count_after, create, delete, name, inlined, eight}
use Rattle.format.specs.Regular.{attribute, tail, move, forward, bad, grows_after, count_raised}
use Rattle.format.specs.Directory.{put, skip, mk, rm, act, load_of}
use Rattle.format.proofs.Tags.{length_size, of_fields}
use Rattle.format.proofs.Growing.{raised_never}
use Rattle.theory.specs.Walk.Step.{both_true, not_true}
use Rattle.theory.specs.Directory.Machine.{Allowed, grows_behind, most_slots}
use Rattle.theory.specs.Directory.Types.{not_check, not_splice, not_wide, act_other, act_create, act_delete}
use Rattle.theory.specs.Directory.Types.{act_name, act_struct, act_attr, chunk_of}
use Rattle.theory.specs.Blocks.ActItems.{TypeOf}
use Rattle.theory.specs.Blocks.SlotItems.{PutOk}
use Rattle.theory.specs.Lookup.SlotCount.{slots_after}
use Rattle.theory.specs.Lookup.ByMask.{Shape}

-- ---- which types fall under a rule
abbrev pub Says : ℕ → Rule → Type 0
Says type create = type ≡ type_create
Says type delete = type ≡ type_delete
Says type name = type < 2 ^ 8
Says type inlined = type ≡ type_inline_struct
Says type eight = (type_dir_struct ≤ type) × (type ≤ type_ctz_struct)
Says type attribute = (type_user_attr ≤ type) × (type < type_user_attr + 2 ^ 8)
Says type tail = (type_tail ≤ type) × (type ≤ type_hard_tail)
Says type move = type ≡ type_move
Says type forward = type ≡ type_forward
Says type bad = Unit {0}

either : (type : ℕ) (b : Bool) (x y : Rule) → (b ≡ true → Says type x) → Says type y → Says type (cond b x y)
either type true x y h k = h refl
either type false x y h k = k

one_true : (a b : Bool) → a || b ≡ true → (a ≡ true) ⊎ (b ≡ true)
one_true true b h = inl refl
one_true false b h = inr h

module _ (type : ℕ) where
  two : (a b : ℕ) → a ≤ b → eqb type a || eqb type b ≡ true → (a ≤ type) × (type ≤ b)
  two a b l h = go (one_true (eqb type a) (eqb type b) h)
    where
      go : (eqb type a ≡ true) ⊎ (eqb type b ≡ true) → (a ≤ type) × (type ≤ b)
      go (inl e) = let q : type ≡ a = eqb-true type a e in (omega arith, omega arith)
      go (inr e) = let q : type ≡ b = eqb-true type b e in (omega arith, omega arith)

  names : (logged : Bool) → eqb type type_file || eqb type type_directory || (logged && eqb type type_superblock) ≡ true
      → type < 2 ^ 8
  names logged h = go (one_true (eqb type type_file || eqb type type_directory) (logged && eqb type type_superblock) h)
    where
      go : (eqb type type_file || eqb type type_directory ≡ true) ⊎ (logged && eqb type type_superblock ≡ true)
          → type < 2 ^ 8
      go (inl e) = omega (arith, (two type_file type_directory (omega arith) e).1)
      go (inr e) = omega (arith, eqb-true type type_superblock (both_true logged (eqb type type_superblock) e).1)

  attrs : leb type_user_attr type && ltb type (type_user_attr + 2 ^ 8) ≡ true
      → (type_user_attr ≤ type) × (type < type_user_attr + 2 ^ 8)
  attrs h =
      let r = both_true (leb type_user_attr type) (ltb type (type_user_attr + 2 ^ 8)) h in
      (leb-true type_user_attr type r.0, ltb-true type (type_user_attr + 2 ^ 8) r.1)

  pub rule_says : (logged : Bool) → Says type (rule_of logged type)
  unfolding rule_of
  rule_says logged =
      either type _ _ _ (eqb-true type type_create)
      (either type _ _ _ (eqb-true type type_delete)
      (either type _ _ _ (names logged)
      (either type _ _ _ (eqb-true type type_inline_struct)
      (either type _ _ _ (two type_dir_struct type_ctz_struct (omega arith))
      (either type _ _ _ attrs
      (either type _ _ _ (two type_tail type_hard_tail (omega arith))
      (either type _ _ _ (eqb-true type type_move)
      (either type _ _ _ (λ e. eqb-true type type_forward (both_true logged (eqb type type_forward) e).1) tt))))))))

-- ---- an entry that passes its rule at the count c, or n where it makes slots; g: a name may
-- what the rule leaves of the count is what the act leaves of the slots
pub record Ruled (g : Bool) (c n : ℕ) (R : Rule) (t : ℕ) (d : List ℕ) : Type 0 where
  pub plain : is_check t ≡ false
  pub twelve : is_wide t ≡ true → tag_length t ≡ 12
  pub allowed : Allowed g (act t d) c
  pub slots : slots_after c (act t d) ≡ count_after R n
  pub still : grows_behind g (act t d) ≡ grows_after g R
  pub few : c ≤ most_slots → count_after R n ≤ most_slots
  pub shape : t < 2 ^ 31 → Shape t d (act t d)
  pub load : R ≡ rule_of true (tag_type3 t) → length d ≡ body_length t → PutOk (act t d)

-- names, structs, attributes: what is put under class k of a slot that is there, or is made
module _ (g : Bool) (c n t k : ℕ) (d : List ℕ) (R : Rule) (is : act t d ≡ put (tag_id t) k (load_of t d))
    (low : tag_type3 t < type_splice) (there : (tag_id t < c) ⊎ (g ≡ true)) (slots : max c (suc (tag_id t)) ≡ n)
    (few : c ≤ most_slots → n ≤ most_slots) (same : count_after R n ≡ n) (still : grows_after g R ≡ g)
    (class : TypeOf k (tag_type3 t)) (any : rule_holds R 1 0 (tag_size t) ≡ true) where
  ruled_put : Ruled g c n R t d
  unfolding slots_after body_length
  ruled_put =
      record {
        plain = not_check t (inl (omega arith));
        twelve = λ w. absurd (not_true (is_wide t) narrow w);
        allowed = rw is there;
        slots = rw (is, same) slots;
        still = rw (is, still);
        few = λ h. rw same (few h);
        shape = λ s. rw is (not_splice t (inl low), refl, refl, s);
        load = λ e n. rw is (go (tag_delete t) refl (rw narrow at n) e);
      }
    where
      narrow : is_wide t ≡ false
      narrow = not_wide t (inl (omega arith))

      go : (b : Bool) → tag_delete t ≡ b → length d ≡ tag_length t - 4 → R ≡ rule_of true (tag_type3 t)
          → PutOk (put (tag_id t) k (cond b None (Some (record { type = tag_type3 t; bytes = d }))))
      go true e n r = tt
      go false e n r =
          let q : tag_size t ≢ removal_size = eqb-false (tag_size t) removal_size e in
          let m : length d ≡ tag_size t = omega (arith, length_size t q) in
          (class, omega arith, rw (← r, m) any)

-- of a slot that is there
module _ (g : Bool) (c t k : ℕ) (d : List ℕ) (R : Rule) (is : act t d ≡ put (tag_id t) k (load_of t d))
    (low : tag_type3 t < type_splice) (there : tag_id t < c) (same : count_after R c ≡ c) (still : grows_after g R ≡ g)
    (class : TypeOf k (tag_type3 t)) (any : rule_holds R 1 0 (tag_size t) ≡ true) where
  ruled_set : Ruled g c c R t d
  ruled_set = ruled_put g c c t k d R is low (inl there) (omega arith) (λ h. h) same still class any

-- tails, move states, forward checks: no slot is touched
module _ (g : Bool) (c t : ℕ) (d : List ℕ) (R : Rule) (high : type_check + 2 ^ 7 ≤ tag_type3 t)
    (same : count_after R c ≡ c)
    (still : grows_after g R ≡ g) (wide : is_wide t ≡ true → tag_length t ≡ 12) where
  ruled_skip : Ruled g c c R t d
  unfolding slots_after
  ruled_skip =
      let is : act t d ≡ skip = act_other t d (omega arith) in
      record {
        plain = not_check t (inr high);
        twelve = wide;
        allowed = rw is tt;
        slots = rw (is, same);
        still = rw (is, still);
        few = λ h. rw same h;
        shape = λ s. rw is (not_splice t (inr (omega arith)));
        load = λ e n. rw is tt;
      }

-- creates and deletes
module _ (t type : ℕ) (is : tag_type3 t ≡ type) (splice : (type ≡ type_create) ⊎ (type ≡ type_delete))
    (empty : tag_size t ≡ 0) where
  spliced_plain : (is_check t ≡ false) × (is_wide t ≡ false)
  spliced_plain = go splice
    where
      go : (type ≡ type_create) ⊎ (type ≡ type_delete) → (is_check t ≡ false) × (is_wide t ≡ false)
      go (inl e) = (not_check t (inl (omega arith)), not_wide t (inl (omega arith)))
      go (inr e) = (not_check t (inl (omega arith)), not_wide t (inl (omega arith)))

  spliced_tag : t < 2 ^ 31 → t ≡ tag_of type (tag_id t) 0
  spliced_tag h = rw (is, empty) at (sym (of_fields t h))

eight_long : (t : ℕ) → tag_size t ≡ 8 → tag_length t ≡ 12
eight_long t h = length_size t (λ q. omega arith) ∙ ap (λ (n : ℕ). 4 + n) h

-- a name, in a slot that it makes or one that is there
ruled_name : (g : Bool) (c t : ℕ) (d : List ℕ) → tag_type3 t < 2 ^ 8 → (b : Bool)
    → g && (leb c (tag_id t) && leb (tag_id t) 1_022) ≡ b
    → tag_id t < cond b (suc (tag_id t)) c → between 1 1_022 (tag_size t) ≡ true
    → Ruled g c (cond b (suc (tag_id t)) c) name t d
unfolding count_after grows_after rule_holds
ruled_name g c t d s true e h k =
    let r = both_true g (leb c (tag_id t) && leb (tag_id t) 1_022) e in
    let q = both_true (leb c (tag_id t)) (leb (tag_id t) 1_022) r.1 in
    let above : c ≤ tag_id t = leb-true c (tag_id t) q.0 in
    let most : tag_id t ≤ 1_022 = leb-true (tag_id t) 1_022 q.1 in
    ruled_put g c (suc (tag_id t)) t 0 d name (act_name t d s) (omega arith) (inr r.0) (omega arith)
    (λ l. omega arith) refl refl s k
ruled_name g c t d s false e h k =
    ruled_set g c t 0 d name (act_name t d s) (omega arith) h refl refl s k

pub ruled : (g : Bool) (R : Rule) (c t : ℕ) (d : List ℕ) → Says (tag_type3 t) R
    → rule_holds R (count_raised g R c (tag_id t)) (tag_id t) (tag_size t) ≡ true
    → Ruled g c (count_raised g R c (tag_id t)) R t d
unfolding rule_holds count_after count_raised grows_after slots_after
ruled g create c t d s h =
    let r = both_true (leb (tag_id t) c && leb c 1_022) (eqb (tag_size t) 0) h in
    let q = both_true (leb (tag_id t) c) (leb c 1_022) r.0 in
    let z : tag_size t ≡ 0 = eqb-true (tag_size t) 0 r.1 in
    let is : act t d ≡ mk (tag_id t) = act_create t d s in
    let p = spliced_plain t type_create s (inl refl) z in
    record {
      plain = p.0;
      twelve = λ w. absurd (not_true (is_wide t) p.1 w);
      allowed = rw is (leb-true (tag_id t) c q.0);
      slots = rw is;
      still = rw is;
      few = λ k. omega (arith, leb-true c 1_022 q.1);
      shape = λ k. rw is (spliced_tag t type_create s (inl refl) z k, omega arith);
      load = λ e n. rw is tt;
    }
ruled g delete c t d s h =
    let r = both_true (ltb (tag_id t) c) (eqb (tag_size t) 0) h in
    let z : tag_size t ≡ 0 = eqb-true (tag_size t) 0 r.1 in
    let is : act t d ≡ rm (tag_id t) = act_delete t d s in
    let p = spliced_plain t type_delete s (inr refl) z in
    record {
      plain = p.0;
      twelve = λ w. absurd (not_true (is_wide t) p.1 w);
      allowed = rw is (ltb-true (tag_id t) c r.0);
      slots = rw is;
      still = rw is;
      few = λ k. omega arith;
      shape = λ k. rw is (spliced_tag t type_delete s (inr refl) z k, omega arith);
      load = λ e n. rw is tt;
    }
ruled g name c t d s h =
    let b : Bool = g && (leb c (tag_id t) && leb (tag_id t) 1_022) in
    let r = both_true (ltb (tag_id t) (cond b (suc (tag_id t)) c)) (between 1 1_022 (tag_size t)) h in
    ruled_name g c t d s (g && (leb c (tag_id t) && leb (tag_id t) 1_022)) refl
    (ltb-true (tag_id t) (cond b (suc (tag_id t)) c) r.0) r.1
ruled g inlined c t d s h =
    let r = both_true (ltb (tag_id t) c) (leb (tag_size t) 1_022) h in
    ruled_set g c t 1 d inlined (act_struct t d (omega arith) (omega arith)) (omega arith) (ltb-true (tag_id t) c r.0)
    refl refl (omega arith, omega arith) r.1
ruled g eight c t d s h =
    let r = both_true (ltb (tag_id t) c) (eqb (tag_size t) 8) h in
    let low : type_dir_struct ≤ tag_type3 t = s.0 in
    let high : tag_type3 t ≤ type_ctz_struct = s.1 in
    ruled_set g c t 1 d eight (act_struct t d low (omega arith)) (omega arith) (ltb-true (tag_id t) c r.0) refl refl
    (low, omega arith) r.1
ruled g attribute c t d s h =
    let r = both_true (ltb (tag_id t) c) (leb (tag_size t) removal_size) h in
    let low : type_user_attr ≤ tag_type3 t = s.0 in
    let high : tag_type3 t < type_user_attr + 2 ^ 8 = s.1 in
    let two : 2 + tag_chunk t ≡ suc (suc (tag_chunk t)) = omega arith in
    ruled_set g c t (2 + tag_chunk t) d attribute (act_attr t d low high) (omega arith) (ltb-true (tag_id t) c r.0)
    refl refl (rw two (omega (arith, chunk_of t), omega arith)) r.1
ruled g tail c t d s h =
    let r = both_true (eqb (tag_id t) no_slot) (eqb (tag_size t) 8) h in
    ruled_skip g c t d tail (omega (arith, s.0)) refl refl (λ w. eight_long t (eqb-true (tag_size t) 8 r.1))
ruled g move c t d s h =
    ruled_skip g c t d move (omega arith) refl refl
    (λ w. absurd (not_true (is_wide t) (not_wide t (inr (omega arith))) w))
ruled g forward c t d s h =
    let r = both_true (eqb (tag_id t) no_slot) (eqb (tag_size t) 8) h in
    ruled_skip g c t d forward (omega arith) refl refl (λ w. eight_long t (eqb-true (tag_size t) 8 r.1))
ruled g bad c t d s h = absurd (let z : ◌≡◌ {A = ℕ} 0 1 = cc in omega arith)

-- an entry of a commit: no name makes a slot
pub ruled_entry : (R : Rule) (c t : ℕ) (d : List ℕ) → Says (tag_type3 t) R
    → rule_holds R c (tag_id t) (tag_size t) ≡ true → Ruled false c c R t d
ruled_entry R c t d s h =
    let e : count_raised false R c (tag_id t) ≡ c = raised_never R c (tag_id t) in
    subst (λ (n : ℕ). Ruled false c n R t d) e (ruled false R c t d s (rw e h))
