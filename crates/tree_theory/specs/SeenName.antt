-- The lookup of `lfs_dir_getinfo` for a name, on the bytes of a block with a regular log: it finds the name that the
-- directory machine has where hidden names are veiled. Assumes nothing.
use Rattle.std.specs.Prelude.{◌≡◌, refl, ◌≢◌, Bool, false, cond, ℕ, ◌+◌, ◌^◌, ◌≤◌, ◌<◌, get_or, eqb, leb, ltb, None, Option, Some}
use Rattle.std.proofs.Common.{sym, ap₂, ◌∙◌, inl, ne_eqb, leb-true}
use Rattle.std.proofs.Math.Path.{ap}
use Rattle.std.proofs.Math.Bool.{true}
use mathlib.Core.List.{List, [], ◌∷◌, reverse, reverse_aux, map}
use native.Mathlib.Omega.{arith}
use Rattle.std.proofs.Math.ListN.{length}
use Rattle.format.specs.Word.{minus32}
use Rattle.format.specs.Tag.{tag_type3, tag_chunk, tag_id, tag_size, removal_size, tag_delete, tag_of}
use Rattle.format.specs.Kind.{type_name, type_create, type_delete, is_name}
use Rattle.format.specs.Walk.{Event, ent, chk, inv}
use Rattle.format.specs.Log.{log, log_end, log_end_tag}
use Rattle.format.specs.Back.{Met, back}
use Rattle.format.specs.Look.{bytes_of, wlook}
use Rattle.format.specs.Lookup.{name_mask}
use Rattle.format.specs.Directory.{Load, Act, mk, rm, put, skip, empty, dir_of, is_struct, is_attr, load_of, act}
use Rattle.format.specs.Directory.{acts}
use Rattle.format.specs.Regular.{Rule, between, rule_holds, count_after, grows_after, logged_rule}
use Rattle.format.specs.Regular.{count_at, regular_from, Regular, create, delete, name, inlined, eight, attribute, tail}
use Rattle.format.specs.Regular.{move, forward, bad}
use Rattle.format.specs.declared.Rules.TheVariants.{Littlefs}
use Rattle.format.specs.TreeMachine.{hidden, uncovered}
use Rattle.format.proofs.Tags.{of_type3, of_size, of_valid}
use Rattle.theory.specs.Walk.Step.{both_true}
use Rattle.theory.specs.Directory.Machine.{most_slots, find, find_dir}
use Rattle.theory.specs.Directory.Types.{act_name, act_struct, act_attr, act_create, act_delete, act_other}
use Rattle.theory.specs.Back.BackActs.{bytes_at, seen_as}
use Rattle.theory.specs.Rules.RuledEntry.{Says, rule_says}
use Rattle.theory.specs.Lookup.ByMask.{Shapes, seen_by, ShapesBy, holds_as, wlook_by, bytes_alike}
use Rattle.theory.specs.Lookup.OnBlock.{Searchable, regular_searchable, BackFrom, block_back}
use Rattle.theory.specs.Commit.Tested.{regular_log}
use Rattle.tree_theory.specs.Veiled.{veil, veil_not, veil_act, hidden_between, query_seen, veil_shape}
use Rattle.tree_theory.specs.Covered.{veiled, Kept, AllKept, allowed_veiled, inside_veiled, few_veiled}
use Rattle.tree_theory.specs.Covered.{visible, find_visible, find_uncovered}
use Rattle.format.specs.declared.Found.{Found}

-- ---- the act of a veiled tag
kept_load : (t : ℕ) (x : List ℕ) (j : ℕ) → Kept (put j 0 (load_of t x)) → tag_delete t ≡ false
kept_load t x j k = go (tag_delete t) k
  where
    go : (b : Bool) → Kept (put j 0 (cond b None (Some (record { type = tag_type3 t; bytes = x })))) → b ≡ false
    go true h = absurd (h refl)
    go false h = refl

-- a load of a type that is not hidden is left alone
not_veiled : (t : ℕ) (x : List ℕ) (j c : ℕ) → hidden (tag_type3 t) ≡ false
    → put j c (load_of t x) ≡ veiled (put j c (load_of t x))
unfolding veiled
not_veiled t x j c h = go (tag_delete t)
  where
    go : (b : Bool) → (let v : Option Load = cond b None (Some (record { type = tag_type3 t; bytes = x })) in
        put j c v ≡ veiled (put j c v))
    go true = refl
    go false = rw h

seen_as_it_is : (t : ℕ) (x : List ℕ) → hidden (tag_type3 t) ≡ false → act t x ≡ veiled (act t x)
unfolding veiled act
seen_as_it_is t x h =
    go (is_name t) (is_struct t) (is_attr t) (eqb (tag_type3 t) type_create) (eqb (tag_type3 t) type_delete)
  where
    go : (n s a c r : Bool) → (let b : Act = cond n (put (tag_id t) 0 (load_of t x))
        (cond s (put (tag_id t) 1 (load_of t x)) (cond a (put (tag_id t) (2 + tag_chunk t) (load_of t x))
        (cond c (mk (tag_id t)) (cond r (rm (tag_id t)) skip)))) in
        b ≡ veiled b)
    go true s a c r = not_veiled t x (tag_id t) 0 h
    go false true a c r = not_veiled t x (tag_id t) 1 h
    go false false true c r = not_veiled t x (tag_id t) (2 + tag_chunk t) h
    go false false false true r = refl
    go false false false false true = refl
    go false false false false false = refl

-- a hidden name that is no removal
is_veiled : (t : ℕ) (x : List ℕ) → hidden (tag_type3 t) ≡ true → tag_delete t ≡ false
    → put (tag_id t) 257 (load_of (tag_of 0x3ff (tag_id t) (tag_size t)) x) ≡ veiled (put (tag_id t) 0 (load_of t x))
unfolding veiled
is_veiled t x h k =
    let u : ℕ = tag_of 0x3ff (tag_id t) (tag_size t) in
    let kind : tag_type3 u ≡ 0x3ff = of_type3 0x3ff (tag_id t) (tag_size t) (omega arith) (omega arith) (omega arith) in
    let size : tag_size u ≡ tag_size t = of_size 0x3ff (tag_id t) (tag_size t) (omega arith) in
    rw (size, k, kind, h)

pub act_veiled : (t : ℕ) (x : List ℕ) → Kept (act t x) → act (veil t) x ≡ veiled (act t x)
act_veiled t x k = go (hidden (tag_type3 t)) refl
  where
    go : (b : Bool) → hidden (tag_type3 t) ≡ b → act (veil t) x ≡ veiled (act t x)
    go true e =
        let name : act t x ≡ put (tag_id t) 0 (load_of t x) = act_name t x (hidden_between (tag_type3 t) e).1 in
        veil_act t x e ∙ is_veiled t x e (kept_load t x (tag_id t) (rw name at k)) ∙ ap veiled (sym name)
    go false e = ap (λ u. act u x) (veil_not t e) ∙ seen_as_it_is t x e

-- ---- in a regular log no name is a removal
class_kept : (j c : ℕ) (v : Option Load) → c ≢ 0 → Kept (put j c v)
class_kept j c None h = h
class_kept j c (Some v) h = tt

name_kept : (t : ℕ) (x : List ℕ) (j : ℕ) → tag_delete t ≡ false → Kept (put j 0 (load_of t x))
name_kept t x j h = rw h tt

rule_kept : (R : Rule) (n t : ℕ) (d : List ℕ) → Says (tag_type3 t) R → rule_holds R n (tag_id t) (tag_size t) ≡ true
    → Kept (act t d)
unfolding rule_holds
rule_kept create n t d s h = rw (act_create t d s) tt
rule_kept delete n t d s h = rw (act_delete t d s) tt
rule_kept name n t d s h =
    let b = both_true (ltb (tag_id t) n) (between 1 1_022 (tag_size t)) h in
    let c = both_true (leb 1 (tag_size t)) (leb (tag_size t) 1_022) b.1 in
    let m : tag_size t ≤ 1_022 = leb-true (tag_size t) 1_022 c.1 in
    rw (act_name t d s) (name_kept t d (tag_id t) (ne_eqb (tag_size t) removal_size (λ q. omega arith)))
rule_kept inlined n t d s h = rw (act_struct t d (omega arith) (omega arith)) (class_kept (tag_id t) 1 (load_of t d)
    (λ q. omega
    arith))
rule_kept eight n t d s h = rw (act_struct t d s.0 (omega (arith, s.1))) (class_kept (tag_id t) 1 (load_of t d)
    (λ q. omega
    arith))
rule_kept attribute n t d s h = rw (act_attr t d s.0 s.1) (class_kept (tag_id t) (2 + tag_chunk t) (load_of t d)
    (λ q. omega arith))
rule_kept tail n t d s h = rw (act_other t d (omega (arith, s.0))) tt
rule_kept move n t d s h = rw (act_other t d (omega arith)) tt
rule_kept forward n t d s h = rw (act_other t d (omega arith)) tt
rule_kept bad n t d s h = absurd (let z : ◌≡◌ {A = ℕ} 0 1 = cc in omega arith)

all_kept : (es : List Event) (g : Bool) (c : ℕ) → regular_from g c es ≡ true → AllKept (acts es)
unfolding regular_from acts
all_kept [] g c h = tt
all_kept (ent t d ∷ es) g c h =
    let R : Rule = logged_rule t in
    let r = both_true (rule_holds R (count_at g c t) (tag_id t) (tag_size t))
    (regular_from (grows_after g R) (count_after R (count_at g c t)) es) h in (
      rule_kept R (count_at g c t) t d (rule_says (tag_type3 t) true) r.0,
      all_kept es (grows_after g R) (count_after R (count_at g c t)) r.1,
    )
all_kept (chk t x ∷ es) g c h = (
  tt,
  all_kept es g c (both_true (between 4 1_022 (tag_size t))
      (regular_from g c es) h).1,
)
all_kept (inv ∷ es) g c h = all_kept es g c h

kept_rev : (l r : List Act) → AllKept l → AllKept r → AllKept (reverse_aux l r)
kept_rev [] r h k = k
kept_rev (a ∷ l) r h k = kept_rev l (a ∷ r) h.1 (h.0, k)

-- ---- the walk back with other eyes
sees_veiled : (at : Met → List ℕ) (ms : List Met) → AllKept (map (seen_as at) ms)
    → map (seen_by veil at) ms ≡ map veiled (map (seen_as at) ms)
unfolding seen_as
sees_veiled at [] k = refl
sees_veiled at (m ∷ ms) k = ap₂ (λ a l. a ∷ l) (act_veiled m.tag (at m) k.0) (sees_veiled at ms k.1)

shapes_veiled : (at : Met → List ℕ) (ms : List Met) → Shapes at ms → ShapesBy veil at ms
unfolding seen_as
shapes_veiled at [] h = tt
shapes_veiled at (m ∷ ms) h = (veil_shape m.tag (at m) h.0, shapes_veiled at ms h.1)

-- ---- of a block
module _ (b : List ℕ) (regular : Regular Littlefs (log b) ≡ true) (some' : log b ≢ []) where
  abbrev newest : List Act
  newest = reverse (acts (log b))

  search : Searchable (log b)
  search = regular_searchable (log b) (regular_log b (log b) refl regular)

  met : BackFrom b (log b)
  met = block_back b (log b) refl some' search

  kept : AllKept newest
  unfolding Regular
  kept = kept_rev (acts (log b)) [] (all_kept (log b) true 0 regular) tt

  -- what is found under 0x780, for a key of any size
  abbrev pub seen_hit : ℕ → ℕ → Option Found
  seen_hit i s = wlook true name_mask (tag_of type_name i s) 0 (back b (log_end (log b)) (log_end_tag (log b)))

  pub seen_name : (i s : ℕ) → i < length (dir_of (log b)) → s < 2 ^ 10
      → holds_as (bytes_of b) (seen_hit i s) ≡ find 0 i (map veiled newest)
  unfolding dir_of
  seen_name i s hi hs =
      let B : List Met = back b (log_end (log b)) (log_end_tag (log b)) in
      let e : map (seen_by veil (bytes_at b)) B ≡ map veiled newest =
      sees_veiled (bytes_at b) B (rw met.is kept) ∙ ap (map veiled) met.is in
      let few : length (dir_of (log b)) ≤ most_slots = search.few in
      let key : minus32 (tag_of type_name i s) 0 ≡ tag_of type_name i s =
      let v : tag_of type_name i s < 2 ^ 31 = of_valid type_name i s (omega arith) (omega arith) hs in omega arith in
      let f = wlook_by veil (bytes_at b) (bytes_of b) (bytes_alike b) name_mask type_name 0 s i query_seen hs (omega arith)
      true B 0 i (omega arith) (shapes_veiled (bytes_at b) B met.shaped)
      (rw e (allowed_veiled true newest search.rules)) (rw e (few_veiled newest search.low)) (omega arith)
      (rw e (inside_veiled true i newest (inl hi))) key in
      f.0 ∙ ap (find 0 i) e

  -- a newest name that is not hidden
  pub seen_newest : (i s : ℕ) (v : Load) → i < length (dir_of (log b)) → s < 2 ^ 10
      → get_or (dir_of (log b)) i empty 0 ≡ Some v → hidden v.type ≡ false
      → holds_as (bytes_of b) (seen_hit i s) ≡ Some v
  unfolding dir_of
  seen_newest i s v hi hs e h =
      seen_name i s hi hs
      ∙ find_visible newest i v (find_dir true newest 0 i search.rules (inl hi) ∙ e) h

  -- where none covers another
  pub seen_uncovered : uncovered (log b) ≡ true → (i s : ℕ) → i < length (dir_of (log b)) → s < 2 ^ 10
      → holds_as (bytes_of b) (seen_hit i s) ≡ visible (get_or (dir_of (log b)) i empty 0)
  unfolding dir_of
  seen_uncovered u i s hi hs =
      seen_name i s hi hs
      ∙ find_uncovered true newest i search.rules (inl hi) u
      ∙ ap visible (find_dir true newest 0 i search.rules (inl hi))
