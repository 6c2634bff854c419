-- The table of a regular log: run from entry to entry it is what the directory machine says, and it is too small
-- exactly where after some entry more are live. Assumes nothing.
use Rattle.std.specs.Prelude.{◌≡◌, refl, ◌≢◌, Bool, true, false, cond, ◌&&◌, length, eqb, leb, None, Some}
use Rattle.std.proofs.Common.{sym, ap, ◌∙◌}
use mathlib.Core.List.{List, [], ◌∷◌}
use Prim.Native.Nat.{ℕ, ◌+◌, ◌*◌, ◌^◌, ◌≤◌, ◌<◌}
use native.Mathlib.Omega.{arith}
use Rattle.format.specs.Tag.{tag_type3, tag_chunk, tag_id, tag_size, tag_delete, tag_length}
use Rattle.format.specs.Kind.{is_name}
use Rattle.format.specs.Walk.{Event, ent, chk, inv}
use Rattle.format.specs.Log.{log}
use Rattle.format.specs.Regular.{Rule, rule_of, between, rule_holds, count_after, grows_after, count_raised, regular_from}
use Rattle.format.specs.Regular.{Regular}
use Rattle.format.specs.declared.Rules.TheVariants.{Littlefs}
use Rattle.format.specs.Directory.{classes, seat_class, Slot, Act, mk, rm, put, skip, is_struct, is_attr, act, load_of}
use Rattle.format.specs.Directory.{apply, apply_all}
use Rattle.format.specs.Index.{placed_act, placed_from, dir_places, places_after, ran_on, fit_from, built}
use Rattle.theory.specs.Walk.Step.{both_true}
use Rattle.theory.specs.Directory.Machine.{most_slots, grows_behind}
use Rattle.theory.specs.Directory.Types.{type1_of, chunk_of}
use Rattle.theory.specs.Back.EventBytes.{Stands, log_stands}
use Rattle.theory.specs.Lookup.SlotCount.{AllowedFrom, slots_after, length_apply}
use Rattle.theory.specs.Lookup.OnBlock.{FewFrom}
use Rattle.theory.specs.Rules.RuledEntry.{ruled, rule_says}
use Rattle.index_theory.specs.Places.{FitsIn, AllFit}
use Rattle.index_theory.specs.Step.{ActFits, apply_fits, step_places}

-- ---- an entry that passed its rule puts what belongs there
module _ (off t : ℕ) (some_type : 0 < tag_type3 t) where
  same_class : seat_class (tag_type3 t * 2 ^ 20) ≡ seat_class t
  unfolding seat_class
  same_class =
      let u : tag_type3 (tag_type3 t * 2 ^ 20) ≡ tag_type3 t = omega arith in
      rw (type1_of t, type1_of (tag_type3 t * 2 ^ 20), chunk_of t, chunk_of (tag_type3 t * 2 ^ 20), u)

  load_fits : (c : ℕ) → seat_class t ≡ c → FitsIn c (load_of t (tag_size t ∷ (off + 4) ∷ []))
  load_fits c e = go (tag_delete t)
    where
      go : (x : Bool) → FitsIn c (cond x None (Some (record { type = tag_type3 t; bytes = tag_size t ∷ (off + 4) ∷ [] })))
      go true = tt
      go false = record { some_type = some_type; type = omega arith; size = omega arith; class = same_class ∙ e }

  pub placed_fits : (c : ℕ) → slots_after c (placed_act off t) ≤ most_slots → ActFits (placed_act off t)
  unfolding placed_act act seat_class slots_after load_fits
  placed_fits c h = go (is_name t) (is_struct t) (is_attr t) (λ k e. load_fits k e) h
    where
      d : List ℕ
      d = tag_size t ∷ (off + 4) ∷ []

      other : Bool → Bool → Act
      other m r = cond m (mk (tag_id t)) (cond r (rm (tag_id t)) skip)

      none_put : (m r : Bool) → ActFits (other m r)
      none_put true r = tt
      none_put false true = tt
      none_put false false = tt

      go : (n s a : Bool)
          → ((k : ℕ) → cond n 0 (cond s 1 (cond a (2 + tag_chunk t) classes)) ≡ k → FitsIn k (load_of t d))
          → slots_after c (cond n (put (tag_id t) 0 (load_of t d)) (cond s (put (tag_id t) 1 (load_of t d))
          (cond a (put (tag_id t) (2 + tag_chunk t) (load_of t d))
          (other (eqb (tag_type3 t) 0x401) (eqb (tag_type3 t) 0x4ff))))) ≤ most_slots
          → ActFits (cond n (put (tag_id t) 0 (load_of t d)) (cond s (put (tag_id t) 1 (load_of t d))
          (cond a (put (tag_id t) (2 + tag_chunk t) (load_of t d))
          (other (eqb (tag_type3 t) 0x401) (eqb (tag_type3 t) 0x4ff)))))
      go true s a f h = (omega arith, omega arith, f 0 refl)
      go false true a f h = (omega arith, omega arith, f 1 refl)
      go false false true f h = (omega arith, omega arith, f (2 + tag_chunk t) refl)
      go false false false f h = none_put (eqb (tag_type3 t) 0x401) (eqb (tag_type3 t) 0x4ff)

-- no type is 0 in a regular log
some_rule : (R : Rule) (c t : ℕ) → R ≡ rule_of true (tag_type3 t) → rule_holds R c (tag_id t) (tag_size t) ≡ true
    → tag_type3 t ≢ 0
unfolding rule_of rule_holds
some_rule R c t e h z =
    let w : R ≡ rule_of true 0 = e ∙ ap (rule_of true) z in
    let n : rule_holds (rule_of true 0) c (tag_id t) (tag_size t) ≡ true = rw w at h in
    absurd (let y : ◌≡◌ {A = ℕ} 0 1 = cc in omega arith)

abbrev pub ActsFit : List Act → Type 0
ActsFit [] = Unit {0}
ActsFit (a ∷ l) = ActFits a × ActsFit l

-- the acts of a regular log, from a count on
pub record Placing (g : Bool) (c : ℕ) (l : List Act) : Type 0 where
  pub allowed : AllowedFrom g c l
  pub few : FewFrom c l
  pub fits : ActsFit l

pub placing : (es : List Event) (off : ℕ) (g : Bool) (c : ℕ) → Stands es → c ≤ most_slots → regular_from g c es ≡ true
    → Placing g c (placed_from off es)
unfolding regular_from placed_from placed_act slots_after
placing [] off g c st low h = record { allowed = tt; few = tt; fits = tt }
placing (ent t d ∷ es) off g c st low h =
    let R : Rule = rule_of true (tag_type3 t) in
    let n : ℕ = count_raised g R c (tag_id t) in
    let r = both_true (rule_holds R n (tag_id t) (tag_size t)) (regular_from (grows_after g R) (count_after R n) es) h in
    let u = ruled g R c t (tag_size t ∷ (off + 4) ∷ []) (rule_says (tag_type3 t) true) r.0 in
    let z : tag_type3 t ≢ 0 = some_rule R n t refl r.0 in
    let ih = placing es (off + tag_length t) (grows_after g R) (count_after R n) st.1 (u.few low) r.1 in
    record {
      allowed = (u.allowed, rw (u.slots, u.still) ih.allowed);
      few = rw u.slots (u.few low, ih.few);
      fits = (placed_fits off t (omega arith) c (rw u.slots (u.few low)), ih.fits);
    }
placing (chk t x ∷ es) off g c st low h =
    let r = both_true (between 4 1_022 (tag_size t)) (regular_from g c es) h in
    let ih = placing es (off + tag_length t) g c st.1 low r.1 in
    record { allowed = (tt, ih.allowed); few = (low, ih.few); fits = (tt, ih.fits) }
placing (inv ∷ es) off g c st low h = absurd st

-- ---- the machine beside the table
pub ran_on_lem : (n : ℕ) (l : List Act) (g : Bool) (D : List Slot) → Placing g (length D) l → AllFit D
    → length D ≤ most_slots
    → ran_on n (dir_places 0 D) l ≡ cond (fit_from n D l) (Some (dir_places 0 (apply_all D l))) None
unfolding ran_on fit_from apply_all
ran_on_lem n [] g D p f few = refl
ran_on_lem n (a ∷ l) g D p f few =
    let e : places_after (dir_places 0 D) a ≡ dir_places 0 (apply D a) =
    step_places g D a p.allowed.0 p.fits.0 f few in
    let k : length (apply D a) ≡ slots_after (length D) a = length_apply g D a p.allowed.0 in
    let ih = ran_on_lem n l (grows_behind g a) (apply D a)
    (record { allowed = rw k p.allowed.1; few = rw k p.few.1; fits = p.fits.1 })
    (apply_fits D a p.fits.0 f) (rw k p.few.0) in
    rw e (go (leb (length (dir_places 0 (apply D a))) n) ih)
  where
    go : (x : Bool) → ran_on n (dir_places 0 (apply D a)) l
        ≡ cond (fit_from n (apply D a) l) (Some (dir_places 0 (apply_all (apply D a) l))) None
        → cond x (ran_on n (dir_places 0 (apply D a)) l) None
        ≡ cond (x && fit_from n (apply D a) l) (Some (dir_places 0 (apply_all (apply D a) l))) None
    go true ih = ih
    go false ih = refl

-- a build from nothing
pub built_is : (n : ℕ) (b : List ℕ) → Regular Littlefs (log b) ≡ true
    → built n (log b) ≡ ran_on n [] (placed_from 4 (log b))
unfolding built dir_places Regular
built_is n b h = sym (ran_on_lem n (placed_from 4 (log b)) true []
    (placing (log b) 4 true 0 (log_stands b) (omega arith) h) tt
    (omega arith))
