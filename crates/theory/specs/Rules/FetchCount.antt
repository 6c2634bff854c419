-- Fetch's count, by names and splices as document 01 words it, is the number of slots in a log that is regular by
-- either rule. Assumes nothing.
use Rattle.std.specs.Prelude.{◌≡◌, refl, ◌⊎◌, Bool, true, false, cond, ◌&&◌, List, [], ◌∷◌, ℕ, suc, ◌/◌, ◌^◌, ◌≤◌, ◌<◌, eqb, leb, ltb}
use Rattle.std.proofs.Common.{sym, ap, ◌∙◌, inl, inr, arith, ne_eqb, leb-true, ltb-true}
use Rattle.format.specs.Tag.{tag_type1, tag_type3, tag_chunk, tag_id, tag_size}
use Rattle.format.specs.Kind.{type_name, type_splice, type_create, type_delete, type_check, is_name, is_splice}
use Rattle.format.specs.Count.{count_named}
use Rattle.format.specs.Walk.{Event, ent, chk, inv}
use Rattle.format.specs.Record.{counted, count_of}
use Rattle.format.specs.Regular.{Rule, rule_of, between, rule_holds, count_after, regular_from, Regular, create, delete}
use Rattle.format.specs.Regular.{name, inlined, eight, attribute, tail, move, forward, bad, grows_after}
use Rattle.format.specs.Regular.{count_raised}
use Rattle.format.specs.declared.Rules.TheVariants.{Littlefs}
use Rattle.format.specs.Directory.{acts}
use Rattle.theory.specs.Walk.Step.{both_true}
use Rattle.theory.specs.Directory.Machine.{most_slots}
use Rattle.theory.specs.Directory.Types.{type1_of, not_splice, chunk_of}
use Rattle.theory.specs.Lookup.SlotCount.{slots_after, slots_after_all}
use Rattle.theory.specs.Rules.RuledEntry.{ruled, Says, rule_says}

-- ---- the tests by the whole type
is_name_lem : (t : ℕ) → tag_type3 t < 2 ^ 8 → is_name t ≡ true
is_name_lem t h = let e : tag_type1 t ≡ type_name = type1_of t ∙ omega arith in rw e

not_name : (t : ℕ) → 2 ^ 8 ≤ tag_type3 t → is_name t ≡ false
not_name t h = ne_eqb (tag_type1 t) type_name (λ q. omega (arith, type1_of t))

is_splice_lem : (t type : ℕ) → tag_type3 t ≡ type → type / 2 ^ 8 ≡ 4 → is_splice t ≡ true
is_splice_lem t type is h = let e : tag_type1 t ≡ type_splice = type1_of t ∙ omega arith in rw e

-- an entry that is neither name nor splice leaves the count alone
neither : (c t : ℕ) → 2 ^ 8 ≤ tag_type3 t → (tag_type3 t < type_splice) ⊎ (type_check ≤ tag_type3 t) → counted c t ≡ c
unfolding counted
neither c t h k = rw (not_name t h, not_splice t k)

-- ---- what an entry that passes its rule makes of the count
pub ruled_count : (g : Bool) (R : Rule) (c t : ℕ) → Says (tag_type3 t) R
    → rule_holds R (count_raised g R c (tag_id t)) (tag_id t) (tag_size t) ≡ true
    → c ≤ most_slots → counted c t ≡ count_after R (count_raised g R c (tag_id t))
unfolding counted rule_holds count_raised count_after
ruled_count g create c t s h low =
    let r = both_true (leb (tag_id t) c && leb c 1_022) (eqb (tag_size t) 0) h in
    let q = both_true (leb (tag_id t) c) (leb c 1_022) r.0 in
    let one : tag_chunk t ≡ 1 = chunk_of t ∙ omega arith in
    rw (not_name t (omega arith), is_splice_lem t type_create s refl, one) (omega (arith, leb-true c 1_022 q.1))
ruled_count g delete c t s h low =
    let all : tag_chunk t ≡ 0xff = chunk_of t ∙ omega arith in
    rw (not_name t (omega arith), is_splice_lem t type_delete s refl, all) (omega arith)
ruled_count g name c t s h low =
    let b : Bool = g && (leb c (tag_id t) && leb (tag_id t) 1_022) in
    let r = both_true (ltb (tag_id t) (cond b (suc (tag_id t)) c)) (between 1 1_022 (tag_size t)) h in
    rw (is_name_lem t s) (go b refl (ltb-true (tag_id t) (cond b (suc (tag_id t)) c) r.0))
  where
    go : (b : Bool) → g && (leb c (tag_id t) && leb (tag_id t) 1_022) ≡ b → tag_id t < cond b (suc (tag_id t)) c
        → count_named c (tag_id t) ≡ cond b (suc (tag_id t)) c
    go true e k =
        let q = both_true (leb c (tag_id t)) (leb (tag_id t) 1_022)
        (both_true g (leb c (tag_id t) && leb (tag_id t) 1_022) e).1 in
        omega (arith, leb-true c (tag_id t) q.0)
    go false e k = omega arith
ruled_count g inlined c t s h low = neither c t (omega arith) (inl (omega arith))
ruled_count g eight c t s h low = neither c t (omega (arith, s.0)) (inl (omega (arith, s.1)))
ruled_count g attribute c t s h low = neither c t (omega (arith, s.0)) (inl (omega (arith, s.1)))
ruled_count g tail c t s h low = neither c t (omega (arith, s.0)) (inr (omega (arith, s.0)))
ruled_count g move c t s h low = neither c t (omega arith) (inr (omega arith))
ruled_count g forward c t s h low = neither c t (omega arith) (inr (omega arith))
ruled_count g bad c t s h low = absurd (let z : ◌≡◌ {A = ℕ} 0 1 = cc in omega arith)

-- ---- so fetch's count of a regular log is the number of its slots
count_slots : (es : List Event) (g : Bool) (c : ℕ) → regular_from g c es ≡ true → c ≤ most_slots
    → count_of c es ≡ slots_after_all c (acts es)
unfolding regular_from count_of acts slots_after_all slots_after
count_slots [] g c h low = refl
count_slots (ent t d ∷ es) g c h low =
    let R : Rule = rule_of true (tag_type3 t) in
    let n : ℕ = count_raised g R c (tag_id t) in
    let r = both_true (rule_holds R n (tag_id t) (tag_size t)) (regular_from (grows_after g R) (count_after R n) es) h in
    let says : Says (tag_type3 t) R = rule_says (tag_type3 t) true in
    let u = ruled g R c t d says r.0 in
    ap (λ (n : ℕ). count_of n es) (ruled_count g R c t says r.0 low)
    ∙ count_slots es (grows_after g R) (count_after R n) r.1 (u.few low)
    ∙ ap (λ (n : ℕ). slots_after_all n (acts es)) (sym u.slots)
count_slots (chk t x ∷ es) g c h low =
    let r = both_true (between 4 1_022 (tag_size t)) (regular_from g c es) h in
    count_slots es g c r.1 low
count_slots (inv ∷ es) g c h low = count_slots es g c h low

pub regular_slots : (es : List Event) → Regular Littlefs es ≡ true → count_of 0 es ≡ slots_after_all 0 (acts es)
unfolding Regular
regular_slots es h = count_slots es true 0 h (omega arith)
