-- Document 02, L4: "Prove it equal to asking slot by slot on every regular log with no pending move." Asking slot by
-- slot is said of `lfs_dir_getslice`'s own definition. Assumes nothing.
use Rattle.std.specs.Prelude.{◌≡◌, ◌≢◌, Bool, true, false, not, ◌&&◌, ◌||◌, length, take, replicate, get_or, eqb, Err, None, Ok, Option, Result, Some}
use Rattle.std.proofs.Math.Path.{refl, ap}
use Rattle.std.proofs.Common.{sym, ap₂, ◌∙◌, ne_eqb, lt-ltb}
use Rattle.std.proofs.Math.Bool.{cond}
use mathlib.Core.List.{List, [], ◌∷◌, ◌++◌}
use Prim.Native.Nat.{ℕ, zero, suc, ◌+◌, ◌-◌, ◌^◌, ◌≤◌, ◌<◌}
use native.Mathlib.Omega.{arith}
use Rattle.std.proofs.lemmas.List.{length-replicate}
use Rattle.format.specs.Tag.{tag_type3, tag_size, tag_of}
use Rattle.format.specs.Kind.{type_name}
use Rattle.format.specs.Log.{log}
use Rattle.format.specs.Answer.{got_word}
use Rattle.format.specs.Gstate.{gstate_has_move_here}
use Rattle.format.specs.Fetch.{pair_fits, too_high, fetch_of}
use Rattle.format.specs.Look.{mask_type1}
use Rattle.format.specs.Lookup.{block_of, blank_buffer, getslice_of, getslice_buffer}
use Rattle.format.specs.Regular.{Regular, rules_fit, rules_of}
use Rattle.format.specs.Directory.{Load, Slot, empty, dir_of}
use Rattle.format.specs.Machine.{held_word, held_buffer}
use Rattle.format.specs.Machine as machine
use Rattle.format.specs.Writer.{is_second}
use Rattle.format.specs.Find.{same_bytes, is_named, first_named, find_in, find_of}
use Rattle.format.specs.declared.Geometry.{Geometry}
use Rattle.format.specs.declared.LfsMdir.{LfsMdir}
use Rattle.format.specs.declared.LfsGstate.{LfsGstate}
use Rattle.format.proofs.Growing.{widest}
use Rattle.format.proofs.Tags.{of_type3, of_size}
use Rattle.theory.specs.Blocks.SlotItems.{OkSlot, OkSlots, ok_get, ok_dir_of}
use Rattle.theory.specs.Commit.Tested.{regular_loads}
use Rattle.theory.proofs.Compact.AcceptedVerdict.{slots_few}
use Rattle.theory.specs.Fetch.FoundRecord.{past_test}
use Rattle.theory.proofs.Stopped.Shown.{block_is}
use Rattle.promises.specs.Directory.{directory_lookups}
use Rattle.format.specs.declared.Found.{Found}
use Rattle.format.specs.declared.Refusal.{Refusal}
use Rattle.format.specs.declared.Fetched.{Fetched}
use Rattle.format.specs.Record.{fetched}
use Rattle.format.specs.Answer.{answer_mdir}

-- ---- asking
-- an answer with "the given bytes and type": the type in the tag that was found, and as many bytes as its size says
abbrev pub answers_name : List ℕ → ℕ → Result Found Refusal → List ℕ → Bool
answers_name name type (Ok e) buffer = eqb (tag_type3 e.tag) type && same_bytes (take (tag_size e.tag) buffer)
    name
answers_name name type (Err r) buffer = false

module _ (g : Geometry) (b0 b1 : List ℕ) (n0 n1 : ℕ) (dir : LfsMdir) (gdisk : LfsGstate) (name : List ℕ)
    (type : ℕ) where
  -- the lookup of the name of the slot id, with a buffer for the longest
  abbrev pub name_answer : ℕ → Result Found Refusal
  name_answer id = getslice_of g b0 b1 n0 n1 dir gdisk mask_type1 (tag_of type_name id 0) 0 (blank_buffer 1_022)

  abbrev pub name_buffer : ℕ → List ℕ
  name_buffer id = getslice_buffer g b0 b1 n0 n1 dir gdisk mask_type1 (tag_of type_name id 0) 0 (blank_buffer 1_022)

  abbrev pub asked : ℕ → Bool
  asked id = answers_name name type (name_answer id) (name_buffer id)

  -- n ids from id on, one after the other
  unfoldable pub ask_from : ℕ → ℕ → Result (Option ℕ) Refusal
  ask_from zero id = (Ok None)
  ask_from (suc n) id = cond (asked id) (Ok (Some id)) (ask_from n (suc id))

  -- "asking slot by slot": every id below the record's count
  abbrev pub asking : Result (Option ℕ) Refusal
  asking = ask_from dir.count 0

  -- ---- the slots hold what is answered
  asks_first : (D : List Slot) (id : ℕ)
      → ((k : ℕ) → k < length D → asked (id + k) ≡ is_named name type (get_or D k empty 0))
      → ask_from (length D) id ≡ first_named name type id D
  unfolding ask_from first_named
  asks_first [] id h = refl
  asks_first (s ∷ D) id h =
      let z : id + 0 ≡ id = omega arith in
      let here : asked id ≡ is_named name type (s 0) = ap asked (sym z) ∙ h 0 (omega arith) in
      let rest = asks_first D (suc id) (λ k l. let e : suc id + k ≡ id + suc k = omega arith in
      ap asked e ∙ h (suc k) (omega arith)) in
      rw here (ap (λ (x : Result (Option ℕ) Refusal). cond (is_named name type (s 0)) (Ok (Some id)) x) rest)

-- an answer's word is enough
abbrev word_names : List ℕ → ℕ → Result ℕ Refusal → List ℕ → Bool
word_names name type (Ok t) buffer = eqb (tag_type3 t) type && same_bytes (take (tag_size t) buffer) name
word_names name type (Err r) buffer = false

by_word : (name : List ℕ) (type : ℕ) (x : Result Found Refusal) (buffer : List ℕ)
    → answers_name name type x buffer ≡ word_names name type (got_word x) buffer
by_word name type (Ok e) buffer = refl
by_word name type (Err r) buffer = refl

-- what a slot holds, as it is answered
take_front : (l : List ℕ) (n : ℕ) (m : List ℕ) → length l ≤ n → take (length l) (take n l ++ m) ≡ l
take_front [] n m h = refl
take_front (x ∷ l) zero m h = absurd (omega arith)
take_front (x ∷ l) (suc n) m h = ap (λ (k : List ℕ). x ∷ k) (take_front l n m (omega arith))

held_names : (name : List ℕ) (type id : ℕ) (s : Slot) → OkSlot s → id < 2 ^ 10
    → word_names name type (held_word id (s 0)) (held_buffer (blank_buffer 1_022) (s 0)) ≡ is_named name type (s 0)
unfolding is_named
held_names name type id s ok low = go (s 0) refl
  where
    go : (o : Option Load) → s 0 ≡ o
        → word_names name type (held_word id o) (held_buffer (blank_buffer 1_022) o) ≡ is_named name type o
    go None e = refl
    go (Some v) e =
        let k = ok 0 v e in
        let n : ℕ = length v.bytes in
        let t : tag_type3 (tag_of v.type id n) ≡ v.type = of_type3 v.type id n (omega (arith, k.0)) low
        (omega (arith, k.1)) in
        let z : tag_size (tag_of v.type id n) ≡ n = of_size v.type id n (omega (arith, k.1)) in
        let f = take_front v.bytes (length (blank_buffer 1_022))
        (replicate (length (blank_buffer 1_022) - n) 0)
        (omega (arith, length-replicate {A = ℕ} 1_022 0, k.1)) in
        rw (t, z, f)

-- a pair that fetch finds passes its block count
low_enough : (g : Geometry) (b0 b1 : List ℕ) (n0 n1 count seed : ℕ) (dir : LfsMdir) (read : ℕ)
    → fetch_of g b0 b1 n0 n1 count seed ≡ Ok (fetched dir read) → too_high count n0 || too_high count n1 ≡ false
unfolding fetch_of
low_enough g b0 b1 n0 n1 count seed dir read f =
    let p = past_test (not (pair_fits g (length b0) (length b1) n0 n1)) _ _ dir read f in
    (past_test (too_high count n0 || too_high count n1) _ _ dir read p.1).0

found_same : {m k : LfsMdir} {s t : ℕ} → ◌≡◌ {A = Result Fetched Refusal} (Ok (fetched m s)) (Ok (fetched k t)) → m ≡ k
found_same e = ap answer_mdir e

-- THE THEOREM. The pair is one that fetch finds, its log is regular by the rule that is asked for, no move is pending,
-- and the name is not empty.
pub find_is_asking : (g : Geometry) (b0 b1 : List ℕ) (n0 n1 count seed rules : ℕ) (dir : LfsMdir) (read : ℕ)
    (gdisk : LfsGstate) (name : List ℕ) (type : ℕ) → fetch_of g b0 b1 n0 n1 count seed ≡ Ok (fetched dir read)
    → rules_fit rules ≡ true → Regular (rules_of rules) (log (block_of b0 b1 n0 dir)) ≡ true
    → gstate_has_move_here gdisk dir.pair ≡ false → length name ≢ 0
    → find_of g b0 b1 n0 n1 count seed rules name type ≡ asking g b0 b1 n0 n1 dir gdisk name type
unfolding find_of find_in
find_is_asking g b0 b1 n0 n1 count seed rules dir read gdisk name type f fits regular still filled =
    let b : List ℕ = block_of b0 b1 n0 dir in
    let D : List Slot = dir_of (log b) in
    let wide = widest (rules_of rules) (log b) regular in
    let S = directory_lookups g b0 b1 n0 n1 count seed dir read (rules_of rules) f regular in
    let same : S.dir ≡ dir
    = found_same (sym (S.fetched count seed (low_enough g b0 b1 n0 n1 count seed dir read f)) ∙ f) in
    let ok : OkSlots D = ok_dir_of (log b) (regular_loads b (log b) refl wide) in
    let number : length D ≡ dir.count = sym S.slots ∙ ap (λ (m : LfsMdir). m.count) same in
    let each : (k : ℕ) → k < length D → asked g b0 b1 n0 n1 dir gdisk name type (0 + k) ≡ is_named name type
    (get_or D k empty 0) = λ k l.
    let z : 0 + k ≡ k = omega arith in
    let a = S.lookups (machine.name k) gdisk 0 (blank_buffer 1_022) (lt-ltb k (length D) l)
    (ap (λ (m : LfsMdir). gstate_has_move_here gdisk m.pair) same ∙ still) (omega arith)
    (omega (arith, length-replicate {A = ℕ} 1_022 0)) in
    ap₂ (λ (m : LfsMdir) (i : ℕ). asked g b0 b1 n0 n1 m gdisk name type i) (sym same) z
    ∙ by_word name type (name_answer g b0 b1 n0 n1 S.dir gdisk name type k)
    (name_buffer g b0 b1 n0 n1 S.dir gdisk name type k)
    ∙ ap₂ (word_names name type) a.0 a.1
    ∙ held_names name type k (get_or D k empty) (ok_get D k ok) (omega (arith, slots_few b wide)) in
    rw (fits, ne_eqb (length name) 0 filled, f, ← block_is b0 b1 n0 dir (is_second n0 dir) refl, regular)
    (sym (asks_first g b0 b1 n0 n1 dir gdisk name type D 0 each)
    ∙ ap (λ (n : ℕ). ask_from g b0 b1 n0 n1 dir gdisk name type n 0) number)
