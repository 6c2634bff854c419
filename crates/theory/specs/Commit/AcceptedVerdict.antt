-- What the tests of an accepted commit give: the acceptance that demand 3 rests on (Acceptance.antt), of the block that
-- answers, its log, what is laid (the entries' items and the forward check, or none) and the check's size. Of the whole
-- verdict it is proved in proofs/Commit/AcceptedVerdict.antt. Assumes nothing.
use Rattle.std.specs.Prelude.{◌≡◌, ◌≢◌, Bool, true, false, not, cond, ◌&&◌, ℕ, ◌+◌, ◌-◌, ◌*◌, ◌/◌, ◌%◌, ◌≤◌, ◌<◌, length, drop, ltb, Err, Ok, Result}
use Rattle.std.proofs.Math.Path.{refl, sym}
use Rattle.std.proofs.Common.{◌∙◌, le-div_iff_mul-le}
use mathlib.Core.List.{List, []}
use native.Mathlib.Omega.{arith}
use Rattle.std.proofs.Math.Nat.{div-add-mod', mod-lt, mul-mod_left, add-mod, mod-eq_of_lt, zero-add, mul-le-mul_right, div-mul-le_self}
use Rattle.std.proofs.Math.Dec.{leb, eqb}
use borrow.Author.Tests.{leb-true, le-leb, ltb-false}
use Rattle.format.specs.Word.{all_ones}
use Rattle.format.specs.Tag.{tag_length}
use Rattle.format.specs.Walk.{Event}
use Rattle.format.specs.Log.{log, log_end, log_end_tag}
use Rattle.format.specs.Record.{count_of}
use Rattle.format.specs.View.{at}
use Rattle.format.specs.Fetch.{geometry_fits, images_fit, pair_fits}
use Rattle.format.specs.Regular.{Regular, rules_fit}
use Rattle.format.specs.declared.Rules.{Rules}
use Rattle.format.specs.declared.Rules.TheVariants.{Littlefs}
use Rattle.format.specs.Commit.{Item, check_tag}
use Rattle.format.specs.Erased.{erased_fits, all_erased, validity_fits}
use Rattle.format.specs.Stores.{entries_length, coincides}
use Rattle.format.specs.Entries.{items_of, Judged, judge, bad, good}
use Rattle.format.specs.Room.{room_clean, room_of}
use Rattle.format.specs.Writer.{check_length, rounded_end, check_size, check_at, most_data, most_entries, writes_fit}
use Rattle.format.specs.Writer.{Verdict, block_at, room_then, placed, judged_by, fetched_then}
use Rattle.format.specs.Writer.{commit_fits, with_forward, refused, accepted}
use Rattle.format.specs.declared.Geometry.{Geometry}
use Rattle.format.specs.declared.LfsMdir.{LfsMdir}
use Rattle.format.specs.declared.Entry.{Entry}
use Rattle.format.specs.declared.Refusal.{Refusal}
use Rattle.format.specs.declared.Refusal.TheVariants.{NoSpace, Coincidence}
use Rattle.format.proofs.Rooms.{clean_holds}
use Rattle.theory.specs.Walk.Step.{both_true}
use Rattle.theory.specs.Log.TwoBlocks.{view_at}
use Rattle.format.specs.Directory.{acts}
use Rattle.theory.specs.Lookup.SlotCount.{slots_after_all}
use Rattle.theory.specs.Commit.Tested.{regular_count}
use Rattle.theory.specs.Commit.ForwardCheck.{with_made, with_hold}
use Rattle.theory.specs.Blocks.OtherItems.{check_length_lem}
use Rattle.theory.specs.Rules.FetchCount.{regular_slots}
use Rattle.theory.specs.Commit.Acceptance.{Accepts}
use Rattle.theory.specs.Rules.JudgedEntries.{judged_good}
use Rattle.format.specs.declared.Fetched.{Fetched}
use Rattle.format.specs.Record.{fetched}

-- ---- the check's size
module _ (prog p : ℕ) (some : 4 ≤ prog) where
  -- the rounded end is a multiple, the next one behind tag and checksum
  pub rounded : (p + check_length ≤ rounded_end prog p) × (rounded_end prog p < p + check_length + prog)
  unfolding rounded_end
  rounded = (
    omega (
      arith,
      div-add-mod' (p + check_length + (prog - 1)) prog,
      mod-lt (p + check_length + (prog - 1)) {m =
          prog} (omega arith),
    ),
    omega (arith, div-add-mod' (p + check_length + (prog - 1)) prog),
  )

  pub check_size_lem : prog ≤ 512 → (4 ≤ check_size prog p) × (check_size prog p ≤ 1_022)
      × (p + 4 + check_size prog p ≡ rounded_end prog p)
  unfolding check_size
  check_size_lem k = (omega (arith, rounded.0), omega (arith, rounded.1), omega (arith, rounded.0))

  pub check_ends : (p + 4 + check_size prog p) % prog ≡ 0
  unfolding check_size rounded_end
  check_ends =
      let e : p + 4 + (rounded_end prog p - (p + 4)) ≡ (p + check_length + (prog - 1)) / prog * prog =
      omega (arith, rounded.0) in
      rw e (mul-mod_left ((p + check_length + (prog - 1)) / prog) prog)

  -- "Its size, 4 or more, is the least that ends on a multiple of the program size"
  pub check_least : (size : ℕ) → 4 ≤ size → (p + 4 + size) % prog ≡ 0 → check_size prog p ≤ size
  unfolding check_size rounded_end
  check_least size h k =
      let r : (p + 4 + size + (prog - 1)) % prog ≡ prog - 1 =
      add-mod (p + 4 + size) (prog - 1) prog
      ∙ rw (k, mod-eq_of_lt {n = prog - 1} {m = prog} (omega arith), zero-add (prog - 1))
      (mod-eq_of_lt {n = prog - 1} {m = prog} (omega arith)) in
      let le : (p + check_length + (prog - 1)) / prog ≤ (p + 4 + size + (prog - 1)) / prog =
      (le-div_iff_mul-le {k = prog} {y = p + 4 + size + (prog - 1)} (omega arith)).1
      (omega (arith, div-mul-le_self (p + check_length + (prog - 1)) prog)) in
      omega (arith, div-add-mod' (p + 4 + size + (prog - 1)) prog, mul-le-mul_right prog le)

-- ---- tests that did not refuse
pub past : (b : Bool) (r : Refusal) (v : Verdict) (w : Bool) (is : List Item) (size : ℕ)
    → cond b (refused r) v ≡ accepted w is size → (b ≡ false) × (v ≡ accepted w is size)
past true r v w is size h = (cc, cc)
past false r v w is size h = (refl, h)

pub past_room : (r : Result Unit Refusal) (v : Verdict) (w : Bool) (is : List Item) (size : ℕ) → room_then r v ≡ accepted w is size
    → (r ≡ (Ok tt)) × (v ≡ accepted w is size)
past_room (Err r) v w is size h = (cc, cc)
past_room (Ok x) v w is size h = (refl, h)

pub record FoundThen (f : Result Fetched Refusal) (on : LfsMdir → Verdict) (v : Verdict) : Type 0 where
  pub m : LfsMdir
  pub s : ℕ
  pub found : f ≡ Ok (fetched m s)
  pub then : on m ≡ v

pub found_then : (f : Result Fetched Refusal) (on : LfsMdir → Verdict) (w : Bool) (is : List Item) (size : ℕ)
    → fetched_then f on ≡ accepted w is size → FoundThen f on (accepted w is size)
found_then (Err r) on w is size h = absurd (let z : ◌≡◌ {A = ℕ} 0 1 = cc in omega arith)
found_then (Ok f) on w is size h = record { m = f.dir; s = f.seed; found = refl; then = h }

pub record GoodThen (j : Judged) (v v' : Verdict) : Type 0 where
  pub c : ℕ
  pub all : j ≡ good c
  pub then : v ≡ v'

pub good_then : (j : Judged) (v : Verdict) (w : Bool) (is : List Item) (size : ℕ) → judged_by j v ≡ accepted w is size
    → GoodThen j v (accepted w is size)
good_then (bad i) v w is size h = absurd (let z : ◌≡◌ {A = ℕ} 0 1 = cc in omega arith)
good_then (good c) v w is size h = record { c = c; all = refl; then = h }

-- "program size 4 to 512"
pub fits_prog : (g : Geometry) → geometry_fits g ≡ true → (4 ≤ g.prog_size) × (g.prog_size ≤ 512)
unfolding geometry_fits
fits_prog g h =
    let p : ℕ = g.prog_size in
    let q : ℕ = g.block_size in
    let r = both_true (leb 4 p && leb p 512 && leb 128 q && leb q 32_768) (eqb (q % p) 0) h in
    let s = both_true (leb 4 p && leb p 512 && leb 128 q) (leb q 32_768) r.0 in
    let t = both_true (leb 4 p && leb p 512) (leb 128 q) s.0 in
    let u = both_true (leb 4 p) (leb p 512) t.0 in
    (leb-true 4 p u.0, leb-true p 512 u.1)

module _ (g : Geometry) (l0 l1 n0 n1 rules e k d : ℕ) (fits : commit_fits g l0 l1 n0 n1 rules e k d ≡ true) where
  parts : (pair_fits g l0 l1 n0 n1 && leb d most_data && leb k most_entries ≡ true) × (writes_fit rules e ≡ true)
  unfolding commit_fits
  parts = both_true (pair_fits g l0 l1 n0 n1 && leb d most_data && leb k most_entries) (writes_fit rules e) fits

  pub fits_byte : erased_fits e ≡ true
  fits_byte = (both_true (rules_fit rules) (erased_fits e) parts.1).1

  pub fits_images : images_fit g l0 l1 ≡ true
  unfolding pair_fits
  fits_images =
      let r = both_true (pair_fits g l0 l1 n0 n1 && leb d most_data) (leb k most_entries) parts.0 in
      let s = both_true (pair_fits g l0 l1 n0 n1) (leb d most_data) r.0 in
      (both_true (images_fit g l0 l1) (not (eqb n0 n1)) s.0).0

  pub fits_geometry : geometry_fits g ≡ true
  fits_geometry =
      let u = both_true (geometry_fits g && eqb l0 g.block_size) (eqb l1 g.block_size) fits_images in
      (both_true (geometry_fits g) (eqb l0 g.block_size) u.0).0

-- ---- the tests of good entries
module _ (e : ℕ) (byte : erased_fits e ≡ true) (prog : ℕ) (some : 4 ≤ prog) (most : prog ≤ 512) (b : List ℕ)
    (es : List Event) (old : log b ≡ es)
    (nonempty : es ≢ []) (regular : Regular Littlefs es ≡ true) (dat : List ℕ) (entries : List Entry) (c : ℕ)
    (all : judge dat 0 (count_of 0 es) entries ≡ good c) where
  -- what is laid
  abbrev L : List Item
  L = with_forward e prog (length b) (log_end es) (items_of dat entries)

  pub placed_accepts : (second w : Bool) (is : List Item) (size : ℕ) → placed e prog second b es L ≡ accepted w is size
      → (w ≡ second) × (is ≡ L) × (size ≡ check_size prog (check_at es is)) × Accepts e b es is size
  unfolding placed room_clean
  placed_accepts second w is size h =
      let I : List Item = with_forward e prog (length b) (log_end es) (items_of dat entries) in
      let p = past (ltb (length b) (rounded_end prog (check_at es I))) NoSpace _ w is size h in
      let q = past_room (room_of e prog b (log_end es) (log_end_tag es)) _ w is size p.1 in
      let r = past (coincides e all_ones (log_end_tag es) I (check_tag e (check_size prog (check_at es I)))) Coincidence _ w
      is
      size q.1 in
      let clean = both_true (all_erased e (drop (log_end es) b) && eqb (log_end es % prog) 0)
      (validity_fits e (log_end_tag es))
      (clean_holds e prog b (log_end es) (log_end_tag es) q.0) in
      let empty = both_true (all_erased e (drop (log_end es) b)) (eqb (log_end es % prog) 0) clean.0 in
      let slots : count_of 0 es ≡ slots_after_all 0 (acts es) = regular_slots es regular in
      let g = judged_good dat entries 0 (slots_after_all 0 (acts es)) c (regular_count b es old regular)
      (rw (← slots) all) in
      let k = check_size_lem prog (check_at es I) some most in
      let same : check_size prog (check_at es I) ≡ size = cc in
      let items : I ≡ is = cc in (
        cc,
        sym items,
        rw (← same, ← items) refl,
        rw (← same, ← items) (record {
          byte = byte;
          old = old;
          nonempty = nonempty;
          regular = regular;
          made = with_made e prog (length b) (log_end es) (items_of dat entries) g.made;
          hold = with_hold e prog (length b) (log_end es) (items_of dat entries) (slots_after_all 0 (acts es)) g.hold;
          check = rw (
            le-leb 4 (check_size prog (check_at es I)) k.0,
            le-leb (check_size prog (check_at es I)) 1_022 k.1,
          );
          fits = le-leb (log_end es + entries_length I + tag_length (check_tag e (check_size prog (check_at es I))))
              (length b)
              (omega (
                arith,
                ltb-false (length b) (rounded_end prog (check_at es I)) p.0,
                check_length_lem e (check_size prog (check_at es I)) (omega (arith, k.1)),
                k.2,
              ));
          clean = empty.0;
          validity = clean.1;
          lucky = r.0;
        }),
      )

-- ---- the verdict
-- what an accepted commit appends to: the block at place `second` of the two, which answers, with the revision rev
pub record AppendsTo (r : Rules) (e prog : ℕ) (b0 b1 : List ℕ) (entries : List Entry) (dat : List ℕ) (second : Bool)
    (is : List Item) (size : ℕ) : Type 0 where
  pub rev : ℕ
  pub sized : (4 ≤ prog) × (prog ≤ 512)
  pub items : is ≡ with_forward e prog (length (block_at second b0 b1)) (log_end (log (block_at second b0 b1)))
      (items_of dat entries)
  pub rounded' : size ≡ check_size prog (check_at (log (block_at second b0 b1)) is)
  pub answers : view_at second (block_at second b0 b1) (block_at (not second) b0 b1)
      ≡ at second rev (log (block_at second b0 b1))
  pub ruled : Regular r (log (block_at second b0 b1)) ≡ true
  pub accepts : Accepts e (block_at second b0 b1) (log (block_at second b0 b1)) is size
