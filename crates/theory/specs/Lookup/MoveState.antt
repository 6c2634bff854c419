-- The move state of a log, and its lookup: the newest one, whatever its id. Assumes nothing.
use Rattle.std.specs.Prelude.{◌≡◌, refl, ◌≢◌, Bool, true, false, cond, ℕ, ◌+◌, ◌-◌, ◌*◌, ◌/◌, ◌%◌, ◌^◌, ◌<◌, drop, take, eqb, leb, None, Option, Some}
use Rattle.std.proofs.Common.{sym, ap, ◌∙◌, arith, eqb-true, eq-eqb, ne_eqb}
use mathlib.Core.List.{List, [], ◌∷◌, ◌++◌, reverse_aux}
use Rattle.std.specs.Int.Bits.{bit_and}
use Rattle.std.proofs.lemmas.Nat.Bits.{and_high}
use Rattle.std.proofs.lemmas.Bool.{eqb-false}
use Rattle.format.specs.Word.{be32, all_ones, plus32, minus32}
use Rattle.format.specs.Tag.{tag_type3, tag_delete, tag_length}
use Rattle.format.specs.Kind.{type_check, type_move, is_check}
use Rattle.format.specs.Crc.{crc}
use Rattle.format.specs.Walk.{Event, walk_from, walk, ent, chk, inv}
use Rattle.format.specs.Log.{committed, log, log_end, log_end_tag}
use Rattle.format.specs.Back.{Met, hop, back, places}
use Rattle.format.specs.Look.{mask_move, found_at, spliced_at, wlook}
use Rattle.format.specs.Directory.{Load, load_of, is_move, move_of}
use Rattle.format.proofs.Tags.{low_length, low_type3, xor_low}
use Rattle.format.proofs.Back.{back_step}
use Rattle.format.proofs.Searched.{found_bytes}
use Rattle.theory.specs.Walk.Locality.{AllContained}
use Rattle.theory.specs.Log.Committed.{committed_split, committed_twice}
use Rattle.theory.specs.Back.WalkBack.{back_log}
use Rattle.theory.specs.Back.EventBytes.{Told, chains}
use Rattle.theory.specs.Directory.Types.{check_type3}
use Rattle.theory.specs.Back.BackActs.{Eights}
use Rattle.theory.specs.Back.BackActs.{bytes_at}
use Rattle.theory.specs.Lookup.ByMask.{holds}
use Rattle.theory.specs.Lookup.OnBlock.{last_check}

-- the mask as a field test: the key is a move state of any id and size
move_top : (low : ℕ) → low < 2 ^ 20 → (mask_move + low) / 2 ^ 20 % 2 ^ 11 ≡ type_move
move_top low h = omega arith

pub move_hit : (t low : ℕ) → low < 2 ^ 20 → eqb (bit_and t mask_move) (bit_and (mask_move + low) mask_move) ≡ is_move t
move_hit t low h = rw (and_high t 11 20, and_high (mask_move + low) 11 20, move_top low h) (go (is_move t) refl)
  where
    go : (b : Bool) → is_move t ≡ b → eqb (tag_type3 t * 2 ^ 20) (type_move * 2 ^ 20) ≡ b
    go true e = let q : tag_type3 t ≡ type_move = eqb-true (tag_type3 t) type_move e in eq-eqb (tag_type3 t * 2 ^ 20)
        (type_move * 2 ^ 20) (omega arith)
    go false e =
        let q : tag_type3 t ≢ type_move = eqb-false (tag_type3 t) type_move e in
        ne_eqb (tag_type3 t * 2 ^ 20) (type_move * 2 ^ 20) (λ z. q (omega arith))

-- nothing added, the type stays
same_type : (t : ℕ) → tag_type3 (plus32 t 0) ≡ tag_type3 t
same_type t = omega arith

-- newest first over the tags met
unfoldable pub last_move : List ℕ → List Met → Option Load
last_move b [] = None
last_move b (m ∷ ms) = cond (is_move m.tag) (load_of m.tag (bytes_at b m)) (last_move b ms)

-- it is what the lookup by mask finds, "no ids": nothing is added to the difference
pub wlook_move : (b : List ℕ) (low : ℕ) (ms : List Met) → low < 2 ^ 20
    → holds b (wlook false mask_move (mask_move + low) 0 ms) ≡ last_move b ms
unfolding holds wlook last_move spliced_at
wlook_move b low [] h = refl
wlook_move b low (m ∷ ms) h =
    let key : minus32 (mask_move + low) 0 ≡ mask_move + low = omega arith in
    rw (key, move_hit m.tag low h) (go (is_move m.tag) (tag_delete m.tag) refl (wlook_move b low ms h))
  where
    go : (is gone : Bool) → tag_delete m.tag ≡ gone → holds b (wlook false mask_move (mask_move + low) 0 ms)
        ≡ last_move b ms
        → holds b (cond is (cond (tag_delete m.tag) None (Some (found_at m.tag m.off 0)))
        (wlook false mask_move (mask_move + low) 0 ms))
        ≡ cond is (load_of m.tag (bytes_at b m)) (last_move b ms)
    go true true e ih = rw e
    go true false e ih = rw (e, same_type m.tag, found_bytes m.tag m.off 0 b)
    go false gone e ih = ih

pub move_of_app : (es more : List Event) (v : Option Load) → move_of v (es ++ more) ≡ move_of (move_of v es) more
unfolding move_of
move_of_app [] more v = refl
move_of_app (ent t d ∷ es) more v = move_of_app es more (cond (is_move t) (load_of t d) v)
move_of_app (chk t c ∷ es) more v = move_of_app es more v
move_of_app (inv ∷ es) more v = move_of_app es more v

pub check_move : (t : ℕ) → is_check t ≡ true → is_move t ≡ false
check_move t h =
    let c : tag_type3 t < type_check + 2 ^ 7 = (check_type3 t h).1 in
    ne_eqb (tag_type3 t) type_move (λ q. omega arith)

pub last_move_places : (es : List Event) (b : List ℕ) (off : ℕ) (R : List Met) → Told b off es → Eights es
    → last_move b (reverse_aux (places off es) R) ≡ move_of (last_move b R) es
unfolding places last_move move_of
last_move_places [] b off R h w = refl
last_move_places (ent t d ∷ es) b off R h w =
    last_move_places es b (off + tag_length t) (record { tag = t; off = off } ∷ R) h.1 w.1
    ∙ ap (λ x. move_of (cond (is_move t) (load_of t x) (last_move b R)) es) (sym (h.0 w.0))
last_move_places (chk t c ∷ es) b off R h w =
    last_move_places es b (off + tag_length t) (record { tag = t; off = off } ∷ R) h.1 w ∙ rw (check_move t h.0)
last_move_places (inv ∷ es) b off R h w = absurd h

last_move_nil : (b : List ℕ) → last_move b [] ≡ None
unfolding last_move
last_move_nil b = refl

-- the end tag is a check: no move state, with bit 31 or without
last_move_top : (b : List ℕ) (off t : ℕ) → is_check (t % 2 ^ 31) ≡ true
    → last_move b (back b off t) ≡ last_move b (back b off (t % 2 ^ 31))
unfolding last_move
last_move_top b off t c = rw (back_step b off t, back_step b off (t % 2 ^ 31), low_length t)
    (go (leb (4 + tag_length t) off))
  where
    no : is_move t ≡ false
    no = rw (low_type3 t) at (check_move (t % 2 ^ 31) c)

    go : (x : Bool) → last_move b (hop (back b) x b off t) ≡ last_move b (hop (back b) x b off (t % 2 ^ 31))
    go true = rw (low_type3 t, no, low_length t, ← xor_low (be32 (drop (off - tag_length t) b)) t)
    go false = refl

-- ---- the move state, on the bytes of a block whose log is es
pub move_lookup : (b : List ℕ) (es : List Event) → log b ≡ es → es ≢ [] → AllContained es → Eights es
    → last_move b (back b (log_end es) (log_end_tag es)) ≡ move_of None es
unfolding log walk
move_lookup b es h nonempty reg eight =
    let sp = committed_split (walk_from (crc all_ones (take 4 b)) all_ones (drop 4 b)) in
    let whole : committed es ≡ es = rw h at (committed_twice (walk_from (crc all_ones (take 4 b)) all_ones (drop 4 b))) in
    let ch = chains es sp.0 (crc all_ones (take 4 b)) all_ones b 4 (rw h at sp.1) reg in
    let ck : is_check (log_end_tag es % 2 ^ 31) ≡ true = last_check es b 4 all_ones whole (λ z. absurd (nonempty z)) ch.0
    ch.2 in
    last_move_top b (log_end es) (log_end_tag es) ck ∙ ap (last_move b) (back_log es b ch.0)
    ∙ last_move_places es b 4 [] ch.2 eight ∙ ap (λ z. move_of z es) (last_move_nil b)

-- and by the lookup: mask 0x7ff, no ids, a key of any id and size
pub move_found : (b : List ℕ) (es : List Event) (low : ℕ) → log b ≡ es → es ≢ [] → AllContained es → Eights es
    → low < 2 ^ 20
    → holds b (wlook false mask_move (mask_move + low) 0 (back b (log_end es) (log_end_tag es))) ≡ move_of None es
move_found b es low h nonempty reg eight l = wlook_move b low (back b (log_end es) (log_end_tag es)) l
    ∙ move_lookup b es h nonempty reg eight
