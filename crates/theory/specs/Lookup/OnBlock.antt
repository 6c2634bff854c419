-- The lookup by mask, key and difference, on the bytes of a block with a regular log, is the directory's. Assumes
-- nothing.
use Rattle.std.specs.Prelude.{◌≡◌, refl, ◌≢◌, Bool, true, false, ℕ, ◌+◌, ◌-◌, ◌%◌, ◌^◌, ◌≤◌, ◌<◌, take, drop, length, get_or, leb, Option}
use Rattle.std.proofs.Common.{ap, ◌∙◌, inl, arith}
use mathlib.Core.List.{List, [], ◌∷◌, reverse, reverse_aux, map}
use Rattle.format.specs.Word.{be32, all_ones, minus32}
use Rattle.format.specs.Tag.{tag_length, tag_flipped, tag_of}
use Rattle.format.specs.Kind.{is_splice, is_check}
use Rattle.format.specs.Crc.{crc}
use Rattle.format.specs.Walk.{Event, walk_from, walk, ent, chk, inv}
use Rattle.format.specs.Log.{committed, log, tag_after, log_end, log_end_tag}
use Rattle.format.specs.Back.{Met, hop, back, places}
use Rattle.format.specs.Look.{wlook}
use Rattle.format.specs.Directory.{Act, dir, Load, empty, act, acts, dir_of}
use Rattle.format.proofs.Tags.{flipped_low, low_length, low_type1, xor_low, of_valid}
use Rattle.format.proofs.Back.{back_step}
use Rattle.theory.specs.Walk.Locality.{AllContained}
use Rattle.theory.specs.Log.Committed.{kept_same, kept_more, committed_split, committed_twice}
use Rattle.theory.specs.Directory.Machine.{most_slots, still_grows, AllAllowed, Inside, find_dir}
use Rattle.theory.specs.Back.WalkBack.{Chain, back_log}
use Rattle.theory.specs.Back.EventBytes.{Told, chains}
use Rattle.theory.specs.Directory.Types.{check_type1, act_check, act_without_top}
use Rattle.theory.specs.Back.BackActs.{Eights, bytes_at, seen_as, seen, bytes_topless, back_without_top}
use Rattle.theory.specs.Back.BackActs.{map_reverse_aux, seen_places}
use Rattle.theory.specs.Lookup.SlotCount.{slots_after, AllowedFrom, length_apply, Sound, allowed_newest}
use Rattle.theory.specs.Lookup.Masks.{Query}
use Rattle.theory.specs.Lookup.ByMask.{Shape, Shapes, FewBack, holds, Answers, wlook_find}

-- every entry of a log is of a shape that the rules allow
abbrev pub EventShapes : List Event → Type 0
EventShapes [] = Unit {0}
EventShapes (ent t d ∷ es) = Shape t d (act t d) × EventShapes es
EventShapes (chk t c ∷ es) = EventShapes es
EventShapes (inv ∷ es) = EventShapes es

pub check_one : (t : ℕ) → is_check t ≡ true → is_splice t ≡ false
check_one t h = rw (check_type1 t h)

shapes_places : (es : List Event) (b : List ℕ) (off : ℕ) → Told b off es → Eights es → EventShapes es
    → Shapes (bytes_at b) (places off es)
unfolding places seen_as
shapes_places [] b off h w s = tt
shapes_places (ent t d ∷ es) b off h w s =
    (rw (← h.0 w.0) s.0, shapes_places es b (off + tag_length t) h.1 w.1 s.1)
shapes_places (chk t c ∷ es) b off h w s = (
  rw (act_check t (take (tag_length t - 4) (drop 4 (drop off b))) h.0) (check_one t h.0),
  shapes_places es b (off + tag_length t) h.1 w s,
)
shapes_places (inv ∷ es) b off h w s = absurd h

-- the last event of a committed log is a check
pub last_check : (es : List Event) (b : List ℕ) (off p : ℕ) → committed es ≡ es
    → (es ≡ [] → is_check (p % 2 ^ 31) ≡ true) → Chain b off p es → Told b off es
    → is_check (tag_after p es % 2 ^ 31) ≡ true
unfolding committed tag_after
last_check [] b off p w n ch h = n refl
last_check (ent t d ∷ es) b off p w n ch h =
    last_check es b (off + tag_length t) t (kept_same (ent t d) (committed es) es w)
    (λ q. absurd (kept_more (ent t d) (committed es) es w q)) ch.1 h.1
last_check (chk t c ∷ es) b off p w n ch h =
    last_check es b (off + tag_length t) (tag_flipped t) (cc) (λ q. rw (flipped_low t ch.0.1) h.0) ch.1 h.1
last_check (inv ∷ es) b off p w n ch h = absurd h

pub shapes_rev : (at : Met → List ℕ) (l r : List Met) → Shapes at l → Shapes at r → Shapes at (reverse_aux l r)
shapes_rev at [] r h k = k
shapes_rev at (m ∷ l) r h k = shapes_rev at l (m ∷ r) h.1 (h.0, k)

-- the end tag's bit 31 does not matter: it is a check's
pub shapes_without_top : (at : Met → List ℕ) (b : List ℕ) (off t : ℕ) → is_check (t % 2 ^ 31) ≡ true
    → Shapes at (back b off (t % 2 ^ 31)) → Shapes at (back b off t)
unfolding seen_as
shapes_without_top at b off t ck = rw (back_step b off t, back_step b off (t % 2 ^ 31), low_length t)
    (go (leb (4 + tag_length t) off))
  where
    head : (x : List ℕ) → Shape t x (act t x)
    head x = rw (← act_without_top t x, act_check (t % 2 ^ 31) x ck) (rw (low_type1 t) at (check_one (t % 2 ^ 31) ck))

    go : (c : Bool) → Shapes at (hop (back b) c b off (t % 2 ^ 31)) → Shapes at (hop (back b) c b off t)
    go true h = (
      head (at (record { tag = t; off = off - tag_length t })),
      rw (low_length t, ← xor_low (be32 (drop (off - tag_length t) b)) t) at h.1,
    )
    go false h = tt

-- the count stays at most 1,023
abbrev pub FewFrom : ℕ → List Act → Type 0
FewFrom n [] = Unit {0}
FewFrom n (a ∷ l) = (slots_after n a ≤ most_slots) × FewFrom (slots_after n a) l

pub few_rev : (g : Bool) (l r : List Act) → AllowedFrom (still_grows g r) (length (dir r)) l → FewFrom (length (dir r)) l
    → length (dir r) ≤ most_slots → FewBack r → FewBack (reverse_aux l r) × (length (dir (reverse_aux l r)) ≤ most_slots)
unfolding dir
few_rev g [] r f h n k = (k, n)
few_rev g (a ∷ l) r f h n k =
    let e = length_apply (still_grows g r) (dir r) a f.0 in
    few_rev g l (a ∷ r) (rw e f.1) (rw e h.1) (rw e h.0) (n, k)

pub record RegularLog (es : List Event) : Type 0 where
  pub base : Sound es
  pub shapes : EventShapes es
  pub few : FewFrom 0 (acts es)

-- what a lookup asks of a log
pub record Searchable (es : List Event) : Type 0 where
  pub reg : AllContained es
  pub eight : Eights es
  pub shapes : EventShapes es
  pub rules : AllAllowed true (reverse (acts es))
  pub low : FewBack (reverse (acts es))
  pub few : length (dir_of es) ≤ most_slots

pub regular_searchable : (es : List Event) → RegularLog es → Searchable es
unfolding dir_of dir
regular_searchable es r =
    let lo = few_rev true (acts es) [] r.base.rules r.few (omega arith) tt in
    record {
      reg = r.base.reg;
      eight = r.base.eight;
      shapes = r.shapes;
      rules = allowed_newest true (acts es) r.base.rules;
      low = lo.0;
      few = lo.1;
    }

-- a directory lookup on the bytes of a block whose log is es, by a mask and a key of type T, id i and size s
abbrev pub looked : List ℕ → List Event → ℕ → ℕ → ℕ → ℕ → Option Load
looked b es mask T i s = holds b (wlook true mask (tag_of T i s) 0 (back b (log_end es) (log_end_tag es)))

-- what the walk back from a log's end meets
pub record BackFrom (b : List ℕ) (es : List Event) : Type 0 where
  pub shaped : Shapes (bytes_at b) (back b (log_end es) (log_end_tag es))
  pub is : map (seen b) (back b (log_end es) (log_end_tag es)) ≡ reverse (acts es)

pub block_back : (b : List ℕ) (es : List Event) → log b ≡ es → es ≢ [] → Searchable es → BackFrom b es
unfolding log walk
block_back b es h nonempty r =
    let sp = committed_split (walk_from (crc all_ones (take 4 b)) all_ones (drop 4 b)) in
    let whole : committed es ≡ es = rw h at (committed_twice (walk_from (crc all_ones (take 4 b)) all_ones (drop 4 b))) in
    let ch = chains es sp.0 (crc all_ones (take 4 b)) all_ones b 4 (rw h at sp.1) r.reg in
    let bl : back b (log_end es) (log_end_tag es % 2 ^ 31) ≡ reverse (places 4 es) = back_log es b ch.0 in
    let ck : is_check (log_end_tag es % 2 ^ 31) ≡ true = last_check es b 4 all_ones whole (λ z. absurd (nonempty z)) ch.0
    ch.2 in
    record {
      shaped = shapes_without_top (bytes_at b) b (log_end es) (log_end_tag es) ck
          (rw bl (shapes_rev (bytes_at b) (places 4 es) [] (shapes_places es b 4 ch.2 r.eight r.shapes) tt));
      is = back_without_top (bytes_at b) (bytes_topless b) b (log_end es) (log_end_tag es) ∙ ap (map (seen b)) bl
          ∙ map_reverse_aux (seen b) (places 4 es) []
          ∙ ap reverse (seen_places es b 4 ch.2 r.eight);
    }

-- it finds what class c of slot i holds
pub block_lookup : (b : List ℕ) (es : List Event) (mask T c s i : ℕ) → log b ≡ es → es ≢ [] → Searchable es
    → Query mask T c → s < 2 ^ 10 → i < length (dir_of es)
    → (looked b es mask T i s ≡ get_or (dir_of es) i empty c)
    × Answers i (wlook true mask (tag_of T i s) 0 (back b (log_end es) (log_end_tag es)))
unfolding dir_of dir
block_lookup b es mask T c s i h nonempty r q hs hi =
    let k = block_back b es h nonempty r in
    let ms : map (seen b) (back b (log_end es) (log_end_tag es)) ≡ reverse (acts es) = k.is in
    let few : length (dir_of es) ≤ most_slots = r.few in
    let there : Inside true i (reverse (acts es)) = inl hi in
    let small : tag_of T i s < 2 ^ 31 = of_valid T i s q.0 (omega arith) hs in
    let key : minus32 (tag_of T i s) 0 ≡ tag_of T i s = omega arith in
    let f = wlook_find b mask T c s i q hs (omega arith) true (back b (log_end es) (log_end_tag es)) 0 i (omega arith)
    k.shaped (rw ms r.rules) (rw ms r.low) (omega arith) (rw ms there) key in
    (f.0 ∙ rw ms (find_dir true (reverse (acts es)) c i r.rules there), f.1)
