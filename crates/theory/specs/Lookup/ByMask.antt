-- The lookup as document 01 words it, masks and a key and a difference that wrap, is the search for a class of a slot.
-- Assumes nothing.
use Rattle.std.specs.Prelude.{◌≡◌, ◌≢◌, Bool, true, false, ◌&&◌, ℕ, suc, ◌+◌, ◌-◌, ◌*◌, ◌^◌, ◌≤◌, ◌<◌, length, eqb, leb, None, Option, Some}
use Rattle.std.proofs.Math.Path.{refl, sym}
use Rattle.std.proofs.Common.{ap, ◌∙◌, inl, arith, eqb-true, eq-eqb, ne_eqb, leb-true, leb-false}
use mathlib.Core.List.{List, [], ◌∷◌, map}
use Rattle.std.specs.Int.Bits.{bit_and}
use Rattle.std.proofs.lemmas.Bool.{eqb-false}
use Rattle.format.specs.Word.{plus32, minus32}
use Rattle.format.specs.Tag.{tag_type1, tag_type3, tag_splice, tag_id, tag_size, removal_size, tag_delete, tag_length, tag_of}
use Rattle.format.specs.Kind.{type_splice, type_create, type_delete, is_splice}
use Rattle.format.specs.Back.{Met}
use Rattle.format.specs.Look.{data_size, bytes_of, as_ids, spliced_at, wlook}
use Rattle.format.specs.Directory.{Load, Act, mk, rm, put, skip, dir, apply, empty, load_of, act}
use Rattle.format.specs.declared.Found.{Found}
use Rattle.format.proofs.Tags.{of_chunk, of_fields, of_valid, of_type1, of_type3, of_id, length_size}
use Rattle.format.proofs.Searched.{found_bytes}
use Rattle.theory.specs.Walk.Step.{both_true}
use Rattle.theory.specs.Directory.Machine.{most_slots, find, still_grows, AllAllowed, Allowed, Inside, inside_there}
use Rattle.theory.specs.Directory.Machine.{inside_put, length_ins, length_del}
use Rattle.theory.specs.Back.BackActs.{bytes_at, seen_as, seen}
use Rattle.theory.specs.Lookup.Masks.{Query, QueryBy, hit_act}

-- what an entry that was found holds, by what is read of it
unfoldable pub holds_as : (Found → List ℕ) → Option Found → Option Load
holds_as of None = None
holds_as of (Some e) = Some (record { type = tag_type3 e.tag; bytes = of e })

-- its data
unfoldable pub holds : List ℕ → Option Found → Option Load
holds b None = None
holds b (Some e) = Some (record { type = tag_type3 e.tag; bytes = bytes_of b e })

holds_as_lem : (b : List ℕ) (h : Option Found) → holds b h ≡ holds_as (bytes_of b) h
unfolding holds holds_as
holds_as_lem b None = refl
holds_as_lem b (Some e) = refl

module _ (b : List ℕ) (h : Option Found) where
  pub missing : h ≡ None → None ≡ holds b h
  unfolding holds
  missing q = sym (ap (holds b) q)

  pub there : {e : Found} → h ≡ Some e
      → Some (record { type = tag_type3 e.tag; bytes = bytes_of b e }) ≡ holds b h
  unfolding holds
  there q = sym (ap (holds b) q)

-- its tag, "the tag plus the difference", has the id that was asked for
abbrev pub Answers : ℕ → Option Found → Type 0
Answers i None = Unit {0}
Answers i (Some e) = e.tag ≡ tag_of (tag_type3 e.tag) i (data_size e)

-- the shapes of a regular log's tags, where a tag t is taken for `see t`
abbrev pub ShapeBy : (ℕ → ℕ) → ℕ → List ℕ → Act → Type 0
ShapeBy see t x (mk j) = (t ≡ tag_of type_create j 0) × (j < 2 ^ 10)
ShapeBy see t x (rm j) = (t ≡ tag_of type_delete j 0) × (j < 2 ^ 10)
ShapeBy see t x (put j k v) = (is_splice t ≡ false) × (v ≡ load_of (see t) x) × (j ≡ tag_id t) × (t < 2 ^ 31)
ShapeBy see t x skip = is_splice t ≡ false

abbrev pub seen_by : (ℕ → ℕ) → (Met → List ℕ) → Met → Act
seen_by see at m = act (see m.tag) (at m)

abbrev pub ShapesBy : (ℕ → ℕ) → (Met → List ℕ) → List Met → Type 0
ShapesBy see at [] = Unit {0}
ShapesBy see at (m ∷ ms) = ShapeBy see m.tag (at m) (seen_by see at m) × ShapesBy see at ms

-- each taken for itself
abbrev pub itself : ℕ → ℕ
itself t = t

abbrev pub Shape : ℕ → List ℕ → Act → Type 0
Shape t x (mk j) = (t ≡ tag_of type_create j 0) × (j < 2 ^ 10)
Shape t x (rm j) = (t ≡ tag_of type_delete j 0) × (j < 2 ^ 10)
Shape t x (put j k v) = (is_splice t ≡ false) × (v ≡ load_of t x) × (j ≡ tag_id t) × (t < 2 ^ 31)
Shape t x skip = is_splice t ≡ false

shape_by : (t : ℕ) (x : List ℕ) (a : Act) → Shape t x a → ShapeBy itself t x a
shape_by t x (mk j) h = h
shape_by t x (rm j) h = h
shape_by t x (put j k v) h = h
shape_by t x skip h = h

abbrev pub Shapes : (Met → List ℕ) → List Met → Type 0
Shapes at [] = Unit {0}
Shapes at (m ∷ ms) = Shape m.tag (at m) (seen_as at m) × Shapes at ms

shapes_by : (at : Met → List ℕ) (ms : List Met) → Shapes at ms → ShapesBy itself at ms
unfolding seen_as
shapes_by at [] h = tt
shapes_by at (m ∷ ms) h = (shape_by m.tag (at m) (seen_as at m) h.0, shapes_by at ms h.1)

-- at most 1,023 slots at any time
abbrev pub FewBack : List Act → Type 0
FewBack [] = Unit {0}
FewBack (a ∷ l) = (length (dir l) ≤ most_slots) × FewBack l

-- ---- words
wrap_down : (g d K : ℕ) → g < 2 ^ 32 → d < 2 ^ 32 → 2 ^ 10 ≤ K → minus32 g d ≡ K
    → minus32 g (plus32 d (2 ^ 10)) ≡ K - 2 ^ 10
wrap_down g d K hg hd h e = omega arith

wrap_up : (g d K : ℕ) → g < 2 ^ 32 → d < 2 ^ 32 → K + 2 ^ 10 < 2 ^ 32 → minus32 g d ≡ K
    → minus32 g (plus32 d (2 ^ 32 - 2 ^ 10)) ≡ K + 2 ^ 10
wrap_up g d K hg hd h e = omega arith

down : (g d T i s : ℕ) → g < 2 ^ 32 → d < 2 ^ 32 → 0 < i → minus32 g d ≡ tag_of T i s
    → minus32 g (plus32 d (2 ^ 10)) ≡ tag_of T (i - 1) s
unfolding tag_of
down g d T i s hg hd h e =
    let w : minus32 g (plus32 d (2 ^ 10)) ≡ T * 2 ^ 20 + i * 2 ^ 10 + s - 2 ^ 10 =
    wrap_down g d (T * 2 ^ 20 + i * 2 ^ 10 + s) hg hd (omega arith) e in
    w ∙ omega arith

up : (g d T i s : ℕ) → g < 2 ^ 32 → d < 2 ^ 32 → T < 2 ^ 11 → i < most_slots → s < 2 ^ 10 → minus32 g d ≡ tag_of T i s
    → minus32 g (plus32 d (2 ^ 32 - 2 ^ 10)) ≡ tag_of T (i + 1) s
unfolding tag_of
up g d T i s hg hd ht h k e =
    let w : minus32 g (plus32 d (2 ^ 32 - 2 ^ 10)) ≡ T * 2 ^ 20 + i * 2 ^ 10 + s + 2 ^ 10 =
    wrap_up g d (T * 2 ^ 20 + i * 2 ^ 10 + s) hg hd (omega arith) e in
    w ∙ omega arith

splice_mk : (j : ℕ) → j < 2 ^ 10 → as_ids (tag_splice (tag_of type_create j 0)) ≡ 2 ^ 10
unfolding as_ids
splice_mk j h = rw (of_chunk type_create j 0 h (omega arith))

splice_rm : (j : ℕ) → j < 2 ^ 10 → as_ids (tag_splice (tag_of type_delete j 0)) ≡ 2 ^ 32 - 2 ^ 10
unfolding as_ids
splice_rm j h = rw (of_chunk type_delete j 0 h (omega arith))

eqb_create : (i j : ℕ) → eqb (tag_of type_create j 0) (tag_of type_create i 0) ≡ eqb j i
unfolding tag_of
eqb_create i j = go (eqb j i) refl
  where
    go : (b : Bool) → eqb j i ≡ b → eqb (tag_of type_create j 0) (tag_of type_create i 0) ≡ b
    go true e = let q : j ≡ i = eqb-true j i e in eq-eqb (tag_of type_create j 0) (tag_of type_create i 0) (omega arith)
    go false e = let n : j ≢ i = eqb-false j i e in ne_eqb (tag_of type_create j 0) (tag_of type_create i 0)
        (λ q. n (omega arith))

eqb_delete : (i j : ℕ) → i < 2 ^ 10 → eqb (tag_of type_delete j 0) (tag_of type_create i 0) ≡ false
unfolding tag_of
eqb_delete i j h = ne_eqb (tag_of type_delete j 0) (tag_of type_create i 0) (λ q. omega arith)

-- a tag with the id that the key has become, plus the difference: the id that the key began with
answer_word : (type size diff T asked i s : ℕ) → diff < 2 ^ 32 → type < 2 ^ 11 → asked < 2 ^ 10 → size < 2 ^ 10
    → minus32 (tag_of T asked s) diff ≡ tag_of T i s → plus32 (tag_of type i size) diff ≡ tag_of type asked size
unfolding tag_of
answer_word type size diff T asked i s hd ht ha hs e = omega arith

answers : (t diff T asked i s : ℕ) → diff < 2 ^ 32 → asked < 2 ^ 10 → minus32 (tag_of T asked s) diff ≡ tag_of T i s
    → i ≡ tag_id t → t < 2 ^ 31
    → plus32 t diff ≡ tag_of (tag_type3 t) asked (tag_size t)
answers t diff T asked i s hd ha e is small =
    ap (λ (x : ℕ). plus32 x diff) (sym (of_fields t small) ∙ ap (λ (x : ℕ). tag_of (tag_type3 t) x (tag_size t)) (sym is))
    ∙ answer_word (tag_type3 t) (tag_size t) diff T asked i s hd (omega arith) ha (omega arith) e

-- an entry that was met, with another id in its tag, w
abbrev pub met_as : Met → ℕ → Found
met_as m w = record { tag = w; length = tag_length m.tag; off = m.off + 4 }

-- what is read where it is met is read where it is found
abbrev pub Alike : (Met → List ℕ) → (Found → List ℕ) → Type 0
Alike at of = (m : Met) (w : ℕ) → tag_delete m.tag ≡ false → of (met_as m w) ≡ at m

pub bytes_alike : (b : List ℕ) → Alike (bytes_at b) (bytes_of b)
bytes_alike b m w kept = found_bytes m.tag m.off 0 b

-- it has the met tag's own type and what is read there, and answers the id
pub met_held : (at : Met → List ℕ) (of : Found → List ℕ) → Alike at of → (m : Met) (id w : ℕ)
    → w ≡ tag_of (tag_type3 m.tag) id (tag_size m.tag) → id < 2 ^ 10 → tag_delete m.tag ≡ false
    → (holds_as of (Some (met_as m w)) ≡ Some (record { type = tag_type3 m.tag; bytes = at m }))
    × Answers id (Some (met_as m w))
unfolding holds_as
met_held at of alike m id w ew low kept =
    let t : ℕ = m.tag in
    let k : tag_type3 w ≡ tag_type3 t
    = ap tag_type3 ew ∙ of_type3 (tag_type3 t) id (tag_size t) (omega arith) low (omega arith) in
    let z : tag_length t ≡ 4 + tag_size t = length_size t (eqb-false (tag_size t) removal_size kept) in
    let n : tag_length t - 4 ≡ tag_size t = omega arith in
    (rw (k, alike m w kept), ew ∙ rw (k, n))

-- of the data
pub bytes_held : (b : List ℕ) (m : Met) (id w : ℕ) → w ≡ tag_of (tag_type3 m.tag) id (tag_size m.tag) → id < 2 ^ 10
    → tag_delete m.tag ≡ false
    → (holds b (Some (met_as m w)) ≡ Some (record { type = tag_type3 m.tag; bytes = bytes_at b m }))
    × Answers id (Some (met_as m w))
bytes_held b m id w ew low kept =
    let h = met_held (bytes_at b) (bytes_of b) (bytes_alike b) m id w ew low kept in
    (holds_as_lem b (Some (met_as m w)) ∙ h.0, h.1)

-- ---- the wrapped lookup is the search, where a tag is taken for another
module _ (see : ℕ → ℕ) (at : Met → List ℕ) (of : Found → List ℕ) (alike : Alike at of) (mask T c s asked : ℕ)
    (q : QueryBy see mask T c) (hs : s < 2 ^ 10) (ha : asked < 2 ^ 10) where
  abbrev key : ℕ
  key = tag_of T asked s

  hg : key < 2 ^ 32
  hg = omega (arith, of_valid T asked s q.0 ha hs)

  pub wlook_by : (g : Bool) (ms : List Met) (d i : ℕ) → d < 2 ^ 32 → ShapesBy see at ms → AllAllowed g
      (map (seen_by see at) ms)
      → FewBack (map (seen_by see at) ms) → i < most_slots → Inside g i (map (seen_by see at) ms) → minus32 key d
      ≡ tag_of T i s
      → (holds_as of (wlook true mask key d ms) ≡ find c i (map (seen_by see at) ms))
      × Answers asked (wlook true mask key d ms)
  unfolding spliced_at wlook holds_as find dir apply hit_act
  wlook_by g [] d i hd sh r lo i-low hi e = (refl, tt)
  wlook_by g (m ∷ ms) d i hd sh r lo i-low hi e =
      go (seen_by see at m) refl sh.0 r.0 hi (λ d' i' hd' low' hi' e'. wlook_by g ms d' i' hd' sh.1 r.1
      lo.1
      low' hi' e')
    where
      l : List Act
      l = map (seen_by see at) ms

      miss : (a : Act) → seen_by see at m ≡ a → (i' : ℕ) → i' < 2 ^ 10
          → eqb (bit_and m.tag mask) (bit_and (tag_of T i' s) mask) ≡ hit_act c i' a
      miss a ea i' h = q.1 m.tag i' s (at m) h hs ∙ ap (hit_act c i') ea

      go : (a : Act) → seen_by see at m ≡ a → ShapeBy see m.tag (at m) a → Allowed (still_grows g l) a (length (dir l))
          → Inside g i (seen_by see at m ∷ l)
          → ((d' i' : ℕ) → d' < 2 ^ 32 → i' < most_slots → Inside g i' l → minus32 key d' ≡ tag_of T i' s
          → (holds_as of (wlook true mask key d' ms) ≡ find c i' l) × Answers asked (wlook true mask key d' ms))
          → (holds_as of (wlook true mask key d (m ∷ ms)) ≡ find c i (a ∷ l))
          × Answers asked (wlook true mask key d (m ∷ ms))
      go (mk j) ea sp ru h ih = sub (leb j i) refl (eqb j i) refl
        where
          t1 : tag_type1 m.tag ≡ type_splice
          t1 = rw sp.0 (of_type1 type_create j 0 (omega arith) sp.1 (omega arith))

          t2 : tag_id m.tag ≡ j
          t2 = rw sp.0 (of_id type_create j 0 sp.1 (omega arith))

          t3 : eqb m.tag (tag_of type_create i 0) ≡ eqb j i
          t3 = rw sp.0 (eqb_create i j)

          t4 : as_ids (tag_splice m.tag) ≡ 2 ^ 10
          t4 = rw sp.0 (splice_mk j sp.1)

          low : i < suc (length (dir l))
          low = rw (length_ins (dir l) j empty ru) at (inside_there (rw ea at h))

          sub : (bl : Bool) → leb j i ≡ bl → (be : Bool) → eqb j i ≡ be
              → (holds_as of (wlook true mask key d (m ∷ ms)) ≡ find c i (mk j ∷ l))
              × Answers asked (wlook true mask key d (m ∷ ms))
          sub true el true ee = rw (e, t1, t2, of_id T i s (omega (arith, i-low)) hs, el, t3, ee) (refl, tt)
          sub true el false ee =
              let n : j ≢ i = eqb-false j i ee in
              let le : j ≤ i = leb-true j i el in
              let pos : 0 < i = omega arith in
              rw (
                e,
                t1,
                t2,
                of_id T i s (omega (arith, i-low)) hs,
                el,
                t3,
                ee,
                t4,
                down key d T i s hg hd pos e,
                miss (mk j) ea (i - 1) (omega (arith, i-low)),
              )
              (ih (plus32 d (2 ^ 10)) (i - 1) (omega arith) (omega (arith, i-low))
              (inl (omega (arith, low))) (down key d T i s hg hd pos e))
          sub false el be ee =
              rw (e, t1, t2, of_id T i s (omega (arith, i-low)) hs, el, e, miss (mk j) ea i (omega (arith, i-low)))
              (ih d i hd i-low (inl (omega (arith, leb-false j i el))) e)
      go (rm j) ea sp ru h ih = sub (leb j i) refl
        where
          t1 : tag_type1 m.tag ≡ type_splice
          t1 = rw sp.0 (of_type1 type_delete j 0 (omega arith) sp.1 (omega arith))

          t2 : tag_id m.tag ≡ j
          t2 = rw sp.0 (of_id type_delete j 0 sp.1 (omega arith))

          t3 : eqb m.tag (tag_of type_create i 0) ≡ false
          t3 = rw sp.0 (eqb_delete i j (omega (arith, i-low)))

          t4 : as_ids (tag_splice m.tag) ≡ 2 ^ 32 - 2 ^ 10
          t4 = rw sp.0 (splice_rm j sp.1)

          low : i < length (dir l) - 1
          low = rw (length_del (dir l) j ru) at (inside_there (rw ea at h))

          sub : (bl : Bool) → leb j i ≡ bl → (holds_as of (wlook true mask key d (m ∷ ms)) ≡ find c i (rm j ∷ l))
              × Answers asked (wlook true mask key d (m ∷ ms))
          sub true el =
              rw (
                e,
                t1,
                t2,
                of_id T i s (omega (arith, i-low)) hs,
                el,
                t3,
                t4,
                up key d T i s hg hd q.0 i-low hs e,
                miss (rm j) ea (i + 1) (omega (arith, i-low)),
              )
              (ih (plus32 d (2 ^ 32 - 2 ^ 10)) (i + 1) (omega arith) (omega (arith, low, lo.0))
              (inl (omega (
                arith,
                low,
              )))
              (up key d T i s hg hd q.0 i-low hs e))
          sub false el =
              rw (e, t1, t2, of_id T i s (omega (arith, i-low)) hs, el, e, miss (rm j) ea i (omega (arith, i-low)))
              (ih d i hd i-low (inl (omega (arith, low))) e)
      go (put j k v) ea sp ru h ih = sub (eqb j i && eqb c k) refl (tag_delete m.tag) refl
        where
          -- a tag that hits is taken for itself
          is_load : eqb j i && eqb c k ≡ true → v ≡ load_of m.tag (at m)
          is_load eh = sp.1 ∙ ap (λ t. load_of t (at m)) (q.2 m.tag i (at m) (ap (hit_act c i) ea ∙ eh))

          sub : (hb : Bool) → eqb j i && eqb c k ≡ hb → (rb : Bool) → tag_delete m.tag ≡ rb
              → (holds_as of (wlook true mask key d (m ∷ ms)) ≡ find c i (put j k v ∷ l))
              × Answers asked (wlook true mask key d (m ∷ ms))
          sub true eh true er = rw (sp.0, e, miss (put j k v) ea i (omega (arith, i-low)), eh, er, is_load eh, er)
              (refl, tt)
          sub true eh false er =
              let is : j ≡ i = eqb-true j i (both_true (eqb j i) (eqb c k) eh).0 in
              rw (sp.0, e, miss (put j k v) ea i (omega (arith, i-low)), eh, er, is_load eh, er)
              (met_held at of alike m asked (plus32 m.tag d)
              (answers m.tag d T asked i s hd ha e (sym is ∙ sp.2) sp.3) ha er)
          sub false eh rb er = rw (sp.0, e, miss (put j k v) ea i (omega (arith, i-low)), eh)
              (ih d i hd i-low (inside_put g l i j k v ru (rw ea at h)) e)
      go skip ea sp ru h ih = rw (sp, e, miss skip ea i (omega (arith, i-low))) (ih d i hd i-low (rw ea at h) e)

seen_act : (at : Met → List ℕ) (m : Met) → seen_as at m ≡ act m.tag (at m)
unfolding seen_as
seen_act at m = refl

-- each tag taken for itself
pub wlook_as : (at : Met → List ℕ) (of : Found → List ℕ) → Alike at of → (mask T c s asked : ℕ) → Query mask T c
    → s < 2 ^ 10 → asked < 2 ^ 10 → (g : Bool) (ms : List Met) (d i : ℕ) → d < 2 ^ 32 → Shapes at ms
    → AllAllowed g (map (seen_as at) ms) → FewBack (map (seen_as at) ms) → i < most_slots → Inside g i (map (seen_as at) ms)
    → minus32 (tag_of T asked s) d ≡ tag_of T i s
    → (holds_as of (wlook true mask (tag_of T asked s) d ms) ≡ find c i (map (seen_as at) ms))
    × Answers asked (wlook true mask (tag_of T asked s) d ms)
unfolding seen_as
wlook_as at of alike mask T c s asked q hs ha g ms d i hd sh =
    wlook_by itself at of alike mask T c s asked (q.0, q.1, λ t j x e. refl) hs ha g ms d i hd (shapes_by at ms sh)

-- of the data
pub wlook_find : (b : List ℕ) (mask T c s asked : ℕ) → Query mask T c → s < 2 ^ 10 → asked < 2 ^ 10 → (g : Bool)
    (ms : List Met) (d i : ℕ) → d < 2 ^ 32 → Shapes (bytes_at b) ms → AllAllowed g (map (seen b) ms)
    → FewBack (map (seen b) ms) → i < most_slots → Inside g i (map (seen b) ms)
    → minus32 (tag_of T asked s) d ≡ tag_of T i s
    → (holds b (wlook true mask (tag_of T asked s) d ms) ≡ find c i (map (seen b) ms))
    × Answers asked (wlook true mask (tag_of T asked s) d ms)
wlook_find b mask T c s asked q hs ha g ms d i hd sh r lo i-low hi e =
    let f = wlook_as (bytes_at b) (bytes_of b) (bytes_alike b) mask T c s asked q hs ha g ms d i hd sh r lo i-low hi e in
    (holds_as_lem b (wlook true mask (tag_of T asked s) d ms) ∙ f.0, f.1)
