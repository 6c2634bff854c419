-- A turn of a slot's walk back: what the search finds behind a tag, and the seats that it leaves. Assumes nothing.
use mathlib.Core.Path.{◌≡◌, refl, sym, ap, ◌∙◌}
use mathlib.Core.Bool.{Bool, true, false, cond, ◌&&◌}
use mathlib.Core.List.{List, [], ◌∷◌, map}
use Prim.Native.Nat.{ℕ, ◌+◌, ◌-◌, ◌*◌, ◌/◌, ◌^◌, ◌≤◌, ◌<◌}
use native.Mathlib.Omega.{arith}
use lib.ListN.{length, length-set, length-replicate, set, replicate, get_or-replicate}
use lib.Seq.{get_or-set_same, get_or-set_other}
use lib.Dec.{eqb, leb, ltb}
use borrow.Author.Tests.{eq-eqb, ne_eqb, eqb-true, eqb-false, lt-ltb, ltb-true, ltb-false, le-leb, lt-leb}
use Rattle.format.specs.Tag.{tag_type1, tag_type3, tag_chunk, tag_id, tag_size, tag_delete, tag_length, tag_of}
use Rattle.format.specs.Kind.{is_name, type_name, type_dir_struct, type_user_attr, type_create, type_delete}
use Rattle.format.specs.Back.{Met}
use Rattle.format.specs.Directory.{classes, Load, Act, mk, rm, put, skip, is_struct, is_attr, seat_class, load_of, act}
use Rattle.format.specs.Look.{HitIn}
use Rattle.format.proofs.Tags.{of_size}
use Rattle.format.proofs.Searched.{found_in}
use Rattle.theory.specs.Walk.Step.{both_true}
use Rattle.theory.specs.Directory.Machine.{find}
use Rattle.theory.specs.Directory.Types.{type1_of}
use Rattle.theory.specs.Back.BackActs.{bytes_at, seen_as, seen}
use Rattle.theory.specs.Lookup.ByMask.{holds, Answers, met_as, bytes_held}
use Rattle.compact_slot.specs.Seat.{seat_tag, seat_off, hit_of, hit_at, created_at, id_before, seated, noted}
use Rattle.compact_slot.specs.Seat.{Gathered}
use Rattle.std.specs.Prelude.{None, Some, Option}

-- ---- the search over one act more
pub found_create : (t : ℕ) (d : List ℕ) (l : List Act) (c i : ℕ) → created_at t i ≡ true → find c i (act t d ∷ l) ≡ None
unfolding created_at act find
found_create t d l c i h =
    let r = both_true (eqb (tag_type3 t) type_create) (eqb (tag_id t) i) h in
    let k : tag_type3 t ≡ type_create = eqb-true (tag_type3 t) type_create r.0 in
    let j : tag_id t ≡ i = eqb-true (tag_id t) i r.1 in
    let e : tag_type1 t ≡ 0x400 = type1_of t ∙ omega arith in
    rw (e, k, j, le-leb i i (omega arith), eq-eqb i i refl)

-- a tag whose type1 is a name's, a struct's or a user attribute's splices nothing
not_splice : (t i : ℕ) → tag_type1 t < 0x400 → id_before t i ≡ i
unfolding id_before
not_splice t i h =
    let k : tag_type1 t ≡ tag_type3 t / 2 ^ 8 * 2 ^ 8 = type1_of t in
    rw (ne_eqb (tag_type3 t) type_create (λ q. omega arith), ne_eqb (tag_type3 t) type_delete (λ q. omega arith))

pub found_on : (t : ℕ) (d : List ℕ) (l : List Act) (c i : ℕ) → c < classes → created_at t i ≡ false
    → find c i (act t d ∷ l) ≡ cond (eqb (tag_id t) i && eqb c (seat_class t)) (load_of t d) (find c (id_before t i) l)
unfolding created_at act find seat_class id_before
found_on t d l c i low h = by (is_name t) refl (is_struct t) refl (is_attr t) refl (eqb (tag_type3 t) type_create) refl
    (eqb (tag_type3 t) type_delete) refl
  where
    never : eqb c classes ≡ false
    never = ne_eqb c classes (λ q. omega arith)

    miss : (x : Bool) (v w : Option Load) → cond (x && eqb c classes) v w ≡ w
    miss true v w = rw never
    miss false v w = refl

    by : (n : Bool) → is_name t ≡ n → (s : Bool) → is_struct t ≡ s → (a : Bool) → is_attr t ≡ a → (k : Bool)
        → eqb (tag_type3 t) type_create ≡ k → (r : Bool) → eqb (tag_type3 t) type_delete ≡ r
        → find c i (cond n (put (tag_id t) 0 (load_of t d))
        (cond s (put (tag_id t) 1 (load_of t d)) (cond a (put (tag_id t) (2 + tag_chunk t) (load_of t d))
        (cond k (mk (tag_id t)) (cond r (rm (tag_id t)) skip)))) ∷ l)
        ≡ cond (eqb (tag_id t) i && eqb c (cond n 0 (cond s 1 (cond a (2 + tag_chunk t) classes)))) (load_of t d)
        (find c (id_before t i) l)
    by true en s es a ea k ek r er = rw (not_splice t i (omega (arith, eqb-true (tag_type1 t) type_name en)))
    by false en true es a ea k ek r er = rw (not_splice t i (omega (arith, eqb-true (tag_type1 t) type_dir_struct es)))
    by false en false es true ea k ek r er = rw (not_splice t i (omega (arith, eqb-true (tag_type1 t) type_user_attr ea)))
    by false en false es false ea true ek r er =
        sym (miss (eqb (tag_id t) i) (load_of t d) (find c (id_before t i) l) ∙ create (ltb (tag_id t) i) refl)
      where
        other : eqb (tag_id t) i ≡ false
        other = rw ek at h

        create : (b : Bool) → ltb (tag_id t) i ≡ b → find c (id_before t i) l ≡ find c i (mk (tag_id t) ∷ l)
        create true e = rw (id_before, ek, e, le-leb (tag_id t) i (omega (arith, ltb-true (tag_id t) i e)), other)
        create false e =
            let n : (tag_id t ≡ i → ⊥) = eqb-false (tag_id t) i other in
            rw (id_before, ek, e, lt-leb (tag_id t) i (omega (arith, ltb-false (tag_id t) i e)))
    by false en false es false ea false ek true er =
        sym (miss (eqb (tag_id t) i) (load_of t d) (find c (id_before t i) l) ∙ delete (leb (tag_id t) i) refl)
      where
        delete : (b : Bool) → leb (tag_id t) i ≡ b → find c (id_before t i) l ≡ find c i (rm (tag_id t) ∷ l)
        delete true e = rw (id_before, ek, er, e)
        delete false e = rw (id_before, ek, er, e)
    by false en false es false ea false ek false er =
        sym (miss (eqb (tag_id t) i) (load_of t d) (find c (id_before t i) l) ∙ rw (id_before, ek, er))

-- ---- a seat that is taken, by the tag t that stands at `at`
abbrev pub named : ℕ → ℕ → ℕ
named t id = tag_of (tag_type3 t) id (tag_size t)

module _ (b : List ℕ) (t at id : ℕ) (low : id < 2 ^ 10) where
  same_length : tag_length (named t id) ≡ tag_length t
  unfolding tag_length
  same_length = rw (of_size (tag_type3 t) id (tag_size t) (omega arith))

  same_gone : tag_delete (named t id) ≡ tag_delete t
  same_gone = rw (of_size (tag_type3 t) id (tag_size t) (omega arith))

  abbrev m : Met
  m = record { tag = t; off = at }

  seat_is : hit_of (named t id) (at + 4) ≡ cond (tag_delete t) None (Some (met_as m (named t id)))
  unfolding hit_of
  seat_is = rw (ne_eqb (at + 4) 0 (λ q. omega arith), same_gone, same_length)

  -- so it is free, or has an entry of this id
  seat_held : (holds b (hit_of (named t id) (at + 4)) ≡ load_of t (bytes_at b m))
      × Answers id (hit_of (named t id) (at + 4))
  unfolding holds
  seat_held = rw seat_is (go (tag_delete t) refl)
    where
      go : (gone : Bool) → tag_delete t ≡ gone
          → (holds b (cond gone None (Some (met_as m (named t id))))
          ≡ cond gone None (Some (record { type = tag_type3 t; bytes = bytes_at b m })))
          × Answers id (cond gone None (Some (met_as m (named t id))))
      go true e = (refl, tt)
      go false e = bytes_held b m id (named t id) refl low e

  seat_inside : at + tag_length t ≤ length b → HitIn (length b) (hit_of (named t id) (at + 4))
  seat_inside h = rw seat_is (go (tag_delete t) refl)
    where
      go : (gone : Bool) → tag_delete t ≡ gone
          → HitIn (length b) (cond gone None (Some (met_as m (named t id))))
      go true e = tt
      go false e = let f = found_in t at 0 (length b) e h in
          record { counted = f.counted; kept = f.kept; inside = f.inside }

-- ---- the walk so far: a seat that is taken holds what the search finds, and for one that is free the search goes on
-- what is known of a seat, tag and offset
pub record Kept (b : List ℕ) (id t off : ℕ) : Type 0 where
  pub inside : HitIn (length b) (hit_of t off)
  pub named' : Answers id (hit_of t off)

pub record Gathering (b : List ℕ) (all : List Act) (id : ℕ) (l : List Act) (slot : ℕ) (seats : List ℕ) : Type 0 where
  pub loads : (c : ℕ) → c < classes → cond (eqb (seat_off seats c) 0) (find c slot l) (holds b (hit_at seats c))
      ≡ find c id all
  pub kept : (c : ℕ) → c < classes → Kept b id (seat_tag seats c) (seat_off seats c)
  pub full : length seats ≡ 2 * classes

free_kept : (b : List ℕ) (id : ℕ) → Kept b id 0 0
unfolding hit_of
free_kept b id = record { inside = tt; named' = tt }

pub starts : (b : List ℕ) (l : List Act) (id : ℕ) → Gathering b l id l id (replicate (2 * classes) 0)
starts b l id =
    record {
      loads = λ c k. rw (get_or-replicate {A = ℕ} (2 * classes) (2 * c + 1) 0 0 (omega arith));
      kept = λ c k. rw (
        get_or-replicate {A = ℕ} (2 * classes) (2 * c) 0 0 (omega arith),
        get_or-replicate {A = ℕ} (2 * classes) (2 * c + 1) 0 0 (omega arith),
      ) (free_kept b id);
      full = length-replicate {A = ℕ} (2 * classes) 0;
    }

-- it ends where the search finds nothing more
load_free : (b : List ℕ) (t off : ℕ) → eqb off 0 ≡ true → holds b (hit_of t off) ≡ None
unfolding hit_of holds
load_free b t off e = rw e

picked : (z : Bool) (x y w : Option Load) → cond z x y ≡ w → (z ≡ true → x ≡ w) × (z ≡ false → y ≡ w)
picked true x y w h = (λ e. h, λ e. cc)
picked false x y w h = (λ e. cc, λ e. h)

ends : (b : List ℕ) (all : List Act) (id : ℕ) (l : List Act) (slot : ℕ) (seats : List ℕ)
    → ((c : ℕ) → find c slot l ≡ None) → Gathering b all id l slot seats → Gathered b all id seats
ends b all id l slot seats none_left g =
    record {
      loads = λ c k. go (seat_tag seats c) (seat_off seats c) (eqb (seat_off seats c) 0) refl c (g.loads c k);
      inside = λ c k. (g.kept c k).inside;
      named = λ c k. (g.kept c k).named';
    }
  where
    go : (t v : ℕ) (z : Bool) → eqb v 0 ≡ z → (c : ℕ)
        → cond (eqb v 0) (find c slot l) (holds b (hit_of t v)) ≡ find c id all
        → holds b (hit_of t v) ≡ find c id all
    go t v true e c h = load_free b t v e ∙ sym (none_left c) ∙ (picked (eqb v 0) (find c slot l) (holds b (hit_of t v))
        (find c id all) h).0 e
    go t v false e c h = (picked (eqb v 0) (find c slot l) (holds b (hit_of t v)) (find c id all) h).1 e

pub ends_empty : (b : List ℕ) (all : List Act) (id slot : ℕ) (seats : List ℕ) → Gathering b all id [] slot seats
    → Gathered b all id seats
unfolding find
ends_empty b all id slot seats g = ends b all id [] slot seats (λ c. refl) g

pub ends_created : (b : List ℕ) (all : List Act) (id t : ℕ) (d : List ℕ) (l : List Act) (slot : ℕ) (seats : List ℕ)
    → created_at t slot ≡ true
    → Gathering b all id (act t d ∷ l) slot seats → Gathered b all id seats
ends_created b all id t d l slot seats h g = ends b all id (act t d ∷ l) slot seats (λ c. found_create t d l c slot h) g

-- ---- one seat taken: its two words, and those of the others
module _ (seats : List ℕ) (k t off : ℕ) where
  seated_length : length (seated seats k t off) ≡ length seats
  seated_length = length-set (set seats (2 * k) t) (2 * k + 1) off ∙ length-set seats (2 * k) t

  seated_other : (c : ℕ) → (c ≡ k → ⊥)
      → (seat_tag (seated seats k t off) c ≡ seat_tag seats c) × (seat_off (seated seats k t off) c ≡ seat_off seats c)
  seated_other c n = (
    get_or-set_other (set seats (2 * k) t) (2 * k + 1) (2 * c) off 0 (λ q. omega arith)
        ∙ get_or-set_other seats (2 * k) (2 * c) t 0 (λ q. n (omega arith)),
    get_or-set_other (set seats (2 * k) t) (2 * k + 1) (2 * c + 1) off 0 (λ q. n (omega arith))
        ∙ get_or-set_other seats (2 * k) (2 * c + 1) t 0 (λ q. omega arith),
  )

  seated_same : 2 * k + 1 < length seats
      → (seat_tag (seated seats k t off) k ≡ t) × (seat_off (seated seats k t off) k ≡ off)
  seated_same h = (
    get_or-set_other (set seats (2 * k) t) (2 * k + 1) (2 * k) off 0 (λ q. omega arith)
        ∙ get_or-set_same seats (2 * k) t 0 (omega arith),
    get_or-set_same (set seats (2 * k) t) (2 * k + 1) off 0 (omega (arith, length-set seats (2 * k) t)),
  )

-- ---- one entry more
module _ (seats : List ℕ) (t at slot id : ℕ) where
  abbrev k : ℕ
  k = seat_class t

  noted_past : (m x z : Bool) → eqb (tag_id t) slot ≡ m → ltb k classes ≡ x → eqb (seat_off seats k) 0 ≡ z
      → m && x && z ≡ false → noted seats t at slot id ≡ seats
  unfolding noted
  noted_past m x z em ex ez h = rw (em, ex, ez, h)

  noted_hit : eqb (tag_id t) slot ≡ true → k < classes → eqb (seat_off seats k) 0 ≡ true
      → noted seats t at slot id ≡ seated seats k (named t id) (at + 4)
  unfolding noted
  noted_hit em low ez = rw (em, lt-ltb k classes low, ez)

  noted_other : (c : ℕ) → (c ≡ k → ⊥) → (seat_tag (noted seats t at slot id) c ≡ seat_tag seats c)
      × (seat_off (noted seats t at slot id) c ≡ seat_off seats c)
  unfolding noted
  noted_other c n = go (eqb (tag_id t) slot && ltb k classes && eqb (seat_off seats k) 0)
    where
      go : (x : Bool) → (seat_tag (cond x (seated seats k (named t id) (at + 4)) seats) c ≡ seat_tag seats c)
          × (seat_off (cond x (seated seats k (named t id) (at + 4)) seats) c ≡ seat_off seats c)
      go true = seated_other seats k (named t id) (at + 4) c n
      go false = (refl, refl)

  noted_length : length (noted seats t at slot id) ≡ length seats
  unfolding noted
  noted_length = go (eqb (tag_id t) slot && ltb k classes && eqb (seat_off seats k) 0)
    where
      go : (x : Bool) → length (cond x (seated seats k (named t id) (at + 4)) seats) ≡ length seats
      go true = seated_length seats k (named t id) (at + 4)
      go false = refl

past_id : (x z : Bool) → false && x && z ≡ false
past_id x z = refl

past_taken : (m x : Bool) → m && x && false ≡ false
past_taken true true = refl
past_taken true false = refl
past_taken false x = refl

module _ (b : List ℕ) (all : List Act) (id t at : ℕ) (l : List Act) (slot : ℕ) (seats : List ℕ) (low : id < 2 ^ 10)
    (whole : at + tag_length t ≤ length b) (full : length seats ≡ 2 * classes) (not : created_at t slot ≡ false) where
  abbrev d : List ℕ
  d = bytes_at b (record { tag = t; off = at })

  abbrev next : List ℕ
  next = noted seats t at slot id

  -- what the seat of class c says after the tag
  abbrev Says : ℕ → Type 0
  Says c =
      (cond (eqb (seat_off seats c) 0) (find c slot (act t d ∷ l)) (holds b (hit_at seats c))
      ≡ cond (eqb (seat_off next c) 0) (find c (id_before t slot) l) (holds b (hit_at next c)))
      × (Kept b id (seat_tag seats c) (seat_off seats c) → Kept b id (seat_tag next c) (seat_off next c))

  after : (c : ℕ) → c < classes → Says c
  after c h = go (eqb c (seat_class t)) refl (eqb (tag_id t) slot) refl (eqb (seat_off seats c) 0) refl
    where
      on : find c slot (act t d ∷ l) ≡ cond (eqb (tag_id t) slot && eqb c (seat_class t)) (load_of t d)
          (find c (id_before t slot) l)
      on = found_on t d l c slot h not

      -- the seat stays, and the search goes on
      stay : (seat_tag next c ≡ seat_tag seats c) × (seat_off next c ≡ seat_off seats c)
          → eqb (tag_id t) slot && eqb c (seat_class t) ≡ false → Says c
      stay e n = rw (e.0, e.1, on, n) (refl, λ i. i)

      same_seats : next ≡ seats → (seat_tag next c ≡ seat_tag seats c) × (seat_off next c ≡ seat_off seats c)
      same_seats e = (ap (λ (s : List ℕ). seat_tag s c) e, ap (λ (s : List ℕ). seat_off s c) e)

      and_false : (x : Bool) → x && false ≡ false
      and_false true = refl
      and_false false = refl

      go : (q : Bool) → eqb c (seat_class t) ≡ q → (m : Bool) → eqb (tag_id t) slot ≡ m → (z : Bool)
          → eqb (seat_off seats c) 0 ≡ z → Says c
      go false eq m em z ez = stay (noted_other seats t at slot id c (eqb-false c (seat_class t) eq))
          (rw eq (and_false (eqb (tag_id t) slot)))
      go true eq false em z ez =
          stay (same_seats (noted_past seats t at slot id false (ltb (seat_class t) classes)
          (eqb (seat_off seats (seat_class t)) 0) em refl refl
          (past_id (ltb (seat_class t) classes) (eqb (seat_off seats (seat_class t)) 0)))) (rw em)
      go true eq true em false ez =
          let same : c ≡ seat_class t = eqb-true c (seat_class t) eq in
          let e = same_seats (noted_past seats t at slot id true (ltb (seat_class t) classes) false em refl
          (rw same at ez) (past_taken true (ltb (seat_class t) classes))) in
          rw (e.0, e.1, ez) (refl, λ i. i)
      go true eq true em true ez =
          let same : c ≡ seat_class t = eqb-true c (seat_class t) eq in
          let room : 2 * seat_class t + 1 < length seats = omega (arith, h, same, full) in
          let s = seated_same seats (seat_class t) (named t id) (at + 4) room in
          let n : next ≡ seated seats (seat_class t) (named t id) (at + 4) =
          noted_hit seats t at slot id em (rw (← same) h) (rw same at ez) in
          let tag : seat_tag next c ≡ named t id = ap (λ (s : List ℕ). seat_tag s c) n ∙ rw same s.0 in
          let off : seat_off next c ≡ at + 4 = ap (λ (s : List ℕ). seat_off s c) n ∙ rw same s.1 in
          rw (tag, off, ez, on, em, eq, ne_eqb (at + 4) 0 (λ q. omega arith)) (
            sym (seat_held b t at id low).0,
            λ i. record { inside = seat_inside b t at id low whole; named' = (seat_held b t at id low).1 },
          )

  pub turns : Gathering b all id (act t d ∷ l) slot seats → Gathering b all id l (id_before t slot) next
  turns g = record {
    loads = λ c h. sym (after c h).0 ∙ g.loads c h;
    kept = λ c h. (after c h).1 (g.kept c h);
    full = noted_length seats t at slot id ∙ full;
  }

-- ---- the same on the tags of a block: the tag t stands at `at`
pub id_before_most : (t id : ℕ) → id_before t id ≤ id + 1
unfolding id_before
id_before_most t id = go (eqb (tag_type3 t) type_create) (ltb (tag_id t) id) (eqb (tag_type3 t) type_delete)
    (leb (tag_id t) id)
  where
    go : (c x d y : Bool) → cond c (cond x (id - 1) id) (cond d (cond y (id + 1) id) id) ≤ id + 1
    go true true d y = omega arith
    go true false d y = omega arith
    go false x true true = omega arith
    go false x true false = omega arith
    go false x false y = omega arith

-- l: the tags that are left
module _ (b : List ℕ) (all : List Act) (id slot : ℕ) (seats : List ℕ) (l : List Met)
    (g : Gathering b all id (map (seen b) l) slot seats) where
  pub walk_over : l ≡ [] → Gathered b all id seats
  walk_over h = ends_empty b all id slot seats (rw h at g)

  module _ (t at : ℕ) (older : List Met) (e : l ≡ record { tag = t; off = at } ∷ older) (made : Bool)
      (em : made ≡ created_at t slot) where
    here : Gathering b all id (act t (bytes_at b (record { tag = t; off = at })) ∷ map (seen b) older) slot seats
    unfolding seen_as
    here = rw e at g

    pub walk_created : made ≡ true → Gathered b all id seats
    walk_created q = ends_created b all id t (bytes_at b (record { tag = t; off = at })) (map (seen b) older) slot seats
        (sym em ∙ q) here

    -- `next` are the seats and `before` is the id behind the tag
    pub walk_on : made ≡ false → id < 2 ^ 10 → at + tag_length t ≤ length b → (next : List ℕ)
        → next ≡ noted seats t at slot id → (before : ℕ) → before ≡ id_before t slot
        → Gathering b all id (map (seen b) older) before next
    walk_on q low fits next enext before ebefore =
        rw (enext, ebefore) (turns b all id t at (map (seen b) older) slot seats low fits g.full (sym em ∙ q) here)
