-- The slot walk: what its loop keeps, one rule for each kind of entry, and what it comes to. Assumes nothing.
use mathlib.Core.Path.{◌≡◌, refl, sym, ap, subst, ◌∙◌}
use mathlib.Core.List.{List, [], ◌∷◌, ◌++◌}
use Prim.{tt}
use Prim.Native.Nat.{ℕ, suc, ◌+◌, ◌≤◌, ◌<◌}
use native.Mathlib.Numerals.{add-one}
use native.Mathlib.Omega.{arith}
use lib.ListN.{length, drop, drop_of_length-le}
use lib.Seq.{drop-cons}
use Rattle.format.specs.Log.{log}
use Rattle.format.specs.Directory.{empty, dir_of}
use Rattle.format.specs.Volume.{block_in}
use Rattle.format.specs.Tree.{Node, nodes_from, Walk, line_text, slot_walk, dir_walk}
use Rattle.format.specs.declared.Geometry.{Geometry}
use Rattle.format.specs.declared.LfsPair.{LfsPair}
use Rattle.format.specs.declared.Refusal.{Refusal}
use Rattle.format.specs.declared.Found.{Found}
use Rattle.format.specs.declared.Rules.{Rules}
use Rattle.text.specs.declared.Text.{Text}
use Rattle.text.specs.Put.{State, state_of, puts_of, Puts}
use Rattle.text.proofs.Joined.{puts_nothing}
use Rattle.tree_theory.specs.OnBlock.{info_at}
use Rattle.tree_pair.specs.Pair.{node_at, dir_nodes, Slotted, Stands, load_at, line_of, EntryIs, EntryIn, entry_text}
use Rattle.tree_pair.specs.declared.Dir.{Dir}
use Rattle.tree_pair.specs.declared.Entry.{Entry}
use Rattle.tree_pair.specs.declared.Entry.TheVariants as entry
use Rattle.tree_walk.specs.declared.Walked.{Walked}
use Rattle.tree_walk.specs.Walks.{Outcome, comes, outcome, pairs, Walks, DirWalks}
use Rattle.tree_walk.proofs.Outcomes.{onward, stays, moves, comes_ended, comes_entry}
use Rattle.std.specs.Prelude.{Err, Ok, None, Some, Option}

-- an entry's name stands in the block
pub entry_in : (b : List ℕ) (ns : List Node) (r : Option Entry) (e : Entry) → EntryIs b ns r → r ≡ Some e
    → EntryIn (length b) e
entry_in b ns r e h q = named e (rw q at h)
  where
    named : (x : Entry) → EntryIs b ns (Some x) → EntryIn (length b) x
    named (entry.File name size) k = k.inside
    named (entry.Dir name p) k = k.inside

-- ---- the block b of a pair that was opened
module _ (g : Geometry) (vol : List ℕ) (d : Dir) (b : List ℕ) (stands : Stands g vol d)
    (eb : b ≡ block_in g vol d.block) where
  count_is : d.count ≡ length (dir_of (log b))
  count_is = stands.count' ∙ ap (λ (x : List ℕ). length (dir_of (log x))) (sym eb)

  pub slotted : (id : ℕ) → id < d.count → Slotted b d.end d.etag id
  slotted id h = rw eb (record { regularly = stands.regularly; low = omega (arith, stands.count') })

-- ---- the loop: left0 and s0 are what it began with, and b is the block
module _ (g : Geometry) (vol : List ℕ) (rules : Rules) (depth : ℕ) (d : Dir) (left0 : ℕ) (s0 : Text) (b : List ℕ) where
  -- the entries from id on
  abbrev rest : ℕ → List Node
  rest id = nodes_from (info_at b d.end d.etag) id (drop id (dir_of (log b)))

  abbrev walked : ℕ → List Node → ℕ → Walk
  walked n ns left = slot_walk (dir_walk n (pairs g vol rules) (suc depth)) depth ns left

  -- the walk that is asked for goes on from here
  abbrev pub Reached : ℕ → ℕ → Text → Type 0
  Reached id spare u = (u.out.ghost_name ≡ s0.out.ghost_name) × ((n : ℕ) → left0 < n
      → comes (state_of s0) (walked n (dir_nodes g vol d) left0) ≡ comes (state_of u) (walked n (rest id) spare))

  -- what the loop keeps, wherever the two come from
  abbrev pub Kept : ℕ → ℕ → Text → Type 0
  Kept id spare u = (spare ≤ left0) × Reached id spare u

  pub kept_by : (id spare spare1 : ℕ) (u u1 : Text) → u ≡ u1 → spare ≡ spare1 → Kept id spare1 u1 → Kept id spare u
  kept_by id spare spare1 u u1 p q k = rw (p, q) k

  abbrev Comes : Walked → Text → Type 0
  Comes = Walks (λ n. walked n (dir_nodes g vol d) left0) left0 s0

  module _ (stands : Stands g vol d) (eb : b ≡ block_in g vol d.block) where
    pub begins : Reached 0 left0 s0
    begins = (
      refl,
      λ n h. ap (λ (x : List ℕ). comes (state_of s0)
          (walked n (nodes_from (info_at x d.end d.etag) 0 (dir_of (log x))) left0)) (sym eb),
    )

    pub slots_end : (id spare : ℕ) (u : Text) → d.count ≤ id → spare ≤ left0 → Reached id spare u
        → Comes (record { answer = (Ok tt); left = spare }) u
    unfolding nodes_from slot_walk
    slots_end id spare u h low reached = record {
      low = low;
      buffer = reached.0;
      is = λ n k. sym (reached.1 n k ∙ ap (λ (D : _). comes (state_of u) (walked n
          (nodes_from (info_at b d.end d.etag) id D) spare))
          (drop_of_length-le (dir_of (log b)) {i = id} (omega (arith, count_is g vol d b stands eb))) ∙ comes_ended
          (state_of u) spare);
    }

    -- ---- a turn: r is what the slot id has
    module _ (id spare : ℕ) (u : Text) (more : id < d.count) (low : spare ≤ left0)
        (reached : Reached id spare u) (r : Option Entry) (has : EntryIs b (node_at b d.end d.etag id) r) where
      rest_next : rest id ≡ node_at b d.end d.etag id ++ rest (id + 1)
      unfolding nodes_from
      rest_next = rw (add-one id)
          (ap (nodes_from (info_at b d.end d.etag) id) (drop-cons (dir_of (log b)) id empty
          (omega (arith, count_is g vol d b stands eb))))

      -- what the entry is decides how the walk goes on
      next_is : (ns : List Node) → node_at b d.end d.etag id ≡ ns → (n : ℕ) → left0 < n
          → comes (state_of s0) (walked n (dir_nodes g vol d) left0)
          ≡ comes (state_of u) (walked n (ns ++ rest (id + 1)) spare)
      next_is ns q n h = reached.1 n h ∙ ap (λ (l : List Node). comes (state_of u) (walked n l spare))
          (rest_next ∙ ap (λ (l : List Node). l ++ rest (id + 1)) q)

      -- no entry
      pub slot_nothing : r ≡ None → Reached (id + 1) spare u
      slot_nothing q = (reached.0, λ n k. next_is [] (rw q at has) n k)

      -- an entry, and its line is put
      module _ (e : Entry) (there : r ≡ Some e) (u1 : Text) (line : Puts u u1 (entry_text b depth e)) where
        is : EntryIs b (node_at b d.end d.etag id) (Some e)
        is = rw there at has

        same : u1.out.ghost_name ≡ s0.out.ghost_name
        same = line.buffer ∙ reached.0

        pub slot_plain : ((name : Found) (p : LfsPair) → e ≡ entry.Dir name p → ⊥) → Reached (id + 1) spare u1
        slot_plain h = (same, λ n k. go n k e h is line.behind)
          where
            go : (n : ℕ) → left0 < n → (x : Entry) → ((name : Found) (p : LfsPair) → x ≡ entry.Dir name p → ⊥)
                → EntryIs b (node_at b d.end d.etag id) (Some x)
                → state_of u1 ≡ puts_of (state_of u) (entry_text b depth x)
                → comes (state_of s0) (walked n (dir_nodes g vol d) left0)
                ≡ comes (state_of u1) (walked n (rest (id + 1)) spare)
            go n k (entry.File name size) t q l =
                let node : Node = record { name = load_at b name; size = size; into = None } in
                next_is (node ∷ []) q.is n k
                ∙ comes_entry (state_of u) (dir_walk n (pairs g vol rules) (suc depth)) depth node (rest (id + 1)) spare
                ∙ ap (λ (o : Outcome). onward o (walked n (rest (id + 1))))
                (comes_ended (puts_of (state_of u) (line_text (line_of depth (load_at b name) size))) spare)
                ∙ ap (λ (s : State). comes s (walked n (rest (id + 1)) spare)) (sym l)
            go n k (entry.Dir name p) t q l = absurd (t name p refl)

        -- a directory, and what walking it came to
        module _ (name : Found) (p : LfsPair) (q : e ≡ entry.Dir name p) (w : Walked) (o : Text)
            (went : DirWalks g vol rules (depth + 1) p spare u1 w o) where
          within : (n : ℕ) → left0 < n → comes (state_of s0) (walked n (dir_nodes g vol d) left0)
              ≡ onward (outcome w o) (walked n (rest (id + 1)))
          unfolding line_text
          within n k =
              let node : Node = record { name = load_at b name; size = 0; into = Some p } in
              let shown = subst (λ (x : Entry). EntryIs b (node_at b d.end d.etag id) (Some x)) q is in
              let l : state_of u1 ≡ puts_of (state_of u) (line_text (line_of depth (load_at b name) 0))
              = line.behind ∙ ap (λ (x : Entry). puts_of (state_of u) (entry_text b depth x)) q in
              next_is (node ∷ []) shown.is n k
              ∙ comes_entry (state_of u) (dir_walk n (pairs g vol rules) (suc depth)) depth node (rest (id + 1)) spare
              ∙ ap (λ (s : State). onward (comes s (dir_walk n (pairs g vol rules) (suc depth) p spare))
              (walked n (rest (id + 1)))) (sym l)
              ∙ ap (λ (x : ℕ). onward (comes (state_of u1) (dir_walk n (pairs g vol rules) x p spare))
              (walked n (rest (id + 1)))) (sym (add-one depth))
              ∙ ap (λ (x : Outcome). onward x (walked n (rest (id + 1)))) (sym (went.is n (omega arith)))

          pub slot_stops : (r : Refusal) → w.answer ≡ Err r → Comes w o
          slot_stops r x = record {
            low = omega (arith, went.low);
            buffer = went.buffer ∙ same;
            is = λ n h. sym (within n h ∙ stays w.answer r x (outcome w o) _);
          }

          pub slot_goes_on : w.answer ≡ (Ok tt) → Reached (id + 1) w.left o
          slot_goes_on x = (went.buffer ∙ same, λ n h. within n h ∙ moves w.answer x (outcome w o) _)
