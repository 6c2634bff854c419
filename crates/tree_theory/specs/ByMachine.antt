-- What the walk finds at a pair is what its machine shows, where no hidden name covers another. Assumes nothing.
use Rattle.std.specs.Prelude.{◌≡◌, refl, Bool, true, false, cond, List, [], ◌∷◌, ◌++◌, ℕ, suc, ◌+◌, ◌<◌, length, get_or, None, Ok, Option, Result, Some}
use Rattle.std.proofs.Common.{sym, ap, ap₂, ◌∙◌, zero-add, arith}
use Rattle.format.specs.Log.{log}
use Rattle.format.specs.Lookup.{name_mask, name_key, struct_mask, struct_key}
use Rattle.format.specs.Directory.{Load, Slot, empty, dir_of}
use Rattle.format.specs.Regular.{Regular}
use Rattle.format.specs.Machine.{machine_of}
use Rattle.format.specs.Volume.{fetch_in}
use Rattle.format.specs.Tree.{Node, node_of, nodes_from, holding, open_in}
use Rattle.format.specs.TreeMachine.{hidden, uncovered, slot_node, slot_nodes, machine_opened}
use Rattle.format.specs.declared.Geometry.{Geometry}
use Rattle.format.specs.declared.LfsPair.{LfsPair}
use Rattle.format.specs.declared.LfsMdir.{LfsMdir}
use Rattle.format.specs.declared.Rules.{Rules}
use Rattle.format.proofs.Growing.{widest}
use Rattle.tree_theory.specs.Covered.{visible}
use Rattle.tree_theory.specs.Nodes.{node_seen, node_seen_lem}
use Rattle.tree_theory.specs.OnBlock.{named_hit, struct_hit, info_at, slot_at, Regularly, hit_inside, struct_held}
use Rattle.tree_theory.specs.OnBlock.{named_visible}
use Rattle.tree_theory.specs.InVolume.{answering, there, on_block, nodes_there}
use Rattle.format.specs.declared.LfsInfo.{LfsInfo}
use Rattle.format.specs.declared.Refusal.{Refusal}
use Rattle.format.specs.Record.{fetched}

seen_slot : (v w : Option Load) → node_seen (visible v) v w ≡ slot_node v w
unfolding node_seen slot_node
seen_slot None w = refl
seen_slot (Some v) None = go (hidden v.type)
  where
    go : (b : Bool) → node_seen (cond b None (Some v)) (Some v) None ≡ []
    go true = refl
    go false = refl
seen_slot (Some v) (Some w) = go (hidden v.type)
  where
    go : (b : Bool) → node_seen (cond b None (Some v)) (Some v) (Some w)
        ≡ cond b [] (node_seen (Some v) (Some v) (Some w))
    go true = refl
    go false = refl

-- ---- the entries of a block, slot by slot
nodes_each : (info : ℕ → Result LfsInfo Refusal) (D : List Slot) (id : ℕ)
    → ((k : ℕ) → k < length D → node_of (info (id + k)) (get_or D k empty 0) (get_or D k empty 1)
    ≡ slot_node (get_or D k empty 0) (get_or D k empty 1)) → nodes_from info id D ≡ slot_nodes D
unfolding nodes_from slot_nodes
nodes_each info [] id h = refl
nodes_each info (s ∷ D) id h =
    let z : id + 0 ≡ id = omega arith in
    ap₂ (λ (x y : List Node). x ++ y) (ap (λ (i : ℕ). node_of (info i) (s 0) (s 1)) (sym z) ∙ h 0 (omega arith))
    (nodes_each info D (suc id) (λ k l. let e : suc id + k ≡ id + suc k = omega arith in
    ap (λ (i : ℕ). node_of (info i) (get_or D k empty 0) (get_or D k empty 1)) e ∙ h (suc k) (omega arith)))

module _ (b : List ℕ) (end etag : ℕ) (w : Regularly b end etag) (u : uncovered (log b) ≡ true) where
  slot_shows : (k : ℕ) → k < length (dir_of (log b))
      → node_of (info_at b end etag k) (slot_at b k 0) (slot_at b k 1) ≡ slot_node (slot_at b k 0) (slot_at b k 1)
  slot_shows k low =
      let a = struct_held b end etag w k low in
      ap (node_of (info_at b end etag k) (slot_at b k 0)) (sym a.0)
      ∙ node_seen_lem b k (named_hit b end etag k) (struct_hit b end etag k) (hit_inside b end etag w name_mask
      (name_key k 255))
      (hit_inside b end etag w struct_mask (struct_key k)) a.1 (slot_at b k 0)
      ∙ ap₂ (λ (x y : Option Load). node_seen x (slot_at b k 0) y) (named_visible b end etag w k low u) a.0
      ∙ seen_slot (slot_at b k 0) (slot_at b k 1)

  block_shows : nodes_from (info_at b end etag) 0 (dir_of (log b)) ≡ slot_nodes (dir_of (log b))
  block_shows = nodes_each (info_at b end etag) (dir_of (log b)) 0 (λ k low. rw (zero-add k) (slot_shows k low))

-- ---- THE LAW
module _ (g : Geometry) (vol : List ℕ) (p : LfsPair) (m : LfsMdir) (s : ℕ) (f : fetch_in g vol p ≡ Ok (fetched m s))
    (r : Rules) (ruled : Regular r (log (answering g vol p m s f)) ≡ true) where
  abbrev b : List ℕ
  b = answering g vol p m s f

  pub opened_machine : uncovered (log b) ≡ true → open_in r g vol p ≡ machine_opened (machine_of (log b))
  unfolding open_in machine_opened
  opened_machine u =
      let t = there g vol p m s f in
      let k = on_block g vol p m s f (widest r (log b) ruled) in
      rw (f, ruled, nodes_there g vol p m s f (widest r (log b) ruled), block_shows b m.off m.etag k u)
      (ap₂ (λ (x : Bool) (q : LfsPair). holding (slot_nodes (dir_of (log b))) (cond x (Some q) None)) t.split'
      t.tail')
