-- The entry of a slot, from what the lookups find: where `lfs_dir_getinfo` sees a name, and there is a struct, the
-- entry has the newest name and the struct's size. Assumes nothing.
use Rattle.std.specs.Prelude.{◌≡◌, refl, List, [], ◌∷◌, ◌++◌, ℕ, zero, suc, ◌+◌, ◌-◌, ◌≤◌, ◌<◌, take, drop, get_or, replicate, None, Ok, Option, Result, Some}
use Rattle.std.proofs.Math.Path.{sym, ap}
use Rattle.std.proofs.Common.{◌∙◌, arith, get_or-drop, le-leb}
use Rattle.std.proofs.Math.Nat.{min-le_left}
use Rattle.std.proofs.Math.ListN.{length}
use Rattle.format.specs.Word.{le32}
use Rattle.format.specs.Tag.{tag_type3, tag_size}
use Rattle.format.specs.Look.{data_size, bytes_of, FoundIn, HitIn}
use Rattle.format.specs.Lookup.{slice_end, slice_buffer, blank_buffer, info_size, info_from, info_of, read_answer}
use Rattle.format.specs.Lookup.{read_buffer}
use Rattle.format.specs.Directory.{Load}
use Rattle.format.specs.Tree.{Node, into_of, node_of}
use Rattle.format.specs.TreeMachine.{struct_size}
use Rattle.format.specs.declared.Found.{Found}
use Rattle.format.proofs.Tags.{of_size}
use Rattle.format.proofs.Searched.{bytes_length}
use Rattle.theory.specs.Lookup.ByMask.{holds, holds_as, Answers}
use Rattle.theory.specs.Lookup.AtStart.{slice_held}
use Rattle.format.specs.declared.Refusal.{Refusal}

-- ---- eight bytes that were read: zeros where there are fewer
zeros : (m j : ℕ) → get_or {A = ℕ} (replicate m 0) j 0 ≡ 0
zeros zero j = refl
zeros (suc m) zero = refl
zeros (suc m) (suc j) = zeros m j

padded : (n m : ℕ) (l : List ℕ) (j : ℕ) → j < n → get_or (take n l ++ replicate m 0) j 0 ≡ get_or l j 0
padded zero m l j h = absurd (omega arith)
padded (suc n) m [] j h = zeros m j
padded (suc n) m (x ∷ l) zero h = refl
padded (suc n) m (x ∷ l) (suc j) h = padded n m l j (omega arith)

pub padded_word : (l : List ℕ) (k : ℕ) → k ≤ 4 → le32 (drop k (take 8 l ++ replicate (8 - length l) 0))
    ≡ le32 (drop k l)
unfolding le32
padded_word l k h =
    let s : List ℕ = take 8 l ++ replicate (8 - length l) 0 in
    let at : (j : ℕ) → j < 4 → get_or (drop k s) j 0 ≡ get_or (drop k l) j 0 = λ j q.
    get_or-drop k s j 0 ∙ padded 8 (8 - length l) l (k + j) (omega arith) ∙ sym (get_or-drop k l j 0) in
    rw (at 0 (omega arith), at 1 (omega arith), at 2 (omega arith), at 3 (omega arith))

-- what the eight bytes of an entry are, in a blank buffer
module _ (b : List ℕ) (u : Found) (inside : FoundIn (length b) u) where
  pub eight_bytes : (i : ℕ) → Answers i (Some u)
      → slice_buffer b 0 (blank_buffer 8) (Some u)
      ≡ take 8 (bytes_of b u) ++ replicate (8 - length (bytes_of b u)) 0
  unfolding holds
  eight_bytes i a = (slice_held b (blank_buffer 8) i (Some u) inside a).1

  -- the size that the info has
  pub size_is : (i : ℕ) → Answers i (Some u)
      → info_size u.tag (slice_buffer b 0 (blank_buffer 8) (Some u))
      ≡ struct_size (record { type = tag_type3 u.tag; bytes = bytes_of b u })
  unfolding struct_size
  size_is i a =
      let n : length (bytes_of b u) ≡ data_size u = bytes_length b u inside in
      let z : tag_size u.tag ≡ length (bytes_of b u) =
      ap tag_size a ∙ of_size (tag_type3 u.tag) i (data_size u) (omega (arith, inside.kept)) ∙ sym n in
      rw (eight_bytes i a, padded_word (bytes_of b u) 4 (omega arith), z)

-- ---- an entry, by what `lfs_dir_getinfo` sees, the newest name and the struct
unfoldable pub node_seen : Option Load → Option Load → Option Load → List Node
node_seen None name struct = []
node_seen (Some x) None struct = []
node_seen (Some x) (Some v) None = []
node_seen (Some x) (Some v) (Some w) = record { name = v; size = struct_size w; into = into_of w } ∷ []

-- what was found is read
pub read_found : (b : List ℕ) (n : ℕ) (e : Found) → FoundIn (length b) e
    → read_answer b n (Some e) ≡ Ok e
read_found b n e h =
    rw (le-leb (slice_end e 0 n) (length b) (omega (arith, h.inside, min-le_left (data_size e) n)))

-- both lookups of an info found something
pub node_both : (x y : Result Found Refusal) (name struct : List ℕ) (e u : Found) (v w : Load) → x ≡ Ok e → y ≡ Ok u
    → node_of (info_from x name y struct) (Some v) (Some w)
    ≡ record { name = v; size = info_size u.tag struct; into = into_of w } ∷ []
unfolding node_of
node_both x y name struct e u v w p q = rw (p, q)

pub node_seen_lem : (b : List ℕ) (i : ℕ) (h0 h1 : Option Found) → HitIn (length b) h0 → HitIn (length b) h1 → Answers i h1
    → (v : Option Load) → node_of (info_of b 255 h0 h1) v (holds b h1) ≡ node_seen (holds_as (bytes_of b) h0) v (holds b h1)
unfolding node_of node_seen holds holds_as
node_seen_lem b i None None k0 k1 a None = refl
node_seen_lem b i None None k0 k1 a (Some v) = refl
node_seen_lem b i None (Some u) k0 k1 a None = refl
node_seen_lem b i None (Some u) k0 k1 a (Some v) = refl
node_seen_lem b i (Some e) None k0 k1 a None = refl
node_seen_lem b i (Some e) None k0 k1 a (Some v) = refl
node_seen_lem b i (Some e) (Some u) k0 k1 a None = refl
node_seen_lem b i (Some e) (Some u) k0 k1 a (Some v) =
    let w : Load = record { type = tag_type3 u.tag; bytes = bytes_of b u } in
    node_both (read_answer b 256 (Some e)) (read_answer b 8 (Some u)) (read_buffer b 256 (Some e))
    (read_buffer b 8 (Some u)) e u v w (read_found b 256 e k0) (read_found b 8 u k1)
    ∙ ap (λ (n : ℕ). record { name = v; size = n; into = into_of w } ∷ []) (size_is b u k1 i a)
