-- The entry of a slot, as the code finds it: its newest name, whether `lfs_dir_getinfo` sees one, and its struct.
-- Assumes nothing.
use mathlib.Core.Path.{◌≡◌, refl, sym, ap, ◌∙◌}
use mathlib.Core.Logic.{inl, inr}
use mathlib.Core.Bool.{Bool, true, false, ◌&&◌}
use mathlib.Core.List.{List, [], ◌∷◌}
use Prim.Native.Nat.{ℕ, ◌≤◌, ◌<◌}
use native.Mathlib.Omega.{arith}
use lib.ListN.{length, drop}
use lib.Dec.{leb, ltb}
use borrow.Author.Tests.{ne_eqb}
use Rattle.format.specs.Word.{le32}
use Rattle.format.specs.Tag.{tag_type3, mk_tag, tag_of}
use Rattle.format.specs.Kind.{type_dir_struct}
use Rattle.format.specs.Back.{back}
use Rattle.format.specs.Look.{mask_type1, bytes_of, FoundIn, wlook}
use Rattle.format.specs.Lookup.{name_mask, name_key, struct_key, slice_buffer, blank_buffer, info_size, info_of}
use Rattle.format.specs.Lookup.{read_answer, read_buffer}
use Rattle.format.specs.Directory.{Load}
use Rattle.format.specs.Tree.{node_of, into_of}
use Rattle.format.specs.TreeMachine.{hidden}
use Rattle.format.specs.declared.Found.{Found}
use Rattle.format.proofs.Searched.{hit_in}
use Rattle.theory.specs.Lookup.ByMask.{holds, holds_as, Answers, missing, there}
use Rattle.theory.proofs.Compact.AcceptedVerdict.{slots_few}
use Rattle.lookup.proofs.Moves.{tag_made}
use Rattle.tree_theory.specs.Nodes.{padded_word, eight_bytes, read_found, node_both}
use Rattle.tree_theory.specs.OnBlock.{newest_hit, named_hit, struct_hit, slot_at, end_inside, hit_inside}
use Rattle.tree_theory.specs.OnBlock.{newest_held, struct_held, named_newest}
use Rattle.tree_pair.specs.Pair.{Slotted, load_at, Sees, NameSeen, node_at, Shows, EntryIs}
use Rattle.tree_pair.specs.declared.Entry.{Entry}
use Rattle.format.specs.Tree as tree
use Rattle.std.specs.Prelude.{None, Option, Some}

pub hidden_is : (t k : ℕ) → k ≡ tag_type3 t → leb 0x080 k && ltb k 0x100 ≡ hidden (tag_type3 t)
unfolding hidden
hidden_is t k e = rw e

-- what the search under 0x780 holds was found
found_held : (b : List ℕ) (h : Option Found) (v : Load) → holds_as (bytes_of b) h ≡ Some v → (e : Found) × (h ≡ Some e)
unfolding holds_as
found_held b None v q = absurd (let z : ◌≡◌ {A = ℕ} 0 1 = cc in omega arith)
found_held b (Some e) v q = (e, refl)

-- a slot with no entry shows nothing
pub no_entry : (b : List ℕ) (nodes : List tree.Node) (r : Option Entry) → r ≡ None → nodes ≡ [] → EntryIs b nodes r
no_entry b nodes r e h = rw e h

-- an entry without a name that is seen, or without a struct
no_name : (b : List ℕ) (h1 : Option Found) (v w : Option Load) → node_of (info_of b 255 None h1) v w ≡ []
unfolding node_of
no_name b h1 None w = refl
no_name b h1 (Some v) None = refl
no_name b h1 (Some v) (Some w) = refl

no_struct : (b : List ℕ) (h0 h1 : Option Found) (v : Option Load) → node_of (info_of b 255 h0 h1) v None ≡ []
unfolding node_of
no_struct b h0 h1 None = refl
no_struct b h0 h1 (Some v) = refl

module _ (b : List ℕ) (end etag id : ℕ) (s : Slotted b end etag id) where
  abbrev N : Option Found
  N = named_hit b end etag id

  pub search_fits : end ≤ length b
  search_fits = end_inside b end etag s.regularly

  few : id < 1_023
  few = omega (arith, s.low, slots_few b s.regularly.regular)

  -- ---- the name; h is what was found under 0x700
  module _ (key : ℕ) (ek : key ≡ mk_tag 0x000 id 256) (h : Option Found) (eh : h ≡ wlook true 0x700f_fc00 key 0 (back b end etag))
    where
      key_is : key ≡ name_key id 255
      key_is = tag_made 0x000 id 256 key (omega arith) (omega (arith, few)) (omega arith) ek

      newest : h ≡ newest_hit b end etag id
      newest = eh ∙ ap (λ k. wlook true mask_type1 k 0 (back b end etag)) key_is

      held : holds b h ≡ slot_at b id 0
      held = ap (holds b) newest ∙ (newest_held b end etag s.regularly id s.low).0

      pub name_none : h ≡ None → NameSeen b N (slot_at b id 0) None
      name_none q = inl (sym held ∙ sym (missing b h q))

      module _ (e : Found) (q : h ≡ Some e) where
        sees : (o : Found) → N ≡ Some o → Sees b N (slot_at b id 0) e
        sees o found = record {
          inside = hit_in (length b) (newest_hit b end etag id) (hit_inside b end etag s.regularly _ _) (sym newest
              ∙ q);
          newest = sym held ∙ sym (there b h q);
          other = o;
          found = found;
        }

        -- x is whether it is hidden
        pub name_plain : (x : Bool) → x ≡ hidden (tag_type3 e.tag) → x ≡ false → Sees b N (slot_at b id 0) e
        name_plain x ex n =
            let f = found_held b N (load_at b e) (named_newest b end etag s.regularly id s.low (load_at b e)
            (sym held ∙ sym (there b h q)) (sym ex ∙ n)) in
            sees f.0 f.1

        -- the second search, h2
        module _ (h2 : Option Found) (e2 : h2 ≡ wlook true 0x780f_fc00 key 0 (back b end etag)) where
          under : h2 ≡ N
          unfolding tag_of
          under = e2 ∙ ap (λ k. wlook true 0x780f_fc00 k 0 (back b end etag)) key_is

          pub name_unseen : h2 ≡ None → NameSeen b N (slot_at b id 0) None
          name_unseen p = inr (sym under ∙ p)

          pub name_under : (o : Found) → h2 ≡ Some o → Sees b N (slot_at b id 0) e
          name_under o p = sees o (sym under ∙ p)

  -- ---- the entry; y is what `name_seen` answers
  pub entry_unseen : (y : Option Found) → NameSeen b N (slot_at b id 0) y → y ≡ None → node_at b end etag id ≡ []
  unfolding node_of
  entry_unseen None (inl n) q = rw n
  entry_unseen None (inr n) q = rw n (no_name b (struct_hit b end etag id) (slot_at b id 0) (slot_at b id 1))
  entry_unseen (Some e) n q = absurd (let z : ◌≡◌ {A = ℕ} 0 1 = cc in omega arith)

  -- h is what was found of the struct
  module _ (key : ℕ) (ek : key ≡ mk_tag 0x200 id 8) (h : Option Found) (eh : h ≡ wlook true 0x700f_fc00 key 0 (back b end etag))
    where
      struct_is : h ≡ struct_hit b end etag id
      unfolding tag_of
      struct_is =
          let k : key ≡ struct_key id = tag_made 0x200 id 8 key (omega arith) (omega (arith, few)) (omega arith) ek in
          eh ∙ ap (λ k. wlook true 0x700f_fc00 k 0 (back b end etag)) k

      content : holds b h ≡ slot_at b id 1
      content = ap (holds b) struct_is ∙ (struct_held b end etag s.regularly id s.low).0

      pub entry_bare : h ≡ None → node_at b end etag id ≡ []
      entry_bare q = rw (sym content ∙ sym (missing b h q))
          (no_struct b (named_hit b end etag id) (struct_hit b end etag id) (slot_at b id 0))

      module _ (u : Found) (q : h ≡ Some u) where
        pub content_inside : FoundIn (length b) u
        content_inside = hit_in (length b) (struct_hit b end etag id) (hit_inside b end etag s.regularly _ _)
            (sym struct_is ∙ q)

        answers : Answers id (Some u)
        answers = rw (sym struct_is ∙ q) at (struct_held b end etag s.regularly id s.low).1

        -- e is the name, y what `name_seen` answered
        module _ (y : Option Found) (e : Found) (n : NameSeen b N (slot_at b id 0) y) (z : y ≡ Some e) where
          seen : Sees b N (slot_at b id 0) e
          seen = rw z at n

          -- d is the buffer with the struct's eight bytes
          module _ (d : List ℕ) (ed : d ≡ slice_buffer b 0 (blank_buffer 8) (Some u)) where
            both : node_at b end etag id
                ≡ record { name = load_at b e; size = info_size u.tag d; into = into_of (load_at b u) } ∷ []
            both =
                rw (seen.newest, sym content ∙ sym (there b h q), seen.found, sym struct_is ∙ q)
                (node_both (read_answer b 256 (Some seen.other)) (read_answer b 8 (Some u))
                (read_buffer b 256 (Some seen.other)) (read_buffer b 8 (Some u)) seen.other u (load_at b e)
                (load_at b u)
                (read_found b 256 seen.other
                (hit_in (length b) N (hit_inside b end etag s.regularly name_mask (name_key id 255)) seen.found))
                (read_found b 8 u content_inside)
                ∙ ap (λ (l : List ℕ). record { name = load_at b e; size = info_size u.tag l; into = into_of (load_at b u) }
                ∷ []) (sym ed))

            -- k is the struct's type
            module _ (k : ℕ) (kind : k ≡ tag_type3 u.tag) where
              pub entry_file : (k ≡ 0x200 → ⊥) → (size : ℕ) → size ≡ info_size u.tag d
                  → Shows b e size None (node_at b end etag id)
              entry_file other size es = record {
                inside = seen.inside;
                is = both ∙ rw (ne_eqb (tag_type3 u.tag) type_dir_struct (λ p. other (kind ∙ p)), ← es);
              }

              word_read : (j : ℕ) → j ≤ 4 → le32 (drop j d) ≡ le32 (drop j (bytes_of b u))
              word_read j l = ap (λ (x : List ℕ). le32 (drop j x)) (ed ∙ eight_bytes b u content_inside id answers)
                  ∙ padded_word (bytes_of b u) j l

              pub entry_dir : k ≡ 0x200 → (x y : ℕ) → x ≡ le32 (drop 0 d) → y ≡ le32 (drop 4 d)
                  → Shows b e 0 (Some (record { n0 = x; n1 = y })) (node_at b end etag id)
              entry_dir is x y ex ey = record {
                inside = seen.inside;
                is = both ∙ rw (sym kind ∙ is, ex ∙ word_read 0 (omega arith), ey ∙ word_read 4 (omega arith));
              }
