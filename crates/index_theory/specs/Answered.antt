-- What a table answers: of the table of a block with a regular log, what the search back answers. Assumes nothing.
use Rattle.std.specs.Prelude.{◌≡◌, refl, cond, ℕ, suc, ◌-◌, ◌*◌, ◌^◌, ◌≤◌, ◌<◌, get_or, replicate, None, Option, Some}
use Rattle.std.proofs.Common.{sym, ◌∙◌, arith}
use Rattle.std.proofs.Math.Path.{ap}
use mathlib.Core.List.{List, ◌∷◌, ◌++◌, append_assoc}
use Rattle.std.proofs.Math.ListN.{length}
use borrow.Author.Tests.{lt-ltb, le-leb}
use Rattle.format.specs.Tag.{tag_type3, tag_length, tag_of}
use Rattle.format.specs.Kind.{no_slot}
use Rattle.format.specs.Directory.{classes, seat_class, Load, Slot, empty}
use Rattle.format.specs.Look.{data_size, HitIn}
use Rattle.format.specs.Index.{rank_at, class_places, dir_places, padded, seek, is_at, place_hit}
use Rattle.format.specs.Index.{index_hit}
use Rattle.format.proofs.Tags.{of_length}
use Rattle.theory.specs.Directory.Machine.{most_slots}
use Rattle.theory.specs.Lookup.ByMask.{holds_as, Answers}
use Rattle.index_theory.specs.Ordered.{NoneBefore, none_app, zeros_none, tag_seam, off_seam, at_seam}
use Rattle.index_theory.specs.Ordered.{not_at_seam}
use Rattle.index_theory.specs.Places.{FitsIn, AllFit, rank_of_lem, class_between}
use Rattle.index_theory.specs.Step.{Parted, class_parted, fit_at}
use Rattle.index_theory.specs.Looked.{place_of}
use Rattle.format.specs.declared.Found.{Found}

-- ---- what stands under a class, as it is found
abbrev pub load_hit : ℕ → Option Load → Option Found
load_hit id None = None
load_hit id (Some v) =
    Some (record {
      tag = tag_of v.type id (get_or v.bytes 0 0);
      length = tag_length (tag_of v.type id (get_or v.bytes 0 0));
      off = get_or v.bytes 1 0;
    })

-- what a search finds, whose tag has the id and which is no removal, is that
pub found_load : (n id : ℕ) (h : Option Found) → HitIn n h → Answers id h → h ≡ load_hit id (holds_as place_of h)
unfolding holds_as
found_load n id None w a = refl
found_load n id (Some e) w a =
    let l : tag_length (tag_of (tag_type3 e.tag) id (data_size e)) ≡ e.length =
    of_length (tag_type3 e.tag) id (data_size e) w.kept ∙ omega (arith, w.counted) in
    λ i. Some (record { tag = a i; length = sym l i; off = e.off })

-- ---- a table of a directory whose slots hold what belongs there
module _ (n : ℕ) (D : List Slot) (f : AllFit D) (few : length D ≤ most_slots) (id : ℕ) (there : id < length D) (c : ℕ)
    (hc : c < classes) where
  p : Parted D id c
  p = class_parted D f few id (omega arith) there c hc

  Z : List ℕ
  Z = replicate (n - length (dir_places 0 D)) 0

  table : List ℕ
  table = padded n (dir_places 0 D)

  -- the table's parts
  parts : table ≡ p.before ++ (class_places id (get_or D id empty c) ++ (p.rest ++ Z))
  unfolding table Z
  parts = ap (λ (l : List ℕ). l ++ Z) p.is
      ∙ append_assoc p.before (class_places id (get_or D id empty c) ++ p.rest) Z
      ∙ ap (λ (l : List ℕ). p.before ++ l) (append_assoc (class_places id (get_or D id empty c)) p.rest Z)

  behind : NoneBefore (suc (rank_at id c)) (p.rest ++ Z)
  unfolding Z
  behind = none_app (suc (rank_at id c)) (suc (rank_at id c)) p.high p.rest Z (omega arith) p.above
      (zeros_none (suc (rank_at id c)) (n - length (dir_places 0 D)) (omega arith))

  found : (m : Option Load) → FitsIn c m → (T : List ℕ) → T ≡ p.before ++ (class_places id m ++ (p.rest ++ Z))
      → cond (is_at (rank_at id c) T (seek (rank_at id c) T)) (place_hit T (seek (rank_at id c) T)) None
      ≡ load_hit id m
  found None g T e = rw (e, not_at_seam (rank_at 0 0) (rank_at id c) p.before (p.rest ++ Z) p.below behind)
  found (Some v) g T e =
      let t : ℕ = tag_of v.type id (get_or v.bytes 0 0) in
      let o : ℕ = get_or v.bytes 1 0 in
      let B : List ℕ = t ∷ o ∷ (p.rest ++ Z) in
      let b : NoneBefore (rank_at id c) B =
      none_app (rank_at id c) (rank_at id c) (rank_at id (suc c)) (class_places id (Some v))
      (p.rest ++ Z) (omega arith) (class_between c id (Some v) g (omega arith)) (λ i. omega (arith, behind i)) in
      let x = tag_seam (rank_at 0 0) (rank_at id c) p.before B p.below b in
      let y = off_seam (rank_at 0 0) (rank_at id c) p.before B p.below b in
      rw (
        e,
        at_seam (rank_at 0 0) (rank_at id c) p.before B p.below b t o (p.rest ++ Z) refl
            (rank_of_lem c id v g (omega arith)),
        x,
        y,
      )

  -- any type of the class asks for it
  pub table_answers : (type : ℕ) → type < 2 ^ 11 → seat_class (type * 2 ^ 20) ≡ c
      → index_hit (padded n (dir_places 0 D)) type id ≡ load_hit id (get_or D id empty c)
  unfolding index_hit table
  table_answers type ht e = rw (e, lt-ltb type (2 ^ 11) ht, le-leb id no_slot (omega arith), lt-ltb c classes hc)
      (found (get_or D id empty c) (fit_at D id f c) table parts)
