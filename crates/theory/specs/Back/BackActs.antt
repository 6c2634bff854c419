-- The walk back over a block's bytes, read as acts: those of the log, newest first. Assumes nothing.
use Rattle.std.specs.Prelude.{◌≡◌, refl, Bool, true, false, ℕ, ◌+◌, ◌-◌, ◌%◌, ◌^◌, take, drop, leb}
use Rattle.std.proofs.Common.{sym, ap₂}
use mathlib.Core.List.{List, [], ◌∷◌, reverse_aux, map}
use Rattle.format.specs.Word.{be32}
use Rattle.format.specs.Tag.{tag_length}
use Rattle.format.specs.Kind.{is_wide}
use Rattle.format.specs.Walk.{Event, ent, chk, inv}
use Rattle.format.specs.Back.{Met, hop, back, places}
use Rattle.format.specs.Directory.{Act, act, acts}
use Rattle.format.proofs.Tags.{low_length, xor_low}
use Rattle.format.proofs.Back.{back_step}
use Rattle.theory.specs.Back.EventBytes.{Told}
use Rattle.theory.specs.Directory.Types.{act_check, act_without_top}

-- what the walk back reads at a place, whatever that is, as an act of the tag there
unfoldable pub seen_as : (Met → List ℕ) → Met → Act
seen_as at m = act m.tag (at m)

-- the data behind the tag
abbrev pub bytes_at : List ℕ → Met → List ℕ
bytes_at b m = take (tag_length m.tag - 4) (drop 4 (drop m.off b))

abbrev pub seen : List ℕ → Met → Act
seen b = seen_as (bytes_at b)

-- tails and forward checks of length 8
abbrev pub Eights : List Event → Type 0
Eights [] = Unit {0}
Eights (ent t d ∷ es) = (is_wide t ≡ true → tag_length t ≡ 12) × Eights es
Eights (chk t c ∷ es) = Eights es
Eights (inv ∷ es) = Eights es

pub seen_places : (es : List Event) (b : List ℕ) (off : ℕ) → Told b off es → Eights es
    → map (seen b) (places off es) ≡ acts es
unfolding seen_as places acts
seen_places [] b off h w = refl
seen_places (ent t d ∷ es) b off h w =
    ap₂ (λ x y. act t x ∷ y) (sym (h.0 w.0)) (seen_places es b (off + tag_length t) h.1 w.1)
seen_places (chk t c ∷ es) b off h w =
    ap₂ (λ x y. x ∷ y) (act_check t (take (tag_length t - 4) (drop 4 (drop off b))) h.0)
    (seen_places es b (off + tag_length t) h.1 w)
seen_places (inv ∷ es) b off h w = absurd h

pub map_reverse_aux : {A B : Type 0} (f : A → B) (l r : List A) → map f (reverse_aux l r) ≡ reverse_aux (map f l) (map f r)
map_reverse_aux f [] r = refl
map_reverse_aux f (x ∷ l) r = map_reverse_aux f l (x ∷ r)

-- what is read does not show the tag's bit 31
abbrev pub Topless : (Met → List ℕ) → Type 0
Topless at = (t off : ℕ) → at (record { tag = t; off = off }) ≡ at (record { tag = t % 2 ^ 31; off = off })

pub bytes_topless : (b : List ℕ) → Topless (bytes_at b)
bytes_topless b t off = rw (low_length t)

-- so the walk may start with the end tag's bit 31 set
pub back_without_top : (at : Met → List ℕ) → Topless at → (b : List ℕ) (off t : ℕ)
    → map (seen_as at) (back b off t) ≡ map (seen_as at) (back b off (t % 2 ^ 31))
unfolding seen_as
back_without_top at low b off t = rw (back_step b off t, back_step b off (t % 2 ^ 31), low_length t)
    (go (leb (4 + tag_length t) off))
  where
    go : (c : Bool) → map (seen_as at) (hop (back b) c b off t) ≡ map (seen_as at) (hop (back b) c b off (t % 2 ^ 31))
    go true = rw (
      low_length t,
      ← xor_low (be32 (drop (off - tag_length t) b)) t,
      low t (off - tag_length t),
      act_without_top t (at (record { tag = t % 2 ^ 31; off = off - tag_length t })),
    )
    go false = refl
