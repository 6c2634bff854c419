-- What a log says, and then what follows it: each of format's folds goes on from what it was. Assumes nothing.
use Rattle.std.specs.Prelude.{◌≡◌, refl, Bool, true, false, cond, List, [], ◌∷◌, ◌++◌, ℕ, ◌+◌, ◌%◌, eqb}
use Rattle.std.proofs.Common.{arith}
use Rattle.format.specs.Word.{to_le32}
use Rattle.format.specs.Tag.{tag_chunk, tag_flipped}
use Rattle.format.specs.Kind.{is_tail, is_forward}
use Rattle.format.specs.Crc.{crc}
use Rattle.format.specs.Walk.{Event, ent, chk, inv}
use Rattle.format.specs.Log.{span, tag_after}
use Rattle.format.specs.Record.{counted, count_of, pair_in, tail_of, split_of, forward_in, no_forward, forward_of, seed_of}
use Rattle.format.specs.declared.LfsPair.{LfsPair}
use Rattle.format.specs.declared.LfsFcrc.{LfsFcrc}

pub span_app : (es more : List Event) → span (es ++ more) ≡ span es + span more
unfolding span
span_app [] more = omega arith
span_app (e ∷ es) more = rw (span_app es more) (omega arith)

pub tag_app : (es more : List Event) (p : ℕ) → tag_after p (es ++ more) ≡ tag_after (tag_after p es) more
unfolding tag_after
tag_app [] more p = refl
tag_app (ent t d ∷ es) more p = tag_app es more t
tag_app (chk t c ∷ es) more p = tag_app es more (tag_flipped t)
tag_app (inv ∷ es) more p = tag_app es more p

pub count_app : (es more : List Event) (n : ℕ) → count_of n (es ++ more) ≡ count_of (count_of n es) more
unfolding count_of
count_app [] more n = refl
count_app (ent t d ∷ es) more n = count_app es more (counted n t)
count_app (chk t c ∷ es) more n = count_app es more n
count_app (inv ∷ es) more n = count_app es more n

pub tail_of_app : (es more : List Event) (p : LfsPair) → tail_of p (es ++ more) ≡ tail_of (tail_of p es) more
unfolding tail_of
tail_of_app [] more p = refl
tail_of_app (ent t d ∷ es) more p = tail_of_app es more (cond (is_tail t) (pair_in d) p)
tail_of_app (chk t c ∷ es) more p = tail_of_app es more p
tail_of_app (inv ∷ es) more p = tail_of_app es more p

pub split_of_app : (es more : List Event) (s : Bool) → split_of s (es ++ more) ≡ split_of (split_of s es) more
unfolding split_of
split_of_app [] more s = refl
split_of_app (ent t d ∷ es) more s = split_of_app es more (cond (is_tail t) (eqb (tag_chunk t % 2) 1) s)
split_of_app (chk t c ∷ es) more s = split_of_app es more s
split_of_app (inv ∷ es) more s = split_of_app es more s

pub forward_app : (es more : List Event) (f : LfsFcrc) → forward_of f (es ++ more) ≡ forward_of (forward_of f es) more
unfolding forward_of
forward_app [] more f = refl
forward_app (ent t d ∷ es) more f = forward_app es more (cond (is_forward t) (forward_in d) f)
forward_app (chk t c ∷ es) more f = forward_app es more f
forward_app (inv ∷ es) more f = forward_app es more f

pub seed_app : (es more : List Event) (s : ℕ) → seed_of s (es ++ more) ≡ seed_of (seed_of s es) more
unfolding seed_of
seed_app [] more s = refl
seed_app (ent t d ∷ es) more s = seed_app es more s
seed_app (chk t c ∷ es) more s = seed_app es more (crc s (to_le32 c))
seed_app (inv ∷ es) more s = seed_app es more s

-- the forward check of a log is one that was seen, or all zero
pub forward_or_none : (es : List Event) (f : LfsFcrc) → cond f.seen f no_forward ≡ f
    → cond (forward_of f es).seen (forward_of f es) no_forward ≡ forward_of f es
unfolding forward_of
forward_or_none [] f h = h
forward_or_none (ent t d ∷ es) f h = forward_or_none es (cond (is_forward t) (forward_in d) f) (go (is_forward t))
  where
    go : (b : Bool) → cond (cond b (forward_in d) f).seen (cond b (forward_in d) f) no_forward ≡ cond b (forward_in d) f
    go true = refl
    go false = h
forward_or_none (chk t c ∷ es) f h = forward_or_none es f h
forward_or_none (inv ∷ es) f h = forward_or_none es f h
