-- The machine of a log that a commit makes longer. Assumes nothing.
use Rattle.std.specs.Prelude.{◌≡◌, refl, Bool, cond, List, [], ◌∷◌, ◌++◌, ℕ, ◌%◌, eqb, None, Option}
use Rattle.std.proofs.Common.{ap, ◌∙◌}
use Rattle.format.specs.Tag.{tag_chunk}
use Rattle.format.specs.Kind.{is_tail}
use Rattle.format.specs.Walk.{Event, chk}
use Rattle.format.specs.Record.{pair_in, no_tail, tail_of, split_of}
use Rattle.format.specs.Directory.{Load, apply_all, act, acts, dir_of, load_of, is_move, move_of}
use Rattle.format.specs.Commit.{Item, commit_sum, written}
use Rattle.format.specs.declared.LfsPair.{LfsPair}
use Rattle.theory.specs.Log.Folds.{tail_of_app, split_of_app}
use Rattle.theory.specs.Log.Stores.{commit_events}
use Rattle.theory.specs.Blocks.Append.{item_acts, commit_dir}
use Rattle.theory.specs.Lookup.MoveState.{move_of_app}
use Rattle.format.specs.Machine.{machine_of, ran}

-- the check behind the entries says nothing of tail and move state, and is no act
acts_entries : (is : List Item) → item_acts is ≡ acts (written is [])
unfolding acts written item_acts
acts_entries [] = refl
acts_entries (i ∷ is) = ap (λ z. act i.tag i.body ∷ z) (acts_entries is)

tail_entries : (is : List Item) (t c : ℕ) (p : LfsPair)
    → tail_of p (written is (chk t c ∷ [])) ≡ tail_of p (written is [])
unfolding tail_of written
tail_entries [] t c p = refl
tail_entries (i ∷ is) t c p = tail_entries is t c (cond (is_tail i.tag) (pair_in i.body) p)

split_entries : (is : List Item) (t c : ℕ) (s : Bool) → split_of s (written is (chk t c ∷ []))
    ≡ split_of s (written is [])
unfolding split_of written
split_entries [] t c s = refl
split_entries (i ∷ is) t c s = split_entries is t c (cond (is_tail i.tag) (eqb (tag_chunk i.tag % 2) 1) s)

move_entries : (is : List Item) (t c : ℕ) (v : Option Load)
    → move_of v (written is (chk t c ∷ [])) ≡ move_of v (written is [])
unfolding move_of written
move_entries [] t c v = refl
move_entries (i ∷ is) t c v = move_entries is t c (cond (is_move i.tag) (load_of i.tag i.body) v)

-- the finished machine: the old one, with the entries applied
pub commit_ran : (es : List Event) (sum p : ℕ) (is : List Item) (ct : ℕ)
    → machine_of (es ++ commit_events sum p is ct) ≡ ran (machine_of es) (written is [])
unfolding commit_events
commit_ran es sum p is ct =
    let c : ℕ = commit_sum sum p is ct in
    let W : List Event = written is (chk ct (commit_sum sum p is ct) ∷ []) in
    let slots : dir_of (es ++ W) ≡ apply_all (dir_of es) (acts (written is [])) = commit_dir es sum p is ct
    ∙ ap (apply_all (dir_of es)) (acts_entries is) in
    rw (
      slots,
      tail_of_app es W no_tail,
      tail_entries is ct c (tail_of no_tail es),
      split_of_app es W _,
      split_entries is ct c _,
      move_of_app es W None,
      move_entries is ct c (move_of None es),
    )
