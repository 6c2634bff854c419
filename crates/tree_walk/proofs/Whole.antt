-- The whole call: what was asked for, and the walk from the text's start is the text. Assumes nothing.
use mathlib.Core.Path.{◌≡◌, refl, sym, ap}
use mathlib.Core.Bool.{Bool, true, false, not, cond, ◌&&◌}
use mathlib.Core.List.{List, [], ◌++◌}
use Prim.Native.Nat.{ℕ, suc, ◌≤◌}
use native.Mathlib.Omega.{arith}
use lib.ListN.{length}
use lib.Seq.{take-nil}
use lib.Dec.{leb}
use borrow.Author.Tests.{leb-true}
use Rattle.format.specs.Listing.{written_to}
use Rattle.format.specs.Regular.{rules_of, rules_fit}
use Rattle.format.specs.Volume.{volume_fits}
use Rattle.format.specs.Tree.{Walk, lines_text, stopped, dir_walk, open_in, tree_fits, tree_walk, tree_text}
use Rattle.format.specs.Tree.{tree_of}
use Rattle.format.specs.declared.Geometry.{Geometry}
use Rattle.format.specs.declared.LfsPair.{LfsPair}
use Rattle.format.specs.declared.Refusal.TheVariants.{Invalid}
use Rattle.std.specs.Borrow.{MutBor}
use Rattle.format.specs.declared.Rules.{Rules}
use Rattle.format.specs.declared.Written.{Written}
use Rattle.format.specs.declared.Refusal.{Refusal}
use Rattle.text.specs.declared.Text.{Text}
use Rattle.text.specs.Put.{Puts, Starts}
use Rattle.text.proofs.Written.{all_written}
use Rattle.tree_walk.specs.declared.Walked.{Walked}
use Rattle.tree_walk.specs.Walks.{Outcome, DirWalks}
use Rattle.tree_walk.proofs.Brief.{text_brief}
use Rattle.std.specs.Prelude.{Err, Ok, Result}

module _ (g : Geometry) (vol : List ℕ) (n0 n1 rules allowance : ℕ) where
  abbrev start : LfsPair
  start = record { n0 = n0; n1 = n1 }

  -- ---- refused: no line, and nothing is written
  pub tree_refused : tree_fits g vol rules allowance ≡ false → (out : List ℕ)
      → (record { answer = Err Invalid; length = 0 } ≡ tree_of g vol n0 n1 rules allowance)
      × (out ≡ written_to out (tree_text g vol n0 n1 rules allowance))
  unfolding tree_walk lines_text
  tree_refused h out = rw h (refl, ap (λ (l : List ℕ). l ++ out) (sym (take-nil (length out))))

  -- ---- walked; q is the rule
  module _ (q : Rules) (e : q ≡ rules_of rules) (fits : tree_fits g vol rules allowance ≡ true) where
    few : allowance ≤ 4_096
    unfolding tree_fits
    few = go (volume_fits g vol) (rules_fit rules) (leb allowance 4_096) fits (leb-true allowance 4_096)
      where
        go : (x y z : Bool) → x && y && z ≡ true → (z ≡ true → allowance ≤ 4_096) → allowance ≤ 4_096
        go true true true h f = f refl
        go true true false h f = absurd (let z : ◌≡◌ {A = ℕ} 0 1 = cc in omega arith)
        go true false z h f = absurd (let z : ◌≡◌ {A = ℕ} 0 1 = cc in omega arith)
        go false y z h f = absurd (let z : ◌≡◌ {A = ℕ} 0 1 = cc in omega arith)

    pub tree_walked : (out : MutBor (List ℕ)) (s t : Text) (w : Walked) → Starts s out
        → DirWalks g vol q 0 start allowance s w t
        → (record { answer = w.answer; length = t.at } ≡ tree_of g vol n0 n1 rules allowance)
        × (t.out.now ≡ written_to out.now (tree_text g vol n0 n1 rules allowance))
    unfolding tree_walk
    tree_walked out s t w starts went =
        let v : Walk = dir_walk (suc allowance) (open_in (rules_of rules) g vol) 0 start allowance in
        let is = rw e at (went.is (suc allowance) (omega arith)) in
        let put : Puts s t (lines_text v.lines) =
        record { buffer = went.buffer; behind = ap (λ (x : Outcome). x.shown) is } in
        let all = all_written s t out (lines_text v.lines)
        (text_brief (rules_of rules) g vol (suc allowance) 0 start allowance few) starts put in
        let answer = ap (λ (x : Outcome). x.answer) is in
        rw fits (rw (all.0, answer), all.1)
