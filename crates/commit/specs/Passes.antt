-- The two passes over a list of entries, and all of a commit's steps. Assumes nothing.
use Rattle.std.specs.Prelude.{Bool, true, false, List, [], ◌∷◌, ℕ, length, fold, Result, Ok, Err}
use Rattle.format.specs.Lookup.{block_of}
use Rattle.format.specs.Writer.{block_at, is_second}
use Rattle.format.specs.declared.Geometry.{Geometry}
use Rattle.format.specs.declared.Entry.{Entry}
use Rattle.format.specs.declared.Refusal.{Refusal}
use Rattle.commit_steps.specs.Steps.{Onto, onto, and_then, begun_of, judged_of, placed_of, laid_of, sealed_of}
use Rattle.commit_steps.specs.declared.Judging.{Judging}
use Rattle.commit_steps.specs.declared.Laying.{Laying}

-- a walk over the entries by a pass with the steps S, from p on: it answers r, and leaves q
pub data Walked {P B : Type 0} (S : P → List ℕ → ℕ → ℕ → ℕ → ℕ → Result Unit B → P → Type 0) (dat : List ℕ)
    : List Entry → P → Result Unit B → P → Type 0 where
  -- behind the last entry
  done : {p : P} → Walked S dat [] p (Ok tt) p
  -- a step that ends the walk
  ends : {e : Entry} {es : List Entry} {p q : P} {x : B} → S p dat e.kind e.id e.off e.len (Err x) q
      → Walked S dat (e ∷ es) p (Err x) q
  -- a step that it goes on from
  goes : {e : Entry} {es : List Entry} {p m q : P} {r : Result Unit B} → S p dat e.kind e.id e.off e.len (Ok tt) m
      → Walked S dat es m r q → Walked S dat (e ∷ es) p r q

-- the first pass: every entry is judged, up to the first bad one
abbrev pub judged_all : List Entry → List ℕ → Judging → Result Judging Refusal
judged_all es dat j = fold (λ r e. and_then r (λ k. judged_of k dat e.kind e.id e.off e.len)) (Ok j) es

-- begin, the first pass, and what is between the passes: a refusal, or what is to be laid; `byte` is the erased one
unfoldable pub decided_of : Geometry → List ℕ → List ℕ → ℕ → ℕ → ℕ → ℕ → ℕ → ℕ → List Entry → List ℕ → ℕ
    → Result Laying Refusal
decided_of g b0 b1 n0 n1 count seed rules byte es dat stores =
    and_then (begun_of g b0 b1 n0 n1 count seed rules byte (length es) dat) (λ j. and_then (judged_all es dat j)
    (λ k. placed_of byte k g.prog_size (block_of b0 b1 n0 k.old.dir) stores))

-- the second pass: every entry is laid
abbrev pub laid_all : List Entry → List ℕ → Onto → Onto
laid_all es dat o = fold (λ u e. laid_of u.to u.block dat e.kind e.id e.off e.len) o es

-- and what is behind the entries
unfoldable pub written_of : List Entry → List ℕ → Laying → List ℕ → Onto
written_of es dat l b =
    let o : Onto = laid_all es dat (onto l b) in
    sealed_of o.to o.block

-- what a call answers, and leaves in both images
pub record Left : Type 0 where
  pub answer : Result Laying Refusal
  pub b0 : List ℕ
  pub b1 : List ℕ

abbrev pub left : Result Laying Refusal → List ℕ → List ℕ → Left
left r x y = record { answer = r; b0 = x; b1 = y }

-- the block at a place, as it is laid onto
abbrev pub into : Bool → List ℕ → List ℕ → Onto → Left
into false b0 b1 o = left (Ok o.to) o.block b1
into true b0 b1 o = left (Ok o.to) b0 o.block

-- "No refusal .. changes an image"; an accepted call lays into the block that answers.
abbrev pub ran_by : Result Laying Refusal → List ℕ → List ℕ → ℕ → List Entry → List ℕ → Left
ran_by (Err r) b0 b1 n0 es dat = left (Err r) b0 b1
ran_by (Ok l) b0 b1 n0 es dat =
    let w : Bool = is_second n0 l.old.dir in
    into w b0 b1 (written_of es dat l (block_at w b0 b1))

abbrev pub ran_of : Geometry → List ℕ → List ℕ → ℕ → ℕ → ℕ → ℕ → ℕ → ℕ → List Entry → List ℕ → ℕ → Left
ran_of g b0 b1 n0 n1 count seed rules byte es dat stores =
    ran_by (decided_of g b0 b1 n0 n1 count seed rules byte es dat stores) b0 b1 n0 es dat
