-- Two blocks: which answers, and what a change of one does to the view. Demand 3 for both calls is in
-- proofs/Log/TwoBlocks.antt. Assumes nothing.
use Rattle.std.specs.Prelude.{◌≡◌, refl, ◌≢◌, Bool, true, false, not, List, [], ◌∷◌, ◌++◌, ℕ, ◌^◌, ◌<◌}
use Rattle.std.proofs.Common.{ap, ◌∙◌, arith}
use Rattle.format.specs.Word.{le32, plus32}
use Rattle.format.specs.Walk.{Event}
use Rattle.format.specs.Log.{log}
use Rattle.format.specs.Count.{second_first}
use Rattle.format.specs.View.{View, rank, view, at}
use Rattle.format.specs.Commit.{Item, written}
use Rattle.format.proofs.Order.{next_first, next_stays}

-- the first block answers, whatever the ranks, if the second has no log; and the reverse
rank_left : (c : Bool) (r s : ℕ) (l : List Event) → l ≢ [] → rank c r s l [] ≡ at false r l
unfolding rank
rank_left false r s [] n = absurd (n refl)
rank_left false r s (e ∷ l) n = refl
rank_left true r s [] n = absurd (n refl)
rank_left true r s (e ∷ l) n = refl

rank_right : (c : Bool) (r s : ℕ) (k : List Event) → k ≢ [] → rank c r s [] k ≡ at true s k
unfolding rank
rank_right false r s [] n = absurd (n refl)
rank_right false r s (e ∷ l) n = refl
rank_right true r s [] n = absurd (n refl)
rank_right true r s (e ∷ l) n = refl

-- the block that ranks first answers if it has a log
rank_first : (r s : ℕ) (l k : List Event) → l ≢ [] → rank false r s l k ≡ at false r l
unfolding rank
rank_first r s [] k n = absurd (n refl)
rank_first r s (e ∷ l) k n = refl

rank_second : (r s : ℕ) (l k : List Event) → k ≢ [] → rank true r s l k ≡ at true s k
unfolding rank
rank_second r s l [] n = absurd (n refl)
rank_second r s l (e ∷ k) n = refl

-- a longer log in the block that answers
grow_left : (c : Bool) (r s : ℕ) (l l' k : List Event) (v : ℕ) (es : List Event) → rank c r s l k ≡ at false v es
    → l' ≢ [] → rank c r s l' k ≡ at false r l'
unfolding rank
grow_left false r s l [] k v es h n = absurd (n refl)
grow_left false r s l (e ∷ l') k v es h n = refl
grow_left true r s l [] k v es h n = absurd (n refl)
grow_left true r s l (e ∷ l') [] v es h n = refl
grow_left true r s l (e ∷ l') (x ∷ k) v es h n = cc

grow_right : (c : Bool) (r s : ℕ) (l k k' : List Event) (v : ℕ) (es : List Event) → rank c r s l k ≡ at true v es
    → k' ≢ [] → rank c r s l k' ≡ at true s k'
unfolding rank
grow_right true r s l k [] v es h n = absurd (n refl)
grow_right true r s l k (e ∷ k') v es h n = refl
grow_right false r s l k [] v es h n = absurd (n refl)
grow_right false r s [] k (e ∷ k') v es h n = refl
grow_right false r s (x ∷ l) k (e ∷ k') v es h n = cc

pub rank_left_is : (c : Bool) (r s : ℕ) (l k : List Event) (v : ℕ) (es : List Event) → rank c r s l k ≡ at false v es
    → (r ≡ v) × (l ≡ es) × (es ≢ [])
unfolding rank
rank_left_is false r s [] [] v es h = (cc, cc, λ q. let z : ◌≡◌ {A = ℕ} 0 1 = cc in omega arith)
rank_left_is false r s [] (e ∷ k) v es h = (cc, cc, λ q. let z : ◌≡◌ {A = ℕ} 0 1 = cc in omega arith)
rank_left_is false r s (e ∷ l) k v es h = (cc, cc, λ q. let z : ◌≡◌ {A = ℕ} 0 1 = cc in omega arith)
rank_left_is true r s l (e ∷ k) v es h = (cc, cc, λ q. let z : ◌≡◌ {A = ℕ} 0 1 = cc in omega arith)
rank_left_is true r s [] [] v es h = (cc, cc, λ q. let z : ◌≡◌ {A = ℕ} 0 1 = cc in omega arith)
rank_left_is true r s (e ∷ l) [] v es h = (cc, cc, λ q. let z : ◌≡◌ {A = ℕ} 0 1 = cc in omega arith)

pub rank_right_is : (c : Bool) (r s : ℕ) (l k : List Event) (v : ℕ) (es : List Event) → rank c r s l k ≡ at true v es
    → (s ≡ v) × (k ≡ es) × (es ≢ [])
unfolding rank
rank_right_is false r s [] [] v es h = (cc, cc, λ q. let z : ◌≡◌ {A = ℕ} 0 1 = cc in omega arith)
rank_right_is false r s [] (e ∷ k) v es h = (cc, cc, λ q. let z : ◌≡◌ {A = ℕ} 0 1 = cc in omega arith)
rank_right_is false r s (e ∷ l) k v es h = (cc, cc, λ q. let z : ◌≡◌ {A = ℕ} 0 1 = cc in omega arith)
rank_right_is true r s l (e ∷ k) v es h = (cc, cc, λ q. let z : ◌≡◌ {A = ℕ} 0 1 = cc in omega arith)
rank_right_is true r s [] [] v es h = (cc, cc, λ q. let z : ◌≡◌ {A = ℕ} 0 1 = cc in omega arith)
rank_right_is true r s (e ∷ l) [] v es h = (cc, cc, λ q. let z : ◌≡◌ {A = ℕ} 0 1 = cc in omega arith)

pub app_some : (es more : List Event) → es ≢ [] → es ++ more ≢ []
app_some [] more n = absurd (n refl)
app_some (e ∷ es) more n = λ q. let z : ◌≡◌ {A = ℕ} 0 1 = cc in omega arith

pub written_some : (is : List Item) (e : Event) → written is (e ∷ []) ≢ []
unfolding written
written_some [] e = λ q. let z : ◌≡◌ {A = ℕ} 0 1 = cc in omega arith
written_some (i ∷ is) e = λ q. let z : ◌≡◌ {A = ℕ} 0 1 = cc in omega arith

-- the pair with x at place w (false: first) and o at the other
abbrev pub view_at : Bool → List ℕ → List ℕ → View
view_at false x o = view x o
view_at true x o = view o x

-- the view hangs on revision and log alone
pub view_same : (w : Bool) (x y o : List ℕ) → le32 x ≡ le32 y → log x ≡ log y → view_at w x o ≡ view_at w y o
unfolding view
view_same false x y o r l = rw (r, l)
view_same true x y o r l = rw (r, l)

pub view_grow : (w : Bool) (x y o : List ℕ) (v : ℕ) (es : List Event) → view_at w x o ≡ at w v es → le32 x ≡ le32 y
    → log y ≢ [] → view_at w y o ≡ at w v (log y)
unfolding view
view_grow false x y o v es h r n =
    let i = rank_left_is (second_first (le32 x) (le32 o)) (le32 x) (le32 o) (log x) (log o) v es h in
    rw (← r) (grow_left (second_first (le32 x) (le32 o)) (le32 x) (le32 o) (log x) (log y) (log o) v es h n
    ∙ ap (λ z. at false z (log y)) i.0)
view_grow true x y o v es h r n =
    let i = rank_right_is (second_first (le32 o) (le32 x)) (le32 o) (le32 x) (log o) (log x) v es h in
    rw (← r) (grow_right (second_first (le32 o) (le32 x)) (le32 o) (le32 x) (log o) (log x) (log y) v es h n
    ∙ ap (λ z. at true z (log y)) i.0)

-- the other block without a log does not matter
pub view_alone : (w : Bool) (x o o' : List ℕ) (v : ℕ) (es : List Event) → view_at w x o ≡ at w v es → log o' ≡ []
    → view_at w x o' ≡ at w v es
unfolding view
view_alone false x o o' v es h n =
    let i = rank_left_is (second_first (le32 x) (le32 o)) (le32 x) (le32 o) (log x) (log o) v es h in
    rw (n, i.0, i.1) (rank_left (second_first v (le32 o')) v (le32 o') es i.2)
view_alone true x o o' v es h n =
    let i = rank_right_is (second_first (le32 o) (le32 x)) (le32 o) (le32 x) (log o) (log x) v es h in
    rw (n, i.0, i.1) (rank_right (second_first (le32 o') v) (le32 o') v es i.2)

-- the other block with the next revision and a log answers
pub view_next : (w : Bool) (x o o' : List ℕ) (v : ℕ) (es : List Event) → view_at w x o ≡ at w v es → v < 2 ^ 32
    → le32 o' ≡ plus32 v 1 → log o' ≢ []
    → view_at w x o' ≡ at (not w) (plus32 v 1) (log o')
unfolding view
view_next false x o o' v es h small r n =
    let i = rank_left_is (second_first (le32 x) (le32 o)) (le32 x) (le32 o) (log x) (log o) v es h in
    let next : second_first v (le32 o') ≡ true = ap (second_first v) r ∙ next_first v small in
    rw (i.0, next, r) (rank_second v (plus32 v 1) (log x) (log o') n)
view_next true x o o' v es h small r n =
    let i = rank_right_is (second_first (le32 o) (le32 x)) (le32 o) (le32 x) (log o) (log x) v es h in
    let next : second_first (le32 o') v ≡ false = ap (λ (u : ℕ). second_first u v) r ∙ next_stays v small in
    rw (i.0, next, r) (rank_first (plus32 v 1) v (log o') (log x) n)

-- ---- which block's log a view names
pub view_log : (w : Bool) (x o : List ℕ) (v : ℕ) (es : List Event) → view_at w x o ≡ at w v es → (log x ≡ es) × (es ≢ [])
unfolding view
view_log false x o v es h =
    let i = rank_left_is (second_first (le32 x) (le32 o)) (le32 x) (le32 o) (log x) (log o) v es h in (i.1, i.2)
view_log true x o v es h =
    let i = rank_right_is (second_first (le32 o) (le32 x)) (le32 o) (le32 x) (log o) (log x) v es h in (i.1, i.2)
