-- A turn of a pass over the tags of a committed log, by the rules, and what it keeps. Assumes nothing.
use mathlib.Core.Path.{◌≡◌, refl, ap, ◌∙◌}
use mathlib.Core.Bool.{Bool, true, false, cond, ◌&&◌}
use mathlib.Core.List.{List, [], ◌∷◌}
use Prim.Native.Nat.{ℕ}
use Rattle.format.specs.Word.{all_ones}
use Rattle.format.specs.Walk.{Event}
use Rattle.format.specs.Log.{log}
use Rattle.format.specs.Regular.{regular_from, Regular}
use Rattle.format.specs.declared.Rules.{Rules}
use Rattle.commit_regular.specs.Ends.{CommittedTo, committed_from}
use Rattle.commit_regular.specs.Left.{Starts, On, left, event_of, Meets}
use Rattle.commit_regular.specs.Ruled.{at_start, good, behind}
use Rattle.commit_regular.specs.declared.Ruled.{Ruled}
use Rattle.commit_regular.specs.declared.tags.Logged.{Logged}
use Rattle.commit_regular.specs.declared.tags.Logged.TheVariants.{Entry, Check}
use Rattle.commit_regular.specs.declared.tags.Tags.{Tags}
use Rattle.commit_regular.proofs.Left.{starts, starts_whole}

-- ---- what a pass keeps: all is regular if the events that are left are, from how the rules stand
pub record Ahead (b : List ℕ) (rules : Rules) (r : Ruled) (s : Tags) : Type 0 where
  pub block : s.b.now ≡ b
  pub on : On s
  pub regular : Regular rules (log b) ≡ regular_from r.grows r.count (left s on.sum)

-- at the beginning all of the log is left
pub record Begins (b : List ℕ) (rules : Rules) (r : Ruled) (s : Tags) : Type 0 where
  pub ahead : Ahead b rules r s
  pub whole : log b ≡ left s ahead.on.sum

pub begins : (b : List ℕ) (end : ℕ) (rules : Rules) → CommittedTo b end → (r : Ruled) → r ≡ at_start rules → (s : Tags)
    → Starts b 4 all_ones end s → Begins b rules r s
unfolding Regular
begins b end rules k r er s st =
    let z = starts b end k in
    let w : log b ≡ committed_from s.b.now s.at s.prev z.sum =
    rw (st.block, st.at', st.prev') (starts_whole b end k) in
    record {
      ahead = record {
        block = st.block;
        on = record { sum = z.sum; ends = rw (st.block, st.at', st.prev', st.end') z.ends };
        regular = rw er (ap (regular_from (at_start rules).grows 0) w);
      };
      whole = w;
    }

-- what is met, by the rules
ruled : (r : Ruled) (m : Logged) (b : List ℕ) (x : ℕ) (es : List Event)
    → regular_from r.grows r.count (event_of b m x ∷ es)
    ≡ good r m && regular_from (behind r m).grows (behind r m).count es
unfolding regular_from
ruled r (Entry t at) b x es = refl
ruled r (Check t) b x es = refl

-- behind m, which has passed
pub record Onward (b : List ℕ) (rules : Rules) (r : Ruled) (s : Tags) (v : Ahead b rules r s) (m : Logged) (r' : Ruled)
    (s' : Tags) : Type 0 where
  pub ahead : Ahead b rules r' s'
  pub stored : ℕ
  pub is : left s v.on.sum ≡ event_of b m stored ∷ left s' ahead.on.sum

module _ (b : List ℕ) (rules : Rules) (r : Ruled) (s : Tags) (v : Ahead b rules r s) where
  pub all_regular : left s v.on.sum ≡ [] → Regular rules (log b) ≡ true
  unfolding regular_from
  all_regular h = v.regular ∙ rw h

  -- x is what `passes` answers
  module _ (m : Logged) (s' : Tags) (g : Meets s v.on m s') (x : Bool) (ex : x ≡ good r m) where
    here : Regular rules (log b) ≡ x && regular_from (behind r m).grows (behind r m).count (left s' g.behind.sum)
    here = v.regular ∙ ap (regular_from r.grows r.count) g.is ∙ ruled r m s.b.now g.stored (left s' g.behind.sum)
        ∙ rw ex

    pub turn_bad : x ≡ false → Regular rules (log b) ≡ false
    turn_bad h = here ∙ rw h

    pub turn_on : x ≡ true → (r' : Ruled) → r' ≡ cond x (behind r m) r → Onward b rules r s v m r' s'
    turn_on h r' er = record {
      ahead = record {
        block = g.block ∙ v.block;
        on = g.behind;
        regular = here ∙ rw (er, h);
      };
      stored = g.stored;
      is = g.is ∙ rw v.block;
    }
