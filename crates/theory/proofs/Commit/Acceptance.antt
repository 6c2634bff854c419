-- Demand 3 of a commit that is accepted. Assumes nothing.
use Rattle.std.specs.Prelude.{◌≡◌, Bool, List, ℕ, ◌+◌, ◌≤◌}
use Rattle.format.specs.Walk.{Event}
use Rattle.format.specs.View.{at}
use Rattle.format.specs.Commit.{check_tag, Item}
use Rattle.format.specs.Stores.{entries_length, appending}
use Rattle.theory.specs.Log.TwoBlocks.{view_at}
use Rattle.theory.specs.Blocks.Append.{AfterAppend}
use Rattle.theory.proofs.Blocks.Append.{demand3_append}
use Rattle.theory.specs.Commit.Acceptance.{Accepts, accepted}

module _ (e : ℕ) (b : List ℕ) (es : List Event) (is : List Item) (size : ℕ) (a : Accepts e b es is size) where
  -- DEMAND 3: b answers, at place w, and o is the other block
  module _ (w : Bool) (o : List ℕ) (v : ℕ) (answers : view_at w b o ≡ at w v es) where
    -- after k stores: the finished block, or the old view; and what the finished pair is
    pub accepted_stopped : (k : ℕ) → k ≤ entries_length is + 8
        → AfterAppend w o v es is (check_tag e size) (appending b es is (check_tag e size) k)
        (appending b es is (check_tag e size) (entries_length is + 8))
    accepted_stopped k h = demand3_append e w b o v es is (check_tag e size) k answers (accepted e b es is size a) h
