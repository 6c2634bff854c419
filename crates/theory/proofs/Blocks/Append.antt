-- Demand 3 for an append, over blocks as they stand: stopped after any store, the finished block or the old view.
-- Assumes nothing.
use Rattle.std.specs.Prelude.{◌≡◌, Bool, List, ◌++◌, ℕ, ◌+◌, ◌-◌, ◌≤◌, take, length}
use Rattle.std.proofs.Common.{take-append-drop}
use Rattle.format.specs.Word.{all_ones}
use Rattle.format.specs.Walk.{Event}
use Rattle.format.specs.Log.{log_end, log_end_tag}
use Rattle.format.specs.View.{at}
use Rattle.format.specs.Commit.{Item}
use Rattle.format.specs.Erased.{erased}
use Rattle.format.specs.Stores.{entries_length, appending}
use Rattle.theory.specs.Log.TwoBlocks.{view_at}
use Rattle.theory.proofs.Log.TwoBlocks.{crash_append, done_append}
use Rattle.theory.specs.Blocks.Append.{AfterAppend, AppendOk, appends, as_filled, as_room, commit_dir}

pub demand3_append : (e : ℕ) (w : Bool) (b o : List ℕ) (v : ℕ) (es : List Event) (is : List Item) (ct k : ℕ)
    → view_at w b o ≡ at w v es → AppendOk e b es is ct → k ≤ entries_length is + 8
    → AfterAppend w o v es is ct (appending b es is ct k) (appending b es is ct (entries_length is + 8))
demand3_append e w b o v es is ct k h a hk =
    let m : ℕ = length b - (log_end es) - (entries_length is + 8) in
    let M : ℕ = length b - (log_end es) in
    let h' : view_at w (take (log_end es) b ++ erased e (length b - (log_end es))) o ≡ at w v es =
    rw (← a.clean, take-append-drop (log_end es) b) h in
    record {
      either = rw (as_room e b es is ct k a hk, as_filled e b es is ct a)
          (crash_append e w o (take (log_end es) b) M v es is ct m k h' (appends e b es is ct a));
      finished = rw (as_filled e b es is ct a) (done_append e w o (take (log_end es) b) M v es is ct m h'
          (appends e b es is ct a));
      applied = commit_dir es all_ones (log_end_tag es) is ct;
    }
