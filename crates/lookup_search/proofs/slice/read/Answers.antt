-- `lookup_search::slice::read` meets its contract: what was found is what should be (`Slices.antt`). Assumes nothing.
use Rattle.std.proofs.Common.{length, ◌∙◌}
use Rattle.format.specs.Lookup.{slice_answer, slice_buffer}
use Rattle.format.proofs.Searched.{hit_in}
use Rattle.lookup_search.proofs.Slices.{of_hit}
use Rattle.lookup_search.proofs.slice.read.Goals as goal

pub read_at-requires : goal.read_at-requires
read_at-requires c = (hit_in _ _ c.newest.ensures.1
    c.in-Some.is).counted

pub returns-in-None : goal.returns-in-None
returns-in-None c =
    let a = c.args in let e = c.newest.ensures.0 in let is = c.in-None.is in record {
      value = of_hit _ _ e (λ u. slice_answer a.b.now a.goff (length a.buffer.now) u) is;
      buffer_after = of_hit _ _ e (λ u. slice_buffer a.b.now a.goff a.buffer.now u) is;
    }

pub returns-in-Some : goal.returns-in-Some
returns-in-Some c =
    let a = c.args in let e = c.newest.ensures.0 in let is = c.in-Some.is in let read = c.read_at.ensures in record {
      value = read.value ∙ of_hit _ _ e (λ u. slice_answer a.b.now a.goff (length a.buffer.now) u) is;
      buffer_after = read.buffer_after ∙ of_hit _ _ e (λ u. slice_buffer a.b.now a.goff a.buffer.now u) is;
    }
