-- `lookup::moved::gstate_in` meets its contract: three words, one behind the other. Assumes nothing.
use mathlib.Core.Path.{sym, ap, ◌∙◌}
use lib.Seq.{drop-drop}
use Rattle.format.specs.Word.{le32}
use Rattle.lookup.proofs.moved.gstate_in.Goals as goal

pub returns : goal.returns
returns c = λ k. record {
  tag = c.le32.ensures k;
  pair = record {
    n0 = c.le32-2.ensures k;
    n1 = (c.le32-3.ensures
        ∙ ap le32 (sym (drop-drop 4 4 c.args.d.now))) k;
  };
}
