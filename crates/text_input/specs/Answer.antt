-- The text of what answers. Assumes nothing.
use Rattle.std.specs.Prelude.{List, ℕ, Err, Ok, Result}
use Rattle.format.specs.Listing.{refused_line}
use Rattle.format.specs.declared.LfsMdir.{LfsMdir}
use Rattle.format.specs.declared.Refusal.{Refusal}
use Rattle.format.specs.declared.Rules.{Rules}
use Rattle.text_input.specs.declared.answering.Answering.{Answering}

-- the text of an input, of what was read of it
abbrev pub answer_text : (Rules → LfsMdir → List ℕ → List ℕ) → Result Answering Refusal → List ℕ
answer_text shows (Err r) = refused_line r
answer_text shows (Ok a) = shows a.rules a.dir a.block.now
