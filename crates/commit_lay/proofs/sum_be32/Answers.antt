-- `commit_lay::sum_be32` meets its contract: the array is the word's bytes. Assumes nothing.
use Rattle.commit_lay.proofs.sum_be32.Goals as goal

pub returns : goal.returns
returns c = cc
