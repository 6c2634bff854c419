-- `fetch_walk::crc_word` meets its contract: the array is the word's bytes. Assumes nothing.
use Rattle.fetch_walk.proofs.crc_word.Goals as goal

pub returns : goal.returns
returns c = cc
