-- `fetch_walk::cursor::Cursor::next` meets its contract: no room for a tag, or the tag that stands there. Assumes
-- nothing.
use native.Mathlib.Omega.{arith}
use Rattle.fetch_walk.proofs.Seen.{next_short, next_tag}
use Rattle.fetch_walk.proofs.cursor.Cursor.next.Goals as goal

pub returns-then-n-lt4 : goal.returns-then-n-lt4
returns-then-n-lt4 c = next_short _ _ (omega arith)

pub returns-then-n-at : goal.returns-then-n-at
returns-then-n-at c = next_short _ _ (omega arith)

pub returns : goal.returns
returns c = next_tag _ _ _ _ c.be32.ensures c.tag_at.ensures
