-- `lookup_search::newest` meets its contract: the pending move decides where the walk starts (`Turn.antt`). Assumes
-- nothing.
use Rattle.lookup_search.proofs.Turn.{start_moved, start_from}
use Rattle.lookup_search.proofs.newest.Goals as goal

pub returns-then-moves-moved : goal.returns-then-moves-moved
returns-then-moves-moved c = (
  start_moved _ _ _ _ _ _ _ _ _ c.lfs_tag_id.ensures c.has_move_here.ensures c.lfs_tag_id-moved.ensures
      c.lfs_tag_id-id.ensures c.if-moves-moved.true,
  tt,
)

pub returns : goal.returns
returns c = (
  start_from _ _ _ _ _ _ _ _ _ c.lfs_tag_id.ensures
      c.has_move_here.ensures
      c.lfs_tag_id-moved.ensures
      c.lfs_tag_id-id.ensures c.if-moves-moved.false _
      c.first_diff.ensures _ c.find_back.ensures.0,
  c.find_back.ensures.1,
)
