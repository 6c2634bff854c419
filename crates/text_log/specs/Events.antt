-- The events of a walk from a cursor on, as text. Assumes nothing.
use Rattle.std.specs.Prelude.{Bool, List, ℕ, drop}
use Rattle.format.specs.RawLog.{event_texts}
use Rattle.fetch_walk.specs.State.{from}
use Rattle.fetch_walk.specs.declared.cursor.Cursor.{Cursor}

unfoldable pub texts_from : Bool → List ℕ → Cursor → List ℕ
texts_from full b c = event_texts full c.at c.prev c.sum (drop c.at b) (from b c)
