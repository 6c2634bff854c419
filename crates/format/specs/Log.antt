-- The log of a block: what its walk met up to the last commit check. Assumes nothing.
use Rattle.std.specs.Prelude.{Bool, true, false, List, [], ◌∷◌, ℕ, ◌+◌}
use Rattle.format.specs.Word.{all_ones}
use Rattle.format.specs.Tag.{tag_length, tag_flipped}
use Rattle.format.specs.Walk.{Event, ent, chk, inv, walk}

-- an event stays if something that is committed stands behind it
abbrev pub kept_before : Event → List Event → List Event
kept_before e [] = []
kept_before e (x ∷ l) = e ∷ x ∷ l

-- What is committed: each check, and each entry that has a check behind it. "Then the record takes count, tail, split,
-- end and end tag": what stands behind the last check isn't taken.
unfoldable pub committed : List Event → List Event
committed [] = []
committed (chk t c ∷ es) = chk t c ∷ committed es
committed (ent t d ∷ es) = kept_before (ent t d) (committed es)
committed (inv ∷ es) = kept_before inv (committed es)

-- The block's committed log. Empty: the block has no valid commit.
unfoldable pub log : List ℕ → List Event
log b = committed (walk b)

-- The bytes of an event, and of a list of events.
unfoldable pub event_length : Event → ℕ
event_length (ent t d) = tag_length t
event_length (chk t c) = tag_length t
event_length inv = 0

unfoldable pub span : List Event → ℕ
span [] = 0
span (e ∷ es) = event_length e + span es

-- The previous tag behind a list of events, from the previous tag before it.
unfoldable pub tag_after : ℕ → List Event → ℕ
tag_after p [] = p
tag_after p (ent t d ∷ es) = tag_after t es
tag_after p (chk t c ∷ es) = tag_after (tag_flipped t) es
tag_after p (inv ∷ es) = tag_after p es

-- "end and end tag" of a log: the first tag stands at 4, behind the revision.
abbrev pub log_end : List Event → ℕ
log_end es = 4 + span es

abbrev pub log_end_tag : List Event → ℕ
log_end_tag es = tag_after all_ones es

-- "the walk stopped on an invalid tag straight after a commit": said of a whole walk; `after` tells whether the event
-- before was a check.
unfoldable pub stopped_straight : Bool → List Event → Bool
stopped_straight after [] = false
stopped_straight after (ent t d ∷ es) = stopped_straight false es
stopped_straight after (chk t c ∷ es) = stopped_straight true es
stopped_straight after (inv ∷ es) = after
