-- The tags of a log as an iterator: the events that are left of it, and what one step gives. Assumes nothing.
use Rattle.std.specs.Prelude.{◌≡◌, List, [], ◌∷◌, ℕ, ◌+◌, ◌^◌, ◌≤◌, ◌<◌, length, drop, Option, MatchOption}
use Rattle.format.specs.Tag.{tag_length}
use Rattle.format.specs.Walk.{Event, ent, chk, body_of}
use Rattle.format.specs.Log.{event_length}
use Rattle.commit_regular.specs.Ends.{committed_from, Onwards}
use Rattle.commit_regular.specs.declared.tags.Logged.{Logged}
use Rattle.commit_regular.specs.declared.tags.Logged.TheVariants.{Entry, Check}
use Rattle.commit_regular.specs.declared.tags.Tags.{Tags}

-- where they start
pub record Starts (b : List ℕ) (at prev end : ℕ) (s : Tags) : Type 0 where
  pub block : s.b.now ≡ b
  pub at' : s.at ≡ at
  pub prev' : s.prev ≡ prev
  pub end' : s.end ≡ end

-- what is left ends where it is said to
abbrev pub On : Tags → Type 0
On s = Onwards s.b.now s.at s.prev s.end

-- the events that are left, by the checksum there
abbrev pub left : Tags → ℕ → List Event
left s sum = committed_from s.b.now s.at s.prev sum

-- the event that is met; of a check's checksum, which no pass reads, any x
abbrev pub event_of : List ℕ → Logged → ℕ → Event
event_of b (Entry t at) x = ent t (body_of t (drop at b))
event_of b (Check t) x = chk t x

-- it stands here, and an entry whole in the block
abbrev pub Stands : Tags → Logged → Type 0
Stands s (Entry t at) = (at ≡ s.at) × (at + tag_length t ≤ length s.b.now) × (t < 2 ^ 31)
Stands s (Check t) = t < 2 ^ 31

-- m is met, and s' is left behind it
pub record Meets (s : Tags) (k : On s) (m : Logged) (s' : Tags) : Type 0 where
  pub stored : ℕ
  pub behind : On s'
  pub is : left s k.sum ≡ event_of s.b.now m stored ∷ left s' behind.sum
  pub stands : Stands s m
  pub block : s'.b.now ≡ s.b.now
  pub on : s'.at ≡ s.at + event_length (event_of s.b.now m stored)

-- whatever the checksum here is
abbrev pub Steps : Tags → Option Logged → Tags → Type 0
Steps s r s' = (k : On s) → MatchOption r (left s k.sum ≡ []) (λ m. Meets s k m s')
