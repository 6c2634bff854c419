-- The walk back as an iterator: the tags that are left, and what one step gives. Assumes nothing.
use Rattle.std.specs.Prelude.{◌≡◌, List, [], ◌∷◌, ℕ, ◌+◌, ◌≤◌, Option, MatchOption}
use Rattle.format.specs.Tag.{tag_length}
use Rattle.format.specs.Back.{Met, back}
use Rattle.lookup_back.specs.declared.Back.{Back}

-- newest first
unfoldable pub left : Back → List Met
left s = back s.b.now s.off s.tag

-- the tag t stands at `at`, its word and all of it before where s stood, and s' is what is left behind it
pub record Step (s : Back) (at t : ℕ) (s' : Back) : Type 0 where
  pub is : left s ≡ record { tag = t; off = at } ∷ left s'
  pub ends : at + tag_length t ≡ s.off
  pub first : 4 ≤ at
  pub word : at + 4 ≤ s.off
  pub on : s'.off ≡ at

abbrev pub Steps : Back → Option (ℕ × ℕ) → Back → Type 0
Steps s r s' = MatchOption r (left s ≡ []) (λ x. Step s x.0 x.1 s')
