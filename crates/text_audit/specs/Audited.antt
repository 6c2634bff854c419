-- What the audit's functions ask and leave. Assumes nothing.
use Rattle.std.specs.Prelude.{◌≡◌, Bool, cond, List, ℕ, ◌+◌, ◌^◌, ◌<◌, length, Option}
use Rattle.format.specs.Directory.{Load, Slot}
use Rattle.format.specs.Audit.{lacks_deadline, lacks_payload, audit_line, audit_lines, tally}
use Rattle.text.specs.Put.{Puts}
use Rattle.text.specs.declared.Text.{Text}
use Rattle.format.specs.Look.{HitIn}
use Rattle.theory.specs.Lookup.ByMask.{holds}
use Rattle.text_audit.specs.declared.Audit.{Audit}
use Rattle.format.specs.declared.Found.{Found}

-- the answer to a question about what was found, in whatever block
abbrev pub Told : (Option Load → Bool) → Option Found → Bool → Type 0
Told asks h answer = (b : List ℕ) → HitIn (length b) h → answer ≡ asks (holds b h)

-- one more can be counted
pub record Few (a : Audit) : Type 0 where
  pub deadline : a.no_deadline < 2 ^ 16
  pub payload : a.no_payload < 2 ^ 16

-- a slot's line is behind the text, and what it lacks is counted
pub record SlotAudited (s t : Text) (a r : Audit) (id : ℕ) (slot : Slot) : Type 0 where
  pub line : Puts s t (audit_line id slot)
  pub deadline : r.no_deadline ≡ a.no_deadline + cond (lacks_deadline slot) 1 0
  pub payload : r.no_payload ≡ a.no_payload + cond (lacks_payload slot) 1 0

-- the lines of all slots, and what they lack
pub record SlotsAudited (s t : Text) (r : Audit) (D : List Slot) : Type 0 where
  pub lines : Puts s t (audit_lines 0 D)
  pub deadline : r.no_deadline ≡ tally lacks_deadline D
  pub payload : r.no_payload ≡ tally lacks_payload D
