-- As far as the loop has come. Assumes nothing.
use Rattle.std.proofs.Common.{take}
use Rattle.format.specs.Log.{log}
use Rattle.format.specs.Directory.{dir_of}
use Rattle.text_audit.specs.Audited.{SlotsAudited}
use Rattle.text_audit.proofs.slot_audits.Given as goal

abbrev pub invariant-loop-id : goal.invariant-loop-id
invariant-loop-id l = SlotsAudited l.initial.text l.text l.a (take l.id (dir_of (log l.b)))
