-- `commit_lay::put_all` meets its contract. The loop keeps that the bytes before are put. Assumes nothing.
use Rattle.std.proofs.Common.{◌≡◌, take}
use Rattle.commit_lay.specs.Laid.{laid, puts_of}
use Rattle.commit_lay.proofs.put_all.Given as goal

abbrev pub invariant-loop-byte : goal.invariant-loop-byte
invariant-loop-byte l = laid l.w l.b ≡ puts_of (laid l.initial.w l.initial.b) (take l.byte-index l.bytes)
