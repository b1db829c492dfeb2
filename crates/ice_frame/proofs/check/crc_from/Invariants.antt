use Rattle.std.proofs.Common.{◌≡◌, fold, take}
use Rattle.line_spec.specs.Check.{checked}
use Rattle.ice_frame.proofs.check.crc_from.Given as goal

abbrev pub invariant-loop-byte : goal.invariant-loop-byte
invariant-loop-byte l = l.register ≡ fold checked l.before (take l.byte-index l.bytes)
