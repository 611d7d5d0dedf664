use Rattle.std.proofs.Common.{◌≡◌, ◌++◌, ◌+◌, ◌-◌}
use Rattle.fields.specs.Numbers.{bytes}
use Rattle.fields.specs.Payload.{payloads}
use Rattle.fields.proofs.put_number.Given as goal

abbrev pub invariant-loop-p : goal.invariant-loop-p
invariant-loop-p l = payloads l.file l.p ++ bytes (l.at + l.width - l.p) l.rest ≡ payloads l.initial.file l.at ++ bytes l.width l.v
