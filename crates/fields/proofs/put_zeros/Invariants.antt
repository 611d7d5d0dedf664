use Rattle.std.proofs.Common.{◌≡◌, ◌++◌, ◌-◌, replicate}
use Rattle.fields.specs.Payload.{payloads}
use Rattle.fields.proofs.put_zeros.Given as goal

abbrev pub invariant-loop-p : goal.invariant-loop-p
invariant-loop-p l = payloads l.file l.p ≡ payloads l.initial.file l.from ++ replicate (l.p - l.from) 0
