use Rattle.std.proofs.Common.{◌≡◌, ◌+◌, ◌-◌}
use Rattle.std.proofs.lemmas.List.Edits.{sets}
use Rattle.fields.specs.Numbers.{bytes}
use Rattle.blocks.proofs.put_bytes.Given as goal

abbrev pub invariant-loop-p : goal.invariant-loop-p
invariant-loop-p l = sets l.file l.p (bytes (l.at + l.width - l.p) l.rest) ≡ sets l.initial.file l.at (bytes l.width l.v)
