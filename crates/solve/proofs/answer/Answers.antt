use Rattle.std.proofs.Common.{◌≡◌, ◌∙◌, ◌+◌, ◌≤◌, ℕ, List, ap, arith, drop, length, subst, take}
use Rattle.std.proofs.lemmas.List.Edits.{sets-eq}
use Rattle.std.proofs.lemmas.Result.{on_ok_weaker}
use Rattle.std.proofs.Math.Seq.{take-append_seam}
use Rattle.std.specs.Io.KnownBytes.{Appends, Consumes}
use Rattle.printing.specs.Written.{Written}
use Rattle.program.specs.Program.{printed}
use Rattle.solve.proofs.answer.Goals as goal

-- what is written at the start of a buffer with room for it stands there
written-front : (bytes out out' : List ℕ) (k : ℕ) → Written bytes out 0 out' k → k ≤ length out → take k out' ≡ bytes
written-front bytes out out' k h fits =
    let room : 0 + length bytes ≤ length out = omega (arith, h.next) in
    let all : k ≡ length bytes = omega (arith, h.next) in
    ap (λ n. take n out') all ∙ ap (take (length bytes)) (h.exit ∙ sets-eq bytes out 0 room) ∙ take-append_seam bytes (drop (0 + length bytes) out)

pub returns : goal.returns
returns g c =
    let front = written-front _ _ _ _ c.solve_file-k.ensures.0 (omega (arith, c.solve_file-k.ensures.1, c.output_buffer-out.ensures)) in
    on_ok_weaker
    {Q = (file : List ℕ) × Consumes (g.R.Read.remaining c.args.reader.now) (g.R.Read.remaining c.read_full-n.new.reader) file × Appends (g.W.Write.contents c.args.writer.now) (g.W.Write.contents c.write_all.new.self) (printed file)}
    c.write_all.result
    (λ h. (take c.read_full-n.result c.read_full-n.new.buf, c.read_full-n.ensures.bytes, subst (Appends _ _) front h))
    c.write_all.ensures.bytes
