-- "A restart should not eliminate again": solve, write, read, and another right side, as a solve with that right side ends.
use Rattle.std.specs.Prelude.{Ok}
use mathlib.Core.Path.{◌≡◌, sym, ap, ◌∙◌}
use mathlib.Core.Bool.{true}
use mathlib.Core.List.{List, []}
use Prim.Native.Nat.{ℕ}
use lib.ListN.{length}
use lib.Ieee.{Float}
use Rattle.base.specs.All.{all}
use Rattle.base.specs.Answers.{number_of_answer, left, Pass}
use Rattle.base.specs.declared.Form.TheVariants.{Plain}
use Rattle.matrix.specs.Input.{Input, input_of}
use Rattle.outcome.specs.Buffers.{Buffers, plain_buffers, sizes, buffer_tests}
use Rattle.outcome.specs.Structure.{counts}
use Rattle.outcome.specs.Solve.{solve}
use Rattle.outcome.specs.Resolve.{with_solution, resolve}
use Rattle.reuse.specs.Reuse.{Factored, with_right, end_of, FiniteRight, ResolvesAs}
use Rattle.reuse.proofs.Contracts.{plain-keeps, right-only}
use Rattle.reuse.proofs.Resolving.{resolving}
use Rattle.factor_contents.specs.FactorFile.{FactorLists, factor_lists, cut, held, written, file_length, lists_fit, ask_write, read_outcome, write_outcome}
use Rattle.factor_file.proofs.WrittenRead.{Widths, written-read-call}
use Rattle.factor_file.proofs.OtherRight.{Alike, lent_with, solves-alike}
use Rattle.keeping.proofs.Keeping.{kept-asked, kept-stated}

-- the buffers after a solve or a refactor of the plain form; l are its factors with the orders, m the buffers of a reader
module _ (i : Input) (s : Buffers) (ls li us ui marks : List ℕ) (lv uv d x work : List Float) (h : Factored Plain i s (plain_buffers ls li lv us ui uv d x work marks))
    (buffer : List ℕ) (long : length buffer ≡ file_length i.n (counts i).lower (counts i).upper) where
  abbrev l : FactorLists
  l = factor_lists i.r i.c ls li lv us ui uv d

  abbrev file : List ℕ
  file = written i.n (counts i) (cut (counts i) l)

  may : ask_write i.n (counts i) l (length buffer) ≡ Pass
  may = kept-asked i s (plain_buffers ls li lv us ui uv d x work marks) h (length buffer) long

  -- they are written,
  pub kept-written : write_outcome i.n (counts i) l buffer ≡ left Pass file
  unfolding write_outcome
  kept-written = rw may

  module _ (w : Widths (counts i) l) (m : FactorLists) (fit : lists_fit i.n (counts i).lower (counts i).upper m ≡ true) where
    abbrev l' : FactorLists
    l' = held m (cut (counts i) l)

    -- read into other buffers,
    pub kept_read : read_outcome file m ≡ left (Ok (counts i)) l'
    kept_read = written-read-call i.n (counts i) l buffer w may m fit

    -- and another right side over what was read gives the answer and the x of a solve with it.
    module _ (b x' work' : List Float) (marks' : List ℕ) (finite : FiniteRight i.n b) (fit' : all (buffer_tests Plain i.n (sizes (lent_with l' x' work' marks'))) ≡ true) where
      alike : Alike (resolve Plain (input_of i.n [] [] [] i.r i.c b) (lent_with l x work marks)) (resolve Plain (input_of i.n [] [] [] l'.r l'.c b) (lent_with l' x' work' marks'))
      alike =
          solves-alike i.n (counts i) l buffer file w kept-written m l' (counts i) kept_read b x work x' work' marks marks'
          (kept-stated i s (plain_buffers ls li lv us ui uv d x work marks) h) fit'

      original : ResolvesAs (plain_buffers ls li lv us ui uv d x work marks) (resolve Plain (input_of i.n [] [] [] i.r i.c b) (lent_with l x work marks)) (solve Plain (with_right i b) s)
      original = rw (right-only Plain i b (plain_buffers ls li lv us ui uv d x work marks)) (resolving Plain plain-keeps i s (plain_buffers ls li lv us ui uv d x work marks) h b finite)

      pub kept-solves : ((resolve Plain (input_of i.n [] [] [] l'.r l'.c b) (lent_with l' x' work' marks')).answer ≡ end_of (solve Plain (with_right i b) s).answer)
          × (number_of_answer (resolve Plain (input_of i.n [] [] [] l'.r l'.c b) (lent_with l' x' work' marks')).answer ≡ 0
          → (resolve Plain (input_of i.n [] [] [] l'.r l'.c b) (lent_with l' x' work' marks')).buffers.x ≡ (solve Plain (with_right i b) s).buffers.x)
      unfolding with_solution
      kept-solves = (
        sym alike.answer ∙ original.answer,
        λ z. let y = ap number_of_answer alike.answer ∙ z in sym (alike.x y) ∙ ap (λ (t : Buffers). t.x) (original.buffers y),
      )
