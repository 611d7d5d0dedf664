-- The call from its stages.
use Rattle.std.specs.Prelude.{Ok, Err, is_err}
use Prim.Native.Nat.{ℕ, ◌*◌}
use mathlib.Core.Path.{◌≡◌, refl, sym, ap, ◌∙◌}
use mathlib.Core.Bool.{Bool, true, false, not, ◌&&◌, and-true, and-false}
use mathlib.Core.List.{List, [], ◌∷◌, ◌++◌}
use lib.ListN.{length, replicate, length-replicate}
use lib.Dec.{eqb}
use lib.Seq.{sets}
use borrow.Author.Tests.{eqb-true, not-true, not-false}
use Rattle.base.specs.AllLaws.{all_join}
use Rattle.base.specs.Answers.{left, Asked, Answer}
use Rattle.base.specs.Lists.{blank}
use Rattle.base.specs.Limits.{rows_within}
use Rattle.base.specs.Tests.{by-test, and_cases}
use Rattle.base.specs.declared.Form.TheVariants.{Shared}
use Rattle.base.specs.declared.Refusal.TheVariants.{Lengths}
use Rattle.matrix.specs.Input.{Input}
use Rattle.outcome.specs.Buffers.{Buffers, all_buffers, sizes, pattern_tests, structure_tests, ask_shape, Outcome, ended, stop}
use Rattle.outcome.specs.Structure.{structure}
use Rattle.stages.specs.Branches.{never}
use Rattle.lists.proofs.Handed.{Structures, structure-done}
use Rattle.sheet.specs.Sheet.{pages_for, sheet_bytes}
use Rattle.fill_sheet.specs.FillSheet.{fill_line, fill_sheet, ask_sheet, sheet_structure, sheet_after, sheet_buffers, with_sheet, sheet_outcome}
use Rattle.sheet.specs.Lent.{SheetLent, SheetPrinted}
use Rattle.sheet.proofs.Laws.{sheet-same, sets-whole}
use Rattle.sheet.proofs.Widths.{sheet-long}
use Rattle.fill_sheet.proofs.Left.{line-is, sheet-lent, line-exact, few}

-- ---- the sheet's length

pub length-within : (n len : ℕ) (t : Bool) → t ≡ rows_within n → not t ≡ false → (pages : ℕ) → pages ≡ pages_for n → not (eqb len (2050 * pages)) ≡ (rows_within n && not (eqb len (sheet_bytes n)))
length-within n len t e h pages p = rw (sym e ∙ not-false t h, p)

pub length-beyond : (n len : ℕ) (t : Bool) → t ≡ rows_within n → not t ≡ true → false ≡ (rows_within n && not (eqb len (sheet_bytes n)))
length-beyond n len t e h = rw (sym e ∙ not-true t h)

abbrev Wrong : ℕ → ℕ → Bool → Type 0
Wrong n len t = t ≡ (rows_within n && not (eqb len (sheet_bytes n)))

not-wrong : (n len : ℕ) (t : Bool) → Wrong n len t → t ≡ false → rows_within n ≡ true → eqb len (sheet_bytes n) ≡ true
not-wrong n len t e h r = by-test (eqb len (sheet_bytes n)) (λ q. q) (λ q. never t h (e ∙ rw (r, q)))

module _ (i : Input) (s : Buffers) (len : ℕ) (t : Bool) (e : Wrong i.n len t) where
  -- it is asked with the other lengths
  ask-same : t ≡ false → ask_sheet i (sizes s) len ≡ ask_shape i.n (pattern_tests i ++ structure_tests Shared i.n (sizes s))
  unfolding ask_sheet ask_shape
  ask-same h =
      by-test (rows_within i.n)
      (λ r. rw (r, all_join (pattern_tests i ++ structure_tests Shared i.n (sizes s)) (eqb len (sheet_bytes i.n) ∷ []), not-wrong i.n len t e h r, and-true))
      (λ r. rw r)

  stop-same : (a b : Asked) (rest : Outcome Answer) → a ≡ b → stop Err a s (stop Err b s rest) ≡ stop Err b s rest
  stop-same a (Ok _) rest q = rw q
  stop-same a (Err p) rest q = rw q

  sheet-structure : t ≡ false → sheet_structure i s len ≡ structure Shared i s
  unfolding sheet_structure structure
  sheet-structure h = stop-same (ask_sheet i (sizes s) len) (ask_shape i.n (pattern_tests i ++ structure_tests Shared i.n (sizes s))) _ (ask-same h)

  ask-wrong : t ≡ true → ask_sheet i (sizes s) len ≡ Err Lengths
  unfolding ask_sheet ask_shape
  ask-wrong h =
      let p = and_cases (rows_within i.n) (not (eqb len (sheet_bytes i.n))) (sym e ∙ h) in
      rw (p.0, all_join (pattern_tests i ++ structure_tests Shared i.n (sizes s)) (eqb len (sheet_bytes i.n) ∷ []), not-true (eqb len (sheet_bytes i.n)) p.1, and-false)

-- ---- what is printed from

pub print-lent : (i : Input) (s t : Buffers) (a : Answer) (b : Bool) → b ≡ is_err a → b ≡ false → ended a t ≡ structure Shared i s
    → SheetLent i.n i.r t.lower.starts t.lower.runs t.lower.index t.upper.starts t.upper.runs t.marks
print-lent i s t (Ok c) b f g o = sheet-lent i s t (structure-done Shared refl i s t c (sym o))
print-lent i s t (Err q) b f g o = never b g f

-- ---- the three ends

module _ (i : Input) (s : Buffers) (old : List ℕ) where
  abbrev Ends : Answer → Buffers → List ℕ → Type 0
  Ends a u new = left a (sheet_buffers u new) ≡ sheet_outcome i (sheet_buffers s old)

  ends : (a : Answer) (u : Buffers) (new : List ℕ) → new ≡ sheet_after i a old → ended a u ≡ sheet_structure i s (length old) → Ends a u new
  unfolding sheet_outcome
  ends a u new p q = ap (λ (l : List ℕ). left a (sheet_buffers u l)) p ∙ ap (with_sheet i old) q

module _ (i : Input) (s : Buffers) (old : List ℕ) (t : Bool) (e : Wrong i.n (length old) t) where
  pub wrong-out : t ≡ true → Ends i s old (Err Lengths) s old
  unfolding sheet_structure
  wrong-out h = ends i s old (Err Lengths) s old refl (rw (ask-wrong i s (length old) t e h))

  module _ (h : t ≡ false) where
    pub refused-left : (a : Answer) (u : Buffers) (b : Bool) → b ≡ is_err a → b ≡ true → ended a u ≡ structure Shared i s → Ends i s old a u old
    refused-left (Ok c) u b f g o = never b f g
    refused-left (Err q) u b f g o = ends i s old (Err q) u old refl (o ∙ sym (sheet-structure i s (length old) t e h))

    module _ (u : Buffers) (m new : List ℕ)
        (P : SheetPrinted i.n i.r u.lower.starts u.lower.runs u.lower.index u.upper.starts u.upper.runs u.marks old m new) where
      module _ (D : Structures Shared i s u) where
        marks-same : m ≡ u.marks
        unfolding blank
        marks-same = P.cleared ∙ ap (λ (l : List ℕ). replicate (length l) 0) D.marks ∙ ap (λ (n : ℕ). replicate n 0) (length-replicate {A = ℕ} (sizes s).marks 0) ∙ sym D.marks

        sheet-is : new ≡ fill_sheet i
        unfolding fill_sheet
        sheet-is =
            P.printed ∙ ap (sets old 0) (sheet-same i.n _ (fill_line i) (line-is i s u D P.lower P.counted))
            ∙ sets-whole old _ (eqb-true _ _ (not-wrong i.n (length old) t e h D.stood.rows) ∙ sym (sheet-long i.n (fill_line i) (line-exact i s u D) (few i s u D)))

      pub done-left : (a : Answer) (b : Bool) → b ≡ is_err a → b ≡ false → ended a u ≡ structure Shared i s → Ends i s old a (all_buffers u.lower u.upper u.d u.x u.work m) new
      done-left (Ok c) b f g o =
          let D = structure-done Shared refl i s u c (sym o) in
          ends i s old (Ok c) _ new (sheet-is D)
          (ap (λ (l : List ℕ). ended (Ok c) (all_buffers u.lower u.upper u.d u.x u.work l)) (marks-same D) ∙ o ∙ sym (sheet-structure i s (length old) t e h))
      done-left (Err q) b f g o = never b g f
