-- The tests of questions 1 and 2, group by group, as the code makes them.
use Rattle.std.specs.Prelude.{◌≡◌, refl, Bool, true, false, ◌&&◌, List, [], ◌∷◌, ◌++◌, ℕ, ◌+◌, length, leb, eqb}
use Rattle.std.proofs.Common.{sym, ap, ap₂, ◌∙◌}
use Rattle.base.specs.All.{all}
use Rattle.base.specs.AllLaws.{all_join}
use Rattle.base.specs.Limits.{max_entries}
use Rattle.matrix.specs.Input.{Input}
use Rattle.outcome.specs.Buffers.{pattern_tests, number_tests, matrix_tests, side_tests, lower_tests, list_tests, vector_tests, scratch_tests, structure_tests, buffer_tests}
-- the laws of the maker's answer stand with the questions
pub use Rattle.outcome.proofs.Making.{made-few, made-stop, made-on}
use Rattle.base.specs.declared.Form.{Form}
use Rattle.base.specs.declared.SideSizes.{SideSizes}
use Rattle.base.specs.declared.Sizes.{Sizes}

-- ---- tests in groups

-- a group in front of others
pub all-next : (a b : List Bool) (s t : Bool) → s ≡ all a → t ≡ all b → (s && t) ≡ all (a ++ b)
all-next a b s t e h = rw (e, h) (sym (all_join a b))

moved : (a e r c t : Bool) → ((((a && e) && r) && c) && t) ≡ (e && (((a && r) && c) && t))
moved true true r c t = refl
moved true false r c t = refl
moved false true r c t = refl
moved false false r c t = refl

and_assoc : (a b c : Bool) → ((a && b) && c) ≡ (a && (b && c))
and_assoc true b c = refl
and_assoc false b c = refl

abbrev pub rest_tests : Input → List Bool
rest_tests i = eqb (length i.starts) (i.n + 1) ∷ eqb (length i.r) i.n ∷ eqb (length i.c) i.n ∷ []

-- the test of e in front
e-first : (i : Input) (more : List Bool) → all (pattern_tests i ++ more) ≡ (leb (length i.columns) max_entries && (all (rest_tests i) && all more))
e-first i more = all_join (pattern_tests i) more ∙ moved (eqb (length i.starts) (i.n + 1)) (leb (length i.columns) max_entries) (eqb (length i.r) i.n) (eqb (length i.c) i.n) (all more)

module _ (f : Form) (i : Input) (z : Sizes) (p l s : Bool) (ep : p ≡ all (rest_tests i)) (el : l ≡ all (list_tests f i.n z)) (es : s ≡ all (scratch_tests i.n z)) where
  pub structure-tests : all (pattern_tests i ++ structure_tests f i.n z) ≡ (leb (length i.columns) max_entries && (p && (l && s)))
  structure-tests =
      e-first i (structure_tests f i.n z)
      ∙ ap₂ (λ (x y : Bool). leb (length i.columns) max_entries && (x && y)) (sym ep) (sym (all-next (list_tests f i.n z) (scratch_tests i.n z) l s el es))

  pub solve-tests : (m v : Bool) → m ≡ all (number_tests i) → v ≡ all (vector_tests i.n z)
      → all (matrix_tests i ++ buffer_tests f i.n z) ≡ (leb (length i.columns) max_entries && ((p && m) && ((l && v) && s)))
  solve-tests m v em ev =
      let e = leb (length i.columns) max_entries in
      let buffers = all-next (list_tests f i.n z ++ vector_tests i.n z) (scratch_tests i.n z) (l && v) s (all-next (list_tests f i.n z) (vector_tests i.n z) l v el ev) es in
      all_join (matrix_tests i) (buffer_tests f i.n z)
      ∙ ap (λ (t : Bool). t && all (buffer_tests f i.n z)) (e-first i (number_tests i) ∙ ap₂ (λ (x y : Bool). e && (x && y)) (sym ep) (sym em))
      ∙ and_assoc e (p && m) (all (buffer_tests f i.n z)) ∙ ap (λ (t : Bool). e && ((p && m) && t)) (sym buffers)

-- ---- a form's tests, once it is known

pub side-as : (f g : Form) (n : ℕ) (z : SideSizes) → f ≡ g → all (side_tests g n z) ≡ all (side_tests f n z)
side-as f g n z e = ap (λ (h : Form). all (side_tests h n z)) (sym e)

pub lower-as : (f g : Form) (n : ℕ) (z : SideSizes) (t : Bool) → f ≡ g → t ≡ all (lower_tests g n z) → t ≡ all (lower_tests f n z)
lower-as f g n z t e h = rw e h

pub side-of : (f g : Form) (n : ℕ) (z : SideSizes) (t : Bool) → f ≡ g → t ≡ all (side_tests f n z) → t ≡ all (side_tests g n z)
side-of f g n z t e h = rw (← e) h
