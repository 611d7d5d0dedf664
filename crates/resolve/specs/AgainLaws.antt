-- The stages of another right side hand on to each other, and come to the call's outcome.
use Rattle.base.specs.Answers.{Pass, Asked}
use Rattle.std.specs.Prelude.{◌≡◌, refl, Bool, true, false, ◌&&◌, List, [], ◌++◌, ℕ, ◌≤◌, length, leb, Float, Ok, Err, is_err}
use Rattle.std.proofs.Math.Path.{sym}
use Rattle.std.proofs.Common.{ap, ◌∙◌, arith, eqb-true, leb-true}
use Rattle.base.specs.All.{all}
use Rattle.base.specs.AllLaws.{all_true}
use Rattle.base.specs.Lists.{blank, nought}
use Rattle.base.specs.Tests.{and_cases}
use Rattle.base.specs.Limits.{max_rows, rows_within}
use Rattle.base.specs.declared.Form.{Form}
use Rattle.base.specs.declared.Form.TheVariants.{Plain, Shared}
use Rattle.base.specs.declared.SideSizes.{SideSizes}
use Rattle.base.specs.declared.Sizes.{Sizes}
use Rattle.base.specs.declared.Refusal.TheVariants.{Rows, Lengths}
use Rattle.matrix.specs.Input.{Input, input_of, right_at, own_order}
use Rattle.matrix.specs.Questions.{ask_right}
use Rattle.matrix.proofs.OrderLaws.{order_below}
use Rattle.arithmetic.specs.Arith.{Out, ok, met, judged}
use Rattle.arithmetic.specs.Again.{whole_again}
use Rattle.arithmetic.specs.Stopping.{solved_again}
use Rattle.arithmetic.proofs.StoppingLaws.{solved_again-is}
use Rattle.outcome.specs.Buffers.{SideBuffers, side_buffers, Buffers, all_buffers, sizes, right_tests, list_tests, vector_tests, scratch_tests, buffer_tests, ask_shape, scratch_cleared, ended, stop}
use Rattle.outcome.specs.Resolve.{given_list, given_values, misplaced, bad_list, bad_at, ask_factors, factors_of, with_solution, resolved, resolve}
use Rattle.questions.specs.Lent.{RightLent}
use Rattle.questions.specs.Settled.{Finite}
use Rattle.questions.specs.SettledLaws.{settled_right}
use Rattle.factors.specs.Presented.{presented}
use Rattle.factors.specs.PresentedLaws.{lower-sound, upper-sound}
use Rattle.substitution.specs.Sweep.{Solvable, Solved}
use Rattle.outcome.proofs.Making.{passed}
use Rattle.stages.specs.LengthLaws.{all-next}
use Rattle.stages.specs.Shaped.{side_of, sizes_of, SolutionDue}
use Rattle.stages.specs.ShapedLaws.{split, sides-fit}
use Rattle.stages.specs.Branches.{never, pass_of}
use Rattle.stages.specs.Asking.{Blanked, stops_call, goes_on, as-was, blank-scratch}
use Rattle.resolve.specs.Again.{again_shape, AgainShaped, AgainDue, AgainAsking, AgainReady, Settles, Again}

-- ---- questions 1 and 2

-- p, l, v, s are the tests in groups, t their answer
module _ (f : Form) (i : Input) (z : Sizes) where
  again-tests : (p l v s : Bool) → p ≡ all (right_tests i) → l ≡ all (list_tests f i.n z) → v ≡ all (vector_tests i.n z) → s ≡ all (scratch_tests i.n z)
      → (p && (l && v && s)) ≡ all (right_tests i ++ buffer_tests f i.n z)
  again-tests p l v s ep el ev es =
      all-next (right_tests i) (buffer_tests f i.n z) p (l && v && s) ep
      (all-next (list_tests f i.n z ++ vector_tests i.n z) (scratch_tests i.n z) (l && v) s (all-next (list_tests f i.n z) (vector_tests i.n z) l v el ev) es)

  module _ (b : Bool) (e : b ≡ rows_within i.n) where
    pub shape-rows : b ≡ false → Err Rows ≡ again_shape f i z
    unfolding ask_shape
    shape-rows h = rw (sym e ∙ h)

    module _ (h : b ≡ true) where
      pub few-of : i.n ≤ max_rows
      few-of = leb-true _ _ (and_cases (leb 1 i.n) (leb i.n max_rows) (sym e ∙ h)).1

      module _ (p l v s : Bool) (ep : p ≡ all (right_tests i)) (el : l ≡ all (list_tests f i.n z)) (ev : v ≡ all (vector_tests i.n z)) (es : s ≡ all (scratch_tests i.n z)) where
        pub shape-pass : (p && (l && v && s)) ≡ true → Pass ≡ again_shape f i z
        unfolding ask_shape
        shape-pass g = rw (sym e ∙ h, sym (again-tests p l v s ep el ev es) ∙ g)

        pub shape-lengths : (p && (l && v && s)) ≡ false → Err Lengths ≡ again_shape f i z
        unfolding ask_shape
        shape-lengths g = rw (sym e ∙ h, sym (again-tests p l v s ep el ev es) ∙ g)

  pub again-shaped : again_shape f i z ≡ Pass → AgainShaped f i z
  again-shaped e =
      let g = passed i.n (right_tests i ++ buffer_tests f i.n z) e in
      let a = split (right_tests i) (buffer_tests f i.n z) g.1 in
      let b = split (list_tests f i.n z ++ vector_tests i.n z) (scratch_tests i.n z) a.1 in
      let c = split (list_tests f i.n z) (vector_tests i.n z) b.0 in
      let p = all_true (right_tests i) a.0 in
      let l = sides-fit f i.n z c.0 in
      let v = all_true (vector_tests i.n z) c.1 in
      let s = all_true (scratch_tests i.n z) b.1 in
      record {
        few = leb-true _ _ (and_cases (leb 1 i.n) (leb i.n max_rows) g.0).1;
        row-order = eqb-true _ _ (p 0);
        column-order = eqb-true _ _ (p 1);
        right = eqb-true _ _ (p 2);
        lower = l.0;
        upper = l.1;
        reciprocals = eqb-true _ _ (v 0);
        solution = eqb-true _ _ (v 1);
        work = eqb-true _ _ (s 0);
        marks = eqb-true _ _ (s 1);
      }

  -- for questions 5 and 6
  pub right-lent : again_shape f i z ≡ Pass → (room : ℕ) → z.marks ≡ room → RightLent i.n i.r i.c (length i.b) room
  right-lent e room g =
      let h = again-shaped e in
      record { orders = record { few = h.few; row-order = h.row-order; column-order = h.column-order; slots = omega (arith, h.marks) }; size = h.right }

  pub again-due : again_shape f i z ≡ Pass → ask_right i.n i.r i.c i.b ≡ Pass → AgainDue f i z
  again-due e p = record { shaped = again-shaped e; passed = p }

-- y and q are the lengths of the two sides
pub asking-of : (f : Form) (i : Input) (y q l u : SideSizes) (d x s k : ℕ) (w : List Float) (m : List ℕ) (v : List Float) (t : List ℕ) (a : Asked) → y ≡ l → q ≡ u
    → AgainAsking f i (sizes_of y q d x s k) w m v t a → AgainAsking f i (sizes_of l u d x s k) w m v t a
asking-of f i y q l u d x s k w m v t a ey eq h = rw (← ey, ← eq) h

-- ---- what 15 asks for, by form

pub plain_ready : (i : Input) (ls us : List ℕ) (li lv ui uv d x w m lr ur : ℕ) → AgainDue Plain i (sizes_of (side_of (length ls) lr li lv) (side_of (length us) ur ui uv) d x w m)
    → (w₁ : ℕ) → w₁ ≡ w → AgainReady Plain i ls ls us us d x w₁
plain_ready i ls us li lv ui uv d x w m lr ur h w₁ e =
    let g = h.shaped in
    let size = g.lower.starts in
    let size' = g.upper.starts in
    record {
      lent = record {
        lower = record { few = g.few; starts-size = size; runs-size = omega arith; runs-are = refl };
        upper = record { few = g.few; starts-size = size'; runs-size = omega arith; runs-are = refl };
        reciprocals = g.reciprocals;
      };
      row-order = g.row-order;
      column-order = g.column-order;
      right = g.right;
      solution = g.solution;
      scratch = e ∙ g.work;
      passed = h.passed;
    }

pub shared-ready : (i : Input) (ls lr us ur : List ℕ) (li lv ui uv d x w m : ℕ)
    → AgainDue Shared i (sizes_of (side_of (length ls) (length lr) li lv) (side_of (length us) (length ur) ui uv) d x w m) → (w₁ : ℕ) → w₁ ≡ w → AgainReady Shared i ls lr us ur d x w₁
shared-ready i ls lr us ur li lv ui uv d x w m h w₁ e =
    let g = h.shaped in
    let runs = g.lower.runs in
    let runs' = g.upper.runs in
    record {
      lent = record {
        lower = record { few = g.few; starts-size = g.lower.starts; runs-size = omega arith; runs-are = tt };
        upper = record { few = g.few; starts-size = g.upper.starts; runs-size = omega arith; runs-are = tt };
        reciprocals = g.reciprocals;
      };
      row-order = g.row-order;
      column-order = g.column-order;
      right = g.right;
      solution = g.solution;
      scratch = e ∙ g.work;
      passed = h.passed;
    }

-- ---- 15 is passed

module _ (f : Form) (i : Input) (ls lr li : List ℕ) (lv : List Float) (us ur ui : List ℕ) (uv d : List Float) (x work : ℕ) (h : AgainReady f i ls lr us ur (length d) x work) where
  pub solvable : (o : Asked) → o ≡ ask_factors f i.n (presented (side_buffers ls lr li lv) (side_buffers us ur ui uv) d) → is_err o ≡ false
      → Solvable f i.n i.r i.b (side_buffers ls lr li lv) (side_buffers us ur ui uv) (length d) work
  unfolding Finite
  solvable o e g =
      let p = sym e ∙ pass_of o g in
      let s = settled_right i.n i.r i.c i.b h.passed in
      record {
        ready = record {
          few = h.lent.lower.few;
          sound = lower-sound f i.n ls lr li lv us ur ui uv d p h.lent.lower;
          reciprocals = h.lent.reciprocals;
          scratch = h.scratch;
        };
        lower-runs = h.lent.lower.runs-are;
        upper-runs = h.lent.upper.runs-are;
        upper = (upper-sound f i.n ls lr li lv us ur ui uv d p h.lent.upper).shape;
        right = record {
          few = h.lent.lower.few;
          row-order = h.row-order;
          rows = λ k l. omega (arith, order_below i.r i.n s.0 k (omega (arith, h.row-order)), h.right);
        };
        fine = s.2;
      }

  pub solution-due : (w : ℕ) → w ≡ work → SolutionDue i.n i.c w x
  solution-due w e = record {
    few = h.lent.lower.few;
    scratch = e ∙ h.scratch;
    size = h.column-order;
    to = h.solution;
    order = (settled_right i.n i.r i.c i.b h.passed).1;
  }

-- ---- the answers of 15 and 13

module _ (i : Input) (x : List Float) (first : Asked) (o : Out (List Float)) (a₁ : Asked) (e₁ : a₁ ≡ first) where
  pub settles-15 : is_err a₁ ≡ true → Settles i x first o a₁ x
  settles-15 h = rw (← e₁) (by a₁ h)
    where
      by : (a : Asked) → is_err a ≡ true → Settles i x a o a x
      by (Ok _) g = never false refl g
      by (Err q) g = (refl, refl)

  module _ (h : is_err a₁ ≡ false) (a : Asked) (z : List Float) (s : Solved o a z) where
    pub settles-13 : is_err a ≡ true → Settles i x first o a x
    settles-13 g = rw (← e₁, pass_of a₁ h) (by o s)
      where
        by : (o : Out (List Float)) → Solved o a z → Settles i x Pass o a x
        by (ok y) t = never (is_err a) (ap is_err t.0) g
        by (met q) t = (t, refl)

    pub settles-x : is_err a ≡ false → (x' : List Float) → x' ≡ own_order i.c i.n z → Settles i x first o a x'
    settles-x g x' e = rw (← e₁, pass_of a₁ h) (by o s)
      where
        by : (o : Out (List Float)) → Solved o a z → Settles i x Pass o a x'
        by (ok y) t = (t.0, e ∙ ap (own_order i.c i.n) t.1)
        by (met q) t = never (is_err a) g (ap is_err t)

-- the arithmetic does not see the column order
given-any : (f : Form) (n : ℕ) (r c : List ℕ) (b : List Float) (s : Buffers) → factors_of f (input_of n [] [] [] r [] b) s ≡ factors_of f (input_of n [] [] [] r c b) s
unfolding factors_of right_at
given-any f n r c b s = refl

-- what the stage after 1, 2, 5 and 6 leaves: t is the test of 15's answer, v that of 13's
module _ (f : Form) (n : ℕ) (r c : List ℕ) (b : List Float) (l u : SideBuffers) (d x : List Float) (a₁ : Asked) (e₁ : a₁ ≡ ask_factors f n (presented l u d)) (t : Bool) (et : t ≡ is_err a₁) where
  pub again-15 : t ≡ true → Again f (input_of n [] [] [] r c b) l u d x a₁ x
  again-15 h = settles-15 (input_of n [] [] [] r c b) x (ask_factors f n (presented l u d)) (solved_again (factors_of f (input_of n [] [] [] r c b) (presented l u d))) a₁ e₁ (sym et ∙ h)

  module _ (h : t ≡ false) (a : Asked) (z : List Float) (s : Solved (solved_again (factors_of f (input_of n [] [] [] r [] b) (presented l u d))) a z) (v : Bool) (ev : v ≡ is_err a) where
    known : Solved (solved_again (factors_of f (input_of n [] [] [] r c b) (presented l u d))) a z
    known = rw (given-any f n r c b (presented l u d)) at s

    pub again-13 : v ≡ true → Again f (input_of n [] [] [] r c b) l u d x a x
    again-13 g =
        settles-13 (input_of n [] [] [] r c b) x (ask_factors f n (presented l u d)) (solved_again (factors_of f (input_of n [] [] [] r c b) (presented l u d))) a₁ e₁ (sym et ∙ h) a z known (sym ev ∙ g)

    pub again-x : v ≡ false → (x' : List Float) → x' ≡ own_order c n z → Again f (input_of n [] [] [] r c b) l u d x a x'
    again-x g x' e =
        settles-x (input_of n [] [] [] r c b) x (ask_factors f n (presented l u d)) (solved_again (factors_of f (input_of n [] [] [] r c b) (presented l u d))) a₁ e₁ (sym et ∙ h) a z known (sym ev ∙ g) x' e

-- c is what the answer is found to be
pub end-as : (a c r : Asked) → a ≡ c → r ≡ c → r ≡ a
end-as a c r e h = h ∙ sym e

-- ---- the outcome

settled-as : (i : Input) (s : Buffers) (first : Asked) (o : Out (List Float)) (a : Asked) (x' : List Float) → Settles i s.x first o a x'
    → ended a (with_solution s x') ≡ stop Err first (scratch_cleared s) (resolved i s o)
unfolding with_solution scratch_cleared
settled-as i s (Err q) o a x' h = rw (h.0, h.1)
settled-as i s (Ok _) (met q) a x' h = rw (h.0, h.1)
settled-as i s (Ok _) (ok z) a x' h = rw (h.0, h.1)

-- 15 and the factors see the lists and d only, and in the plain form no run starts
factors-alone : (f : Form) (n : ℕ) (l u : SideBuffers) (d x w : List Float) (m : List ℕ) → ask_factors f n (all_buffers l u d x w m) ≡ ask_factors f n (presented l u d)
unfolding ask_factors bad_at
factors-alone f n l u d x w m = refl

given-alone : (f : Form) (i : Input) (l u : SideBuffers) (d x w : List Float) (m : List ℕ) → factors_of f i (all_buffers l u d x w m) ≡ factors_of f i (presented l u d)
unfolding factors_of
given-alone f i l u d x w m = refl

plain-15 : (n : ℕ) (ls li : List ℕ) (lv : List Float) (us ui : List ℕ) (uv d : List Float)
    → ask_factors Plain n (presented (side_buffers ls [] li lv) (side_buffers us [] ui uv) d) ≡ ask_factors Plain n (presented (side_buffers ls ls li lv) (side_buffers us us ui uv) d)
unfolding ask_factors bad_at bad_list misplaced given_list given_values
plain-15 n ls li lv us ui uv d = refl

plain-factors : (i : Input) (ls li : List ℕ) (lv : List Float) (us ui : List ℕ) (uv d : List Float)
    → factors_of Plain i (presented (side_buffers ls [] li lv) (side_buffers us [] ui uv) d) ≡ factors_of Plain i (presented (side_buffers ls ls li lv) (side_buffers us us ui uv) d)
unfolding factors_of given_list given_values
plain-factors i ls li lv us ui uv d = refl

pub plain-again : (i : Input) (ls li : List ℕ) (lv : List Float) (us ui : List ℕ) (uv d x x' : List Float) (a : Asked) → Again Plain i (side_buffers ls ls li lv) (side_buffers us us ui uv) d x a x'
    → Again Plain i (side_buffers ls [] li lv) (side_buffers us [] ui uv) d x a x'
plain-again i ls li lv us ui uv d x x' a h = rw (plain-15 i.n ls li lv us ui uv d, plain-factors i ls li lv us ui uv d) h

-- the call ends with a refusal of 1, 2, 5 or 6, or goes on
module _ (f : Form) (i : Input) (l u : SideBuffers) (d x w v : List Float) (m t : List ℕ) (a : Asked) (g : AgainAsking f i (sizes (all_buffers l u d x w m)) w m v t a) where
  pub resolve-stops : (r : Asked) → is_err a ≡ true → r ≡ a → ended r (all_buffers l u d x v t) ≡ resolve f i (all_buffers l u d x w m)
  unfolding resolve
  resolve-stops r h e = stops_call Err (λ y. y) (λ q. refl) _ _ a r _ _ _ _ g.answer h e (λ y. as-was l u d x w v m t (g.untouched y)) (λ y k. blank-scratch l u d x w v m t (g.blanked y k))

  -- scratch is w₁ and m₁ as the later stages leave it, and then cleared
  module _ (h : is_err a ≡ false) (k : Asked) (x' w₁ w₂ : List Float) (m₁ m₂ : List ℕ) (lw : length w₁ ≡ length w) (lm : length m₁ ≡ length m) (c : Blanked w₁ m₁ w₂ m₂) where
    ends_as : Settles i x (ask_factors f i.n (all_buffers l u d x w m)) (judged nought (whole_again (factors_of f i (all_buffers l u d x w m)))) k x'
        → ended k (all_buffers l u d x' w₂ m₂) ≡ resolve f i (all_buffers l u d x w m)
    unfolding resolve with_solution blank
    ends_as e =
        rw (c.0, c.1, lw, lm)
        (goes_on Err (again_shape f i (sizes (all_buffers l u d x w m))) (ask_right i.n i.r i.c i.b) a _ (scratch_cleared (all_buffers l u d x w m)) _ _ g.answer (pass_of a h)
        (settled-as i (all_buffers l u d x w m) (ask_factors f i.n (all_buffers l u d x w m)) (judged nought (whole_again (factors_of f i (all_buffers l u d x w m)))) k x' e))

    pub resolve-ends : Settles i x (ask_factors f i.n (presented l u d)) (solved_again (factors_of f i (presented l u d))) k x' → (r : Asked) → r ≡ k
        → ended r (all_buffers l u d x' w₂ m₂) ≡ resolve f i (all_buffers l u d x w m)
    resolve-ends e r q =
        rw q (ends_as (rw (factors-alone f i.n l u d x w m, solved_again-is, given-alone f i l u d x w m) e))
