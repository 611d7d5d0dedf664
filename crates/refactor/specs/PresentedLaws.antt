-- Laws of refactor over plain lists: what 14 and the arithmetic ask for, and the outcome that each end of the call comes to.
use Rattle.std.specs.Prelude.{◌≡◌, Bool, true, false, List, [], ℕ, length, Float, Ok, Err, is_err}
use Rattle.std.proofs.Math.Path.{refl}
use Rattle.std.proofs.Common.{ap, ◌∙◌}
use Rattle.base.specs.Lists.{blank, padded, nought}
use Rattle.base.specs.Answers.{and_then, Pass, Asked}
use Rattle.base.specs.declared.Form.{Form}
use Rattle.base.specs.declared.Side.TheVariants.{Lower, Upper}
use Rattle.matrix.specs.Input.{Input, stored}
use Rattle.matrix.specs.Questions.{ask_solve}
use Rattle.arithmetic.specs.Arith.{Out, ok, met, Result}
use Rattle.outcome.specs.Buffers.{SideBuffers, Buffers, all_buffers, side_buffers, sizes, scratch_cleared, Outcome, ended, stop}
use Rattle.outcome.specs.Solve.{shape, listed, values_kept}
use Rattle.outcome.specs.Placed.{PlacedSide}
use Rattle.outcome.specs.Refactor.{ask_presented, revalued, refilled, emptied, refactored, refactor}
use Rattle.questions.specs.SettledLaws.{settled}
use Rattle.storing.specs.declared.Way.{Way}
use Rattle.storing.specs.declared.Way.TheVariants.{OneAfterAnother, Sharing}
use Rattle.factor.specs.Factoring.{PlacedLists, lists, Workspace, written, LowerPlaced}
use Rattle.comparison.specs.Comparing.{form_of, RunsBy, Presenting, Standing, Compared, runs_lent, buffers_by}
use Rattle.stages.specs.Stages.{blank_if, Concludes, Concluded}
use Rattle.stages.specs.Shaped.{side_of, sizes_of, pattern, SolveDue, FactorDue}
use Rattle.stages.specs.ShapedLaws.{plain-lent, shared-lent, pattern-structured, starts-of, factor-due}
use Rattle.stages.specs.Branches.{never}
use Rattle.stages.specs.Asking.{Blanked, SolveAsking, asking-stopped, asking-more, stops_call, goes_on, as-was, blank-scratch}
use Rattle.stages.specs.Ends.{blank_of, nothing_stored}
use Rattle.refactor.specs.Presented.{PresentedAsking, RefactorsBy}

-- ---- by the way of placing

pub form-as : (way o : Way) → way ≡ o → form_of o ≡ form_of way
form-as way o e = rw e

pub runs_as : (way o : Way) (runs : List ℕ) → way ≡ o → length (runs_lent o runs) ≡ length (runs_lent way runs)
runs_as way o runs e = rw e

-- ---- what 14 and the arithmetic ask for

pub presenting : (way : Way) (i : Input) (ls lr li us ur ui : List ℕ) (lv uv d x w m t : ℕ)
    → SolveDue (form_of way) i (sizes_of (side_of (length ls) (length (runs_lent way lr)) (length li) lv) (side_of (length us) (length (runs_lent way ur)) (length ui) uv) d x w m) → t ≡ m → RunsBy way ls lr → RunsBy way us ur
    → Presenting way (pattern i) ls lr li lv us ur ui uv t
presenting OneAfterAnother i ls lr li us ur ui lv uv d x w m t h e a b =
    let p = plain-lent (pattern i) ls li us ui 0 lv 0 uv d x w m h.shaped.structure (pattern-structured i (settled i h.passed).structured) in
    rw (e, a, b) (record { matrix = p.matrix; lower = p.lower; upper = p.upper; lower-runs = refl; upper-runs = refl })
presenting Sharing i ls lr li us ur ui lv uv d x w m t h e a b =
    let p = shared-lent (pattern i) ls lr li us ur ui lv uv d x w m h.shaped.structure (pattern-structured i (settled i h.passed).structured) in
    rw e (record { matrix = p.matrix; lower = p.lower; upper = p.upper; lower-runs = tt; upper-runs = tt })

lower-placed : (way : Way) (i : Input) (ls lr li us ur ui : List ℕ) (lv : List Float) → PlacedSide (form_of way) Lower (stored i) i.n ls lr li (length lv)
    → LowerPlaced (form_of way) (stored i) i.n (lists ls li us ur ui) lv
lower-placed OneAfterAnother i ls lr li us ur ui lv h = record { starts-are = h.starts-are; runs-are = refl; slots-are = h.slots-are; index_in = h.index_in; values-in = h.values-in }
lower-placed Sharing i ls lr li us ur ui lv h = starts-of i ls lr li (length lv) h

-- v and t are scratch as 14 leaves it
standing-due : (way : Way) (i : Input) (ls lr li : List ℕ) (lv : List Float) (us ur ui : List ℕ) (uv d x w : List Float) (m : List ℕ) (v : List Float) (t : List ℕ)
    → SolveDue (form_of way) i (sizes (buffers_by way ls lr li lv us ur ui uv d x w m)) → length v ≡ length w → length t ≡ length m → Standing way (pattern i) ls lr li (length lv) us ur ui (length uv) t
    → FactorDue (form_of way) i (lists ls li us ur ui) (written lv uv d v t) (length x)
unfolding stored
standing-due way i ls lr li lv us ur ui uv d x w m v t h ew em s =
    factor-due (form_of way) i _ (lists ls li us ur ui) (written lv uv d v t) (length x) h em refl ew refl (lower-placed way i ls lr li us ur ui lv s.lower) s.upper (record { place = s.inverse.place })

pub due-by : (f g : Form) (i : Input) (l : PlacedLists) (w : Workspace) (x : ℕ) → f ≡ g → FactorDue g i l w x → FactorDue f i l w x
due-by f g i l w x e h = rw e h

-- ---- the questions before 9, and 14

-- form and run starts as the code has them
pub asked_by : (f g : Form) (i : Input) (rl kl ru ku ls li lv us ui uv nd nx nw nm : ℕ) (w : List Float) (m : List ℕ) (v : List Float) (t : List ℕ) (a : Asked) → f ≡ g → rl ≡ kl → ru ≡ ku
    → SolveAsking f i (sizes_of (side_of ls rl li lv) (side_of us ru ui uv) nd nx nw nm) w m v t a → SolveAsking g i (sizes_of (side_of ls kl li lv) (side_of us ku ui uv) nd nx nw nm) w m v t a
asked_by f g i rl kl ru ku ls li lv us ui uv nd nx nw nm w m v t a e b c h = rw (← e, ← b, ← c) h

module _ (way : Way) (i : Input) (ls lr li : List ℕ) (lv : List Float) (us ur ui : List ℕ) (uv d x w : List Float) (m : List ℕ) where
  abbrev lent : Buffers
  lent = buffers_by way ls lr li lv us ur ui uv d x w m

  compared_is : (t : List ℕ) (o : Asked) → Compared way (pattern i) ls lr li (length lv) us ur ui (length uv) t o → o ≡ ask_presented (form_of way) (stored i) i.n lent
  unfolding stored
  compared_is t o h = h.answer lv uv d x w m refl refl

  module _ (v₁ : List Float) (t₁ : List ℕ) (a : Asked) (asked : SolveAsking (form_of way) i (sizes lent) w m v₁ t₁ a) where
    pub earlier-stop : is_err a ≡ true → PresentedAsking way i ls lr li lv us ur ui uv d x w m v₁ t₁ a
    earlier-stop h = asking-stopped _ _ _ _ _ w m v₁ t₁ a asked h

    -- t₂ is what 14 leaves of the marks
    pub presented-stop : (t₂ : List ℕ) (v : List Float) (t : List ℕ) (o : Asked) → a ≡ Pass → Compared way (pattern i) ls lr li (length lv) us ur ui (length uv) t₂ o → is_err o ≡ true → Blanked w m v t
        → PresentedAsking way i ls lr li lv us ur ui uv d x w m v t o
    presented-stop t₂ v t o p h s b = asking-more _ _ _ _ _ w m v₁ t₁ a v t o asked p (compared_is t₂ o h) (λ k. b) (λ k e. never (is_err o) (ap is_err e) s)

    pub presented-pass : (v : List Float) (t : List ℕ) (o : Asked) → a ≡ Pass → Compared way (pattern i) ls lr li (length lv) us ur ui (length uv) t o → is_err o ≡ false → length v ≡ length w → length t ≡ length m
        → PresentedAsking way i ls lr li lv us ur ui uv d x w m v t o
    presented-pass v t o p h s ew em =
        asking-more _ _ _ _ _ w m v₁ t₁ a v t o asked p (compared_is t o h) (λ k. never (is_err o) s k) (λ k e. standing-due way i ls lr li lv us ur ui uv d x w m v t k ew em (h.standing e))

-- ---- the ends of the call

-- all behind 2 clear alike
stop-both : (a b : Asked) (s : Buffers) (o : Outcome Asked) → stop Err (and_then a b) s o ≡ stop Err a s (stop Err b s o)
stop-both (Ok _) b s o = refl
stop-both (Err q) b s o = refl

-- what is left of the call after its questions
refactor-is : (f : Form) (i : Input) (s : Buffers)
    → stop Err (shape f i (sizes s)) s (stop Err (and_then (ask_solve i) (ask_presented f (stored i) i.n s)) (scratch_cleared s) (refactored f i s (listed i))) ≡ refactor f i s
unfolding refactor
refactor-is f i s = ap (stop Err (shape f i (sizes s)) s) (stop-both (ask_solve i) (ask_presented f (stored i) i.n s) (scratch_cleared s) (refactored f i s (listed i)))

-- a value store without values, and one with them
module _ (v v₁ v₂ : List Float) (e : length v₁ ≡ length v) where
  emptied-is : v₂ ≡ blank nought v₁ → v₂ ≡ padded nought (length v) []
  emptied-is h = h ∙ nothing_stored v₁ ∙ ap (λ (k : ℕ). padded nought k []) e

  refilled-is : (l : List Float) → v₁ ≡ padded nought (length v₁) l → v₂ ≡ v₁ → v₂ ≡ padded nought (length v) l
  refilled-is l h g = g ∙ h ∙ ap (λ (k : ℕ). padded nought k l) e

-- 12 and 13, then what is cleared by their answer
came-to : (f : Form) (i : Input) (l u : SideBuffers) (d x w lv₁ uv₁ d₁ x₁ lv₂ uv₂ d₂ w₂ : List Float) (m m₂ : List ℕ) (c : Out Result) (o : Asked) (b : Bool)
    → Concludes f i c o lv₁ uv₁ d₁ x x₁ → b ≡ is_err o → length lv₁ ≡ length l.values → length uv₁ ≡ length u.values → length d₁ ≡ length d
    → lv₂ ≡ blank_if b nought lv₁ → uv₂ ≡ blank_if b nought uv₁ → d₂ ≡ blank_if b nought d₁ → Blanked w m w₂ m₂
    → ended o (all_buffers (side_buffers l.starts l.runs l.index lv₂) (side_buffers u.starts u.runs u.index uv₂) d₂ x₁ w₂ m₂) ≡ refactored f i (all_buffers l u d x w m) c
unfolding Concludes emptied refilled revalued blank
came-to f i l u d x w lv₁ uv₁ d₁ x₁ lv₂ uv₂ d₂ w₂ m m₂ (met q) o false g e kl ku kd hl hu hd hs = never false refl (e ∙ ap is_err g.0)
came-to f i l u d x w lv₁ uv₁ d₁ x₁ lv₂ uv₂ d₂ w₂ m m₂ (met q) o true g e kl ku kd hl hu hd hs =
    rw (g.0, emptied-is l.values lv₁ lv₂ kl hl, emptied-is u.values uv₁ uv₂ ku hu, hd, kd, g.1, hs.0, hs.1)
came-to f i l u d x w lv₁ uv₁ d₁ x₁ lv₂ uv₂ d₂ w₂ m m₂ (ok r) o true g e kl ku kd hl hu hd hs = never true (e ∙ ap is_err g.0) refl
came-to f i l u d x w lv₁ uv₁ d₁ x₁ lv₂ uv₂ d₂ w₂ m m₂ (ok r) o false g e kl ku kd hl hu hd hs =
    rw (g.0, refilled-is l.values lv₁ lv₂ kl (values_kept f Lower (stored i) i.n r.rows) g.1.lower-values hl, refilled-is u.values uv₁ uv₂ ku (values_kept f Upper (stored i) i.n r.rows) g.1.upper-values hu, hd, g.1.reciprocals, g.2, hs.0, hs.1)

module _ (way : Way) (i : Input) (ls lr li : List ℕ) (lv : List Float) (us ur ui : List ℕ) (uv d x w : List Float) (m : List ℕ) (v : List Float) (t : List ℕ) (a : Asked)
    (asked : PresentedAsking way i ls lr li lv us ur ui uv d x w m v t a) where
  pub refactor-stops : (r : Asked) → is_err a ≡ true → r ≡ a → RefactorsBy way i ls lr li lv us ur ui uv d x w m r lv uv d x v t
  refactor-stops r h e =
      stops_call Err (λ y. y) (λ q. refl) _ _ a r _ _ _ _ asked.answer h e (λ y. as-was _ _ d x w v m t (asked.untouched y)) (λ y k. blank-scratch _ _ d x w v m t (asked.blanked y k))
      ∙ refactor-is (form_of way) i _

  -- the arithmetic leaves the buffers numbered 1 and scratch numbered 2; clearing gives the others
  pub refactor-ends : (f : Form) (o : Asked) (b : Bool) (r : Asked) (lv₁ uv₁ d₁ x₁ w₂ lv₂ uv₂ d₂ w₃ : List Float) (m₂ m₃ : List ℕ) → a ≡ Pass → f ≡ form_of way → Concluded f i o lv₁ uv₁ d₁ x x₁ → b ≡ is_err o → r ≡ o
      → length lv₁ ≡ length lv → length uv₁ ≡ length uv → length d₁ ≡ length d → length w₂ ≡ length w → length m₂ ≡ length m
      → lv₂ ≡ blank_if b nought lv₁ → uv₂ ≡ blank_if b nought uv₁ → d₂ ≡ blank_if b nought d₁ → Blanked w₂ m₂ w₃ m₃ → RefactorsBy way i ls lr li lv us ur ui uv d x w m r lv₂ uv₂ d₂ x₁ w₃ m₃
  refactor-ends f o b r lv₁ uv₁ d₁ x₁ w₂ lv₂ uv₂ d₂ w₃ m₂ m₃ p e g h n kl ku kd kw km hl hu hd hs =
      let s = buffers_by way ls lr li lv us ur ui uv d x w m in
      goes_on Err (shape (form_of way) i (sizes s)) (and_then (ask_solve i) (ask_presented (form_of way) (stored i) i.n s)) a s (scratch_cleared s) (refactored (form_of way) i s (listed i)) _ asked.answer p
      (ap (λ (q : Asked). ended q (buffers_by way ls lr li lv₂ us ur ui uv₂ d₂ x₁ w₃ m₃)) n
      ∙ came-to (form_of way) i (side_buffers ls (runs_lent way lr) li lv) (side_buffers us (runs_lent way ur) ui uv) d x w lv₁ uv₁ d₁ x₁ lv₂ uv₂ d₂ w₃ m m₃ (listed i) o b
      (rw (← e) g) h kl ku kd hl hu hd (blank_of nought w w₂ w₃ kw hs.0, blank_of 0 m m₂ m₃ km hs.1))
      ∙ refactor-is (form_of way) i s
