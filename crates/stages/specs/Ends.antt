-- The ends of a call, over the form: what the passes leave, what is then cleared, and the outcome that this comes to.
use Rattle.base.specs.Answers.{Pass, Asked, Answer}
use Rattle.std.specs.Prelude.{◌≡◌, refl, Bool, List, [], ◌∷◌, ℕ, length, Float, Ok, Err, ⊤, is_err, IsErrAnd}
use Rattle.std.proofs.Common.{sym, ap, ◌∙◌, arith}
use Rattle.std.proofs.Math.Bool.{true, false}
use Rattle.std.proofs.Math.Nat.{sub-zero}
use Rattle.base.specs.Lists.{blank, padded, nought}
use Rattle.base.specs.ZerosLaws.{blank-same}
use Rattle.base.specs.FirstLaws.{passed-on}
use Rattle.fill.specs.Fill.{Pattern}
use Rattle.matrix.specs.Input.{Input, stored, own_order}
use Rattle.outcome.specs.Buffers.{SideBuffers, Buffers, all_buffers, side_buffers, no_side, side_sizes, sizes, side_cleared, cleared, scratch_cleared, ended}
use Rattle.outcome.specs.Forms.{placed_to}
use Rattle.outcome.specs.Placed.{RunsAre, PlacedSide, WrittenSide}
use Rattle.outcome.specs.Structure.{ask_places, counts, runs_kept, side_placed, structured, structure}
use Rattle.outcome.specs.Solve.{listed, fault_of, values_kept, kept, concluded, solve}
use Rattle.arithmetic.specs.Arith.{Out, ok, met, Result}
use Rattle.factor.specs.Factoring.{refused_by, lists, written, LowerPlaced, Factors, FactoredAs}
use Rattle.std.specs.Prelude as prelude
use Rattle.factor.specs.declared.Fault.{Fault}
use Rattle.factor.specs.declared.Fault.TheVariants.{Zero, Overflow}
use Rattle.questions.specs.Lent.{Inverse}
use Rattle.symbolic.specs.Pass.{slots_of, found_answer, Analyzed, AnalyzedBoth}
use Rattle.base.specs.declared.Form.{Form}
use Rattle.base.specs.declared.Form.TheVariants.{Plain, Shared, ByRow}
use Rattle.base.specs.declared.Side.{Side}
use Rattle.base.specs.declared.Side.TheVariants.{Lower, Upper}
use Rattle.base.specs.declared.Sizes.{Sizes}
use Rattle.base.specs.declared.Counts.{Counts}
use Rattle.base.specs.declared.Refusal.{Refusal}
use Rattle.stages.specs.Stages.{blank_if, structure_placed, solve_placed, clears, closed, Leaves, Concludes, Concluded}
use Rattle.stages.specs.Shaped.{pattern, SolveDue, FactorDue, fault_asked}
use Rattle.stages.specs.ShapedLaws.{slots, places-slots, factor-due}
use Rattle.stages.specs.Branches.{never, found-done, found-refused}
use Rattle.stages.specs.Asking.{Blanked, StructureAsking, SolveAsking, structure-goes, solve-goes}

-- ---- zeros

module _ {A : Type 0} (b : Bool) (v : A) (l r : List A) where
  pub if_yes : b ≡ true → r ≡ blank v l → r ≡ blank_if b v l
  if_yes e h = rw e h

pub none-if : {A : Type 0} (b : Bool) (v : A) → [] ≡ blank_if b v []
unfolding blank
none-if true v = refl
none-if false v = refl

-- a buffer that was written to in between
pub blank_of : {A : Type 0} (v : A) (a b c : List A) → length b ≡ length a → c ≡ blank v b → c ≡ blank v a
blank_of v a b c l e = e ∙ blank-same v b a l

-- t is as long as s
pub record Long (s t : SideBuffers) : Type 0 where
  pub starts : length t.starts ≡ length s.starts
  pub runs : length t.runs ≡ length s.runs
  pub index : length t.index ≡ length s.index
  pub values : length t.values ≡ length s.values

-- t is s, or zeros
pub record SideIf (b : Bool) (s t : SideBuffers) : Type 0 where
  pub starts : t.starts ≡ blank_if b 0 s.starts
  pub runs : t.runs ≡ blank_if b 0 s.runs
  pub index : t.index ≡ blank_if b 0 s.index
  pub values : t.values ≡ blank_if b nought s.values

side-zero : (s t u : SideBuffers) → Long s t → SideIf true t u → u ≡ side_cleared (side_sizes s)
unfolding side_cleared blank
side-zero s t u l h = rw (h.starts, h.runs, h.index, h.values, l.starts, l.runs, l.index, l.values)

side_same : (s t : SideBuffers) → SideIf false s t → t ≡ s
side_same s t h = rw (h.starts, h.runs, h.index, h.values)

-- ---- a side as a success leaves it

-- a side t over s whose lists are placed: with these values it is what the definition says
abbrev pub Stands : Form → Side → Pattern → ℕ → SideBuffers → SideBuffers → Type 0
Stands f side P n s t = (values : List Float) → t.values ≡ padded nought (length s.values) values → t ≡ side_placed f side P n (side_sizes s) values

-- runs are those that the lists are read by
pub stands : (f : Form) (side : Side) (P : Pattern) (n : ℕ) (s t : SideBuffers) (runs : List ℕ) (room : ℕ) → WrittenSide f side P n t.starts runs t.index room
    → length t.index ≡ length s.index → t.runs ≡ runs_kept f (length s.runs) (placed_to f side P n n) → Stands f side P n s t
unfolding side_placed
stands f side P n s t runs room h e r values v =
    let i : t.index ≡ padded 0 (length s.index) (placed_to f side P n n).slots = h.index_is ∙ ap (λ (m : ℕ). padded 0 m (placed_to f side P n n).slots) e in
    rw (h.placed.starts-are, i, r, v)

-- ---- 12 and 13

pub came-fault : (f : Form) (i : Input) (lower upper d z x : List Float) (a : prelude.Result ⊤ Fault) (o : Asked)
    → FactoredAs f i a lower upper d z → o ≡ fault_asked a → is_err o ≡ true → Concluded f i o lower upper d x x
unfolding FactoredAs Concludes
came-fault f i lower upper d z x (Ok t) o g e h = never (is_err o) (ap is_err e) h
came-fault f i lower upper d z x (Err (Zero p)) o g e h = rw g (e, refl)
came-fault f i lower upper d z x (Err (Overflow p)) o g e h = rw g (e, refl)

pub came-solved : (f : Form) (i : Input) (lower upper d z x₀ x : List Float) (a : prelude.Result ⊤ Fault) (o : Asked)
    → FactoredAs f i a lower upper d z → o ≡ fault_asked a → is_err o ≡ false → x ≡ own_order i.c i.n z → Concluded f i o lower upper d x₀ x
unfolding FactoredAs Concludes
came-solved f i lower upper d z x₀ x (Ok t) o g e h v =
    let c = g.2 in
    rw g.1 (e, record { lower-values = c.lower-values; upper-values = c.upper-values; reciprocals = c.reciprocals; solution = refl }, v ∙ ap (own_order i.c i.n) c.solution)
came-solved f i lower upper d z x₀ x (Err (Zero p)) o g e h v = never (is_err o) h (ap is_err e)
came-solved f i lower upper d z x₀ x (Err (Overflow p)) o g e h v = never (is_err o) h (ap is_err e)

-- the same, where `?` passes the fault on as a refusal
pub came-refused : (f : Form) (i : Input) (lower upper d z x : List Float) (a : prelude.Result ⊤ Fault) (o : Asked)
    → FactoredAs f i a lower upper d z → (e : Fault) → a ≡ Err e → IsErrAnd o (λ q. q ≡ refused_by e) → Concluded f i o lower upper d x x
came-refused f i lower upper d z x a o g (Zero p) h r = came-fault f i lower upper d z x (Err (Zero p)) o (rw h at g) (passed-on o _ r) (ap is_err (passed-on o _ r))
came-refused f i lower upper d z x a o g (Overflow p) h r = came-fault f i lower upper d z x (Err (Overflow p)) o (rw h at g) (passed-on o _ r) (ap is_err (passed-on o _ r))

pub came-passed : (f : Form) (i : Input) (lower upper d z x₀ x : List Float) (a : prelude.Result ⊤ Fault)
    → FactoredAs f i a lower upper d z → a ≡ Ok tt → x ≡ own_order i.c i.n z → Concluded f i Pass lower upper d x₀ x
came-passed f i lower upper d z x₀ x a g h = came-solved f i lower upper d z x₀ x a Pass g (sym (ap fault_asked h)) refl

-- ---- 9 to 13, and x

clears-refused : (f : Form) (q : Refusal) → clears f (Err q) ≡ true
clears-refused Plain q = refl
clears-refused Shared q = refl
clears-refused ByRow q = refl

-- the row form leaves neither lists nor factors
pub record CallKept (f : Form) (i : Input) (s t : Buffers) : Type 0 where
  pub lower : Stands f Lower (stored i) i.n s.lower t.lower
  pub upper : Stands f Upper (stored i) i.n s.upper t.upper
  pub lower-values : length t.lower.values ≡ length s.lower.values
  pub upper-values : length t.upper.values ≡ length s.upper.values
  pub work : length t.work ≡ length s.work
  pub marks : length t.marks ≡ length s.marks

abbrev pub KeptBy : Form → Input → Buffers → Buffers → Type 0
KeptBy Plain i s t = CallKept Plain i s t
KeptBy Shared i s t = CallKept Shared i s t
KeptBy ByRow i s t = Unit {0}

kept-is : (f : Form) (i : Input) (s t : Buffers) (r : Result) → CallKept f i s t → Factors f i r t.lower.values t.upper.values t.d r.z → t.x ≡ own_order i.c i.n r.z
    → scratch_cleared t ≡ kept f i (sizes s) r
unfolding kept scratch_cleared
kept-is f i s t r h v x =
    let low = values_kept f Lower (stored i) i.n r.rows in
    let up = values_kept f Upper (stored i) i.n r.rows in
    rw (h.lower low (v.lower-values ∙ ap (λ (m : ℕ). padded nought m low) h.lower-values), h.upper up (v.upper-values ∙ ap (λ (m : ℕ). padded nought m up) h.upper-values), v.reciprocals, x, h.work, h.marks)

concluded-is : (f : Form) (i : Input) (s t : Buffers) (k : Counts) (o : Out Result) (u : Asked) (r : Answer) → k ≡ counts i → r ≡ found_answer u k
    → Concludes f i o u t.lower.values t.upper.values t.d s.x t.x → KeptBy f i s t → ended r (closed f r s t) ≡ concluded f i (sizes s) s.x o
unfolding Concludes closed
concluded-is f i s t k (met q) u r e n g h = rw (n, g.0, clears-refused f (fault_of q), g.1)
concluded-is Plain i s t k (ok a) u r e n g h = rw (n, g.0, e, kept-is Plain i s t a h g.1 g.2)
concluded-is Shared i s t k (ok a) u r e n g h = rw (n, g.0, e, kept-is Shared i s t a h g.1 g.2)
concluded-is ByRow i s t k (ok a) u r e n g h = rw (n, g.0, e, g.2)

-- the structure pass of a solve looks at the pattern alone
found-pattern : (f : Form) (i : Input) (z : Sizes) (us ur ui : List ℕ) (uv : ℕ) (m : List ℕ) (a : Answer) → Analyzed f (pattern i) z us ur ui uv m a → Analyzed f i z us ur ui uv m a
unfolding stored counts
found-pattern f i z us ur ui uv m a h = record { answer = h.answer; upper = h.upper; inverse = λ p. record { place = (h.inverse p).place } }

both-pattern : (f : Form) (i : Input) (z : Sizes) (ls lr li us ur ui m : List ℕ) (lv uv : ℕ) (a : Answer) → AnalyzedBoth f (pattern i) z ls lr li lv us ur ui uv m a → AnalyzedBoth f i z ls lr li lv us ur ui uv m a
unfolding stored
both-pattern f i z ls lr li us ur ui m lv uv a h = record { found = found-pattern f i z us ur ui uv m a h.found; lower = h.lower }

-- the structure pass refused
leaves_by : (f : Form) (i : Input) (s t : Buffers) (a : Answer) → a ≡ found_answer (ask_places f (stored i) i.n (slots (sizes s)) i.n) (counts i)
    → is_err a ≡ true → t.x ≡ s.x → Leaves f i s a t
unfolding closed solve_placed
leaves_by f i s t (Ok c) g h x = never false refl h
leaves_by f i s t (Err q) g h x =
    rw (clears-refused f q, x, places-slots f (stored i) i.n (sizes s) i.n ∙ found-refused _ (counts i) q (Err q) g refl)

module _ (f : Form) (i : Input) (s t : Buffers) (us ur ui : List ℕ) (uv : ℕ) (m : List ℕ) (a : Answer) (found : Analyzed f (pattern i) (slots (sizes s)) us ur ui uv m a) where
  pub leaves-refused : is_err a ≡ true → t.x ≡ s.x → Leaves f i s a t
  leaves-refused = leaves_by f i s t a (found-pattern f i _ us ur ui uv m a found).answer

  -- the same, where `?` passes it on
  pub leaves-passed-on : (r : Answer) (q : Refusal) → a ≡ Err q → IsErrAnd r (λ y. y ≡ q) → t.x ≡ s.x → Leaves f i s r t
  leaves-passed-on r q h e x = rw (passed-on r q e ∙ sym h) (leaves-refused (ap is_err h) x)

  -- or the arithmetic came to its end
  leaves-came : (k : Counts) (u : Asked) (r : Answer) → a ≡ Ok k → r ≡ found_answer u k → Concluded f i u t.lower.values t.upper.values t.d s.x t.x → KeptBy f i s t → Leaves f i s r t
  unfolding solve_placed
  leaves-came k u r e n g h =
      let p = found-done _ (counts i) k a (found-pattern f i _ us ur ui uv m a found).answer e in
      rw (places-slots f (stored i) i.n (sizes s) i.n ∙ p.0) (concluded-is f i s t k (listed i) u r p.1 n g h)

-- where the lists of both sides are placed, and the inverse order stands; `lr` and `ur` are the runs that the lists are read by
both-placed : (f : Form) (i : Input) (z : Sizes) (ls lr li us ur ui m : List ℕ) (lv uv : ℕ) (a : Answer) (k : Counts) → AnalyzedBoth f (pattern i) z ls lr li lv us ur ui uv m a → a ≡ Ok k
    → WrittenSide f Lower (stored i) i.n ls lr li lv × WrittenSide f Upper (stored i) i.n us ur ui uv × Inverse i m
both-placed f i z ls lr li us ur ui m lv uv a k found done =
    let g = both-pattern f i z ls lr li us ur ui m lv uv a found in
    let p = found-done _ (counts i) k a g.found.answer done in
    (g.lower p.0, g.found.upper p.0, g.found.inverse p.0)

pub both-due : (f : Form) (i : Input) (z y : Sizes) (ls lr li us ur ui m : List ℕ) (lv uv d w : List Float) (x : ℕ) (a : Answer) (k : Counts)
    → AnalyzedBoth f (pattern i) z ls lr li (length lv) us ur ui (length uv) m a → a ≡ Ok k
    → SolveDue f i y → length m ≡ y.marks → length d ≡ y.d → length w ≡ y.work → x ≡ y.x
    → (PlacedSide f Lower (stored i) i.n ls lr li (length lv) → LowerPlaced f (stored i) i.n (lists ls li us ur ui) lv) → FactorDue f i (lists ls li us ur ui) (written lv uv d w m) x
both-due f i z y ls lr li us ur ui m lv uv d w x a k found done h em ed ew ex g =
    let p = both-placed f i z ls lr li us ur ui m (length lv) (length uv) a k found done in
    factor-due f i y (lists ls li us ur ui) (written lv uv d w m) x h em ed ew ex (g p.0.placed) p.1.placed p.2

both-kept : (f : Form) (i : Input) (z : Sizes) (s t : Buffers) (lr ur m : List ℕ) (lv uv : ℕ) (a : Answer) (k : Counts)
    → AnalyzedBoth f (pattern i) z t.lower.starts lr t.lower.index lv t.upper.starts ur t.upper.index uv m a → a ≡ Ok k
    → Long s.lower t.lower → Long s.upper t.upper → length t.work ≡ length s.work → length t.marks ≡ length s.marks
    → (RunsAre f Lower (stored i) i.n t.lower.starts lr → t.lower.runs ≡ runs_kept f (length s.lower.runs) (placed_to f Lower (stored i) i.n i.n))
    → (RunsAre f Upper (stored i) i.n t.upper.starts ur → t.upper.runs ≡ runs_kept f (length s.upper.runs) (placed_to f Upper (stored i) i.n i.n)) → CallKept f i s t
both-kept f i z s t lr ur m lv uv a k found done kl ku kw km rl ru =
    let p = both-placed f i z t.lower.starts lr t.lower.index t.upper.starts ur t.upper.index m lv uv a k found done in
    record {
      lower = stands f Lower (stored i) i.n s.lower t.lower lr lv p.0 kl.index (rl p.0.placed.runs-are);
      upper = stands f Upper (stored i) i.n s.upper t.upper ur uv p.1 ku.index (ru p.1.placed.runs-are);
      lower-values = kl.values;
      upper-values = ku.values;
      work = kw;
      marks = km;
    }

kept_by : (f : Form) (i : Input) (s t : Buffers) → CallKept f i s t → KeptBy f i s t
kept_by Plain i s t h = h
kept_by Shared i s t h = h
kept_by ByRow i s t h = tt

-- all of it, over plain lists
pub both-leaves : (f : Form) (i : Input) (ls₀ lr₀ li₀ us₀ ur₀ ui₀ m₀ ls lr li us ur ui m rl ru m₁ : List ℕ) (lv₀ uv₀ d₀ x₀ w₀ lv uv d x w : List Float) (a r : Answer) (k : Counts) (o : Asked)
    → AnalyzedBoth f (pattern i) (slots_of (length li₀) (length lv₀) (length ui₀) (length uv₀)) ls rl li (length lv₀) us ru ui (length uv₀) m₁ a → a ≡ Ok k → Concluded f i o lv uv d x₀ x → r ≡ found_answer o k
    → length ls ≡ length ls₀ → length lr ≡ length lr₀ → length li ≡ length li₀ → length lv ≡ length lv₀ → length us ≡ length us₀ → length ur ≡ length ur₀ → length ui ≡ length ui₀ → length uv ≡ length uv₀
    → length w ≡ length w₀ → length m ≡ length m₀
    → (RunsAre f Lower (stored i) i.n ls rl → lr ≡ runs_kept f (length lr₀) (placed_to f Lower (stored i) i.n i.n))
    → (RunsAre f Upper (stored i) i.n us ru → ur ≡ runs_kept f (length ur₀) (placed_to f Upper (stored i) i.n i.n))
    → Leaves f i (all_buffers (side_buffers ls₀ lr₀ li₀ lv₀) (side_buffers us₀ ur₀ ui₀ uv₀) d₀ x₀ w₀ m₀) r (all_buffers (side_buffers ls lr li lv) (side_buffers us ur ui uv) d x w m)
both-leaves f i ls₀ lr₀ li₀ us₀ ur₀ ui₀ m₀ ls lr li us ur ui m rl ru m₁ lv₀ uv₀ d₀ x₀ w₀ lv uv d x w a r k o found done g n a₁ a₂ a₃ a₄ b₁ b₂ b₃ b₄ kw km hl hu =
    let s = all_buffers (side_buffers ls₀ lr₀ li₀ lv₀) (side_buffers us₀ ur₀ ui₀ uv₀) d₀ x₀ w₀ m₀ in
    let t = all_buffers (side_buffers ls lr li lv) (side_buffers us ur ui uv) d x w m in
    leaves-came f i s t us ru ui (length uv₀) m₁ a found.found k o r done n g
    (kept_by f i s t
    (both-kept f i _ s t rl ru m₁ (length lv₀) (length uv₀) a k found done (record { starts = a₁; runs = a₂; index = a₃; values = a₄ }) (record { starts = b₁; runs = b₂; index = b₃; values = b₄ }) kw km hl hu))

-- the row form, which lends an empty store for L
pub row-due : (i : Input) (z y : Sizes) (ls li us ur ui m : List ℕ) (lv uv d w : List Float) (x : ℕ) (a : Answer) (k : Counts) → Analyzed ByRow (pattern i) z us ur ui (length uv) m a → a ≡ Ok k
    → SolveDue ByRow i y → length m ≡ y.marks → length d ≡ y.d → length w ≡ y.work → x ≡ y.x → lv ≡ [] → FactorDue ByRow i (lists ls li us ur ui) (written lv uv d w m) x
row-due i z y ls li us ur ui m lv uv d w x a k found done h em ed ew ex el =
    let g = found-pattern ByRow i z us ur ui (length uv) m a found in
    let p = found-done _ (counts i) k a g.answer done in
    factor-due ByRow i y (lists ls li us ur ui) (written lv uv d w m) x h em ed ew ex el (g.upper p.0).placed (g.inverse p.0)

pub row-leaves : (i : Input) (us₀ ur₀ ui₀ m₀ us ur ui m m₁ : List ℕ) (uv₀ d₀ x₀ w₀ lv uv d x w : List Float) (a r : Answer) (k : Counts) (o : Asked) → Analyzed ByRow (pattern i) (slots_of 0 0 (length ui₀) (length uv₀)) us ur ui (length uv₀) m₁ a → a ≡ Ok k
    → Concluded ByRow i o lv uv d x₀ x → r ≡ found_answer o k → length lv ≡ 0 → Leaves ByRow i (all_buffers no_side (side_buffers us₀ ur₀ ui₀ uv₀) d₀ x₀ w₀ m₀) r (all_buffers no_side (side_buffers us ur ui uv) d x w m)
row-leaves i us₀ ur₀ ui₀ m₀ us ur ui m m₁ uv₀ d₀ x₀ w₀ [] uv d x w a r k o found done g n e =
    leaves-came ByRow i (all_buffers no_side (side_buffers us₀ ur₀ ui₀ uv₀) d₀ x₀ w₀ m₀) (all_buffers no_side (side_buffers us ur ui uv) d x w m) us ur ui (length uv₀) m₁ a found k o r done n g tt
row-leaves i us₀ ur₀ ui₀ m₀ us ur ui m m₁ uv₀ d₀ x₀ w₀ (y ∷ lv) uv d x w a r k o found done g n e = absurd (omega arith)

-- ---- the solve

module _ (f : Form) (i : Input) (l u l₁ u₁ l₂ u₂ : SideBuffers) (d d₁ d₂ x x₁ w w₁ w₂ w₃ : List Float) (m m₁ m₂ m₃ : List ℕ) where
  closed_is : (a : Answer) (b : Bool) → b ≡ clears f a → Long l l₁ → Long u u₁ → length d₁ ≡ length d → length w₂ ≡ length w₁ → length m₂ ≡ length m₁
      → SideIf b l₁ l₂ → SideIf b u₁ u₂ → d₂ ≡ blank_if b nought d₁ → Blanked w₂ m₂ w₃ m₃
      → all_buffers l₂ u₂ d₂ x₁ w₃ m₃ ≡ closed f a (all_buffers l u d x w₁ m₁) (all_buffers l₁ u₁ d₁ x₁ w₂ m₂)
  unfolding closed cleared scratch_cleared blank
  closed_is a true e kl ku kd kw km hl hu hd hs = rw (← e, side-zero l l₁ l₂ kl hl, side-zero u u₁ u₂ ku hu, hd, kd, hs.0, hs.1, kw, km)
  closed_is a false e kl ku kd kw km hl hu hd hs = rw (← e, side_same l₁ l₂ hl, side_same u₁ u₂ hu, hd, hs.0, hs.1)

  scratch-same : length w₁ ≡ length w → length m₁ ≡ length m → solve_placed f i (all_buffers l u d x w₁ m₁) ≡ solve_placed f i (all_buffers l u d x w m)
  unfolding solve_placed
  scratch-same a b = rw (a, b)

  -- w₁ and m₁ are scratch as the questions leave it; 9 to 13 leave the other buffers numbered 1 and scratch numbered 2; clearing gives the last
  pub solve-ends : (o : Asked) (a : Answer) (b : Bool) → SolveAsking f i (sizes (all_buffers l u d x w m)) w m w₁ m₁ o → o ≡ Pass
      → Leaves f i (all_buffers l u d x w₁ m₁) a (all_buffers l₁ u₁ d₁ x₁ w₂ m₂) → b ≡ clears f a
      → length w₁ ≡ length w → length m₁ ≡ length m → Long l l₁ → Long u u₁ → length d₁ ≡ length d → length w₂ ≡ length w₁ → length m₂ ≡ length m₁
      → SideIf b l₁ l₂ → SideIf b u₁ u₂ → d₂ ≡ blank_if b nought d₁ → Blanked w₂ m₂ w₃ m₃
      → ended a (all_buffers l₂ u₂ d₂ x₁ w₃ m₃) ≡ solve f i (all_buffers l u d x w m)
  unfolding solve_placed
  solve-ends o a b q p h e ew em kl ku kd kw km hl hu hd hs =
      solve-goes f i (all_buffers l u d x w m) w w₁ m m₁ o _ q p
      (ap (λ (y : Buffers). ended a y) (closed_is a b e kl ku kd kw km hl hu hd hs) ∙ h ∙ scratch-same ew em)

-- ---- the structure call

-- t over s: its value store is cleared whatever the answer
pub record ListsIf (b : Bool) (s t : SideBuffers) : Type 0 where
  pub starts : t.starts ≡ blank_if b 0 s.starts
  pub runs : t.runs ≡ blank_if b 0 s.runs
  pub index : t.index ≡ blank_if b 0 s.index
  pub values : t.values ≡ blank nought s.values

-- a value store without values is zero
pub nothing_stored : (v : List Float) → blank nought v ≡ padded nought (length v) []
unfolding blank padded
nothing_stored v = rw sub-zero

lists-zero : (s t u : SideBuffers) → Long s t → ListsIf true t u → u ≡ side_cleared (side_sizes s)
lists-zero s t u l h = side-zero s t u l (record { starts = h.starts; runs = h.runs; index = h.index; values = h.values })

lists-placed : (f : Form) (side : Side) (P : Pattern) (n : ℕ) (s t u : SideBuffers) (runs : List ℕ) (room : ℕ) → WrittenSide f side P n t.starts runs t.index room → Long s t
    → t.runs ≡ runs_kept f (length s.runs) (placed_to f side P n n) → ListsIf false t u → u ≡ side_placed f side P n (side_sizes s) []
lists-placed f side P n s t u runs room h l r g =
    stands f side P n s u runs room (rw (g.starts, g.index) h) (ap length g.index ∙ l.index) (g.runs ∙ r) [] (g.values ∙ nothing_stored t.values ∙ ap (λ (m : ℕ). padded nought m []) l.values)

structure-by : (f : Form) (i : Input) (l u l₁ u₁ l₂ u₂ : SideBuffers) (w w₁ w₂ : List Float) (m m₁ m₂ lr ur : List ℕ) (a : Answer) (b : Bool)
    → AnalyzedBoth f i (slots (sizes (all_buffers l u [] [] w m))) l₁.starts lr l₁.index (length l.values) u₁.starts ur u₁.index (length u.values) m₁ a → b ≡ is_err a
    → (RunsAre f Lower (stored i) i.n l₁.starts lr → l₁.runs ≡ runs_kept f (length l.runs) (placed_to f Lower (stored i) i.n i.n))
    → (RunsAre f Upper (stored i) i.n u₁.starts ur → u₁.runs ≡ runs_kept f (length u.runs) (placed_to f Upper (stored i) i.n i.n))
    → Long l l₁ → Long u u₁ → length w₁ ≡ length w → length m₁ ≡ length m → ListsIf b l₁ l₂ → ListsIf b u₁ u₂ → Blanked w₁ m₁ w₂ m₂
    → ended a (all_buffers l₂ u₂ [] [] w₂ m₂) ≡ structure_placed f i (all_buffers l u [] [] w m)
unfolding structure_placed structured cleared blank
structure-by f i l u l₁ u₁ l₂ u₂ w w₁ w₂ m m₁ m₂ lr ur (Ok c) true g e rl ru kl ku kw km hl hu hs = never true e refl
structure-by f i l u l₁ u₁ l₂ u₂ w w₁ w₂ m m₁ m₂ lr ur (Err q) false g e rl ru kl ku kw km hl hu hs = never false refl e
structure-by f i l u l₁ u₁ l₂ u₂ w w₁ w₂ m m₁ m₂ lr ur (Ok c) false g e rl ru kl ku kw km hl hu hs =
    let p = found-done _ (counts i) c (Ok c) g.found.answer refl in
    let x = g.lower p.0 in
    let y = g.found.upper p.0 in
    rw (places-slots f (stored i) i.n (sizes (all_buffers l u [] [] w m)) i.n ∙ p.0, p.1, lists-placed f Lower (stored i) i.n l l₁ l₂ lr _ x kl (rl x.placed.runs-are) hl, lists-placed f Upper (stored i) i.n u u₁ u₂ ur _ y ku (ru y.placed.runs-are) hu, hs.0, hs.1, kw, km)
structure-by f i l u l₁ u₁ l₂ u₂ w w₁ w₂ m m₁ m₂ lr ur (Err q) true g e rl ru kl ku kw km hl hu hs =
    rw (places-slots f (stored i) i.n (sizes (all_buffers l u [] [] w m)) i.n ∙ found-refused _ (counts i) q (Err q) g.found.answer refl, lists-zero l l₁ l₂ kl hl, lists-zero u u₁ u₂ ku hu, hs.0, hs.1, kw, km)

pub structure-ends : (f : Form) (i : Input) (l u l₁ u₁ l₂ u₂ : SideBuffers) (w w₁ w₂ : List Float) (m t m₁ m₂ lr ur : List ℕ) (o : Asked) (a : Answer) (b : Bool)
    → StructureAsking f i (sizes (all_buffers l u [] [] w m)) w m w₁ t o → o ≡ Pass
    → AnalyzedBoth f i (slots (sizes (all_buffers l u [] [] w m))) l₁.starts lr l₁.index (length l.values) u₁.starts ur u₁.index (length u.values) m₁ a → b ≡ is_err a
    → (RunsAre f Lower (stored i) i.n l₁.starts lr → l₁.runs ≡ runs_kept f (length l.runs) (placed_to f Lower (stored i) i.n i.n))
    → (RunsAre f Upper (stored i) i.n u₁.starts ur → u₁.runs ≡ runs_kept f (length u.runs) (placed_to f Upper (stored i) i.n i.n))
    → Long l l₁ → Long u u₁ → length w₁ ≡ length w → length m₁ ≡ length m → ListsIf b l₁ l₂ → ListsIf b u₁ u₂ → Blanked w₁ m₁ w₂ m₂
    → ended a (all_buffers l₂ u₂ [] [] w₂ m₂) ≡ structure f i (all_buffers l u [] [] w m)
structure-ends f i l u l₁ u₁ l₂ u₂ w w₁ w₂ m t m₁ m₂ lr ur o a b q p g e rl ru kl ku kw km hl hu hs =
    structure-goes f i (all_buffers l u [] [] w m) w w₁ m t o _ q p (structure-by f i l u l₁ u₁ l₂ u₂ w w₁ w₂ m m₁ m₂ lr ur a b g e rl ru kl ku kw km hl hu hs)
