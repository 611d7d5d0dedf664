-- The same by the lists that the calls are lent, as their contracts name them.
use Rattle.base.specs.Answers.{Pass, Asked, Answer}
use Rattle.std.specs.Prelude.{Ok, Err}
use mathlib.Core.Path.{◌≡◌, refl, sym, ap}
use mathlib.Core.List.{List, [], ◌++◌}
use Prim.Native.Nat.{ℕ, ◌≤◌}
use native.Mathlib.Omega.{arith}
use lib.ListN.{length}
use lib.Ieee.{Float}
use Rattle.base.specs.Lists.{nought}
use Rattle.base.specs.declared.Form.{Form}
use Rattle.base.specs.declared.Form.TheVariants.{Plain, Shared}
use Rattle.base.specs.declared.Counts.{Counts}
use Rattle.matrix.specs.Input.{Input, right_at}
use Rattle.matrix.specs.Questions.{ask_right}
use Rattle.arithmetic.specs.Arith.{Out, ok, met, judged}
use Rattle.arithmetic.specs.Again.{whole_again}
use Rattle.outcome.specs.Buffers.{side_buffers, Buffers, sizes, plain_buffers, shared_buffers, right_tests, buffer_tests, ask_shape, scratch_cleared, Outcome, ended, stop}
use Rattle.outcome.specs.Resolve.{ask_factors, factors_of, resolved, resolve}
use Rattle.outcome.specs.Calls.{StructuresPlain, StructuresShared, SolvesPlain, SolvesShared, ResolvesPlain, ResolvesShared}
use Rattle.outcome.specs.Again.{RefactorsPlain, RefactorsShared}
use Rattle.agreement.specs.Demand.{Stated}
use Rattle.reuse.specs.Reuse.{Keeps, with_numbers, with_right, right_of, after-structure, after-solve, SameLists, Presented, RefactorsAs, by-solve, by-refactor, FiniteRight, ResolvesAs, Alike}
use Rattle.reuse.proofs.Refactoring.{refactoring, refactoring-alike}
use Rattle.reuse.proofs.Resolving.{resolving, resolving-alike}

pub plain-keeps : Keeps Plain
plain-keeps e = let z : ◌≡◌ {A = ℕ} 0 1 = cc in omega arith

pub shared_keeps : Keeps Shared
shared_keeps e = let z : ◌≡◌ {A = ℕ} 0 1 = cc in omega arith

same_lists : (starts runs index : List ℕ) (before now : List Float) → length before ≤ length now → SameLists (side_buffers starts runs index before) (side_buffers starts runs index now)
same_lists starts runs index before now l = record { starts = refl; runs = refl; index = refl; values = l }

-- ---- by lists: with 0 those of the call before at its entry, with 1 at its exit; a dash marks the exit of the call itself, two dashes that of the solve

-- the lists that a structure call or a solve left are presented
pub structure-presents-plain : (i : Input) (c : Counts) (ls₀ li₀ us₀ ui₀ m₀ ls li us ui m₁ m : List ℕ) (lv₀ uv₀ w₀ lv₁ uv₁ w₁ lv uv d x w : List Float)
    → StructuresPlain i ls₀ li₀ lv₀ us₀ ui₀ uv₀ w₀ m₀ (Ok c) ls li lv₁ us ui uv₁ w₁ m₁ → length lv₁ ≤ length lv → length uv₁ ≤ length uv
    → Presented Plain i (plain_buffers ls li lv us ui uv d x w m)
structure-presents-plain i c ls₀ li₀ us₀ ui₀ m₀ ls li us ui m₁ m lv₀ uv₀ w₀ lv₁ uv₁ w₁ lv uv d x w h l u =
    record { u = _; left = after-structure _ c (sym h); lower = same_lists ls [] li lv₁ lv l; upper = same_lists us [] ui uv₁ uv u }

pub solve-presents-plain : (i : Input) (c : Counts) (ls₀ li₀ us₀ ui₀ m₀ ls li us ui m₁ m : List ℕ) (lv₀ uv₀ d₀ x₀ w₀ lv₁ uv₁ d₁ x₁ w₁ lv uv d x w : List Float)
    → SolvesPlain i ls₀ li₀ lv₀ us₀ ui₀ uv₀ d₀ x₀ w₀ m₀ (Ok c) ls li lv₁ us ui uv₁ d₁ x₁ w₁ m₁ → length lv₁ ≤ length lv → length uv₁ ≤ length uv
    → Presented Plain i (plain_buffers ls li lv us ui uv d x w m)
solve-presents-plain i c ls₀ li₀ us₀ ui₀ m₀ ls li us ui m₁ m lv₀ uv₀ d₀ x₀ w₀ lv₁ uv₁ d₁ x₁ w₁ lv uv d x w h l u =
    record { u = _; left = after-solve _ c (sym h); lower = same_lists ls [] li lv₁ lv l; upper = same_lists us [] ui uv₁ uv u }

pub structure-presents-shared : (i : Input) (c : Counts) (ls₀ lr₀ li₀ us₀ ur₀ ui₀ m₀ ls lr li us ur ui m₁ m : List ℕ) (lv₀ uv₀ w₀ lv₁ uv₁ w₁ lv uv d x w : List Float)
    → StructuresShared i ls₀ lr₀ li₀ lv₀ us₀ ur₀ ui₀ uv₀ w₀ m₀ (Ok c) ls lr li lv₁ us ur ui uv₁ w₁ m₁ → length lv₁ ≤ length lv → length uv₁ ≤ length uv
    → Presented Shared i (shared_buffers ls lr li lv us ur ui uv d x w m)
structure-presents-shared i c ls₀ lr₀ li₀ us₀ ur₀ ui₀ m₀ ls lr li us ur ui m₁ m lv₀ uv₀ w₀ lv₁ uv₁ w₁ lv uv d x w h l u =
    record { u = _; left = after-structure _ c (sym h); lower = same_lists ls lr li lv₁ lv l; upper = same_lists us ur ui uv₁ uv u }

pub solve-presents-shared : (i : Input) (c : Counts) (ls₀ lr₀ li₀ us₀ ur₀ ui₀ m₀ ls lr li us ur ui m₁ m : List ℕ) (lv₀ uv₀ d₀ x₀ w₀ lv₁ uv₁ d₁ x₁ w₁ lv uv d x w : List Float)
    → SolvesShared i ls₀ lr₀ li₀ lv₀ us₀ ur₀ ui₀ uv₀ d₀ x₀ w₀ m₀ (Ok c) ls lr li lv₁ us ur ui uv₁ d₁ x₁ w₁ m₁ → length lv₁ ≤ length lv → length uv₁ ≤ length uv
    → Presented Shared i (shared_buffers ls lr li lv us ur ui uv d x w m)
solve-presents-shared i c ls₀ lr₀ li₀ us₀ ur₀ ui₀ m₀ ls lr li us ur ui m₁ m lv₀ uv₀ d₀ x₀ w₀ lv₁ uv₁ d₁ x₁ w₁ lv uv d x w h l u =
    record { u = _; left = after-solve _ c (sym h); lower = same_lists ls lr li lv₁ lv l; upper = same_lists us ur ui uv₁ uv u }

-- refactor over them is a solve
pub refactors-plain : (i : Input) (v b : List Float) (floor : Float) (a : Asked) (p : Answer) (ls li us ui m m' ls'' li'' us'' ui'' m'' : List ℕ) (lv uv d x w lv' uv' d' x' w' lv'' uv'' d'' x'' w'' : List Float)
    → Presented Plain i (plain_buffers ls li lv us ui uv d x w m)
    → RefactorsPlain (with_numbers i v b floor) ls li lv us ui uv d x w m a lv' uv' d' x' w' m'
    → SolvesPlain (with_numbers i v b floor) ls li lv us ui uv d x w m p ls'' li'' lv'' us'' ui'' uv'' d'' x'' w'' m''
    → RefactorsAs (plain_buffers ls li lv us ui uv d x w m) (ended a (plain_buffers ls li lv' us ui uv' d' x' w' m')) (ended p (plain_buffers ls'' li'' lv'' us'' ui'' uv'' d'' x'' w'' m''))
refactors-plain i v b floor a p ls li us ui m m' ls'' li'' us'' ui'' m'' lv uv d x w lv' uv' d' x' w' lv'' uv'' d'' x'' w'' h e g = rw (e, g) (refactoring Plain plain-keeps i v b floor _ h)

pub refactors-shared : (i : Input) (v b : List Float) (floor : Float) (a : Asked) (p : Answer) (ls lr li us ur ui m m' ls'' lr'' li'' us'' ur'' ui'' m'' : List ℕ) (lv uv d x w lv' uv' d' x' w' lv'' uv'' d'' x'' w'' : List Float)
    → Presented Shared i (shared_buffers ls lr li lv us ur ui uv d x w m)
    → RefactorsShared (with_numbers i v b floor) ls lr li lv us ur ui uv d x w m a lv' uv' d' x' w' m'
    → SolvesShared (with_numbers i v b floor) ls lr li lv us ur ui uv d x w m p ls'' lr'' li'' lv'' us'' ur'' ui'' uv'' d'' x'' w'' m''
    → RefactorsAs (shared_buffers ls lr li lv us ur ui uv d x w m) (ended a (shared_buffers ls lr li lv' us ur ui uv' d' x' w' m')) (ended p (shared_buffers ls'' lr'' li'' lv'' us'' ur'' ui'' uv'' d'' x'' w'' m''))
refactors-shared i v b floor a p ls lr li us ur ui m m' ls'' lr'' li'' us'' ur'' ui'' m'' lv uv d x w lv' uv' d' x' w' lv'' uv'' d'' x'' w'' h e g = rw (e, g) (refactoring Shared shared_keeps i v b floor _ h)

-- with 1 the plain form's lists, with 2 the shared form's
pub refactors-alike : (i : Input) (v b : List Float) (floor : Float) (a₁ a₂ : Asked) (ls₁ li₁ us₁ ui₁ m₁ m₁' ls₂ lr₂ li₂ us₂ ur₂ ui₂ m₂ m₂' : List ℕ) (lv₁ uv₁ d₁ x₁ w₁ lv₁' uv₁' d₁' x₁' w₁' lv₂ uv₂ d₂ x₂ w₂ lv₂' uv₂' d₂' x₂' w₂' : List Float)
    → Presented Plain i (plain_buffers ls₁ li₁ lv₁ us₁ ui₁ uv₁ d₁ x₁ w₁ m₁) → Stated Plain i (plain_buffers ls₁ li₁ lv₁ us₁ ui₁ uv₁ d₁ x₁ w₁ m₁)
    → Presented Shared i (shared_buffers ls₂ lr₂ li₂ lv₂ us₂ ur₂ ui₂ uv₂ d₂ x₂ w₂ m₂) → Stated Shared i (shared_buffers ls₂ lr₂ li₂ lv₂ us₂ ur₂ ui₂ uv₂ d₂ x₂ w₂ m₂)
    → RefactorsPlain (with_numbers i v b floor) ls₁ li₁ lv₁ us₁ ui₁ uv₁ d₁ x₁ w₁ m₁ a₁ lv₁' uv₁' d₁' x₁' w₁' m₁'
    → RefactorsShared (with_numbers i v b floor) ls₂ lr₂ li₂ lv₂ us₂ ur₂ ui₂ uv₂ d₂ x₂ w₂ m₂ a₂ lv₂' uv₂' d₂' x₂' w₂' m₂'
    → Alike (ended a₁ (plain_buffers ls₁ li₁ lv₁' us₁ ui₁ uv₁' d₁' x₁' w₁' m₁')) (ended a₂ (shared_buffers ls₂ lr₂ li₂ lv₂' us₂ ur₂ ui₂ uv₂' d₂' x₂' w₂' m₂'))
refactors-alike i v b floor a₁ a₂ ls₁ li₁ us₁ ui₁ m₁ m₁' ls₂ lr₂ li₂ us₂ ur₂ ui₂ m₂ m₂' lv₁ uv₁ d₁ x₁ w₁ lv₁' uv₁' d₁' x₁' w₁' lv₂ uv₂ d₂ x₂ w₂ lv₂' uv₂' d₂' x₂' w₂' h q k r e g = rw (e, g) (refactoring-alike Plain Shared plain-keeps shared_keeps i v b floor _ _ h k q r)

-- another right side looks at no matrix
resolved-right : (i : Input) (b : List Float) (s : Buffers) (o : Out (List Float)) → resolved (right_of i b) s o ≡ resolved (with_right i b) s o
resolved-right i b s (ok z) = refl
resolved-right i b s (met q) = refl

pub right-only : (f : Form) (i : Input) (b : List Float) (s : Buffers) → resolve f (right_of i b) s ≡ resolve f (with_right i b) s
unfolding resolve factors_of right_at
right-only f i b s =
    ap (λ (o : Outcome Asked). stop Err (ask_shape i.n (right_tests (right_of i b) ++ buffer_tests f i.n (sizes s))) s
    (stop Err (ask_right i.n i.r i.c b) (scratch_cleared s) (stop Err (ask_factors f i.n s) (scratch_cleared s) o)))
    (resolved-right i b s (judged nought (whole_again (factors_of f (right_of i b) s))))

-- another right side after a solve and after a refactor
pub solve-resolves-plain : (i : Input) (b : List Float) (c : Counts) (a : Asked) (p : Answer) (x' w' : List Float) (m' : List ℕ) (ls₀ li₀ us₀ ui₀ m₀ ls li us ui m ls'' li'' us'' ui'' m'' : List ℕ) (lv₀ uv₀ d₀ x₀ w₀ lv uv d x w lv'' uv'' d'' x'' w'' : List Float)
    → SolvesPlain i ls₀ li₀ lv₀ us₀ ui₀ uv₀ d₀ x₀ w₀ m₀ (Ok c) ls li lv us ui uv d x w m → FiniteRight i.n b
    → ResolvesPlain (right_of i b) ls li lv us ui uv d x w m a x' w' m'
    → SolvesPlain (with_right i b) ls₀ li₀ lv₀ us₀ ui₀ uv₀ d₀ x₀ w₀ m₀ p ls'' li'' lv'' us'' ui'' uv'' d'' x'' w'' m''
    → ResolvesAs (plain_buffers ls li lv us ui uv d x w m) (ended a (plain_buffers ls li lv us ui uv d x' w' m')) (ended p (plain_buffers ls'' li'' lv'' us'' ui'' uv'' d'' x'' w'' m''))
solve-resolves-plain i b c a p x' w' m' ls₀ li₀ us₀ ui₀ m₀ ls li us ui m ls'' li'' us'' ui'' m'' lv₀ uv₀ d₀ x₀ w₀ lv uv d x w lv'' uv'' d'' x'' w'' h n e g = rw (e, right-only Plain i b (plain_buffers ls li lv us ui uv d x w m), g) (resolving Plain plain-keeps i _ _ (by-solve c (sym h)) b n)

pub refactor-resolves-plain : (i : Input) (b : List Float) (a : Asked) (p : Answer) (x' w' : List Float) (m' : List ℕ) (ls li us ui m₀ m ls'' li'' us'' ui'' m'' : List ℕ) (lv₀ uv₀ d₀ x₀ w₀ lv uv d x w lv'' uv'' d'' x'' w'' : List Float)
    → RefactorsPlain i ls li lv₀ us ui uv₀ d₀ x₀ w₀ m₀ Pass lv uv d x w m → FiniteRight i.n b
    → ResolvesPlain (right_of i b) ls li lv us ui uv d x w m a x' w' m'
    → SolvesPlain (with_right i b) ls li lv₀ us ui uv₀ d₀ x₀ w₀ m₀ p ls'' li'' lv'' us'' ui'' uv'' d'' x'' w'' m''
    → ResolvesAs (plain_buffers ls li lv us ui uv d x w m) (ended a (plain_buffers ls li lv us ui uv d x' w' m')) (ended p (plain_buffers ls'' li'' lv'' us'' ui'' uv'' d'' x'' w'' m''))
refactor-resolves-plain i b a p x' w' m' ls li us ui m₀ m ls'' li'' us'' ui'' m'' lv₀ uv₀ d₀ x₀ w₀ lv uv d x w lv'' uv'' d'' x'' w'' h n e g = rw (e, right-only Plain i b (plain_buffers ls li lv us ui uv d x w m), g) (resolving Plain plain-keeps i _ _ (by-refactor (sym h)) b n)

pub solve-resolves-shared : (i : Input) (b : List Float) (c : Counts) (a : Asked) (p : Answer) (x' w' : List Float) (m' : List ℕ) (ls₀ lr₀ li₀ us₀ ur₀ ui₀ m₀ ls lr li us ur ui m ls'' lr'' li'' us'' ur'' ui'' m'' : List ℕ) (lv₀ uv₀ d₀ x₀ w₀ lv uv d x w lv'' uv'' d'' x'' w'' : List Float)
    → SolvesShared i ls₀ lr₀ li₀ lv₀ us₀ ur₀ ui₀ uv₀ d₀ x₀ w₀ m₀ (Ok c) ls lr li lv us ur ui uv d x w m → FiniteRight i.n b
    → ResolvesShared (right_of i b) ls lr li lv us ur ui uv d x w m a x' w' m'
    → SolvesShared (with_right i b) ls₀ lr₀ li₀ lv₀ us₀ ur₀ ui₀ uv₀ d₀ x₀ w₀ m₀ p ls'' lr'' li'' lv'' us'' ur'' ui'' uv'' d'' x'' w'' m''
    → ResolvesAs (shared_buffers ls lr li lv us ur ui uv d x w m) (ended a (shared_buffers ls lr li lv us ur ui uv d x' w' m')) (ended p (shared_buffers ls'' lr'' li'' lv'' us'' ur'' ui'' uv'' d'' x'' w'' m''))
solve-resolves-shared i b c a p x' w' m' ls₀ lr₀ li₀ us₀ ur₀ ui₀ m₀ ls lr li us ur ui m ls'' lr'' li'' us'' ur'' ui'' m'' lv₀ uv₀ d₀ x₀ w₀ lv uv d x w lv'' uv'' d'' x'' w'' h n e g = rw (e, right-only Shared i b (shared_buffers ls lr li lv us ur ui uv d x w m), g) (resolving Shared shared_keeps i _ _ (by-solve c (sym h)) b n)

pub refactor-resolves-shared : (i : Input) (b : List Float) (a : Asked) (p : Answer) (x' w' : List Float) (m' : List ℕ) (ls lr li us ur ui m₀ m ls'' lr'' li'' us'' ur'' ui'' m'' : List ℕ) (lv₀ uv₀ d₀ x₀ w₀ lv uv d x w lv'' uv'' d'' x'' w'' : List Float)
    → RefactorsShared i ls lr li lv₀ us ur ui uv₀ d₀ x₀ w₀ m₀ Pass lv uv d x w m → FiniteRight i.n b
    → ResolvesShared (right_of i b) ls lr li lv us ur ui uv d x w m a x' w' m'
    → SolvesShared (with_right i b) ls lr li lv₀ us ur ui uv₀ d₀ x₀ w₀ m₀ p ls'' lr'' li'' lv'' us'' ur'' ui'' uv'' d'' x'' w'' m''
    → ResolvesAs (shared_buffers ls lr li lv us ur ui uv d x w m) (ended a (shared_buffers ls lr li lv us ur ui uv d x' w' m')) (ended p (shared_buffers ls'' lr'' li'' lv'' us'' ur'' ui'' uv'' d'' x'' w'' m''))
refactor-resolves-shared i b a p x' w' m' ls lr li us ur ui m₀ m ls'' lr'' li'' us'' ur'' ui'' m'' lv₀ uv₀ d₀ x₀ w₀ lv uv d x w lv'' uv'' d'' x'' w'' h n e g = rw (e, right-only Shared i b (shared_buffers ls lr li lv us ur ui uv d x w m), g) (resolving Shared shared_keeps i _ _ (by-refactor (sym h)) b n)

-- with 1 the plain form's lists, with 2 the shared form's; two dashes mark what another right side leaves
pub resolves-alike : (i : Input) (b : List Float) (c₁ c₂ : Counts) (a₁ a₂ : Asked) (m₁'' m₂'' : List ℕ) (x₁'' w₁'' x₂'' w₂'' : List Float) (ls₁ li₁ us₁ ui₁ m₁ ls₁' li₁' us₁' ui₁' m₁' ls₂ lr₂ li₂ us₂ ur₂ ui₂ m₂ ls₂' lr₂' li₂' us₂' ur₂' ui₂' m₂' : List ℕ) (lv₁ uv₁ d₁ x₁ w₁ lv₁' uv₁' d₁' x₁' w₁' lv₂ uv₂ d₂ x₂ w₂ lv₂' uv₂' d₂' x₂' w₂' : List Float)
    → SolvesPlain i ls₁ li₁ lv₁ us₁ ui₁ uv₁ d₁ x₁ w₁ m₁ (Ok c₁) ls₁' li₁' lv₁' us₁' ui₁' uv₁' d₁' x₁' w₁' m₁'
    → SolvesShared i ls₂ lr₂ li₂ lv₂ us₂ ur₂ ui₂ uv₂ d₂ x₂ w₂ m₂ (Ok c₂) ls₂' lr₂' li₂' lv₂' us₂' ur₂' ui₂' uv₂' d₂' x₂' w₂' m₂'
    → ResolvesPlain (right_of i b) ls₁' li₁' lv₁' us₁' ui₁' uv₁' d₁' x₁' w₁' m₁' a₁ x₁'' w₁'' m₁''
    → ResolvesShared (right_of i b) ls₂' lr₂' li₂' lv₂' us₂' ur₂' ui₂' uv₂' d₂' x₂' w₂' m₂' a₂ x₂'' w₂'' m₂''
    → Alike (ended a₁ (plain_buffers ls₁' li₁' lv₁' us₁' ui₁' uv₁' d₁' x₁'' w₁'' m₁'')) (ended a₂ (shared_buffers ls₂' lr₂' li₂' lv₂' us₂' ur₂' ui₂' uv₂' d₂' x₂'' w₂'' m₂''))
resolves-alike i b c₁ c₂ a₁ a₂ m₁'' m₂'' x₁'' w₁'' x₂'' w₂'' ls₁ li₁ us₁ ui₁ m₁ ls₁' li₁' us₁' ui₁' m₁' ls₂ lr₂ li₂ us₂ ur₂ ui₂ m₂ ls₂' lr₂' li₂' us₂' ur₂' ui₂' m₂' lv₁ uv₁ d₁ x₁ w₁ lv₁' uv₁' d₁' x₁' w₁' lv₂ uv₂ d₂ x₂ w₂ lv₂' uv₂' d₂' x₂' w₂' h k e g =
    rw (e, right-only Plain i b (plain_buffers ls₁' li₁' lv₁' us₁' ui₁' uv₁' d₁' x₁' w₁' m₁'), g, right-only Shared i b (shared_buffers ls₂' lr₂' li₂' lv₂' us₂' ur₂' ui₂' uv₂' d₂' x₂' w₂' m₂')) (resolving-alike Plain Shared plain-keeps shared_keeps i _ _ _ _ (by-solve c₁ (sym h)) (by-solve c₂ (sym k)) b)
