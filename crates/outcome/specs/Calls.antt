-- What the calls ensure, of the lists that each is lent: the input, the lists at entry in the order of the call's parameters, the answer, the lists at exit. Definitions only.
use Rattle.base.specs.Answers.{Asked, Answer}
use Rattle.std.specs.Prelude.{◌≡◌, List, [], ℕ, Float}
use Rattle.matrix.specs.Input.{Input}
use Rattle.base.specs.declared.Form.TheVariants.{Plain, Shared, ByRow}
use Rattle.outcome.specs.Buffers.{plain_buffers, shared_buffers, row_buffers, ended}
use Rattle.outcome.specs.Structure.{structure}
use Rattle.outcome.specs.Solve.{Solves}
use Rattle.outcome.specs.Resolve.{resolve}

-- the lists: ls, li, lv list starts, index and value store below, us, ui, uv above, lr and ur run starts, d, x, and w and m the scratch; a dash marks the exit

abbrev pub StructuresPlain : Input → (ls li : List ℕ) (lv : List Float) (us ui : List ℕ) (uv w : List Float) (m : List ℕ)
    → Answer → (ls' li' : List ℕ) (lv' : List Float) (us' ui' : List ℕ) (uv' w' : List Float) (m' : List ℕ) → Type 0
StructuresPlain i ls li lv us ui uv w m a ls' li' lv' us' ui' uv' w' m' =
    ended a (plain_buffers ls' li' lv' us' ui' uv' [] [] w' m') ≡ structure Plain i (plain_buffers ls li lv us ui uv [] [] w m)

abbrev pub StructuresShared : Input → (ls lr li : List ℕ) (lv : List Float) (us ur ui : List ℕ) (uv w : List Float) (m : List ℕ)
    → Answer → (ls' lr' li' : List ℕ) (lv' : List Float) (us' ur' ui' : List ℕ) (uv' w' : List Float) (m' : List ℕ) → Type 0
StructuresShared i ls lr li lv us ur ui uv w m a ls' lr' li' lv' us' ur' ui' uv' w' m' =
    ended a (shared_buffers ls' lr' li' lv' us' ur' ui' uv' [] [] w' m') ≡ structure Shared i (shared_buffers ls lr li lv us ur ui uv [] [] w m)

abbrev pub SolvesPlain : Input → (ls li : List ℕ) (lv : List Float) (us ui : List ℕ) (uv d x w : List Float) (m : List ℕ)
    → Answer → (ls' li' : List ℕ) (lv' : List Float) (us' ui' : List ℕ) (uv' d' x' w' : List Float) (m' : List ℕ) → Type 0
SolvesPlain i ls li lv us ui uv d x w m a ls' li' lv' us' ui' uv' d' x' w' m' =
    Solves Plain i (plain_buffers ls li lv us ui uv d x w m) a (plain_buffers ls' li' lv' us' ui' uv' d' x' w' m')

abbrev pub SolvesShared : Input → (ls lr li : List ℕ) (lv : List Float) (us ur ui : List ℕ) (uv d x w : List Float) (m : List ℕ)
    → Answer → (ls' lr' li' : List ℕ) (lv' : List Float) (us' ur' ui' : List ℕ) (uv' d' x' w' : List Float) (m' : List ℕ) → Type 0
SolvesShared i ls lr li lv us ur ui uv d x w m a ls' lr' li' lv' us' ur' ui' uv' d' x' w' m' =
    Solves Shared i (shared_buffers ls lr li lv us ur ui uv d x w m) a (shared_buffers ls' lr' li' lv' us' ur' ui' uv' d' x' w' m')

-- the row form is lent no lower side
abbrev pub SolvesByRow : Input → (us ur ui : List ℕ) (uv d x w : List Float) (m : List ℕ)
    → Answer → (us' ur' ui' : List ℕ) (uv' d' x' w' : List Float) (m' : List ℕ) → Type 0
SolvesByRow i us ur ui uv d x w m a us' ur' ui' uv' d' x' w' m' =
    Solves ByRow i (row_buffers us ur ui uv d x w m) a (row_buffers us' ur' ui' uv' d' x' w' m')

-- another right side writes x and the scratch only
abbrev pub ResolvesPlain : Input → (ls li : List ℕ) (lv : List Float) (us ui : List ℕ) (uv d x w : List Float) (m : List ℕ) → Asked → (x' w' : List Float) (m' : List ℕ) → Type 0
ResolvesPlain i ls li lv us ui uv d x w m a x' w' m' =
    ended a (plain_buffers ls li lv us ui uv d x' w' m') ≡ resolve Plain i (plain_buffers ls li lv us ui uv d x w m)

abbrev pub ResolvesShared : Input → (ls lr li : List ℕ) (lv : List Float) (us ur ui : List ℕ) (uv d x w : List Float) (m : List ℕ) → Asked → (x' w' : List Float) (m' : List ℕ) → Type 0
ResolvesShared i ls lr li lv us ur ui uv d x w m a x' w' m' =
    ended a (shared_buffers ls lr li lv us ur ui uv d x' w' m') ≡ resolve Shared i (shared_buffers ls lr li lv us ur ui uv d x w m)
