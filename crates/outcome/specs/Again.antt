-- What the refactor calls ensure, of the lists that each is lent, in the order of the call's parameters. Definitions only.
use Rattle.base.specs.Answers.{Asked}
use Rattle.std.specs.Prelude.{◌≡◌, List, ℕ, Float}
use Rattle.matrix.specs.Input.{Input}
use Rattle.base.specs.declared.Form.TheVariants.{Plain, Shared}
use Rattle.outcome.specs.Buffers.{plain_buffers, shared_buffers, ended}
use Rattle.outcome.specs.Refactor.{refactor}

-- names as for the solves; the list starts, run starts and index stores are only read, so they are the same at exit

abbrev pub RefactorsPlain : Input → (ls li : List ℕ) (lv : List Float) (us ui : List ℕ) (uv d x w : List Float) (m : List ℕ)
    → Asked → (lv' uv' d' x' w' : List Float) (m' : List ℕ) → Type 0
RefactorsPlain i ls li lv us ui uv d x w m a lv' uv' d' x' w' m' =
    ended a (plain_buffers ls li lv' us ui uv' d' x' w' m') ≡ refactor Plain i (plain_buffers ls li lv us ui uv d x w m)

abbrev pub RefactorsShared : Input → (ls lr li : List ℕ) (lv : List Float) (us ur ui : List ℕ) (uv d x w : List Float) (m : List ℕ)
    → Asked → (lv' uv' d' x' w' : List Float) (m' : List ℕ) → Type 0
RefactorsShared i ls lr li lv us ur ui uv d x w m a lv' uv' d' x' w' m' =
    ended a (shared_buffers ls lr li lv' us ur ui uv' d' x' w' m') ≡ refactor Shared i (shared_buffers ls lr li lv us ur ui uv d x w m)
