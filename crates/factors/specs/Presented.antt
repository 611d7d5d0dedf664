-- What question 2 has settled of presented factors for question 15, and what 15 settles of a side for the sweeps. Definitions only.
use Rattle.std.specs.Prelude.{◌≡◌, List, [], ℕ, suc, ◌+◌, ◌<◌, ◌≤◌, length, get_or, Float}
use Rattle.base.specs.Lists.{list_at}
use Rattle.base.specs.Limits.{max_rows}
use Rattle.base.specs.declared.Form.{Form}
use Rattle.base.specs.declared.Form.TheVariants.{Plain, Shared, ByRow}
use Rattle.base.specs.declared.Side.{Side}
use Rattle.base.specs.declared.Side.TheVariants.{Lower, Upper}
use Rattle.lent.specs.Reading.{Below}
use Rattle.numeric.specs.Stores.{StoreShape, Ascending}
use Rattle.outcome.specs.Buffers.{SideBuffers, Buffers, all_buffers}

-- the run starts as they are lent: the plain form's are its list starts
abbrev pub RunsLent : Form → List ℕ → List ℕ → Type 0
RunsLent Plain starts runs = runs ≡ starts
RunsLent Shared starts runs = Unit {0}
RunsLent ByRow starts runs = Unit {0}

pub record SideLent (f : Form) (n : ℕ) (starts runs : List ℕ) : Type 0 where
  pub few : n ≤ max_rows
  pub starts-size : length starts ≡ n + 1
  pub runs-size : n ≤ length runs
  pub runs-are : RunsLent f starts runs

pub record FactorsLent (f : Form) (n : ℕ) (ls lr us ur : List ℕ) (d : ℕ) : Type 0 where
  pub lower : SideLent f n ls lr
  pub upper : SideLent f n us ur
  pub reciprocals : d ≡ n

-- the buffers that 15 looks at
abbrev pub presented : SideBuffers → SideBuffers → List Float → Buffers
presented l u d = all_buffers l u d [] [] []

-- ---- what 15 settles

-- "on the right side of k and below n": the range of the list of place k
abbrev pub least_of : Form → Side → ℕ → ℕ
least_of f Upper k = suc k
least_of Plain Lower k = 0
least_of Shared Lower k = suc k
least_of ByRow Lower k = suc k

abbrev pub bound_of : Form → Side → ℕ → ℕ → ℕ
bound_of f Upper n k = n
bound_of Plain Lower n k = k
bound_of Shared Lower n k = n
bound_of ByRow Lower n k = n

-- the lists of a side stand in their stores, with their values, ascend, and lie in their range
pub record Sound (f : Form) (side : Side) (n : ℕ) (starts runs index : List ℕ) (values : ℕ) : Type 0 where
  pub shape : StoreShape n starts runs index values
  pub ascending : (k : ℕ) → k < n → Ascending (list_at starts runs index k)
  pub from : (k : ℕ) → k < n → (p : ℕ) → p < length (list_at starts runs index k) → least_of f side k ≤ get_or (list_at starts runs index k) p 0
  pub to : (k : ℕ) → k < n → Below (bound_of f side n k) (list_at starts runs index k)
