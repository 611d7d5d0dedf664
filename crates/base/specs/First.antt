-- The first index below a count at which a test holds: the shape of every question. Definitions only.
use Rattle.base.specs.Answers.{Found}
use Rattle.std.specs.Prelude.{Bool, true, false, ℕ, zero, suc, Some, None}

-- i where the test holds, else nothing
abbrev pub at_if : Bool → ℕ → Found
at_if true i = Some i
at_if false i = None

-- the first finding, else the second
abbrev pub or_else : Found → Found → Found
or_else (Some i) g = Some i
or_else None g = g

-- the least index below the count at which the test holds
unfoldable pub first : (ℕ → Bool) → ℕ → Found
first t zero = None
first t (suc m) = or_else (first t m) (at_if (t m) m)

-- some index below the count passes the test
abbrev pub is_at : Found → Bool
is_at (Some i) = true
is_at None = false
