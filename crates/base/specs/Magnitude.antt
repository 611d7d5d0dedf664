-- The magnitude of a number, and a floor under it. Definitions only.
use Rattle.std.specs.Prelude.{Bool, false, not, ◌&&◌, Float}
use Rattle.std.specs.Float.{nan, inf, fin}
use Rattle.std.specs.Float.Ieee.{lt, le}
use Rattle.std.specs.Float.Ieee.Scale.{finite}
use Rattle.base.specs.Lists.{nought}

abbrev pub magnitude : Float → Float
magnitude nan = nan
magnitude (inf s) = inf false
magnitude (fin s m e) = fin false m e

-- "its magnitude is at most f"
unfoldable pub at_most : Float → Float → Bool
at_most p f = le (magnitude p) f

-- none of "negative, infinite or not a number; −0 counts as 0"
unfoldable pub is_floor : Float → Bool
is_floor f = finite f && not (lt f nought)
