-- The steps of place k, one after another, lead from what it finds to what place k + 1 finds.
use Rattle.std.specs.Prelude.{List, ℕ, ◌+◌, ◌<◌, ◌≤◌}
use Rattle.std.proofs.Common.{arith}
use Rattle.fill.specs.Fill.{Pattern, filled}
use Rattle.lent.specs.Reading.{But}
use Rattle.marks.specs.Marks.{Holds, Unmarked, Base}
use Rattle.marks.specs.MarkLaws.{holds_kept}
use Rattle.marks.specs.Rows.{Stored, Cuts, PlaceReady, Closed, Renewed}
use Rattle.marks.specs.RenewLaws.{cuts-same, cuts_but}

module _ (P : Pattern) (n k t cuts at : ℕ) (h : k < n) (base : Base n cuts) (apart : cuts + n ≤ at) (starts runs index s₀ s₁ s₂ : List ℕ)
    (held : PlaceReady P n k t cuts s₀ starts runs index) (loaded : Unmarked n s₀ s₁) (entries : Holds n t s₁ (P k)) where
  -- the cuts that closing finds
  pub loaded-cuts : Cuts P n k cuts s₁
  loaded-cuts = cuts-same P n k cuts s₀ s₁ base loaded held.cut

  module _ (closed : Closed n t k cuts runs index s₁ s₂) where
    -- the marks that listing finds
    pub closed-marks : Holds n t s₂ (filled P k)
    closed-marks = closed.fill P starts held.store loaded-cuts entries

    -- a list is written behind the cuts
    module _ (s₃ : List ℕ) (hi : ℕ) (written : But at hi s₂ s₃) where
      -- the marks and the cuts that renewing finds
      listed-marks : Holds n t s₃ (filled P k)
      listed-marks = let b = base.low in holds_kept n t s₂ s₃ (filled P k) (λ q l. written q (λ w. absurd (omega arith))) closed-marks

      listed-cuts : Cuts P n k cuts s₃
      listed-cuts = cuts_but P n k cuts at hi s₂ s₃ (λ i l w. absurd (omega arith)) written (cuts-same P n k cuts s₁ s₂ base closed.same loaded-cuts)

      -- T(k) is put in the store, and the cuts are renewed
      pub place-turn : (s₄ starts' runs' index' : List ℕ) → Stored P n (k + 1) starts' runs' index' → Renewed n t k cuts starts' runs' index' s₃ s₄
          → (later : ℕ) → t < later → PlaceReady P n (k + 1) later cuts s₄ starts' runs' index'
      place-turn s₄ starts' runs' index' store renewed later l = renewed.held P listed-marks store listed-cuts later l
