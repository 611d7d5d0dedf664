-- Questions 9 to 11: what stops them, and that without a lack of slots only 9 does.
use Rattle.std.specs.Prelude.{Ok, None, Err}
use mathlib.Core.Path.{◌≡◌, refl, sym, ap, ◌∙◌}
use mathlib.Core.Bool.{Bool, true, false, not, true≢false}
use mathlib.Core.Logic.{◌⊎◌, inl, inr}
use Prim.Native.Nat.{ℕ, zero, suc, ◌+◌, ◌≤◌, ◌<◌}
use native.Mathlib.Omega.{arith}
use native.Mathlib.Decide.{dec_lt, le_ind}
use native.Mathlib.Numerals.{add-one}
use lib.Dec.{leb}
use Rattle.base.specs.declared.Form.{Form}
use Rattle.base.specs.declared.Side.{Side}
use Rattle.base.specs.declared.Side.TheVariants.{Lower, Upper}
use Rattle.fill.specs.Fill.{Pattern, filled}
use Rattle.base.specs.First.{first}
use Rattle.base.specs.FirstLaws.{first-at, first-all, stop-pass}
use Rattle.base.specs.declared.Refusal.{Refusal}
use Rattle.base.specs.declared.Refusal.TheVariants.{NullPivot, LowerSlots, UpperSlots}
use Rattle.outcome.specs.Buffers.{side_of}
use Rattle.base.specs.declared.Sizes.{Sizes}
use Rattle.outcome.specs.Forms.{index_need, value_need}
use Rattle.base.specs.Answers.{holds, absent, and_then, spot, number_of, Pass, Asked}
use Rattle.outcome.proofs.Asking.{stop-inj}
use Rattle.base.specs.Tests.{and_split, and_left, and_right}
use Rattle.outcome.specs.Structure.{fits, ask_place, ask_places}
use borrow.Author.Tests.{leb-false, lt-leb}

-- (k, k) is not filled
abbrev pub null : Pattern → ℕ → Bool
null P k = not (filled P k k)

abbrev pub null_at : ℕ → Refusal
null_at k = NullPivot (spot k)

module _ (f : Form) (P : Pattern) (n : ℕ) (z : Sizes) where
  abbrev pub Wants : Side → ℕ → Type 0
  Wants side k = ((side_of side z).index < index_need f side P n (suc k)) ⊎ ((side_of side z).values < value_need f side P n (suc k))

  pub wants : (side : Side) (k : ℕ) → fits f side P n z k ≡ false → Wants side k
  unfolding fits
  wants side k e = elim (and_split (leb (index_need f side P n (suc k)) (side_of side z).index) (leb (value_need f side P n (suc k)) (side_of side z).values) e) [ inl a ↦ inl (leb-false _ _ a) | inr b ↦ inr (leb-false _ _ b) ]

  pub wanting : (side : Side) (k : ℕ) → Wants side k → fits f side P n z k ≡ false
  unfolding fits
  wanting side k (inl a) = and_left _ _ (lt-leb _ _ a)
  wanting side k (inr b) = and_right (leb (index_need f side P n (suc k)) (side_of side z).index) _ (lt-leb _ _ b)

  places-suc : (k : ℕ) → ask_places f P n z (suc k) ≡ and_then (ask_places f P n z k) (ask_place f P n z k)
  unfolding ask_places
  places-suc k = refl

  -- ---- one place

  -- how place_of_answer k is answered no
  pub data Fails (k : ℕ) (q : Refusal) : Type 0 where
    unfilled : filled P k k ≡ false → q ≡ null_at k → Fails k q
    lack : filled P k k ≡ true → (side : Side) → fits f side P n z k ≡ false → (number_of q ≡ 10) ⊎ (number_of q ≡ 11) → Fails k q

  pub ask-stop : (k : ℕ) (q : Refusal) → ask_place f P n z k ≡ Err q → Fails k q
  unfolding ask_place
  ask-stop k q e = go (filled P k k) refl (fits f Lower P n z k) refl (fits f Upper P n z k) refl e
    where
      go : (a : Bool) → filled P k k ≡ a → (b : Bool) → fits f Lower P n z k ≡ b → (c : Bool) → fits f Upper P n z k ≡ c
          → and_then (holds a (null_at k)) (and_then (holds b (LowerSlots (spot k))) (holds c (UpperSlots (spot k)))) ≡ Err q → Fails k q
      go false h b g c l e = unfilled h (sym (stop-inj _ _ e))
      go true h false g c l e = lack h Lower g (inl (ap number_of (sym (stop-inj _ _ e))))
      go true h true g false l e = lack h Upper l (inr (ap number_of (sym (stop-inj _ _ e))))
      go true h true g true l e = absurd (stop-pass q (sym e))

  pub record Passes (k : ℕ) : Type 0 where
    pub filled : filled P k k ≡ true
    pub fit : (side : Side) → fits f side P n z k ≡ true

  pub ask-pass : (k : ℕ) → ask_place f P n z k ≡ Pass → Passes k
  unfolding ask_place
  ask-pass k e = go (filled P k k) refl (fits f Lower P n z k) refl (fits f Upper P n z k) refl e
    where
      both : fits f Lower P n z k ≡ true → fits f Upper P n z k ≡ true → (side : Side) → fits f side P n z k ≡ true
      both g l Lower = g
      both g l Upper = l

      go : (a : Bool) → filled P k k ≡ a → (b : Bool) → fits f Lower P n z k ≡ b → (c : Bool) → fits f Upper P n z k ≡ c
          → and_then (holds a (null_at k)) (and_then (holds b (LowerSlots (spot k))) (holds c (UpperSlots (spot k)))) ≡ Pass → Passes k
      go false h b g c l e = absurd (stop-pass _ e)
      go true h false g c l e = absurd (stop-pass _ e)
      go true h true g false l e = absurd (stop-pass _ e)
      go true h true g true l e = record { filled = h; fit = both g l }

  -- ---- all places

  pub places-pass : (m : ℕ) → ask_places f P n z m ≡ Pass → (k : ℕ) → k < m → Passes k
  places-pass zero e k l = absurd (omega arith)
  places-pass (suc m) e k l = go (ask_places f P n z m) refl (sym (places-suc m) ∙ e) (λ h u. places-pass m h k u)
    where
      go : (a : Asked) → ask_places f P n z m ≡ a → and_then a (ask_place f P n z m) ≡ Pass → (ask_places f P n z m ≡ Pass → k < m → Passes k) → Passes k
      go (Err q) h g ih = absurd (stop-pass q g)
      go (Ok _) h g ih = elim (dec_lt k m) [ yes u ↦ ih h u | no u ↦ (let r : k ≡ m = omega arith in rw r (ask-pass m g)) ]

  pub places-stop : (m : ℕ) (q : Refusal) → ask_places f P n z m ≡ Err q → (k : ℕ) × (k < m) × (ask_places f P n z k ≡ Pass) × Fails k q
  unfolding ask_places
  places-stop zero q e = absurd (stop-pass q (sym e))
  places-stop (suc m) q e = go (ask_places f P n z m) refl (sym (places-suc m) ∙ e) (λ h. places-stop m q h)
    where
      go : (a : Asked) → ask_places f P n z m ≡ a → and_then a (ask_place f P n z m) ≡ Err q
          → (ask_places f P n z m ≡ Err q → (k : ℕ) × (k < m) × (ask_places f P n z k ≡ Pass) × Fails k q)
          → (k : ℕ) × (k < suc m) × (ask_places f P n z k ≡ Pass) × Fails k q
      go (Err r) h g ih = let p = ih (h ∙ g) in (p.0, omega arith, p.2, p.3)
      go (Ok _) h g ih = (m, omega arith, h, ask-stop m q g)

  -- a lack after filled diagonals is what stops them
  pub lack-stops : (m k : ℕ) → k < m → ((j : ℕ) → j ≤ k → filled P j j ≡ true) → (side : Side) → fits f side P n z k ≡ false
      → (q : Refusal) × (ask_places f P n z m ≡ Err q) × ((number_of q ≡ 10) ⊎ (number_of q ≡ 11))
  lack-stops m k l full side e = go (ask_places f P n z m) refl
    where
      never : Passes k → ⊥
      never p = true≢false (sym (p.fit side) ∙ e)

      fails : (q : Refusal) (j : ℕ) → ask_places f P n z j ≡ Pass → Fails j q → (number_of q ≡ 10) ⊎ (number_of q ≡ 11)
      fails q j h (unfilled u v) =
          elim (dec_lt k j) [ yes a ↦ absurd (never (places-pass j h k a)) | no a ↦ absurd (true≢false (sym (full j (omega arith)) ∙ u)) ]
      fails q j h (lack u s v w) = w

      go : (a : Asked) → ask_places f P n z m ≡ a → (q : Refusal) × (ask_places f P n z m ≡ Err q) × ((number_of q ≡ 10) ⊎ (number_of q ≡ 11))
      go (Ok _) h = absurd (never (places-pass m h k l))
      go (Err q) h = let p = places-stop m q h in (q, h, fails q p.0 p.2 p.3)

  -- without a lack the first diagonal that is not filled stops them
  pub only_null : (m : ℕ) → ((k : ℕ) → k < m → ((j : ℕ) → j ≤ k → filled P j j ≡ true) → (side : Side) → fits f side P n z k ≡ true)
      → ask_places f P n z m ≡ absent (first (null P) m) null_at
  only_null m room = go (ask_places f P n z m) refl
    where
      pass : (k : ℕ) → ask_places f P n z k ≡ Pass → first (null P) k ≡ None
      pass k h = first-all (null P) k (λ j l. ap not (places-pass k h j l).filled)

      fails : (q : Refusal) (k : ℕ) → k < m → ask_places f P n z k ≡ Pass → Fails k q → Err q ≡ absent (first (null P) m) null_at
      fails q k l h (unfilled u v) = rw (first-at (null P) k m l (pass k h) (ap not u), v)
      fails q k l h (lack u side v w) =
          absurd (true≢false (sym (room k l (λ j a. elim (dec_lt j k) [ yes b ↦ (places-pass k h j b).filled | no b ↦ (let r : j ≡ k = omega arith in rw r u) ]) side) ∙ v))

      go : (a : Asked) → ask_places f P n z m ≡ a → ask_places f P n z m ≡ absent (first (null P) m) null_at
      go (Ok _) h = rw (h, pass m h)
      go (Err q) h = let p = places-stop m q h in h ∙ fails q p.0 p.1 p.2 p.3

  -- ---- the loop over the places: one turn, and its stop

  pub places-none : Pass ≡ ask_places f P n z 0
  unfolding ask_places
  places-none = refl

  pub places-more : (k : ℕ) → ask_places f P n z k ≡ Pass → ask_place f P n z k ≡ Pass → ask_places f P n z (k + 1) ≡ Pass
  places-more k h g = rw (add-one, places-suc k, h, g)

  places-grow : (j : ℕ) (q : Refusal) → ask_places f P n z j ≡ Err q → (m : ℕ) → j ≤ m → ask_places f P n z m ≡ Err q
  places-grow j q h = le_ind (λ (m : ℕ). ask_places f P n z m ≡ Err q) h (λ m l e. rw (places-suc m, e))

  pub places-hit : (k m : ℕ) (q : Refusal) → k < m → ask_places f P n z k ≡ Pass → ask_place f P n z k ≡ Err q → ask_places f P n z m ≡ Err q
  places-hit k m q l h g = places-grow (suc k) q (rw (places-suc k, h, g)) m l
