-- The cuts from place to place.
use Rattle.std.specs.Prelude.{◌≡◌, refl, List, Bool, ℕ, suc, ◌+◌, ◌-◌, ◌<◌, ◌≤◌, length, get_or, ltb}
use Rattle.std.proofs.Math.Path.{sym, ap}
use Rattle.std.proofs.Common.{◌∙◌, arith, get_or-set_other}
use Rattle.std.proofs.Math.Bool.{true}
use Rattle.std.proofs.lemmas.Bool.{false≢true}
use Rattle.std.proofs.Math.Decide.{ℕ_discrete}
use Rattle.std.proofs.Math.Seq.{get_or-set_same}
use Rattle.std.proofs.Math.Dec.{eqb}
use Rattle.base.specs.Lists.{has, list_at}
use Rattle.base.specs.Tests.{by-test, and_cases}
use Rattle.fill.specs.Fill.{Pattern, filled, upper, upper_row}
use Rattle.lent.specs.Reading.{But}
use Rattle.marks.specs.Marks.{Room, marked, Fresh, Holds, Unmarked, Base, upto, cut_one, visited, new_cuts}
use Rattle.marks.specs.VisitLaws.{visited-keeps}
use Rattle.marks.specs.CutLaws.{cut-other, cut-length, cut-unmarked}
use Rattle.marks.specs.Rows.{Stored, CutAt, uncut, behind, Cuts, PlaceReady, Renewed}
use Rattle.marks.specs.AscCuts.{upto-none}
use Rattle.marks.specs.FillLaws.{has-upper, upper-length}

-- ---- what keeps the cuts

pub cuts-kept : (P : Pattern) (n k cuts : ℕ) (s u : List ℕ) → ((i : ℕ) → i < k → get_or u (cuts + i) 0 ≡ get_or s (cuts + i) 0) → Cuts P n k cuts s → Cuts P n k cuts u
cuts-kept P n k cuts s u e h i l = rw (e i l) (h i l)

-- marks keep them
pub cuts-same : (P : Pattern) (n k cuts : ℕ) (s u : List ℕ) → Base n cuts → Unmarked n s u → Cuts P n k cuts s → Cuts P n k cuts u
cuts-same P n k cuts s u b e h = cuts-kept P n k cuts s u (λ i l. cut-unmarked n cuts i s u b e) h

-- what is written elsewhere keeps them
pub cuts_but : (P : Pattern) (n k cuts lo hi : ℕ) (s u : List ℕ) → ((i : ℕ) → i < k → lo ≤ cuts + i → hi ≤ cuts + i) → But lo hi s u → Cuts P n k cuts s → Cuts P n k cuts u
cuts_but P n k cuts lo hi s u a e h = cuts-kept P n k cuts s u (λ i l. e (cuts + i) (a i l)) h

-- every later stamp is fresh
holds-fresh : (n t later : ℕ) (s : List ℕ) (p : ℕ → Bool) → t < later → Holds n t s p → Fresh n later s
holds-fresh n t later s p l h j q = omega (arith, h.last j q)

-- what another side writes keeps what a place finds
pub held_kept : (P : Pattern) (n k t later cuts : ℕ) (s u starts runs index : List ℕ) → ((i : ℕ) → i < k → get_or u (cuts + i) 0 ≡ get_or s (cuts + i) 0) → Fresh n later u
    → PlaceReady P n k t cuts s starts runs index → PlaceReady P n k later cuts u starts runs index
held_kept P n k t later cuts s u starts runs index e f h = record { fresh = f; store = h.store; cut = cuts-kept P n k cuts s u e h.cut }

-- before place 0
pub held_start : (P : Pattern) (n t cuts : ℕ) (s starts runs index : List ℕ) → Fresh n t s → PlaceReady P n 0 t cuts s starts runs index
held_start P n t cuts s starts runs index f = record {
  fresh = f;
  store = record { list = λ i l. absurd (omega arith); read = λ i l. absurd (omega arith) };
  cut = λ i l. absurd (omega arith);
}

-- ---- after place k

module _ (P : Pattern) (n t k cuts : ℕ) (h : k < n) (base : Base n cuts) (s starts runs index : List ℕ) (room : Room n s)
    (marks : Holds n t s (filled P k)) (store : Stored P n (k + 1) starts runs index) (cut : Cuts P n k cuts s) where
  abbrev T : ℕ → List ℕ
  T = list_at starts runs index

  later : (i c : ℕ) → CutAt P n k i c → CutAt P n (k + 1) i c
  later i c (uncut e) = uncut e
  later i c (behind p a q e) = behind p (omega arith) q e

  upper-filled : (i : ℕ) → upper P i k ≡ true → filled P i k ≡ true
  unfolding upper
  upper-filled i u = (and_cases (ltb i k) (filled P i k) u).1

  closes : (i : ℕ) → i < k → filled P k i ≡ true → CutAt P n (k + 1) i (upto k (upper_row P n i))
  closes i l f = by-test (has (upper_row P n i) k)
      (λ m. behind k (omega arith) (record { after = l; right = upper-filled i (sym (has-upper P n i k h) ∙ m); left = f }) refl)
      (λ m. uncut (upto-none k (upper_row P n i) (λ y. false≢true (sym m ∙ y))))

  record Mid (i : ℕ) (u : List ℕ) : Type 0 where
    long : length u ≡ length s
    kept : But cuts (cuts + k) s u
    mid : (q : ℕ) → q < k → CutAt P n (k + 1) q (get_or u (cuts + q) 0)

  -- the cut that place k meets
  one-here : (q : ℕ) → q < k → (u : List ℕ) → Mid q u → marked t u q ≡ true → CutAt P n (k + 1) q (get_or (cut_one cuts k T q u) (cuts + q) 0)
  unfolding cut_one
  one-here q l u m e =
      let b = base.low in
      let b' = base.high in
      let f : filled P k q ≡ true = sym (marks.exact q (omega arith)) ∙ ap (λ v. eqb v t) (sym (m.kept q (λ w. absurd (omega arith)))) ∙ e in
      by-test (eqb (get_or u (cuts + q) 0) (length (T q)))
      (λ y. rw (y, get_or-set_same u (cuts + q) (upto k (T q)) 0 (omega (arith, m.long, room.long)), store.list q (omega arith)) (closes q l f))
      (λ y. rw y (m.mid q l))

  mid-one : (q : ℕ) → 0 ≤ q → q < 0 + k → (u : List ℕ) → Mid q u → marked t u q ≡ true → Mid (suc q) (cut_one cuts k T q u)
  mid-one q a b u m e = record {
    long = cut-length cuts k T q u ∙ m.long;
    kept = λ p w. cut-other cuts k T q u p (λ y. let z = w (omega arith) in omega arith) ∙ m.kept p w;
    mid = λ i l. elim (ℕ_discrete i q) [
      | yes w ↦ rw w (one-here q (omega arith) u m e)
      | no w ↦ rw (cut-other cuts k T q u (cuts + i) (omega arith)) (m.mid i l)
    ];
  }

  all-mid : Mid (0 + k) (visited t (cut_one cuts k T) 0 k s)
  all-mid = visited-keeps t (cut_one cuts k T) Mid 0 k s mid-one (λ q a b u m e. record { long = m.long; kept = m.kept; mid = m.mid })
      (record { long = refl; kept = λ q w. refl; mid = λ i l. later i (get_or s (cuts + i) 0) (cut i l) })

  cuts-next : (c : ℕ) → c ≡ length (upper_row P n k) → Cuts P n (k + 1) cuts (new_cuts t cuts k T c s)
  unfolding new_cuts
  cuts-next c e i l =
      let v = visited t (cut_one cuts k T) 0 k s in
      let b = base.high in
      elim (ℕ_discrete i k) [
        | yes w ↦ rw (w, get_or-set_same v (cuts + k) c 0 (omega (arith, all-mid.long, room.long))) (uncut e)
        | no w ↦ rw (get_or-set_other v (cuts + k) (cuts + i) c 0 (omega arith)) (all-mid.mid i (omega arith))
      ]

-- only the cuts of the first k + 1 lists change
new-kept : (t cuts k : ℕ) (T : ℕ → List ℕ) (c : ℕ) (s : List ℕ) → But cuts (cuts + k + 1) s (new_cuts t cuts k T c s)
unfolding new_cuts
new-kept t cuts k T c s q w =
    get_or-set_other (visited t (cut_one cuts k T) 0 k s) (cuts + k) q c 0 (λ y. let z = w (omega arith) in omega arith)
    ∙ visited-keeps t (cut_one cuts k T) (λ i u. get_or u q 0 ≡ get_or s q 0) 0 k s
    (λ i a b u e m. cut-other cuts k T i u q (λ y. let z = w (omega arith) in omega arith) ∙ e) (λ i a b u e m. e) refl

pub renewed-is : (n t k cuts : ℕ) (starts runs index s u : List ℕ) → k < n → Base n cuts → Room n s
    → u ≡ new_cuts t cuts k (list_at starts runs index) (get_or starts (k + 1) 0 - get_or starts k 0) s → Renewed n t k cuts starts runs index s u
renewed-is n t k cuts starts runs index s u h b r e = rw e (record {
  kept = new-kept t cuts k (list_at starts runs index) (get_or starts (k + 1) 0 - get_or starts k 0) s;
  held = λ P m store cut later l. record {
    fresh = λ j q. let w = b.low in
        rw (new-kept t cuts k (list_at starts runs index) (get_or starts (k + 1) 0 - get_or starts k 0) s j (λ y. absurd (omega arith))) (holds-fresh n t later s (filled P k) l m j q);
    store = store;
    cut = cuts-next P n t k cuts h b s starts runs index r m store cut _ (sym (upper-length P n (k + 1) starts runs index store k (omega arith)));
  };
})
