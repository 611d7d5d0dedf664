-- One turn: from the stores that hold the lists before place k to those that hold its list too.
use Rattle.std.specs.Prelude.{ℕ, suc, ◌+◌, ◌-◌, ◌≤◌, ◌<◌, ◌≡◌, refl, true, false, get_or, take, drop, set, eqb, Option, Some, None}
use Rattle.std.proofs.Common.{sym, ap, ◌∙◌, true≢false, arith, add-one, length-drop, take-suc-set, take-suc, drop-drop, eqb-true}
use mathlib.Core.List.{List, [], ◌∷◌, ◌++◌, Memᴰ}
use Rattle.std.proofs.Math.ListN.{length}
use Rattle.std.proofs.Math.Seq.{paste, drop-append-add}
use Rattle.std.proofs.lemmas.List.{take-set-le}
use Rattle.std.proofs.lemmas.Bool.{eqb-false}
use Rattle.base.specs.Lists.{list_at, table}
use Rattle.base.specs.Tests.{by-test}
use Rattle.placement.specs.Placing.{count_above, tails, Tail, best, meets, overlap, tail_or, shared, plain, append_all, after, plan_at, placed, start_of}
use Rattle.placement.specs.PlacingLaws.{best-same, Nested, Kept, after-length, room, plain-starts}
use Rattle.placement.proofs.PlacingLaws.{best-at}
use Rattle.placement.specs.ListLaws.{asc-least, asc-weaken, among-asc, among-drop, count-tail, count-le}
use Rattle.storing.specs.Ways.{way_of, Suited}
use Rattle.storing.specs.FillNested.{kept}
use Rattle.storing.specs.Slices.{Reads, Ready, held, plan_over, plan_of, fits_of, extent_of, Writes, WrittenBy}
use Rattle.base.specs.Index.{index_bound}
use Rattle.lent.specs.Reading.{ListIn, Below}
use Rattle.lent.specs.ReadingLaws.{take_rest}
use Rattle.storing.specs.LookLaws.{Looked, fits-room}
use Rattle.storing.specs.Held.{Holding, RowIs, Turn, Stepped, PlaceEnds, PlainEnds}
use Rattle.storing.specs.HeldLaws.{starts-long, slots_same, index-long, run-same, start-same, list-used, list-readable}
use Rattle.storing.specs.declared.Way.{Way}
use Rattle.storing.specs.declared.Way.TheVariants.{OneAfterAnother, Sharing}
use Rattle.storing.specs.declared.Plan.{Plan}
use Rattle.storing.specs.declared.Extent.{Extent}

-- ---- the two ways

-- only the lists and the run starts of the row's places count
shared_same : (T T' : ℕ → List ℕ) (slots runs runs' : List ℕ) (last k : ℕ) (row list : List ℕ)
    → ((i : ℕ) → Memᴰ i row → T i ≡ T' i) → ((i : ℕ) → Memᴰ i row → get_or runs i 0 ≡ get_or runs' i 0)
    → shared T (held slots runs last) k row list ≡ shared T' (held slots runs' last) k row list
unfolding shared tail_or tails overlap meets
shared_same T T' slots runs runs' last k row list f g =
    by-test (eqb (length list) 0)
    (λ e. rw e)
    (λ e.
    by-test (eqb b.most (length list))
    (λ t.
    let pos : 0 < b.most = omega (arith, eqb-true b.most (length list) t, eqb-false (length list) 0 e) in
    let m = (best-at (tails T' k) row pos).0 in
    rw (e, q, t, f b.at m, g b.at m))
    (λ t. rw (e, q, t)))
  where
    b : Tail
    b = best (tails T' k) row

    q : best (tails T k) row ≡ b
    q = best-same (tails T k) (tails T' k) 0 0 row (λ i d. ap (count_above k) (f i d))

-- a plan over stores in which the lists before place k stand is the plan for k
plan-way : (way : Way) (T R : ℕ → List ℕ) (n k : ℕ) → Suited way T R n → k < n → (row : List ℕ) → RowIs way (R k) row
    → (T' : ℕ → List ℕ) (slots runs runs' : List ℕ) (last : ℕ) (list : List ℕ)
    → ((i : ℕ) → i < k → T' i ≡ T i) → ((i : ℕ) → i < k → get_or runs' i 0 ≡ get_or runs i 0)
    → way_of way T' (held slots runs' last) k row list ≡ way_of way T (held slots runs last) k (R k) list
unfolding plain
plan-way OneAfterAnother T R n k h l row e T' slots runs runs' last list f g = refl
plan-way Sharing T R n k h l row e T' slots runs runs' last list f g =
    rw e (shared_same T' T slots runs' runs last k (R k) list (λ i d. f i (h.lower k l i d)) (λ i d. g i (h.lower k l i d)))

-- of the lists of k's row, what stands above k is no more than k's list
tail-most : (T R : ℕ → List ℕ) (n k i : ℕ) → Nested T R n → k < n → Memᴰ i (R k) → count_above k (T i) ≤ length (T k)
tail-most T R n k i h l d =
    let xs = T i in
    let t = count-tail k (suc i) xs (h.asc i (omega (arith, h.lower k l i d))) in
    omega (
      arith,
      count-le k xs,
      length-drop (length xs - count_above k xs) xs,
      (among-asc (suc k) (T k) (drop (length xs - count_above k xs) xs) t (h.asc k l)
          (λ x m. h.above k l i d x (among-drop (length xs - count_above k xs) xs x m) (asc-least (suc k) x (drop (length xs - count_above k xs) xs) t m))).0,
    )

reads-way : (way : Way) (T R : ℕ → List ℕ) (n k : ℕ) → Suited way T R n → k < n → (row list : List ℕ) → RowIs way (R k) row → list ≡ T k
    → (starts runs slots : List ℕ) → ((i : ℕ) → i < k → ListIn starts runs (length slots) i) → ((i : ℕ) → i < k → list_at starts runs slots i ≡ T i)
    → Reads way starts runs slots k row list
unfolding tails
reads-way OneAfterAnother T R n k h l row list e q starts runs slots f g = tt
reads-way Sharing T R n k h l row list e q starts runs slots f g = λ i d.
    let m : Memᴰ i (R k) = rw e at d in
    let b = h.lower k l i m in
    record {
      readable = f i b;
      ascends = rw (g i b) (asc-weaken (suc i) 0 (T i) (omega arith) (h.asc i (omega arith)));
      most = rw (g i b, q) (tail-most T R n k i h l m);
    }

-- ---- a turn

past-used : (slots index index₀ : List ℕ) (u m : ℕ) → index ≡ slots ++ drop u index₀ → u ≡ length slots → drop (u + m) index ≡ drop (u + m) index₀
past-used slots index index₀ u m e f = rw (e, f, drop-append-add slots (drop (length slots) index₀) m) (drop-drop m (length slots) index₀)

module _ {way : Way} {T R : ℕ → List ℕ} {n values k : ℕ} {index₀ starts runs index row list : List ℕ} {s : Extent}
    (turn : Turn way T R n values k index₀ starts runs index row list s) where
  upto : k ≤ n
  upto = omega (arith, turn.below)

  here : Kept T (placed (way_of way) T R k) k
  here = kept way T R n turn.suited k upto

  -- what the code asks holds at a turn, where the stores are within 32 bits
  pub turn-ready : k < length runs → k + 1 < length starts → length index₀ < 4294967296 → values < 4294967296 → Below index_bound list
      → Ready way starts runs index values row list k s
  turn-ready a b c d e =
      record {
        readable = reads-way way T R n k turn.suited turn.below row list turn.row_is turn.list-is starts runs (take s.used index)
            (list-readable turn.held n turn.suited upto) (list-used turn.held n turn.suited upto);
        used-in = omega (arith, turn.held.used-in, index-long turn.held);
        last-in = omega (arith, turn.held.last-is, turn.held.used-is, here.ended);
        entries-in = turn.held.entries-in;
        run_room = a;
        start-room = b;
        index-limit = omega (arith, index-long turn.held);
        value-limit = d;
        small = e;
      }

  pub plan-same : plan_of way starts runs index values row list k s ≡ plan_at (way_of way) T R (placed (way_of way) T R k) k
  unfolding plan_of plan_over
  plan-same =
      plan-way way T R n k turn.suited turn.below row turn.row_is (list_at starts runs (take s.used index))
      (take s.used index) (placed (way_of way) T R k).runs runs s.last list (list-used turn.held n turn.suited upto) (run-same turn.held)
      ∙ rw (slots_same turn.held, turn.held.last-is, turn.list-is)

  -- the code's test is question 10 or 11 at k
  pub fits-same : fits_of way starts runs index values row list k s ≡ room (way_of way) T R (length index₀) values k
  unfolding fits_of placed start_of
  fits-same =
      rw (plan-same, turn.list-is, index-long turn.held, turn.held.used-is, turn.held.entries-are, after-length (placed (way_of way) T R k) (T k) (plan_at (way_of way) T R (placed (way_of way) T R k) k))

  -- stores that hold k's list besides
  pub next-held : fits_of way starts runs index values row list k s ≡ true → (starts' runs' index' : List ℕ)
      → index' ≡ (placed (way_of way) T R (suc k)).slots ++ drop (extent_of way starts runs index values row list k s).used index₀
      → take (suc k) runs' ≡ take k runs ++ ((plan_of way starts runs index values row list k s).start ∷ [])
      → take (suc (suc k)) starts' ≡ take (suc k) starts ++ ((s.entries + length list) ∷ [])
      → Holding way T R values (suc k) index₀ starts' runs' index' (extent_of way starts runs index values row list k s)
  unfolding placed after start_of extent_of table
  next-held t starts' runs' index' a b c =
      let r = fits-room way starts runs index values row list k s t in
      record {
        used-is = rw (plan-same, turn.list-is, turn.held.used-is) (sym (after-length (placed (way_of way) T R k) (T k) (plan_at (way_of way) T R (placed (way_of way) T R k) k)));
        last-is = rw (plan-same, turn.list-is, turn.held.last-is);
        entries-are = rw (turn.list-is, turn.held.entries-are);
        used-in = omega (arith, r.0, index-long turn.held);
        entries-in = r.1;
        slots-are = a;
        runs-are = b ∙ rw (plan-same, turn.held.runs-are);
        starts-are = c ∙ rw (turn.held.starts-are, turn.held.entries-are, turn.list-is);
      }

  -- the index store once what the list lacks is written
  written-slots : paste index s.used (drop (plan_of way starts runs index values row list k s).have list) (length list - (plan_of way starts runs index values row list k s).have)
      ≡ (placed (way_of way) T R (suc k)).slots ++ drop (extent_of way starts runs index values row list k s).used index₀
  unfolding placed after extent_of
  written-slots =
      let have = (plan_of way starts runs index values row list k s).have in
      let m = length list - have in
      rw (take_rest have list, slots_same turn.held, past-used (placed (way_of way) T R k).slots index index₀ s.used m turn.held.slots-are turn.held.used-is, plan-same, turn.list-is)

  pub stepped : (r : Option Extent) (starts' runs' index' : List ℕ) → Writes way starts runs index values row list k s r starts' index' → k + 1 < length starts
      → (fits_of way starts runs index values row list k s ≡ true → take (suc k) runs' ≡ take k runs ++ ((plan_of way starts runs index values row list k s).start ∷ []))
      → Stepped way T R values k index₀ starts' runs' index' r
  stepped r starts' runs' index' w l f =
      by-test (fits_of way starts runs index values row list k s)
      (λ t.
      let e : r ≡ Some (extent_of way starts runs index values row list k s) = w.answer ∙ rw t in
      let g : starts' ≡ set starts (k + 1) (s.entries + length list) = w.starts-are ∙ rw t in
      rw e (
        sym fits-same ∙ t,
        next-held t starts' runs' index' (w.index_is ∙ rw t written-slots) (f t)
            (ap (take (suc (suc k))) g ∙ rw (add-one) (take-suc-set starts (suc k) (s.entries + length list) (omega arith))),
      ))
      (λ t. let e : r ≡ None = w.answer ∙ rw t in rw e (sym fits-same ∙ t))

-- ---- what the calls that write promise

module _ (way : Way) (starts runs index : List ℕ) (values : ℕ) (row list : List ℕ) (k : ℕ) (s : Extent) where
  pub writes-full : fits_of way starts runs index values row list k s ≡ false → Writes way starts runs index values row list k s None starts index
  writes-full e = record { answer = rw e; index_is = rw e; starts-are = rw e }

  pub writes-done : (p : Plan) (next : Extent) → Looked way starts runs index values row list k s p next → (starts' index' : List ℕ)
      → WrittenBy starts index list k s p.have starts' index' → Writes way starts runs index values row list k s (Some next) starts' index'
  writes-done p next w starts' index' b =
      let h : p.have ≡ (plan_of way starts runs index values row list k s).have = ap (λ x. x.have) w.is in
      record { answer = rw (w.fits, w.next-is); index_is = rw (w.fits, ← h) b.index_is; starts-are = rw w.fits b.starts-are }

  pub place-done : Ready way starts runs index values row list k s → (p : Plan) (next : Extent) → Looked way starts runs index values row list k s p next
      → (starts' runs' index' : List ℕ) → WrittenBy starts index list k s p.have starts' index' → runs' ≡ set runs k p.start
      → PlaceEnds way starts runs index values row list k s (Some next) starts' runs' index'
  place-done y p next w starts' runs' index' b e =
      let h : p.start ≡ (plan_of way starts runs index values row list k s).start = ap (λ x. x.start) w.is in
      let v = writes-done p next w starts' index' b in
      record {
        writes = v;
        runs-are = rw (w.fits, ← h) e;
        steps = λ T R n index₀ turn. stepped turn (Some next) starts' runs' index' v y.start-room (λ t. rw (← h) (ap (take (suc k)) e ∙ take-suc-set runs k p.start y.run_room));
      }

  pub place-full : Ready way starts runs index values row list k s → fits_of way starts runs index values row list k s ≡ false
      → PlaceEnds way starts runs index values row list k s None starts runs index
  place-full y e =
      let v = writes-full e in
      record {
        writes = v;
        runs-are = rw e;
        steps = λ T R n index₀ turn. stepped turn None starts runs index v y.start-room (λ t. absurd (true≢false (sym t ∙ e)));
      }

-- in the plain way list start k is where k's run starts
plain-run : {T R : ℕ → List ℕ} {n values k : ℕ} {index₀ starts index row list : List ℕ} {s : Extent} (starts' : List ℕ)
    → Turn OneAfterAnother T R n values k index₀ starts starts index row list s → starts' ≡ set starts (k + 1) (s.entries + length list)
    → take (suc k) starts' ≡ take k starts ++ ((plan_of OneAfterAnother starts starts index values row list k s).start ∷ [])
unfolding plan_of plan_over plain append_all
plain-run {T} {R} {n} {values} {k} {index₀} {starts} {index} {row} {list} {s} starts' turn e =
    ap (take (suc k)) e
    ∙ take-set-le (suc k) starts (k + 1) (s.entries + length list) (omega arith)
    ∙ take-suc starts k 0 (starts-long turn.held)
    ∙ rw (start-same turn.held k (omega arith), slots_same turn.held, (plain-starts T R k).1)

module _ (starts index : List ℕ) (values : ℕ) (list : List ℕ) (k : ℕ) (s : Extent) where
  pub plain_done : Ready OneAfterAnother starts starts index values list list k s → (p : Plan) (next : Extent)
      → Looked OneAfterAnother starts starts index values list list k s p next
      → (starts' index' : List ℕ) → WrittenBy starts index list k s p.have starts' index' → PlainEnds starts index values list k s (Some next) starts' index'
  plain_done y p next w starts' index' b =
      let v = writes-done OneAfterAnother starts starts index values list list k s p next w starts' index' b in
      record { writes = v; steps = λ T R n index₀ turn. stepped turn (Some next) starts' starts' index' v y.start-room (λ t. plain-run starts' turn b.starts-are) }

  pub plain-full : Ready OneAfterAnother starts starts index values list list k s → fits_of OneAfterAnother starts starts index values list list k s ≡ false
      → PlainEnds starts index values list k s None starts index
  plain-full y e =
      let v = writes-full OneAfterAnother starts starts index values list list k s e in
      record { writes = v; steps = λ T R n index₀ turn. stepped turn None starts starts index v y.start-room (λ t. absurd (true≢false (sym t ∙ e))) }
