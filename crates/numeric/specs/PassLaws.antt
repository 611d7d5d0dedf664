-- The rows put together: from what a row's steps leave to the stores before the next row, to the first fault, and with the back steps to the solution.
use Rattle.std.specs.Prelude.{◌≡◌, refl, true, ℕ, zero, suc, ◌+◌, ◌-◌, ◌*◌, ◌<◌, set, replicate, Float}
use Rattle.std.proofs.Math.Path.{sym, ap}
use Rattle.std.proofs.Common.{◌∙◌, subst, add-one, arith, length-drop, length-set, length-append, take_at, get_or-take, get_or-drop, take-suc-set, drop-set-lt, ext_get_or, get_or-set_same}
use mathlib.Core.List.{List, [], ◌∷◌, ◌++◌, map-append}
use Rattle.std.proofs.Math.Decide.{dec_lt}
use Rattle.std.proofs.Math.ListN.{length, get_or, take, drop, get_or-append}
use Rattle.std.proofs.lemmas.List.{length-replicate, get_or-replicate, replicate-append-replicate, get_or_at, take-set-le, drop-set-add}
use Rattle.std.proofs.Math.Seq.{length-sets, length-take-le, drop_at}
use Rattle.std.specs.Float.Ieee.{nan, mul, div}
use Rattle.std.specs.Float.{binary64}
use Rattle.std.specs.Float.Ieee.Scale.{finite}
use Rattle.base.specs.Lists.{list_at, row_of, has, pairs, nought}
use Rattle.base.specs.Tests.{by-test}
use Rattle.base.specs.TableLaws.{get_or-map-lt}
use Rattle.base.specs.declared.RowSums.{RowSums}
use Rattle.lent.specs.Reading.{Below}
use Rattle.lent.specs.ReadingLaws.{list_length}
use Rattle.arithmetic.specs.Arith.{Fault, Out, ok, met, overflow, zero_pivot, one, System, Row, none, Given, given, Work}
use Rattle.arithmetic.specs.Stopping.{◌>>=◌, any, at, pivot, load, start, steps, scaled, finish, row, forward, rest, back, solved}
use Rattle.arithmetic.specs.RowEnd.{products}
use Rattle.arithmetic.specs.Factors.{bind_ok}
use Rattle.arithmetic.specs.Sticky.{ok-inj}
use Rattle.std.specs.Prelude.{Result, Ok, Err, ⊤}
use Rattle.numeric.specs.declared.RowFault.{RowFault}
use Rattle.numeric.specs.declared.RowFault.TheVariants.{Zero, Overflow}
use Rattle.numeric.specs.Stores.{StoreShape, store_given, work, Eliminated, Finished, numbered_back, gathered, zeroed}
use Rattle.numeric.specs.Rows.{filled_row, Closed, RowLent, Stacked, u_of, RowsHeld, Reduced, Shut, kept_row}
use Rattle.numeric.specs.StoreLaws.{sets-part, products-length, stacked-none, set-all-drop, set-all-length, set-all-stays, set-all-has}
use Rattle.numeric.specs.KeepLaws.{stacked-row}
use Rattle.numeric.specs.RowLaws.{Same, bind-same, has-at, filled-cases, row_is, row-outside}
use Rattle.base.specs.Scratch.{z_from}
use Rattle.base.specs.ScratchLaws.{drop-twice}

-- ---- the rows of places 0 to k - 1

bind-met : {A B : Type 0} (o : Out A) (f g : A → Out B) (q : Fault) → ((a : A) → f a ≡ met q → g a ≡ met q) → (o >>= f) ≡ met q → (o >>= g) ≡ met q
bind-met (met p) f g q e h = cc
bind-met (ok a) f g q e h = e a h

bind_assoc : {A B C : Type 0} (o : Out A) (f : A → Out C) (g : A → Out B) (next : B → Out C) → ((a : A) → f a ≡ (g a >>= next)) → (o >>= f) ≡ ((o >>= g) >>= next)
bind_assoc (met q) f g next e = refl
bind_assoc (ok a) f g next e = e a

forward-add : (S : System) (m k : ℕ) (rows : List Row) → forward S (suc m) k rows ≡ forward S m k rows >>= (λ out. row S out (k + m) >>= (λ r. ok (out ++ (r ∷ []))))
unfolding forward
forward-add S zero k rows = let e : k + zero ≡ k = omega arith in rw e
forward-add S (suc m) k rows =
    let e : suc k + m ≡ k + suc m = omega arith in
    bind_assoc (row S rows k) (λ r. forward S (suc m) (suc k) (rows ++ (r ∷ []))) (λ r. forward S m (suc k) (rows ++ (r ∷ []))) (λ out. row S out (k + suc m) >>= (λ r. ok (out ++ (r ∷ []))))
    (λ r. forward-add S m (suc k) (rows ++ (r ∷ [])) ∙ rw e)

pub forward-more : (S : System) (k : ℕ) (rows : List Row) (r : Row) → forward S k 0 [] ≡ ok rows → row S rows k ≡ ok r → forward S (k + 1) 0 [] ≡ ok (rows ++ (r ∷ []))
forward-more S k rows r e h = let z : 0 + k ≡ k = omega arith in rw add-one (forward-add S k 0 [] ∙ rw (e, z, h))

-- a fault is the answer however many places follow
forward-stays : (S : System) (m d k : ℕ) (rows : List Row) (q : Fault) → forward S m k rows ≡ met q → forward S (m + d) k rows ≡ met q
unfolding forward
forward-stays S zero d k rows q e = absurd (let z : ◌≡◌ {A = ℕ} 0 1 = cc in omega arith)
forward-stays S (suc m) d k rows q e = let s : suc m + d ≡ suc (m + d) = omega arith in
    rw s (bind-met (row S rows k) (λ r. forward S m (suc k) (rows ++ (r ∷ []))) (λ r. forward S (m + d) (suc k) (rows ++ (r ∷ []))) q
    (λ r. forward-stays S m d (suc k) (rows ++ (r ∷ [])) q) e)

pub forward-met : (S : System) (n k : ℕ) (rows : List Row) (q : Fault) → k < n → forward S k 0 [] ≡ ok rows → row S rows k ≡ met q → forward S n 0 [] ≡ met q
forward-met S n k rows q l e h =
    let z : 0 + k ≡ k = omega arith in
    let s : suc k + (n - suc k) ≡ n = omega arith in
    rw s at (forward-stays S (suc k) (n - suc k) 0 [] q (forward-add S k 0 [] ∙ rw (e, z, h)))

pub forward-length : (S : System) (k : ℕ) (rows : List Row) → forward S k 0 [] ≡ ok rows → length rows ≡ k
unfolding forward
forward-length S zero rows e = ap length (sym (ok-inj e))
forward-length S (suc k) rows e =
    let a = bind_ok (forward S k 0 []) (λ out. row S out (0 + k) >>= (λ r. ok (out ++ (r ∷ [])))) rows (sym (forward-add S k 0 []) ∙ e) in
    let b = bind_ok (row S a.0 (0 + k)) (λ r. ok (a.0 ++ (r ∷ []))) rows a.2 in
    ap length (sym (ok-inj b.2)) ∙ length-append a.0 (b.0 ∷ []) ∙ rw (forward-length S k a.0 a.1, add-one)

-- ---- row k, from what its steps leave

module _ (S : System) (rows : List Row) (n k : ℕ) (f : List Float) (starts runs upper : List ℕ) (u : List Float) (H : RowsHeld S rows n k f starts runs upper u)
    (h : k < n) (lf : length f ≡ 3 * n) where
  many : length rows ≡ k
  many = forward-length S k rows H.done

  y-at : (i : ℕ) → i < k → get_or (drop n f) i nan ≡ (get_or rows i none).y
  y-at i l =
      sym (get_or-take k (drop n f) i nan l) ∙ ap (λ (t : List Float). get_or t i nan) H.ys ∙ sym (get_or-map-lt (λ (r : Row). r.y) rows i none nan (rw many l))

  -- the rows above as the stores hold them, whatever stands in the working row
  pub rows_same : (W : List Float) → length W ≡ n → (i : ℕ) → i < k → Same (store_given n (W ++ drop n f) starts runs upper u) (given S rows) i
  rows_same W lw i l = (
    sym (H.lists i (omega arith)),
    H.us.each i l,
    sym (get_or-drop n (W ++ drop n f) i nan) ∙ ap (λ (t : List Float). get_or t i nan) (drop_at W (drop n f) n lw) ∙ y-at i l,
  )

  module _ (lower places : List ℕ) (vs : List Float) (b floor : Float) (L : RowLent S k lower places vs b floor) (C : Closed S k) (T : StoreShape n starts runs upper (length u)) where
    pub reduced : (W g v : List Float) (s r : RowSums) (above : List ℕ) (from : ℕ) (answer : Result RowSums RowFault) → s.sum ≡ b
        → load any [] (pairs places vs) (take n f) ≡ ok W → length W ≡ length (take n f)
        → Eliminated n lower (store_given n (W ++ drop n f) starts runs upper u) (W ++ drop n f) g s r
        → above ≡ list_at starts runs upper k → from ≡ get_or starts k 0
        → Finished k floor above from (take n g) u v r.sum answer
        → Reduced S rows n k starts f g u v answer
    unfolding list_at
    reduced W g v s r above from answer es ld lw E ea ef F =
        let ln : length W ≡ n = lw ∙ length-take-le n f (omega arith) in
        let hs : k < S.n = rw H.size h in
        let loaded : load any [] (pairs places vs) (replicate S.n nought) ≡ ok W = rw H.size (rw H.clear at ld) in
        let G = store_given n (W ++ drop n f) starts runs upper u in
        let ran : steps any G lower (work [] W b) ≡ ok (work E.l (take n g) r.sum) =
        ap (λ (w : List Float). steps any G lower (work [] w b)) (sym (take_at W (drop n f) n ln)) ∙ rw es at E.working in
        let up : above ≡ S.upper k = ea ∙ sym (H.lists k h) in
        let la : length above ≡ get_or starts (k + 1) 0 - get_or starts k 0 = ap length ea ∙ list_length starts runs upper k (T.list k h) in
        let slots : take (length above) (drop from v) ≡ row_of starts v k = rw (la, ef) in
        record {
          answer = rw (← slots) (F.answer (gathered (S.lower k) (take n g)) ∙ rw up (row_is S k C rows G lower places vs b floor W E.l (take n g) r.sum hs L loaded (rows_same W ln) ran));
          kept = E.kept ∙ drop_at W (drop n f) n ln;
          stored = λ t e.
              let st = F.stored t e in
              let here : row_of starts v k ≡ products t.reciprocal (take n g) above =
              sym slots ∙ ap (λ (l : List Float). take (length above) (drop from l)) st
              ∙ sets-part u (products t.reciprocal (take n g) above) from (length above) (products-length t.reciprocal (take n g) above) (omega (arith, T.values k h)) in
              st ∙ rw (here, ef);
          outside = λ j l e. sym (get_or-take n g j nan l) ∙ row-outside S k C rows G lower places vs b floor W E.l (take n g) r.sum hs L loaded (rows_same W ln) ran j (rw H.size l) e;
        }

  -- ---- the stores before row k + 1

  module _ (C : Closed S k) (T : StoreShape n starts runs upper (length u)) (lower : List ℕ) (el : S.lower k ≡ lower) (g h' v d e : List Float) (lg : length g ≡ length f) (t : RowSums)
      (R : Reduced S rows n k starts f g u v (Ok t)) (Q : Shut n k lower (list_at starts runs upper k) g h' d e t) where
    abbrev next : Row
    next = kept_row (gathered (S.lower k) (take n g)) (row_of starts v k) t

    abbrev above : List ℕ
    above = list_at starts runs upper k

    -- the scratch but for y(k)
    abbrev core : List Float
    core = zeroed (list_at starts runs upper k) (zeroed lower (set g k nought))

    core-length : length core ≡ length g
    core-length = set-all-length nought above (zeroed lower (set g k nought)) ∙ set-all-length nought lower (set g k nought) ∙ length-set g k nought

    lower-below : Below n lower
    lower-below p l = let m = C.left (get_or lower p 0) (rw el (has-at lower p l)) in omega arith

    core-drop : drop n core ≡ drop n f
    core-drop = set-all-drop nought n above (zeroed lower (set g k nought)) (T.below k h) ∙ set-all-drop nought n lower (set g k nought) lower-below ∙ drop-set-lt n g k nought h ∙ R.kept

    after : drop n h' ≡ set (drop n f) k t.y
    after = ap (λ (l : List Float). drop n l) Q.scratch ∙ drop-set-add n core k t.y ∙ ap (λ (l : List Float). set l k t.y) core-drop

    zero-at : (j : ℕ) → j < n → get_or core j nan ≡ nought
    zero-at j l =
        let lj : j < length g = omega arith in
        by-test (has (filled_row S k) j)
        (λ m. filled-cases S k j m
        (λ a. set-all-stays nought above (zeroed lower (set g k nought)) j (set-all-has nought lower (set g k nought) j (rw (← el) a) (rw length-set lj)))
        (λ s. set-all-stays nought above (zeroed lower (set g k nought)) j (set-all-stays nought lower (set g k nought) j (rw s (get_or-set_same g j nought nan lj))))
        (λ b. set-all-has nought above (zeroed lower (set g k nought)) j (rw (← H.lists k h) b) (rw (set-all-length nought lower (set g k nought), length-set g k nought) lj)))
        (λ m. set-all-stays nought above (zeroed lower (set g k nought)) j (set-all-stays nought lower (set g k nought) j (set-all-stays nought (k ∷ []) g j (R.outside j l m))))

    pub held_more : RowsHeld S (rows ++ (next ∷ [])) n (k + 1) h' starts runs upper v
    held_more = record {
      size = H.size;
      lists = H.lists;
      done = forward-more S k rows next H.done (sym R.answer);
      us = us;
      ys = rw (add-one, after, take-suc-set (drop n f) k t.y (simp length-drop (omega arith)), H.ys) (sym (map-append (λ (r : Row). r.y) rows (next ∷ [])));
      clear = clear;
      zs = sym (drop-twice n h') ∙ ap (λ (l : List Float). drop n l) after ∙ drop-set-lt n (drop n f) k t.y h ∙ drop-twice n f ∙ H.zs;
    }
      where
        same_length : length v ≡ length u
        same_length = ap length (R.stored t refl) ∙ length-sets u (get_or starts k 0) (row_of starts v k)

        us : Stacked nought (u_of (rows ++ (next ∷ []))) (k + 1) starts v
        us = subst (λ (l : List Float). Stacked nought (u_of (rows ++ (next ∷ []))) (k + 1) starts l) (sym (R.stored t refl))
            (stacked-row (λ (r : Row). r.u) rows next k starts u (row_of starts v k) many (λ i l. (T.values i (omega arith)).rise) (omega (arith, T.values k h))
            (list_length starts starts v k (rw same_length (T.values k h))) refl H.us)

        clear : take n h' ≡ replicate n nought
        clear =
            ap (λ (l : List Float). take n l) Q.scratch ∙ take-set-le n core (n + k) t.y (omega arith)
            ∙ ext_get_or nan (take n core) (replicate n nought) (length-take-le n core (omega (arith, core-length)) ∙ sym (length-replicate n nought))
            (λ j l. let b : j < n = rw (length-take-le n core (omega (arith, core-length))) at l in get_or-take n core j nan b ∙ zero-at j b ∙ sym (get_or-replicate n j nought nan b))

-- ---- the first row, the first fault, the last row

take-replicate : {A : Type 0} (m k : ℕ) (z : A) → take m (replicate (m + k) z) ≡ replicate m z
take-replicate m k z = rw (← replicate-append-replicate m k z) (take_at (replicate m z) (replicate k z) m (length-replicate m z))

tail-replicate : {A : Type 0} (m k : ℕ) (z : A) → drop m (replicate (m + k) z) ≡ replicate k z
tail-replicate m k z = rw (← replicate-append-replicate m k z) (drop_at (replicate m z) (replicate k z) m (length-replicate m z))

pub held_start : (S : System) (n : ℕ) (f : List Float) (starts runs upper : List ℕ) (u : List Float) → S.n ≡ n → ((i : ℕ) → i < n → S.upper i ≡ list_at starts runs upper i)
    → f ≡ replicate (3 * n) nought → u ≡ replicate (length u) nought → RowsHeld S [] n 0 f starts runs upper u
unfolding forward
held_start S n f starts runs upper u en el ef eu =
    let e : 3 * n ≡ n + z_from n = omega arith in
    let thrice : 3 * n ≡ z_from n + n = omega arith in
    record {
      size = en;
      lists = el;
      done = refl;
      us = stacked-none nought (u_of []) starts u eu;
      ys = refl;
      clear = rw (ef, e) (take-replicate n (z_from n) nought);
      zs = rw (ef, thrice) (tail-replicate (z_from n) n nought);
    }

pub solved-met : (S : System) (q : Fault) → forward S S.n 0 [] ≡ met q → solved S ≡ met q
unfolding solved
solved-met S q e = rw e

-- a row that is not kept ends the whole
module _ {S : System} {rows : List Row} {n k : ℕ} {f : List Float} {starts runs upper : List ℕ} {u : List Float} (H : RowsHeld S rows n k f starts runs upper u) (h : k < n) where
  stopped : (q : Fault) → row S rows k ≡ met q → solved S ≡ met q
  stopped q e = solved-met S q (ap (λ (m : ℕ). forward S m 0 []) H.size ∙ forward-met S n k rows q h H.done e)

  pub held-zero : {g v : List Float} → Reduced S rows n k starts f g u v (Err Zero) → solved S ≡ met (zero_pivot k)
  held-zero R = stopped (zero_pivot k) (sym R.answer)

  pub held-overflow : {g v : List Float} → Reduced S rows n k starts f g u v (Err Overflow) → solved S ≡ met (overflow k)
  held-overflow R = stopped (overflow k) (sym R.answer)

-- each y is finite
at_ok : (k : ℕ) (x y : Float) → at k x ≡ ok y → finite y ≡ true
at_ok k x y e = by-test (finite x)
    (λ f. rw (← ok-inj (rw f at e)) f)
    (λ f. let z : met (overflow k) ≡ ok y = rw f at e in absurd (let w : ◌≡◌ {A = ℕ} 0 1 = cc in omega arith))

finish-y : (k : ℕ) (floor : Float) (above : List ℕ) (a : Work) (r : Row) → finish (at k) k floor above a ≡ ok r → finite r.y ≡ true
unfolding finish
finish-y k floor above a r e =
    let p = bind_ok (pivot k floor (get_or a.w k nan)) _ r e in
    let d = bind_ok (at k (div binary64 one p.0)) _ r p.2 in
    let y = bind_ok (at k (mul binary64 a.s d.0)) _ r d.2 in
    let u = bind_ok (scaled (at k) d.0 a.w above) _ r y.2 in
    rw (← ok-inj u.2) (at_ok k (mul binary64 a.s d.0) y.0 y.1)

row-y : (S : System) (rows : List Row) (k : ℕ) (r : Row) → row S rows k ≡ ok r → finite r.y ≡ true
unfolding row
row-y S rows k r e =
    let a = bind_ok (start (at k) S k) _ r e in
    let b = bind_ok (steps (at k) (given S rows) (S.lower k) a.0) _ r a.2 in
    finish-y k S.floor (S.upper k) b.0 r b.2

forward-y : (S : System) (k : ℕ) (rows : List Row) → forward S k 0 [] ≡ ok rows → (i : ℕ) → i < k → finite (get_or rows i none).y ≡ true
forward-y S zero rows e i h = absurd (omega arith)
forward-y S (suc k) rows e i h =
    let a = bind_ok (forward S k 0 []) (λ out. row S out (0 + k) >>= (λ r. ok (out ++ (r ∷ [])))) rows (sym (forward-add S k 0 []) ∙ e) in
    let b = bind_ok (row S a.0 (0 + k)) (λ r. ok (a.0 ++ (r ∷ []))) rows a.2 in
    let l = forward-length S k a.0 a.1 in
    rw (← ok-inj b.2)
    (elim (dec_lt i k) [
      | yes q ↦ rw (get_or-append a.0 (b.0 ∷ []) none i (rw l q)) (forward-y S k a.0 a.1 i q)
      | no q ↦ (let z : i ≡ k = omega arith in rw (z, get_or_at a.0 b.0 [] none k l) (row-y S a.0 (0 + k) b.0 b.1))
    ])

-- ---- back

pub back-same : (G H : Given) (k : ℕ) (z : List Float) → ((i : ℕ) → i < k → Same G H i) → back G k z ≡ back H k z
unfolding back
back-same G H zero z e = refl
back-same G H (suc k) z e =
    let s = e k (omega arith) in
    rw (s.0, s.1, s.2)
    (bind-same (rest (at k) (H.y k) (H.upper k) (H.u k) z) (λ t. back G k (set z k t)) (λ t. back H k (set z k t)) (λ t. back-same G H k (set z k t) (λ i h. e i (omega arith))))

solved-steps : (S : System) (rows : List Row) (o : Out (List Float)) → forward S S.n 0 [] ≡ ok rows → back (given S rows) S.n (replicate S.n nought) ≡ o
    → solved S ≡ (o >>= λ z. ok (record { rows = rows; z = z }))
unfolding solved
solved-steps S rows o e h = rw (e, h)

module _ {S : System} {rows : List Row} {n : ℕ} {f : List Float} {starts runs upper : List ℕ} {u : List Float} (H : RowsHeld S rows n n f starts runs upper u) where
  y-here : (i : ℕ) → i < n → get_or f (n + i) nan ≡ (get_or rows i none).y
  y-here i l =
      sym (get_or-drop n f i nan) ∙ sym (get_or-take n (drop n f) i nan l) ∙ ap (λ (t : List Float). get_or t i nan) H.ys
      ∙ sym (get_or-map-lt (λ (r : Row). r.y) rows i none nan (rw (forward-length S n rows H.done) l))

  -- what the back steps ask
  pub held-y : (i : ℕ) → i < n → finite (get_or f (n + i) nan) ≡ true
  held-y i l = rw (y-here i l) (forward-y S n rows H.done i l)

  solved-is : (o : Out (List Float)) → o ≡ back (store_given n f starts runs upper u) n (drop (z_from n) f) → solved S ≡ (o >>= λ z. ok (record { rows = rows; z = z }))
  solved-is o e =
      solved-steps S rows o (ap (λ (m : ℕ). forward S m 0 []) H.size ∙ H.done)
      (ap (λ (m : ℕ). back (given S rows) m (replicate m nought)) H.size
      ∙ ap (λ (z : List Float). back (given S rows) n z) (sym H.zs)
      ∙ sym (back-same (store_given n f starts runs upper u) (given S rows) n (drop (z_from n) f) (λ i l. (sym (H.lists i l), H.us.each i l, y-here i l))) ∙ sym e)

  pub held-solved : (z : List Float) (r : Result ⊤ ℕ) → numbered_back z r ≡ back (store_given n f starts runs upper u) n (drop (z_from n) f) → r ≡ Ok tt
      → solved S ≡ ok (record { rows = rows; z = z })
  held-solved z r e q = solved-is (ok z) (rw q at e)

  pub held-stopped : (k : ℕ) (z : List Float) (r : Result ⊤ ℕ) → numbered_back z r ≡ back (store_given n f starts runs upper u) n (drop (z_from n) f) → r ≡ Err k
      → solved S ≡ met (overflow k)
  held-stopped k z r e q = solved-is (met (overflow k)) (rw q at e)
