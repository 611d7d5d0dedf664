-- The lines of the values, one after another.
use Rattle.matrix.specs.Shape.{Shaped}
use Rattle.std.specs.Prelude.{Ok, Err}
use mathlib.Core.Path.{◌≡◌, refl, sym, ap, subst, ◌∙◌}
use mathlib.Core.Bool.{Bool, true, false, ◌&&◌}
use mathlib.Core.List.{List, [], ◌∷◌, ◌++◌}
use Prim.Native.Nat.{ℕ, zero, suc, ◌+◌, ◌*◌, ◌≤◌, ◌<◌}
use native.Mathlib.Numerals.{add-one}
use native.Mathlib.Omega.{arith}
use native.Mathlib.Nat.{not-suc-le-zero}
use lib.ListN.{length, get_or, take, drop, drop_of_length-le, replicate}
use lib.Seq.{take-suc, drop-cons, length-take-le}
use Rattle.std.proofs.Common.{add-zero, zero-add, take_all, append-nil, append_assoc}
use lib.Dec.{leb, eqb}
use borrow.Author.Tests.{le-leb, lt-leb, leb-true, eq-eqb}
use lib.Ieee.{Float, nan, binary64, to_bits}
use Rattle.base.specs.Answers.{number_of, place_of, Left, left, or_untouched, Pass, Asked, Answer}
use Rattle.base.specs.declared.Counts.{Counts}
use Rattle.base.specs.declared.Refusal.{Refusal}
use Rattle.printing.specs.Print.{counts_line, value_line, refused_line, too_large_line}
use Rattle.printing.specs.declared.Printer.{Printer}
use Rattle.printing.specs.Prints.{Prints, prints-none, then-prints}
use Rattle.base.specs.Lists.{nought}
use Rattle.base.specs.declared.Form.TheVariants.{Plain}
use Rattle.matrix.specs.Input.{Input, input_of}
use Rattle.matrix.specs.declared.Matrix.{Matrix}
use Rattle.matrix.specs.Lists.{MatrixLists, matrix_lists, lists_in, with_rows}
use Rattle.matrix_file.specs.MatrixFile.{n_of, e_of, shape_in, matrix_at, ask_file, ask_read, shaped, opened, read_outcome}
use Rattle.outcome.specs.Buffers.{Buffers, Outcome, ended, plain_buffers}
use Rattle.outcome.specs.Solve.{solve}
use Rattle.program.specs.Program.{value_lines, answer_lines, outcome_lines, zeros, noughts, lent, solved_lines, Fitting, printed}

pub lines_next : (x : List Float) (j : ℕ) → j < length x → value_lines j (drop j x) ≡ value_line j (to_bits binary64 (get_or x j nan)) ++ value_lines (j + 1) (drop (j + 1) x)
unfolding value_lines
lines_next x j l = rw (add-one j, drop-cons x j nan l)

pub none_left : (x : List Float) (j : ℕ) → length x ≤ j → value_lines j (drop j x) ≡ []
unfolding value_lines
none_left x j l = rw (drop_of_length-le x l)

-- the lines of the first j values
pub record First (x : List Float) (j : ℕ) (p q : Printer) : Type 0 where
  pub prints : Prints (value_lines 0 (take j x)) p q
  pub most : q.at ≤ p.at + 48 * j

pub values-start : (x : List Float) (p : Printer) → First x 0 p p
unfolding value_lines
values-start x p = record { prints = prints-none p; most = omega arith }

lines-append : (k : ℕ) (a b : List Float) → value_lines k (a ++ b) ≡ value_lines k a ++ value_lines (k + length a) b
unfolding value_lines
lines-append k [] b = rw add-zero
lines-append k (v ∷ vs) b =
    let e : k + suc (length vs) ≡ suc k + length vs = omega arith in
    rw (e, lines-append (suc k) vs b, append_assoc)

line-next : (x : List Float) (j : ℕ) → j < length x → value_lines 0 (take (j + 1) x) ≡ value_lines 0 (take j x) ++ value_line j (to_bits binary64 (get_or x j nan))
unfolding value_lines
line-next x j l = rw (add-one j, take-suc x j nan l, lines-append 0 (take j x) (get_or x j nan ∷ []), length-take-le j x (omega arith), zero-add, append-nil)

pub values-more : (x : List Float) (j : ℕ) {p q r : Printer} → j < length x → First x j p q → Prints (value_line j (to_bits binary64 (get_or x j nan))) q r → r.at ≤ q.at + 48 → First x (j + 1) p r
values-more x j l F w m = record { prints = rw (line-next x j l) (then-prints F.prints w); most = omega (arith, m, F.most) }

pub values-end : (x : List Float) (j : ℕ) {p q : Printer} → j ≡ length x → First x j p q → record { prints : Prints (value_lines 0 x) p q; most : q.at ≤ p.at + 48 * length x }
values-end x j l F = record { prints = rw (take_all j x (omega arith)) at F.prints; most = omega (arith, F.most, l) }

-- ---- the lines of an answer

-- the lines are printed, from the start of the buffer, and are few
abbrev pub Lines : List ℕ → Printer → Printer → Type 0
Lines bytes p q = record { prints : Prints bytes p q; most : q.at ≤ 4096 }

pub done-lines : (n : ℕ) (a : Answer) (c : Counts) (x : List Float) {p q r : Printer} → p.at ≡ 0 → a ≡ Ok c → length x ≤ 64
    → record { prints : Prints (counts_line n c) p q; most : q.at ≤ p.at + 121 } → record { prints : Prints (value_lines 0 x) q r; most : r.at ≤ q.at + 48 * length x } → Lines (answer_lines n a x) p r
done-lines n a c x z e l w v = record { prints = rw e (then-prints w.prints v.prints); most = omega (arith, z, l, w.most, v.most) }

pub refused-lines : (n : ℕ) (a : Answer) (q : Refusal) (x : List Float) (m k : ℕ) {o p : Printer} → o.at ≡ 0 → a ≡ Err q → m ≡ number_of q → k ≡ place_of q
    → record { prints : Prints (refused_line m k) o p; most : p.at ≤ o.at + 61 } → Lines (answer_lines n a x) o p
refused-lines n a q x m k z e f g w = record { prints = rw (e, ← f, ← g) w.prints; most = omega (arith, z, w.most) }

pub outcome-lines : (n : ℕ) (o : Outcome Answer) (a : Answer) (s : Buffers) {p q : Printer} → ended a s ≡ o → Lines (answer_lines n a s.x) p q → Lines (outcome_lines n o) p q
outcome-lines n o a s e w = rw (← e) w

-- ---- what is lent

pub part-long : {A : Type 0} (m : ℕ) (l : List A) (k : ℕ) → k ≡ length l → m ≤ k → m ≡ length (take m l)
part-long m l k e h = sym (length-take-le m l (rw (← e) h))

take-replicate : {A : Type 0} (m k : ℕ) (v : A) → m ≤ k → take m (replicate k v) ≡ replicate m v
take-replicate zero k v h = refl
take-replicate (suc m) zero v h = absurd (not-suc-le-zero h)
take-replicate (suc m) (suc k) v h = ap (λ l. v ∷ l) (take-replicate m k v (omega arith))

fewer-zeros : (m k : ℕ) (l : List ℕ) → m ≤ k → l ≡ zeros k → take m l ≡ zeros m
unfolding zeros
fewer-zeros m k l h e = rw e (take-replicate m k 0 h)

fewer-noughts : (m k : ℕ) (l : List Float) → m ≤ k → l ≡ noughts k → take m l ≡ noughts m
unfolding noughts
fewer-noughts m k l h e = rw e (take-replicate m k nought h)

pub lent-lines : (i : Input) (ls : List ℕ) (li : List ℕ) (lv : List Float) (us : List ℕ) (ui : List ℕ) (uv d x w : List Float) (m : List ℕ) {p q : Printer}
    → i.n ≤ 64 → ls ≡ zeros 520 → li ≡ zeros 2016 → lv ≡ noughts 2016 → us ≡ zeros 520 → ui ≡ zeros 2016 → uv ≡ noughts 2016
    → d ≡ noughts 2016 → x ≡ noughts 2016 → w ≡ noughts 2016 → m ≡ zeros 520
    → Lines (outcome_lines i.n (solve Plain i (plain_buffers (take (i.n + 1) ls) li lv (take (i.n + 1) us) ui uv (take i.n d) (take i.n x) (take (3 * i.n) w) (take (8 * i.n + 8) m)))) p q
    → Lines (solved_lines i) p q
unfolding solved_lines
lent-lines i ls li lv us ui uv d x w m {p} {q} h els eli elv eus eui euv ed ex ew em g =
    let als = fewer-zeros (i.n + 1) 520 ls (omega arith) els in
    let aus = fewer-zeros (i.n + 1) 520 us (omega arith) eus in
    let ad = fewer-noughts i.n 2016 d (omega arith) ed in
    let ax = fewer-noughts i.n 2016 x (omega arith) ex in
    let aw = fewer-noughts (3 * i.n) 2016 w (omega arith) ew in
    let am = fewer-zeros (8 * i.n + 8) 520 m (omega arith) em in
    let e : plain_buffers (take (i.n + 1) ls) li lv (take (i.n + 1) us) ui uv (take i.n d) (take i.n x) (take (3 * i.n) w) (take (8 * i.n + 8) m) ≡ lent i.n =
    rw (als, aus, ad, ax, aw, am, eli, elv, eui, euv) in
    subst (λ s. Lines (outcome_lines i.n (solve Plain i s)) p q) e g

-- ---- the matrix that was read

shape-rows : (a : Asked) (m o : Matrix) → shaped a m ≡ Ok o → (a ≡ Pass) × (m ≡ o)
shape-rows (Ok _) m o e = (refl, cc)
shape-rows (Err q) m o e = let z : ◌≡◌ {A = ℕ} 0 1 = cc in absurd (omega arith)

pub read-input : (file : List ℕ) (n : ℕ) (l₀ : MatrixLists) (a : Asked) (s j : List ℕ) (v : List Float) (r c : List ℕ) (b : List Float) → Fitting file n l₀
    → left a (matrix_lists s j v r c b) ≡ read_outcome file l₀ → input_of n s j v r c b ≡ matrix_at file
unfolding opened read_outcome ask_read matrix_at
read-input file n l₀ a s j v r c b f e =
    let h = shape-rows (ask_file file) (shape_in file) (record { rows = n; entries = f.entries }) f.shape in
    let en : n_of file ≡ n = ap (λ (m : Matrix). m.rows) h.1 in
    let ee : e_of file ≡ f.entries = ap (λ (m : Matrix). m.entries) h.1 in
    let p : ask_read file l₀ ≡ Pass = rw (h.0, en, ee, f.lengths) in
    let q : matrix_lists s j v r c b ≡ lists_in (matrix_at file) = ap (λ (x : Left Asked MatrixLists). x.held) (e ∙ ap (λ (x : Asked). or_untouched Err x Pass (lists_in (matrix_at file)) l₀) p) in
    ap (with_rows n) q ∙ ap (λ (m : ℕ). with_rows m (lists_in (matrix_at file))) (sym en)

pub read-lines : (i j : Input) {p q : Printer} → i ≡ j → Lines (solved_lines i) p q → Lines (solved_lines j) p q
read-lines i j e w = rw (← e) w

eqb_same : (a b : ℕ) → a ≡ b → eqb b a ≡ true
eqb_same a b e = eq-eqb b a (sym e)

pub fitting : (file : List ℕ) (m : Matrix) (s j : List ℕ) (v : List Float) (r c : List ℕ) (b : List Float) (n e : ℕ) → (m.rows ≤ 64) × (m.entries ≤ 1024) × (opened file ≡ Ok m)
    → 520 ≡ length s → 2016 ≡ length j → 2016 ≡ length v → 2016 ≡ length r → 2016 ≡ length c → 2016 ≡ length b
    → Fitting file m.rows (matrix_lists (take (m.rows + 1) s) (take m.entries j) (take m.entries v) (take m.rows r) (take m.rows c) (take m.rows b))
fitting file m s j v r c b n e h hs hj hv hr hc hb =
    record {
      entries = m.entries;
      shape = h.2;
      lengths =
          let n = m.rows in
          let e = m.entries in
          let a = h.0 in
          let d = h.1 in
          rw (
            eqb_same _ _ (part-long (n + 1) s 520 hs (omega arith)),
            eqb_same _ _ (part-long e j 2016 hj (omega arith)),
            eqb_same _ _ (part-long e v 2016 hv (omega arith)),
            eqb_same _ _ (part-long n r 2016 hr (omega arith)),
            eqb_same _ _ (part-long n c 2016 hc (omega arith)),
            eqb_same _ _ (part-long n b 2016 hb (omega arith)),
          );
    }

-- ---- the rules in their order

module _ (file : List ℕ) {p r : Printer} where
  pub over-length : p.at ≡ 0 → 11776 < length file → record { prints : Prints too_large_line p r; most : r.at ≤ p.at + 10 } → Lines (printed file) p r
  unfolding printed
  over-length z h w = record { prints = rw (lt-leb (length file) 11776 h) w.prints; most = omega (arith, z, w.most) }

  module _ (o : Shaped) (l : length file ≤ 11776) (e : o ≡ opened file) where
    pub ill-shaped : (q : Refusal) (m k : ℕ) → p.at ≡ 0 → o ≡ Err q → m ≡ number_of q → k ≡ place_of q → record { prints : Prints (refused_line m k) p r; most : r.at ≤ p.at + 61 } → Lines (printed file) p r
    unfolding printed
    ill-shaped q m k z h f g w = record { prints = rw (le-leb (length file) 11776 l, ← e, h, ← f, ← g) w.prints; most = omega (arith, z, w.most) }

    module _ (m : Matrix) (h : o ≡ Ok m) where
      pub well-shaped : (leb m.rows 64 && leb m.entries 1024) ≡ true → Lines (solved_lines (matrix_at file)) p r → Lines (printed file) p r
      unfolding printed
      well-shaped t w = record { prints = rw (le-leb (length file) 11776 l, ← e, h, t) w.prints; most = w.most }

      pub over-size : p.at ≡ 0 → (leb m.rows 64 && leb m.entries 1024) ≡ false → record { prints : Prints too_large_line p r; most : r.at ≤ p.at + 10 } → Lines (printed file) p r
      unfolding printed
      over-size z t w = record { prints = rw (le-leb (length file) 11776 l, ← e, h, t) w.prints; most = omega (arith, z, w.most) }

and_left : (a b : Bool) → (a && b) ≡ true → a ≡ true
and_left true b e = refl
and_left false b e = e

and_right : (a b : Bool) → (a && b) ≡ true → b ≡ true
and_right true b e = e
and_right false b e = let z : ◌≡◌ {A = ℕ} 0 1 = cc in absurd (omega arith)

pub small-shape : (file : List ℕ) (m : Matrix) (o : Shaped) → o ≡ opened file → o ≡ Ok m → (leb m.rows 64 && leb m.entries 1024) ≡ true
    → (m.rows ≤ 64) × (m.entries ≤ 1024) × (opened file ≡ Ok m)
small-shape file m o e h t = (leb-true _ _ (and_left _ (leb m.entries 1024) t), leb-true _ _ (and_right (leb m.rows 64) _ t), sym e ∙ h)

-- zeros as the code makes them
pub zeros-are : (m : ℕ) (l : List ℕ) → l ≡ replicate m 0 → l ≡ zeros m
unfolding zeros
zeros-are m l e = e

pub noughts-are : (m : ℕ) (l : List Float) → l ≡ replicate m nought → l ≡ noughts m
unfolding noughts
noughts-are m l e = e
