-- Every line has its exact width: 40 characters, none of them a line end, and then the line end.
use Prim.Native.Nat.{ℕ, zero, suc, ◌+◌, ◌-◌, ◌*◌, ◌/◌, ◌%◌, ◌<◌, ◌≤◌}
use mathlib.Core.Path.{◌≡◌, refl, sym, ap, ap₂, ◌∙◌}
use mathlib.Core.Bool.{false, cond}
use mathlib.Core.List.{List, [], ◌∷◌, ◌++◌, append-nil, append_assoc}
use native.Mathlib.Nat.{add-zero, add-suc}
use native.Mathlib.Omega.{arith}
use lib.ListN.{length, replicate, length-append, length-replicate}
use lib.Dec.{ltb, eqb}
use borrow.Author.Tests.{ne_eqb, lt-ltb, le-ltb, ltb-true, ltb-false}
use Rattle.base.specs.Lists.{has, joined}
use Rattle.base.specs.Limits.{max_rows}
use Rattle.base.specs.Tests.{by-test}
use Rattle.base.specs.AscLaws.{has-append}
use Rattle.base.specs.TableLaws.{joined-ext}
use Rattle.printing.specs.Print.{digit, digits, decimal, column, width_in}
use Rattle.printing.proofs.Laws.{column-length}
use Rattle.sheet.specs.Sheet.{place_line, head_line, blank_line, line_or, page, pages_for, sheet, sheet_bytes, Line, Lines}
use Rattle.sheet.specs.Printing.{LineFits}
use Rattle.sheet.proofs.Laws.{page-fits}

-- ---- characters that are no line end

abbrev Plain : List ℕ → Type 0
Plain l = has l 10 ≡ false

plain-both : (a b : List ℕ) → Plain a → Plain b → Plain (a ++ b)
plain-both a b p q = has-append a b 10 ∙ rw (p, q)

plain-blanks : (n : ℕ) → Plain (replicate n 32)
unfolding has
plain-blanks zero = refl
plain-blanks (suc n) = plain-blanks n

digit-plain : (d : ℕ) → eqb (digit d) 10 ≡ false
unfolding digit
digit-plain d = by-test (ltb d 10) (λ t. rw t (ne_eqb (48 + d) 10 (λ e. absurd (omega arith)))) (λ t. rw t (ne_eqb (55 + d) 10 (λ e. absurd (omega arith))))

plain-digits : (base w x : ℕ) → Plain (digits base w x)
unfolding digits has
plain-digits base zero x = refl
plain-digits base (suc w) x = plain-both (digits base w (x / base)) (digit (x % base) ∷ []) (plain-digits base w (x / base)) (rw digit-plain)

plain-column : (w x : ℕ) → Plain (column w x)
unfolding column decimal
plain-column w x = plain-both _ _ (plain-blanks (w - length (decimal x))) (plain-digits 10 (width_in 20 x) x)

-- ---- lines

pub place-exact : (k own lower upper run : ℕ) → LineFits k own lower upper run → Line (place_line k own lower upper run)
unfolding place_line
place-exact k own lower upper run F =
    let a = column 6 k in
    let b = column 8 own in
    let c = column 8 lower in
    let d = column 8 upper in
    let e = column 10 run in
    record {
      text = a ++ b ++ c ++ d ++ e;
      is = refl;
      wide =
          omega (arith, length-append (a ++ b ++ c ++ d) e, length-append (a ++ b ++ c) d, length-append (a ++ b) c, length-append a b, column-length 6 k F.place, column-length 8 own F.own_row, column-length 8 lower F.lower-row, column-length 8 upper F.upper-list, column-length 10 run F.run-start);
      plain = plain-both _ e (plain-both _ d (plain-both _ c (plain-both a b (plain-column 6 k) (plain-column 8 own)) (plain-column 8 lower)) (plain-column 8 upper)) (plain-column 10 run);
    }

head-exact : (p : ℕ) → p < max_rows → Line (head_line p)
unfolding head_line has
head-exact p h =
    let f : List ℕ = 70 ∷ 73 ∷ 76 ∷ 76 ∷ [] in
    let g : List ℕ = replicate 30 32 in
    record {
      text = f ++ g ++ column 6 (p + 1);
      is = refl;
      wide = omega (arith, length-append (f ++ g) (column 6 (p + 1)), length-append f g, length-replicate {A = ℕ} 30 32, column-length 6 (p + 1) (page-fits p h));
      plain = plain-both (f ++ g) (column 6 (p + 1)) (plain-both f g refl (plain-blanks 30)) (plain-column 6 (p + 1));
    }

blank-exact : Line blank_line
unfolding blank_line
blank-exact = record { text = replicate 40 32; is = refl; wide = length-replicate {A = ℕ} 40 32; plain = plain-blanks 40 }

-- ---- lines one after another

lines_none : Lines 0 []
unfolding joined
lines_none = record { line = λ q. []; are = refl; exact = λ q h. absurd (omega arith) }

lines-one : (l : List ℕ) → Line l → Lines 1 l
unfolding joined
lines-one l L = record { line = λ q. l; are = refl; exact = λ q h. L }

joined-add : (f : ℕ → List ℕ) (m n : ℕ) → joined f (m + n) ≡ joined f m ++ joined (λ i. f (m + i)) n
unfolding joined
joined-add f m zero = rw (add-zero, append-nil)
joined-add f m (suc n) = rw (add-suc, joined-add f m n, append_assoc)

module _ (m k : ℕ) (a b : List ℕ) (A : Lines m a) (B : Lines k b) where
  abbrev either : ℕ → List ℕ
  either q = cond (ltb q m) (A.line q) (B.line (q - m))

  first_part : joined A.line m ≡ joined either m
  first_part = joined-ext A.line either m (λ q h. rw (lt-ltb q m h))

  second-part : joined B.line k ≡ joined (λ q. either (m + q)) k
  second-part = joined-ext B.line (λ q. either (m + q)) k (λ q h. let e : m + q - m ≡ q = omega arith in rw (le-ltb (m + q) m (omega arith), e))

  lines-both : Lines (m + k) (a ++ b)
  lines-both = record {
    line = either;
    are = ap₂ (λ (x y : List ℕ). x ++ y) (A.are ∙ first_part) (B.are ∙ second-part) ∙ sym (joined-add either m k);
    exact = λ q h. by-test (ltb q m) (λ t. rw t (A.exact q (ltb-true q m t))) (λ t. rw t (B.exact (q - m) (omega (arith, ltb-false q m t))));
  }

lines-joined : (f : ℕ → List ℕ) (w m : ℕ) → ((p : ℕ) → p < m → Lines w (f p)) → Lines (m * w) (joined f m)
unfolding joined
lines-joined f w zero h = let e : 0 * w ≡ 0 = omega arith in rw e lines_none
lines-joined f w (suc m) h = let e : suc m * w ≡ m * w + w = omega arith in rw e (lines-both (m * w) w (joined f m) (f m) (lines-joined f w m (λ p l. h p (omega arith))) (h m (omega arith)))

line-long : (l : List ℕ) → Line l → length l ≡ 41
line-long l L = ap length L.is ∙ omega (arith, length-append L.text (10 ∷ []), L.wide)

joined-long : (f : ℕ → List ℕ) (m : ℕ) → ((q : ℕ) → q < m → Line (f q)) → length (joined f m) ≡ 41 * m
unfolding joined
joined-long f zero h = refl
joined-long f (suc m) h = omega (arith, length-append (joined f m) (f m), joined-long f m (λ q l. h q (omega arith)), line-long (f m) (h m (omega arith)))

lines_long : (m : ℕ) (s : List ℕ) → Lines m s → length s ≡ 41 * m
lines_long m s L = ap length L.are ∙ joined-long L.line m L.exact

-- ---- pages

module _ (n : ℕ) (line : ℕ → List ℕ) (L : (k : ℕ) → k < n → Line (line k)) where
  or-exact : (k : ℕ) → Line (line_or n line k)
  unfolding line_or
  or-exact k = by-test (ltb k n) (λ t. rw t (L k (ltb-true k n t))) (λ t. rw t blank-exact)

  page-exact : (p : ℕ) → p < max_rows → Lines 50 (page n line p)
  unfolding page
  page-exact p h = lines-both 1 49 _ _ (lines-one _ (head-exact p h)) (lines-joined (λ j. line_or n line (49 * p + j)) 1 49 (λ j l. lines-one _ (or-exact (49 * p + j))))

  pub sheet-exact : n ≤ max_rows → Lines (pages_for n * 50) (sheet n line)
  unfolding sheet
  sheet-exact h = lines-joined (page n line) 50 (pages_for n) (λ p l. page-exact p (omega arith))

  pub sheet-long : n ≤ max_rows → length (sheet n line) ≡ sheet_bytes n
  sheet-long h = omega (arith, lines_long _ _ (sheet-exact h))
