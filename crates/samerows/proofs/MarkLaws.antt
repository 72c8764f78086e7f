-- Marks, cell by cell; and what they tell of rows.
use mathlib.Core.Path.{◌≡◌, refl, sym, ◌∙◌, ap}
use mathlib.Core.Bool.{Bool, true, false, cond, ◌&&◌, ◌||◌}
use mathlib.Core.List.{List, [], ◌∷◌}
use Prim.Native.Nat.{ℕ, zero, suc, ◌+◌, ◌-◌, ◌≤◌, ◌<◌}
use native.Mathlib.Numerals.{add-one}
use native.Mathlib.Omega.{arith}
use lib.Dec.{eqb}
use lib.ListN.{length, get_or, set, take, drop, length-drop}
use lib.Seq.{drop-cons, drop-length, take-set-le, get_or-take, get_or-drop, length-take-le, get_or-set_same, get_or-set_other}
use borrow.Author.Tests.{eq-eqb, ne_eqb}
use Rattle.cell.specs.Same.{same, among}
use Rattle.cell.proofs.SameLaws.{same-no}
use Rattle.slices.specs.Slices.{between}
use Rattle.samerows.specs.Starts.{rows_but, rows_lent, Ascends}
use Rattle.samerows.specs.Marks.{mix, mark_from, mark_of, has, Marked}
use Rattle.samerows.proofs.StartLaws.{rows_before}

-- THE MARK of no cells, and of the cells from a place on with one more
pub mark-none : (t : List ℕ) (p : ℕ) → 0 ≡ mark_of (between p p t)
unfolding mark_from
mark-none t p = let z : p - p ≡ 0 = omega arith in rw z

mark-last : (row : List ℕ) (m n : ℕ) → n < length row → mark_from m (take (suc n) row) ≡ mix (mark_from m (take n row)) (get_or row n 0)
unfolding mark_from
mark-last [] m n h = absurd (omega arith)
mark-last (c ∷ row) m zero h = refl
mark-last (c ∷ row) m (suc n) h = mark-last row (mix m c) n (omega arith)

pub mark-longer : (t : List ℕ) (p e : ℕ) → p ≤ e → e < length t → mix (mark_of (between p e t)) (get_or t e 0) ≡ mark_of (between p (e + 1) t)
mark-longer t p e h l =
    let n : e + 1 - p ≡ suc (e - p) = omega arith in
    let q : p + (e - p) ≡ e = omega arith in
    let c : get_or (drop p t) (e - p) 0 ≡ get_or t e 0 = get_or-drop p t (e - p) 0 ∙ rw q in
    rw (n, ← c) (sym (mark-last (drop p t) 0 (e - p) (omega (arith, length-drop p t))))

-- A MARK AMONG THOSE from a place on
pub has-next : (marks : List ℕ) (m i : ℕ) → i < length marks → has m (drop i marks) ≡ (eqb (get_or marks i 0) m || has m (drop (i + 1) marks))
unfolding has
has-next marks m i h = rw (add-one i) (ap (has m) (drop-cons marks i 0 h))

pub has_end : (marks : List ℕ) (m i : ℕ) (b : Bool) → i ≡ length marks → (b || has m (drop i marks)) ≡ b
unfolding has
has_end marks m i true e = refl
has_end marks m i false e = rw (e, drop-length marks)

-- what is none of these is not found at any place
has-none : (marks : List ℕ) (m i : ℕ) → i < length marks → has m marks ≡ false → get_or marks i 0 ≡ m → ⊥
unfolding has
has-none [] m i h f e = absurd (omega arith)
has-none (x ∷ marks) m zero h f e = differ (eqb x m) (eq-eqb x m e) f
  where
    differ : (b : Bool) → b ≡ true → (b || has m marks) ≡ false → ⊥
    differ true q g = let z : ◌≡◌ {A = ℕ} 0 1 = cc in omega arith
    differ false q g = let z : ◌≡◌ {A = ℕ} 0 1 = cc in omega arith
has-none (x ∷ marks) m (suc i) h f e = has-none marks m i (omega arith) (second (eqb x m) f) e
  where
    second : (b : Bool) → (b || has m marks) ≡ false → has m marks ≡ false
    second true g = let z : ◌≡◌ {A = ℕ} 0 1 = cc in absurd (omega arith)
    second false g = g

-- EQUAL ROWS HAVE EQUAL MARKS: where no mark of some rows is a row's, it is none of them
pub no-mark : (t S M x : List ℕ) (b n k e : ℕ) → n ≤ k → k ≤ length M → Marked t S M n e → has (mark_of x) (take k M) ≡ false
    → among x (rows_but t S b n e) ≡ false
unfolding Marked rows_but among
no-mark t S M x b zero k e h l w f = refl
no-mark t S M x b (suc n) k e h l w f =
    let d = has-none (take k M) (mark_of x) n (omega (arith, length-take-le k M l)) f in
    let other : same x (between (get_or S n 0) e t) ≡ false =
    same-no x (between (get_or S n 0) e t) (λ q. d (get_or-take k M n 0 (omega arith) ∙ w.0 ∙ sym (ap mark_of q))) in
    step (eqb n b) (between (get_or S n 0) e t) (rows_but t S b n (get_or S n 0)) other
    (no-mark t S M x b n k (get_or S n 0) (omega arith) l w.1 f)
  where
    step : (d : Bool) (r : List ℕ) (rs : List (List ℕ)) → same x r ≡ false → among x rs ≡ false → among x (cond d rs (r ∷ rs)) ≡ false
    step true r rs f g = g
    step false r rs f g = rw f g

-- one row more with its mark, from p up to e
marked-after : (t S M : List ℕ) (n e i p m : ℕ) → n ≤ i → Marked t S M n e → Marked t (set S i p) (set M i m) n e
unfolding Marked
marked-after t S M zero e i p m h w = w
marked-after t S M (suc n) e i p m h w =
    rw (get_or-set_other S i n p 0 (λ q. omega arith), get_or-set_other M i n m 0 (λ q. omega arith))
    (w.0, marked-after t S M n (get_or S n 0) i p m (omega arith) w.1)

pub marked_more : (t S M : List ℕ) (n p m e : ℕ) → n < length S → n < length M → m ≡ mark_of (between p e t) → Marked t S M n p
    → Marked t (set S n p) (set M n m) (n + 1) e
unfolding Marked
marked_more t S M n p m e h k q w =
    rw (add-one n) (rw (get_or-set_same S n p 0 h, get_or-set_same M n m 0 k) (q, marked-after t S M n p n p m (omega arith) w))

-- so a row that is looked for by its mark first, among the rows before place p, is found where it stands
pub seen-here : (t S M x : List ℕ) (b n p m : ℕ) → n ≤ b → n ≤ length S → n ≤ length M → p ≤ length t → Ascends S n p → Marked t S M n p
    → m ≡ mark_of x
    → (has m (take n M) && among x (rows_lent (take p t) (take n S) (length (take n S)))) ≡ among x (rows_but t S b n p)
seen-here t S M x b n p m h k l e a w f =
    rw (rows_before t S b n p h k e a, f) (go (has (mark_of x) (take n M)) refl)
  where
    go : (d : Bool) → has (mark_of x) (take n M) ≡ d → (d && among x (rows_but t S b n p)) ≡ among x (rows_but t S b n p)
    go true g = refl
    go false g = sym (no-mark t S M x b n n p (omega arith) l w g)

-- the same where the place of the row itself is kept already
pub seen-is : (t S M x : List ℕ) (b n p q m : ℕ) → n ≤ b → n ≤ length S → n ≤ length M → p ≤ length t → Ascends S n p → Marked t S M n p
    → m ≡ mark_of x
    → (has m (take n M) && among x (rows_lent (take p t) (take n (set S n q)) (length (take n (set S n q))))) ≡ among x (rows_but t S b n p)
seen-is t S M x b n p q m h k l e a w f = rw (take-set-le n S n q (omega arith)) (seen-here t S M x b n p m h k l e a w f)
