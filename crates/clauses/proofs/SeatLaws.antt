-- The rows of a state, and those of its runs put together again. No row is asked to use a variable once.
use Prim.Native.Nat.{ℕ, zero, suc, ◌+◌, ◌-◌, ◌≤◌, ◌<◌}
use mathlib.Core.Path.{◌≡◌, refl, sym, ◌∙◌, ap, ap₂, subst}
use mathlib.Core.Logic.{◌≢◌, ⊎_elim}
use mathlib.Core.Bool.{Bool, true, false}
use mathlib.Core.List.Memᴰ
use mathlib.Core.List.{List, [], ◌∷◌, ◌++◌, map, Memᴰ}
use native.Mathlib.Omega.{arith}
use lib.ListN.{length, replicate}
use Rattle.cell.specs.Cell.{Cell, arity, is_var, values_at}
use Rattle.cell.proofs.CellLaws.{cell-accepted}
use Rattle.term.specs.Terms.{Terms, none, more, front, back, root, close}
use Rattle.term.proofs.TermsLaws.{front-back, front-terms, back-terms, one_cell, Terms-++, terms-long}
use Rattle.term.proofs.PlaceLaws.{close-terms, close-length}
use Rattle.table.specs.All.{All}
use Rattle.table.proofs.AllLaws.{all-each}
use Rattle.table.specs.Table.{count, Head}
use Rattle.plan.specs.Runs.{Run, agree, join_if, join, runs}
use Rattle.plan.proofs.RunsLaws.{agree-eq, agree-fixed, Each}
use Rattle.answer.specs.Skeleton.{hole, fill, decide}
use Rattle.answer.proofs.SkeletonLaws.{fill-all, count-all, fill-decide, decide-count, Three, three, three-of}
use Rattle.answer.proofs.LooseLaws.{close-front}
use Rattle.clauses.proofs.SolidLaws.{Frame}

-- a row in a state with k open places
pub record Seat (k : ℕ) (x : List ℕ) : Type 0 where
  pub terms : Terms k x
  pub short : length x ≤ 32
  pub symbols : ¬ Memᴰ hole x

-- and below a branch with this cell
pub record SeatAt (k c : ℕ) (x : List ℕ) : Type 0 where
  pub seat : Seat (arity c + k) x
  pub solid : c ≢ hole

mem-close : (i : ℕ) (xs : List ℕ) (c : ℕ) → Memᴰ c (close i xs) → Memᴰ c xs
unfolding close
mem-close i [] c m = m
mem-close zero (d ∷ xs) c m = Memᴰ.tail m
mem-close (suc i) (d ∷ xs) c m = ⊎_elim (λ e. Memᴰ.head e) (λ q. Memᴰ.tail (mem-close (arity d + i) xs c q)) (Memᴰ.cases_cons m)

mem-root : {n : ℕ} {xs : List ℕ} (i : ℕ) → Terms n xs → i < n → Memᴰ (root i xs) xs
unfolding root
mem-root i none h = absurd (let z : ⊥ = omega arith in z)
mem-root zero (more t) h = Memᴰ.head refl
mem-root (suc i) (more {c} t) h = Memᴰ.tail (mem-root (arity c + i) t (omega arith))

pub seat-close : (k i : ℕ) → i ≤ k → (x : List ℕ) → Seat (suc k) x → SeatAt k (root i x) (close i x)
seat-close k i h x s =
    record {
      seat = record {
        terms = close-terms i s.terms h;
        short = omega (arith, s.short, close-length i s.terms (omega arith));
        symbols = λ q. s.symbols (mem-close i x hole q);
      };
      solid = λ e. s.symbols (subst (λ (c : ℕ). Memᴰ c x) e (mem-root i s.terms (omega arith)));
    }

pub few-places : (k : ℕ) (rows : List (List ℕ)) → All (Seat k) rows → 0 < length rows → k ≤ 32
few-places k [] a h = absurd (let z : ⊥ = omega arith in z)
few-places k (r ∷ rs) a h = let t = terms-long a.0.terms in let s = a.0.short in omega arith

pub one-solid : (k c : ℕ) (rows : List (List ℕ)) → All (SeatAt k c) rows → 0 < length rows → c ≢ hole
one-solid k c [] a h = absurd (let z : ⊥ = omega arith in z)
one-solid k c (r ∷ rs) a h = a.0.solid

pub seats : (k c : ℕ) (rows : List (List ℕ)) → All (SeatAt k c) rows → All (Seat (arity c + k)) rows
seats k c rows a = all-each (SeatAt k c) (Seat (arity c + k)) (λ x y. y.seat) rows a

-- a row, by what 01 calls a head
no_cell : ¬ Cell hole
unfolding hole values_at
no_cell c = (cell-accepted hole).0 c refl

pub seat-row : (w : ℕ) (r : List ℕ) → Head w r → Seat w r
seat-row w r h = record { terms = h.terms; short = h.short; symbols = λ m. no_cell (h.cells hole m) }

-- The rows of some runs, one run after another, each row with its place decided again.
abbrev pub expand : (ℕ → List ℕ → List ℕ) → List Run → List (List ℕ)
expand f [] = []
expand f (g ∷ gs) = map (f g.cell) g.rows ++ expand f gs

join-expand : (f : ℕ → List ℕ → List ℕ) (c : ℕ) (r : List ℕ) (gs : List Run) → expand f (join c r gs) ≡ f c r ∷ expand f gs
join-expand f c r [] = refl
join-expand f c r (g ∷ gs) = go (agree c g.cell) refl
  where
    go : (b : Bool) → agree c g.cell ≡ b → expand f (join_if b c r g gs) ≡ f c r ∷ expand f (g ∷ gs)
    go true e = ap (λ (d : ℕ). f d r ∷ expand f (g ∷ gs)) (sym (agree-eq c g.cell e))
    go false e = refl

-- those of the runs at a place are the rows themselves
pub runs-expand : (f : ℕ → List ℕ → List ℕ) (h : List ℕ → List ℕ) (i : ℕ) (F : List ℕ → Type 0)
    → ((r : List ℕ) → F r → f (root i r) (close i r) ≡ h r) → (rows : List (List ℕ)) → All F rows → expand f (runs i rows) ≡ map h rows
runs-expand f h i F q [] a = refl
runs-expand f h i F q (r ∷ rs) a = join-expand f (root i r) (close i r) (runs i rs) ∙ ap₂ ◌∷◌ (q r a.0) (runs-expand f h i F q rs a.1)

-- a run of several rows has a symbol
abbrev pub Fixed : List Run → Type 0
Fixed gs = All (λ (g : Run). 2 ≤ length g.rows → is_var g.cell ≡ false) gs

join-fixed : (c : ℕ) (r : List ℕ) (gs : List Run) → Fixed gs → Fixed (join c r gs)
join-fixed c r [] a = (λ h. absurd (let z : ⊥ = omega arith in z), tt)
join-fixed c r (g ∷ gs) a = go (agree c g.cell) refl
  where
    go : (b : Bool) → agree c g.cell ≡ b → Fixed (join_if b c r g gs)
    go true e = (λ h. ap is_var (sym (agree-eq c g.cell e)) ∙ agree-fixed c g.cell e, a.1)
    go false e = (λ h. absurd (let z : ⊥ = omega arith in z), a)

pub runs-fixed : (i : ℕ) (rows : List (List ℕ)) → Fixed (runs i rows)
runs-fixed i [] = tt
runs-fixed i (r ∷ rs) = join-fixed (root i r) (close i r) (runs i rs) (runs-fixed i rs)

-- a place decided, and filled again
pub refill : (i j : ℕ) (K x : List ℕ) → Seat (i + suc j) x → fill (decide i (root i x) K) (close i x) ≡ fill K x
refill i j K x s =
    let o = one_cell (back-terms i (suc j) x s.terms) in
    let c = o.0 in
    let r = close-front i x c o.1 o.2 in
    let w : x ≡ front i x ++ (c ∷ o.1) = sym (front-back i x) ∙ ap (λ (l : List ℕ). front i x ++ l) o.2 in
    let n : c ≢ hole = λ q. s.symbols (subst (λ (l : List ℕ). Memᴰ hole l) (sym w) (Memᴰ.append_right (front i x) (Memᴰ.head (sym q)))) in
    let f = front-back (arity c) o.1 in
    let d = fill-decide i c K (back (arity c) o.1) n (front-terms i (suc j) x s.terms) (front-terms (arity c) j o.1 o.3) in
    rw (r.0, r.1) ((rw f at d) ∙ ap (fill K) (sym w))

abbrev pub blank : ℕ → List ℕ
blank k = replicate (suc k) hole

-- decided in the predicate's own head, and then in the head above it
two-fills : (i c k : ℕ) (K y : List ℕ) → i ≤ k → c ≢ hole → Terms (arity c + k) y
    → (fill K (fill (decide i c (blank k)) y) ≡ fill (decide i c K) y) × Terms (suc k) (fill (decide i c (blank k)) y)
two-fills i c k K y h n t =
    let e : arity c + k ≡ i + (arity c + (k - i)) = omega arith in
    go (three-of i (arity c) (k - i) (rw e at t))
  where
    go : {y : List ℕ} → Three i (arity c) (k - i) y
        → (fill K (fill (decide i c (blank k)) y) ≡ fill (decide i c K) y) × Terms (suc k) (fill (decide i c (blank k)) y)
    go (three {A} {args} {B} ta tg tb) =
        let q : i + suc (k - i) ≡ suc k = omega arith in
        let w : Terms (suc k) (A ++ (c ∷ (args ++ B))) = rw q at (Terms-++ ta (more (Terms-++ tg tb))) in
        let z : fill (decide i c (blank k)) (A ++ (args ++ B)) ≡ A ++ (c ∷ (args ++ B)) = fill-decide i c (blank k) B n ta tg ∙ fill-all (suc k) w in
        rw z (sym (fill-decide i c K B n ta tg), w)

-- the same for all rows of some runs
abbrev pub InRuns : (i k : ℕ) (K : List ℕ) → List Run → Type 0
InRuns i k K gs =
    (map (fill K) (expand (λ (c : ℕ). fill (decide i c (blank k))) gs) ≡ expand (λ (c : ℕ). fill (decide i c K)) gs)
    × All (Terms (suc k)) (expand (λ (c : ℕ). fill (decide i c (blank k))) gs)

pub map-expand : (i k : ℕ) (K : List ℕ) → i ≤ k → (gs : List Run) → Each (SeatAt k) gs → InRuns i k K gs
map-expand i k K h [] a = (refl, tt)
map-expand i k K h (g ∷ gs) a = rows g.rows a.0 (map-expand i k K h gs a.1)
  where
    rows : (rs : List (List ℕ)) → All (SeatAt k g.cell) rs → InRuns i k K gs
        → (map (fill K) (map (fill (decide i g.cell (blank k))) rs ++ expand (λ (c : ℕ). fill (decide i c (blank k))) gs)
        ≡ map (fill (decide i g.cell K)) rs ++ expand (λ (c : ℕ). fill (decide i c K)) gs)
        × All (Terms (suc k)) (map (fill (decide i g.cell (blank k))) rs ++ expand (λ (c : ℕ). fill (decide i c (blank k))) gs)
    rows [] b ih = ih
    rows (r ∷ rs) b ih =
        let t = two-fills i g.cell k K r h b.0.solid b.0.seat.terms in
        let u = rows rs b.1 ih in
        (ap₂ ◌∷◌ t.0 u.0, (t.1, u.1))

pub below-count : (i c k : ℕ) (K : List ℕ) → count hole K ≡ suc k → i ≤ k → c ≢ hole → count hole (decide i c K) ≡ arity c + k
below-count i c k K e h n = let y = decide-count i c K n (omega arith) in omega arith

pub frame-blank : (n : ℕ) → Frame n (replicate n hole)
frame-blank n X t = let u : Terms n X = rw (count-all n) at t in rw (fill-all n u) u

pub frame_below : (w i c k : ℕ) (K : List ℕ) → count hole K ≡ suc k → i ≤ k → c ≢ hole → Frame w K → Frame w (decide i c K)
frame_below w i c k K e h n f X t =
    let o : count hole (decide i c K) ≡ i + (arity c + (k - i)) = omega (arith, below-count i c k K e h n) in
    go (three-of i (arity c) (k - i) (rw o at t))
  where
    go : {X : List ℕ} → Three i (arity c) (k - i) X → Terms w (fill (decide i c K) X)
    go (three {A} {args} {B} ta tg tb) =
        let q : i + suc (k - i) ≡ count hole K = omega arith in
        let u : Terms (count hole K) (A ++ (c ∷ (args ++ B))) = rw q at (Terms-++ ta (more (Terms-++ tg tb))) in
        rw (fill-decide i c K B n ta tg) (f (A ++ (c ∷ (args ++ B))) u)
