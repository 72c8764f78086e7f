-- Cells pass the tests exactly when they are cells of 01 whose variables are numbered 0, 1, 2 in order of first appearance.
use mathlib.Core.Path.{◌≡◌, refl, sym, ◌∙◌, ap}
use mathlib.Core.Logic.{◌≢◌, ⊎_elim, by_cases}
use mathlib.Core.Bool.{Bool, true, false}
use mathlib.Core.List.Memᴰ
use mathlib.Core.List.{List, [], ◌∷◌, Memᴰ}
use Prim.Native.Nat.{ℕ, zero, suc, ◌+◌, ◌≤◌, ◌<◌}
use native.Mathlib.Decide.{dec_lt}
use native.Mathlib.Omega.{arith}
use lib.Dec.{eqb}
use borrow.Author.Tests.{ne_eqb, eq-eqb}
use Rattle.cell.specs.Cell.{Cell, Values, values, values_at, is_var}
use Rattle.cell.specs.Cell as cell-specs
use Rattle.cell.proofs.CellLaws.{Reading, a-variable, no_cell, reading, cell-accepted, is_var-kind}
use Rattle.cell.proofs.CellLaws as cell_laws
use Rattle.refusal.specs.Refusal.{Refused}
use Rattle.refusal.specs.Read.{Read, read, refuse, and_then}
use Rattle.table.specs.Table.{count, appear, up_from}
use Rattle.table.specs.code.Looks.{cell_from, cells_from}
use Rattle.table.proofs.ReadLaws.{first}
use Rattle.table.proofs.LooksLaws as looks

-- every way one cell can come out of the tests
pub data Seen (c vars : ℕ) : Read ℕ → Type 0 where
  symbol : Cell c → is_var c ≡ false → Seen c vars (read vars)
  new : Cell c → is_var c ≡ true → c ≡ vars → Seen c vars (read (suc vars))
  old : Cell c → is_var c ≡ true → c < vars → Seen c vars (read vars)
  bad : {f : Refused} → ¬ Cell c → Seen c vars (refuse f)
  fresh : {f : Refused} → is_var c ≡ true → vars < c → Seen c vars (refuse f)

module _ (row : Bool) (c vars p : ℕ) where
  -- an allowed cell, by its kind
  allowed : {v : Values} → values_at c ≡ v → v.kind < 3 → Cell c × (is_var c ≡ eqb v.kind 0)
  allowed e h =
      let q : (values_at c).kind ≢ 3 = λ z. omega (arith, ap (λ (v : Values). v.kind) e) in
      ((cell-accepted c).1 q, rw e at (is_var-kind c q))

  seen-variable : values_at c ≡ values 0 0 c → Seen c vars (cell_from row c vars p)
  seen-variable e =
      let a = allowed e (omega arith) in
      by_cases (dec_lt vars c)
      (λ (l : vars < c). rw (looks.fresh row c vars p e l) (fresh a.1 l))
      (λ l. by_cases (dec_lt c vars)
      (λ (m : c < vars). rw (looks.again row c vars p e m) (old a.0 a.1 m))
      (λ m. let q : c ≡ vars = omega arith in rw (looks.new row c vars p e q) (new a.0 a.1 q)))

  seen_as : {v : Values} → Reading c v → values_at c ≡ v → Seen c vars (cell_from row c vars p)
  seen_as (a-variable k m) e = let n : cell-specs.number_of c ≡ c = omega arith in seen-variable (rw n at e)
  seen_as (cell_laws.a-name k m) e = let a = allowed e (omega arith) in rw (looks.a-name row c vars p e) (symbol a.0 a.1)
  seen_as (cell_laws.a-number k m) e = let a = allowed e (omega arith) in rw (looks.a-number row c vars p e) (symbol a.0 a.1)
  seen_as (no_cell n) e = rw (looks.not-cell row c vars p e) (bad n)

  pub seen : Seen c vars (cell_from row c vars p)
  seen = seen_as (reading c) refl

-- the variables met so far, the last first
unfoldable pub down : ℕ → List ℕ
down zero = []
down (suc n) = n ∷ down n

met-new : (c n : ℕ) → n ≤ c → count c (down n) ≡ 0
unfolding down count
met-new c zero h = refl
met-new c (suc n) h = rw (ne_eqb c n (λ e. omega arith), met-new c n (omega arith))

met-old : (c n : ℕ) → c < n → count c (down n) ≡ 1
unfolding down count
met-old c zero h = absurd (omega arith)
met-old c (suc n) h =
    by_cases (dec_lt c n)
    (λ (l : c < n). rw (ne_eqb c n (λ e. omega arith), met-old c n l))
    (λ l. let e : c ≡ n = omega arith in rw (eq-eqb c n e, met-new c n (omega arith)))

-- the first appearances in a list with one more cell in front
module _ (c : ℕ) (ys : List ℕ) where
  appear-symbol : (ms : List ℕ) → is_var c ≡ false → appear ms (c ∷ ys) ≡ appear ms ys
  unfolding appear
  appear-symbol ms i = rw i

  appear-first : (n : ℕ) → is_var c ≡ true → n ≤ c → appear (down n) (c ∷ ys) ≡ c ∷ appear (c ∷ down n) ys
  unfolding appear
  appear-first n i h = rw (i, met-new c n h)

  appear-new : (n : ℕ) → is_var c ≡ true → c ≡ n → appear (down n) (c ∷ ys) ≡ n ∷ appear (down (suc n)) ys
  unfolding down
  appear-new n i e = appear-first n i (omega arith) ∙ rw e

  appear-old : (n : ℕ) → is_var c ≡ true → c < n → appear (down n) (c ∷ ys) ≡ appear (down n) ys
  unfolding appear
  appear-old n i h = rw (i, met-old c n h)

-- what the tests ask of the cells that come after so many variables, of which there are v in the end
pub record Sound (ys : List ℕ) (vars v : ℕ) : Type 0 where
  pub cells : (c : ℕ) → Memᴰ c ys → Cell c
  pub more : ℕ
  pub total : v ≡ vars + more
  pub order : appear (down vars) ys ≡ up_from vars more

-- the numbers from n on begin with n
up_first : (n a c : ℕ) {l : List ℕ} → c ∷ l ≡ up_from n a → (m : ℕ) × (a ≡ suc m) × (c ≡ n) × (l ≡ up_from (suc n) m)
unfolding up_from
up_first n zero c e = absurd (let z : ◌≡◌ {A = ℕ} 0 1 = cc in omega arith)
up_first n (suc m) c e = (m, refl, cc, cc)

up_none : (n a : ℕ) → [] ≡ up_from n a → a ≡ 0
unfolding up_from
up_none n zero e = refl
up_none n (suc a) e = absurd (let z : ◌≡◌ {A = ℕ} 0 1 = cc in omega arith)

good-cells : {c : ℕ} {ys : List ℕ} → Cell c → ((d : ℕ) → Memᴰ d ys → Cell d) → (d : ℕ) → Memᴰ d (c ∷ ys) → Cell d
good-cells l h d m = ⊎_elim (λ e. rw e l) (h d) (Memᴰ.cases_cons m)

module _ {c : ℕ} {ys : List ℕ} {vars : ℕ} where
  -- a cell that passes, put in front of sound cells, and taken off
  sound-put : {v u : ℕ} → Seen c vars (read u) → Sound ys u v → Sound (c ∷ ys) vars v
  unfolding up_from
  sound-put (symbol l i) s = record {
    cells = good-cells l s.cells;
    more = s.more;
    total = s.total;
    order = appear-symbol c ys (down vars) i ∙ s.order;
  }
  sound-put (new l i e) s = record {
    cells = good-cells l s.cells;
    more = suc s.more;
    total = omega (arith, s.total);
    order = appear-new c ys vars i e ∙ ap (λ (q : List ℕ). vars ∷ q) s.order;
  }
  sound-put (old l i h) s = record {
    cells = good-cells l s.cells;
    more = s.more;
    total = s.total;
    order = appear-old c ys vars i h ∙ s.order;
  }

  sound-take : {v u : ℕ} → Seen c vars (read u) → Sound (c ∷ ys) vars v → Sound ys u v
  sound-take (symbol l i) s = record {
    cells = λ d m. s.cells d (Memᴰ.tail m);
    more = s.more;
    total = s.total;
    order = sym (appear-symbol c ys (down vars) i) ∙ s.order;
  }
  sound-take (new l i e) s =
      let f = up_first vars s.more vars (sym (appear-new c ys vars i e) ∙ s.order) in
      record {
        cells = λ d m. s.cells d (Memᴰ.tail m);
        more = f.0;
        total = omega (arith, s.total, f.1);
        order = f.3;
      }
  sound-take (old l i h) s = record {
    cells = λ d m. s.cells d (Memᴰ.tail m);
    more = s.more;
    total = s.total;
    order = sym (appear-old c ys vars i h) ∙ s.order;
  }

  -- no cell that is turned away stands in front of sound cells
  sound-not : {v : ℕ} {f : Refused} → Seen c vars (refuse f) → Sound (c ∷ ys) vars v → ⊥
  sound-not (bad n) s = n (s.cells c (Memᴰ.head refl))
  sound-not (fresh i h) s = omega (arith, (up_first vars s.more c (sym (appear-first c ys vars i (omega arith)) ∙ s.order)).2)

pub cells-sound : (row : Bool) (ys : List ℕ) (vars p : ℕ) {v : ℕ} → cells_from row ys vars p ≡ read v → Sound ys vars v
unfolding cells_from appear up_from
cells-sound row [] vars p {v} e = record {
  cells = λ c m. absurd (Memᴰ.not-nil m);
  more = 0;
  total = let q : vars ≡ v = cc in omega arith;
  order = refl;
}
cells-sound row (c ∷ ys) vars p e =
    let f = first (cell_from row c vars p) (λ (u : ℕ). cells_from row ys u (suc p)) e in
    sound-put (rw f.1 at (seen row c vars p)) (cells-sound row ys f.0 (suc p) f.2)

pub sound-cells : (row : Bool) (ys : List ℕ) (vars p : ℕ) {v : ℕ} → Sound ys vars v → cells_from row ys vars p ≡ read v
unfolding cells_from appear
sound-cells row [] vars p {v} s = let q : v ≡ vars = omega (arith, s.total, up_none vars s.more s.order) in rw q
sound-cells row (c ∷ ys) vars p {v} s = go (cell_from row c vars p) (seen row c vars p) (λ u k. sound-cells row ys u (suc p) (sound-take k s))
  where
    go : (r : Read ℕ) → Seen c vars r → ((u : ℕ) → Seen c vars (read u) → cells_from row ys u (suc p) ≡ read v)
        → and_then r (λ (u : ℕ). cells_from row ys u (suc p)) ≡ read v
    go (read u) k h = h u k
    go (refuse f) k h = absurd (sound-not k s)
