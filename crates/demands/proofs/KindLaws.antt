-- Lists of columns, as the page says them (specs/Kind) and as they are read (crate plan, specs/Named): the steps for W-213.
use Prim.Native.Nat.{ℕ, suc, ◌≤◌, ◌<◌}
use mathlib.Core.Path.{◌≡◌, refl, sym, ◌∙◌}
use mathlib.Core.Logic.{◌↔◌, ⊎_elim, inl, inr}
use mathlib.Core.Bool.{Bool, true, false, true≢false, ◌||◌}
use mathlib.Core.List.Memᴰ
use mathlib.Core.List.{List, [], ◌∷◌, Memᴰ}
use native.Mathlib.Omega.{arith}
use native.Mathlib.Decide.{dec_lt}
use lib.Dec.{eqb}
use borrow.Author.Tests.{eqb-true, eq-eqb}
use Rattle.plan.specs.Named.{flags_of, any_past, occurs}
use Rattle.plan.proofs.NamedLaws.{Free}
use Rattle.plan.proofs.ColumnsLaws.{column-exactly, free-columns}
use Rattle.demands.specs.Kind.{There, Missing, SameColumns, NoneOrAll, none_named, all_named}

pub occurs-listed : (c : ℕ) (columns : List ℕ) → occurs c columns ≡ true → Memᴰ c columns
occurs-listed c [] e = absurd (true≢false (sym e))
occurs-listed c (d ∷ columns) e = go (eqb c d) refl e (occurs-listed c columns)
  where
    go : (b : Bool) → eqb c d ≡ b → b || occurs c columns ≡ true → (occurs c columns ≡ true → Memᴰ c columns) → Memᴰ c (d ∷ columns)
    go true q e ih = Memᴰ.head (eqb-true c d q)
    go false q e ih = Memᴰ.tail (ih e)

pub listed-occurs : (c : ℕ) (columns : List ℕ) → Memᴰ c columns → occurs c columns ≡ true
listed-occurs c [] m = absurd (Memᴰ.not-nil m)
listed-occurs c (d ∷ columns) m = ⊎_elim (λ e. rw (eq-eqb c d e)) (λ k. go (eqb c d) (listed-occurs c columns k)) (Memᴰ.cases_cons m)
  where
    go : (b : Bool) → occurs c columns ≡ true → b || occurs c columns ≡ true
    go true e = refl
    go false e = e

-- a list names a column that is not there, or all of them are
pub data Listed (w : ℕ) (columns : List ℕ) : Type 0 where
  one-missing : Missing w columns → Listed w columns
  all_there : There w columns → Listed w columns

pub missing-past : (w : ℕ) (columns : List ℕ) → Missing w columns → any_past w columns ≡ true
missing-past w columns m = (column-exactly w columns).1 (m.column, listed-occurs m.column columns m.listed, m.past)

past-missing : (w : ℕ) (columns : List ℕ) → any_past w columns ≡ true → Missing w columns
past-missing w columns e =
    let c = (column-exactly w columns).0 e in
    record { column = c.0; listed = occurs-listed c.0 columns c.1; past = c.2 }

pub there-past : (w : ℕ) (columns : List ℕ) → There w columns → any_past w columns ≡ false
there-past w columns h = go (any_past w columns) refl
  where
    go : (b : Bool) → any_past w columns ≡ b → any_past w columns ≡ false
    go true e = let m = past-missing w columns e in absurd (omega (arith, m.past, h m.column m.listed))
    go false e = e

pub past-there : (w : ℕ) (columns : List ℕ) → any_past w columns ≡ false → There w columns
past-there w columns e c m = go (dec_lt c w)
  where
    go : Dec (c < w) → c < w
    go (yes h) = h
    go (no h) = absurd (true≢false (sym (missing-past w columns (record { column = c; listed = m; past = omega (arith, h) })) ∙ e))

pub listed : (w : ℕ) (columns : List ℕ) → Listed w columns
listed w columns = go (any_past w columns) refl
  where
    go : (b : Bool) → any_past w columns ≡ b → Listed w columns
    go true e = one-missing (past-missing w columns e)
    go false e = all_there (past-there w columns e)

-- the same numbers occur
pub same-occurs : (columns others : List ℕ) → SameColumns columns others → (c : ℕ) → occurs c columns ≡ occurs c others
same-occurs columns others same c = go (occurs c columns) (occurs c others) refl refl
  where
    go : (a b : Bool) → occurs c columns ≡ a → occurs c others ≡ b → a ≡ b
    go true true p q = refl
    go true false p q = sym (listed-occurs c others ((same c).0 (occurs-listed c columns p))) ∙ q
    go false true p q = sym p ∙ listed-occurs c columns ((same c).1 (occurs-listed c others q))
    go false false p q = refl

-- with none of them named, or all, every place may be chosen
pub free-flags : (w : ℕ) (columns : List ℕ) → NoneOrAll w columns → Free (flags_of w columns) w
free-flags w columns (none_named n) = free-columns columns w (inr (λ c _. none c))
  where
    none : (c : ℕ) → occurs c columns ≡ false
    none c = go (occurs c columns) refl
      where
        go : (b : Bool) → occurs c columns ≡ b → occurs c columns ≡ false
        go true e = absurd (n c (occurs-listed c columns e))
        go false e = e
free-flags w columns (all_named a) = free-columns columns w (inl (λ c h. listed-occurs c columns (a c h)))
