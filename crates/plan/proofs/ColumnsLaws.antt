-- A list of columns (02, W-213): which numbers occur in it is all that counts, and with none of them every plan is read as before.
use mathlib.Core.Path.{◌≡◌, refl, sym, ap, ◌∙◌}
use mathlib.Core.Bool.{Bool, true, false, true≢false, not, ◌||◌}
use mathlib.Core.List.{List, [], ◌∷◌}
use mathlib.Core.Logic.{◌↔◌, ◌⊎◌, inl, inr}
use Prim.Native.Nat.{ℕ, zero, suc, ◌+◌, ◌≤◌, ◌<◌}
use native.Mathlib.Omega.{arith}
use lib.Dec.{eqb, leb, eqb-zero-suc, eqb-suc-zero, eqb-suc-suc}
use lib.ListN.{length, replicate, length-replicate, get_or-replicate}
use lib.Seq.{ext_get_or}
use borrow.Author.Tests.{eqb-true, leb-true, le-leb}
use Rattle.cell.specs.Cell.{arity}
use Rattle.term.proofs.Tests.{eqb_same}
use Rattle.refusal.specs.declared.Reason.TheVariants as reason
use Rattle.refusal.specs.Read.{when}
use Rattle.table.specs.Table.{Table, table_of}
use Rattle.table.proofs.ReadLaws.{then-both}
use Rattle.plan.specs.Runs.{Run, runs}
use Rattle.plan.specs.Named.{flag, spread, set_flag, set_flags, flags_of, any_past, occurs}
use Rattle.plan.specs.Check.{Seen, bad_plan, Reader, branches_from, node_from, state_from, plan_with, plan_for, plan_of, columns_for, plan_under}
use Rattle.plan.proofs.NamedLaws.{is-may, Free, no_place, each-place, free-may, free-below}

-- WITH NO COLUMN NAMED, OR ALL: a plan is read as any plan.

abbrev pub Plainly : Reader → Type 0
Plainly below = (fs : List Bool) (k : ℕ) → Free fs k → (rows : List (List ℕ)) (p : ℕ) (xs : List ℕ) → below fs k rows p xs ≡ below [] k rows p xs

branches-plain : (below : Reader) → Plainly below → (fs : List Bool) (i k : ℕ) → i ≤ k → Free fs (suc k) → (gs : List Run) (p : ℕ) (xs : List ℕ)
    → branches_from below fs i k gs p xs ≡ branches_from below [] i k gs p xs
branches-plain below h fs i k l n [] p xs = refl
branches-plain below h fs i k l n (g ∷ gs) p [] = refl
branches-plain below h fs i k l n (g ∷ gs) p (c ∷ ys) =
    let a : ℕ = arity g.cell in
    ap (when (not (eqb c g.cell)) (bad_plan reason.Label p))
    (rw (h (spread i a fs) (a + k) (free-below fs k i a l n) g.rows (suc p) ys)
    (then-both (below [] (a + k) g.rows (suc p) ys) (λ (t : Seen). rw (branches-plain below h fs i k l n gs t.next t.rest))))

-- an index that is no open place is OPEN in both
node-plain : (below : Reader) → Plainly below → (fs : List Bool) (k : ℕ) → Free fs (suc k) → (rows : List (List ℕ)) (p : ℕ) (xs : List ℕ)
    → node_from below fs k rows p xs ≡ node_from below [] k rows p xs
node-plain below h fs k n rows p [] = refl
node-plain below h fs k n rows p (i ∷ xs) = go (leb i k) refl xs
  where
    go : (b : Bool) → leb i k ≡ b → (xs : List ℕ) → node_from below fs k rows p (i ∷ xs) ≡ node_from below [] k rows p (i ∷ xs)
    go false e xs = rw e
    go true e [] = rw (e, is-may fs i (free-may fs (suc k) i n (omega (arith, leb-true i k e))))
    go true e (c ∷ zs) =
        let l = leb-true i k e in
        rw (e, is-may fs i (free-may fs (suc k) i n (omega arith)), branches-plain below h fs i k l n (runs i rows) (suc (suc p)) zs)

pub state-plain : (n : ℕ) → Plainly (state_from n)
unfolding state_from
state-plain zero fs zero h rows p xs = refl
state-plain zero fs (suc k) h rows p xs = refl
state-plain (suc n) fs zero h rows p xs = refl
state-plain (suc n) fs (suc k) h rows p xs = node-plain (state_from n) (state-plain n) fs k h rows p xs

pub plan-free : (fs : List Bool) (T : Table) → Free fs T.width → (p : List ℕ) → plan_with fs T p ≡ plan_for T p
unfolding plan_with
plan-free fs T h p = rw (state-plain 32 fs T.width h T.rows 0 p)

none-set : (w j : ℕ) → flag j (replicate w false) ≡ false
none-set zero j = refl
none-set (suc w) zero = refl
none-set (suc w) (suc j) = none-set w j

-- W-213, with no column named the check is that of any plan
pub plain-under : (t p : List ℕ) → plan_under t [] p ≡ plan_of t p
unfolding set_flags
plain-under t p = then-both (table_of t) (λ (T : Table). plan-free (replicate T.width false) T (no_place (none-set T.width)) p)

-- COLUMN EXACTLY: some number that occurs is not below the width.

or_left : (a b : Bool) → a ≡ true → a || b ≡ true
or_left true b e = refl
or_left false b e = absurd (true≢false (sym e))

or_right : (a b : Bool) → b ≡ true → a || b ≡ true
or_right true b e = refl
or_right false b e = e

past-occurs : (w : ℕ) (columns : List ℕ) → any_past w columns ≡ true → (c : ℕ) × (occurs c columns ≡ true) × (w ≤ c)
past-occurs w [] e = absurd (true≢false (sym e))
past-occurs w (d ∷ columns) e = go (leb w d) refl e (past-occurs w columns)
  where
    go : (b : Bool) → leb w d ≡ b → b || any_past w columns ≡ true → (any_past w columns ≡ true → (c : ℕ) × (occurs c columns ≡ true) × (w ≤ c))
        → (c : ℕ) × (occurs c (d ∷ columns) ≡ true) × (w ≤ c)
    go true q e ih = (d, or_left (eqb d d) (occurs d columns) (eqb_same d), leb-true w d q)
    go false q e ih = let r = ih e in (r.0, or_right (eqb r.0 d) (occurs r.0 columns) r.1, r.2)

occurs-past : (w c : ℕ) (columns : List ℕ) → occurs c columns ≡ true → w ≤ c → any_past w columns ≡ true
occurs-past w c [] e h = absurd (true≢false (sym e))
occurs-past w c (d ∷ columns) e h = go (eqb c d) refl e (λ f. occurs-past w c columns f h)
  where
    go : (b : Bool) → eqb c d ≡ b → b || occurs c columns ≡ true → (occurs c columns ≡ true → any_past w columns ≡ true) → any_past w (d ∷ columns) ≡ true
    go true q e ih = or_left (leb w d) (any_past w columns) (le-leb w d (omega (arith, eqb-true c d q)))
    go false q e ih = or_right (leb w d) (any_past w columns) (ih e)

pub column-exactly : (w : ℕ) (columns : List ℕ) → (any_past w columns ≡ true) ↔ ((c : ℕ) × (occurs c columns ≡ true) × (w ≤ c))
column-exactly w columns = (past-occurs w columns, λ e. occurs-past w e.0 columns e.1 e.2)

-- THE LIST AS A SET: a flag stands where its argument's number occurs.

set-length : (c : ℕ) (fs : List Bool) → length (set_flag c fs) ≡ length fs
set-length c [] = refl
set-length zero (f ∷ fs) = refl
set-length (suc c) (f ∷ fs) = ap suc (set-length c fs)

sets-length : (columns : List ℕ) (fs : List Bool) → length (set_flags columns fs) ≡ length fs
unfolding set_flags
sets-length [] fs = refl
sets-length (c ∷ columns) fs = sets-length columns (set_flag c fs) ∙ set-length c fs

set-flag : (c j : ℕ) (fs : List Bool) → j < length fs → flag j (set_flag c fs) ≡ eqb j c || flag j fs
set-flag c j [] h = absurd (omega arith)
set-flag zero zero (f ∷ fs) h = refl
set-flag zero (suc j) (f ∷ fs) h = rw (eqb-suc-zero j)
set-flag (suc c) zero (f ∷ fs) h = rw (eqb-zero-suc c)
set-flag (suc c) (suc j) (f ∷ fs) h = rw (eqb-suc-suc j c) (set-flag c j fs (omega arith))

pub flags-set : (columns : List ℕ) (j : ℕ) (fs : List Bool) → j < length fs → flag j (set_flags columns fs) ≡ occurs j columns || flag j fs
unfolding set_flags
flags-set [] j fs h = refl
flags-set (c ∷ columns) j fs h =
    flags-set columns j (set_flag c fs) (omega (arith, set-length c fs)) ∙ rw (set-flag c j fs h) (go (eqb j c) (occurs j columns) (flag j fs))
  where
    go : (a b d : Bool) → (b || (a || d)) ≡ ((a || b) || d)
    go true true d = refl
    go true false d = refl
    go false b d = refl

-- where every column is named, and where none is, all flags are one
pub flags-alike : (b : Bool) (columns : List ℕ) (w : ℕ) → ((c : ℕ) → c < w → occurs c columns ≡ b) → flags_of w columns ≡ replicate w b
flags-alike b columns w a =
    let m = length-replicate w false in
    let l = sets-length columns (replicate w false) ∙ m in
    ext_get_or false (flags_of w columns) (replicate w b) (l ∙ sym (length-replicate w b))
    (λ j h.
    let i : j < w = omega (arith, l) in
    flags-set columns j (replicate w false) (omega (arith, m)) ∙ rw (a j i, none-set w j, get_or-replicate w j b false i) (alone b))
  where
    alone : (b : Bool) → b || false ≡ b
    alone true = refl
    alone false = refl

-- so every place may be chosen
pub free-columns : (columns : List ℕ) (w : ℕ) → ((c : ℕ) → c < w → occurs c columns ≡ true) ⊎ ((c : ℕ) → c < w → occurs c columns ≡ false)
    → Free (flags_of w columns) w
free-columns columns w (inl a) = each-place (flags-alike true columns w a)
free-columns columns w (inr n) = no_place (λ j. rw (flags-alike false columns w n) (none-set w j))

-- two lists that name the same columns are refused alike, and have the same flags
module _ (xs ys : List ℕ) (same : (c : ℕ) → occurs c xs ≡ occurs c ys) where
  pub same_flags : (w : ℕ) → flags_of w xs ≡ flags_of w ys
  same_flags w =
      let l = sets-length xs (replicate w false) in
      ext_get_or false (flags_of w xs) (flags_of w ys) (l ∙ sym (sets-length ys (replicate w false)))
      (λ j h. flags-set xs j (replicate w false) (omega (arith, l)) ∙ rw (same j) (sym (flags-set ys j (replicate w false) (omega (arith, l)))))

  same-past : (w : ℕ) → any_past w xs ≡ any_past w ys
  same-past w = go (any_past w xs) (any_past w ys) refl refl
    where
      go : (a b : Bool) → any_past w xs ≡ a → any_past w ys ≡ b → a ≡ b
      go true true p q = refl
      go true false p q = let c = past-occurs w xs p in sym (occurs-past w c.0 ys (sym (same c.0) ∙ c.1) c.2) ∙ q
      go false true p q = let c = past-occurs w ys q in sym p ∙ occurs-past w c.0 xs (same c.0 ∙ c.1) c.2
      go false false p q = refl

  -- W-213, "The caller names such columns": the order of the list and repeats never matter
  pub same-columns : (T : Table) → columns_for T xs ≡ columns_for T ys
  same-columns T = rw (same_flags T.width, same-past T.width)

  pub same-under : (t p : List ℕ) → plan_under t xs p ≡ plan_under t ys p
  same-under t p = then-both (table_of t) (λ (T : Table). rw (same-columns T))
