-- Parts of the rows: each run stands on one, in order, and what the whole agrees on its parts agree on.
use mathlib.Core.Path.{◌≡◌, refl, sym, ap, ◌∙◌}
use mathlib.Core.Bool.{Bool, true, false}
use mathlib.Core.Logic.{◌⊎◌, inl, inr}
use mathlib.Core.List.{List, [], ◌∷◌, ◌++◌, map}
use Prim.Native.Nat.{ℕ, zero, suc, ◌+◌, ◌≤◌, ◌<◌}
use native.Mathlib.Omega.{arith}
use native.Mathlib.Nat.{zero-add, suc-add}
use lib.ListN.{length, take, drop, take-append-drop}
use lib.Seq.{slice, length-slice, length-take-le, drop-append-le, take-length, take-take, drop-drop, take-nil}
use lib.Dec.{leb}
use borrow.Author.Tests.{leb-true, leb-false}
use Rattle.cell.specs.Cell.{is_var}
use Rattle.term.specs.Terms.{root, close}
use Rattle.table.specs.All.{All}
use Rattle.plan.specs.Runs.{Run, run, agree, join, join_if, group}
use Rattle.plan.proofs.RunsLaws.{agree-eq, agree-fixed}
use Rattle.least.specs.Least.{Agree}
use Rattle.table.proofs.AllLaws.{all_take, all_drop}

module _ {A : Type 0} where
  take-map : (f : A → A) (n : ℕ) (xs : List A) → take n (map f xs) ≡ map f (take n xs)
  take-map f zero xs = refl
  take-map f (suc n) [] = refl
  take-map f (suc n) (x ∷ xs) = ap (λ (ys : List A). f x ∷ ys) (take-map f n xs)

  drop-map : (f : A → A) (n : ℕ) (xs : List A) → drop n (map f xs) ≡ map f (drop n xs)
  drop-map f zero xs = refl
  drop-map f (suc n) [] = refl
  drop-map f (suc n) (x ∷ xs) = drop-map f n xs

  pub slice-map : (f : A → A) (o t : ℕ) (xs : List A) → slice o t (map f xs) ≡ map f (slice o t xs)
  slice-map f o t xs = rw (take-map f t xs) (drop-map f o (take t xs))

  pub take-drop : (o n : ℕ) (xs : List A) → take n (drop o xs) ≡ drop o (take (o + n) xs)
  take-drop zero n xs = rw zero-add
  take-drop (suc o) n [] = rw (take-nil n, take-nil (suc o + n))
  take-drop (suc o) n (x ∷ xs) = rw suc-add (take-drop o n xs)

  -- a part of a part
  pub slice-slice : (o t o' t' : ℕ) (xs : List A) → o + t' ≤ t → slice o' t' (slice o t xs) ≡ slice (o + o') (o + t') xs
  slice-slice o t o' t' xs h = rw (take-drop o t' (take t xs), take-take (o + t') t xs h, drop-drop o' o (take (o + t') xs))

  -- a part and the next are a part
  pub slice-both : (a b c : ℕ) (xs : List A) → a ≤ b → b ≤ c → c ≤ length xs → slice a c xs ≡ slice a b xs ++ slice b c xs
  slice-both a b c xs h h' l =
      let t : take b (take c xs) ≡ take b xs = take-take b c xs h' in
      ap (drop a) (sym (take-append-drop b (take c xs)))
      ∙ drop-append-le a (take b (take c xs)) (slice b c xs) (omega (arith, length-take-le b (take c xs) (omega (arith, length-take-le c xs l))))
      ∙ ap (λ (ys : List A). drop a ys ++ slice b c xs) t

pub agree-slice : (i c o t : ℕ) (rows : List (List ℕ)) → o < t → t ≤ length rows → Agree i c rows → Agree i c (slice o t rows)
agree-slice i c o t rows h b a = record {
  cells = all_drop (λ (r : List ℕ). root i r ≡ c) o (take t rows) (all_take (λ (r : List ℕ). root i r ≡ c) t rows a.cells);
  fixed = fix a.fixed;
  some = omega (arith, length-slice o t rows b);
}
  where
    fix : (is_var c ≡ false) ⊎ (length rows ≤ 1) → (is_var c ≡ false) ⊎ (length (slice o t rows) ≤ 1)
    fix (inl e) = inl e
    fix (inr e) = inr (omega (arith, length-slice o t rows b))

-- a run stands on the rows from o on, as many as it has
pub record PartOf (cell : List ℕ → ℕ) (left : List ℕ → List ℕ) (rows : List (List ℕ)) (o : ℕ) (g : Run) : Type 0 where
  pub is : g.rows ≡ map left (slice o (o + length g.rows) rows)
  pub cells : All (λ (r : List ℕ). cell r ≡ g.cell) (slice o (o + length g.rows) rows)
  pub fixed : (is_var g.cell ≡ false) ⊎ (length g.rows ≤ 1)
  pub some : 0 < length g.rows
  pub inside : o + length g.rows ≤ length rows

module _ (cell : List ℕ → ℕ) (left : List ℕ → List ℕ) where
  -- runs that stand one after another, the first of them from o on
  abbrev pub Parts : List (List ℕ) → ℕ → List Run → Type 0
  Parts rows o [] = Unit {0}
  Parts rows o (g ∷ gs) = PartOf cell left rows o g × Parts rows (o + length g.rows) gs

  parts-shift : (r : List ℕ) (rows : List (List ℕ)) (o : ℕ) (gs : List Run) → Parts rows o gs → Parts (r ∷ rows) (suc o) gs
  parts-shift r rows o [] p = tt
  parts-shift r rows o (g ∷ gs) p =
      let e : suc o + length g.rows ≡ suc (o + length g.rows) = suc-add o (length g.rows) in (
        record { is = rw e p.0.is; cells = rw e p.0.cells; fixed = p.0.fixed; some = p.0.some; inside = omega (arith, p.0.inside) },
        rw e (parts-shift r rows (o + length g.rows) gs p.1),
      )

  single : (r : List ℕ) (rows : List (List ℕ)) → PartOf cell left (r ∷ rows) 0 (run (cell r) (left r ∷ []))
  single r rows = record { is = refl; cells = (refl, tt); fixed = inr (omega arith); some = omega arith; inside = omega arith }

  join-parts : (r : List ℕ) (rows : List (List ℕ)) (gs : List Run) → Parts rows 0 gs → Parts (r ∷ rows) 0 (join (cell r) (left r) gs)
  join-parts r rows [] p = (single r rows, tt)
  join-parts r rows (g ∷ gs) p = go (agree (cell r) g.cell) refl
    where
      go : (b : Bool) → agree (cell r) g.cell ≡ b → Parts (r ∷ rows) 0 (join_if b (cell r) (left r) g gs)
      go true e =
          let ec : cell r ≡ g.cell = agree-eq (cell r) g.cell e in
          let z : 0 + length g.rows ≡ length g.rows = zero-add (length g.rows) in
          let z' : 0 + suc (length g.rows) ≡ suc (length g.rows) = zero-add (suc (length g.rows)) in (
            record {
              is = rw z' (ap (λ (x : List (List ℕ)). left r ∷ x) (rw z at p.0.is));
              cells = rw z' (ec, rw z at p.0.cells);
              fixed = inl (rw ec at (agree-fixed (cell r) g.cell e));
              some = omega arith;
              inside = omega (arith, p.0.inside);
            },
            rw z' (parts-shift r rows (length g.rows) gs (rw z at p.1)),
          )
      go false e = (single r rows, parts-shift r rows 0 (g ∷ gs) p)

  pub group-parts : (rows : List (List ℕ)) → Parts rows 0 (group cell left rows)
  group-parts [] = tt
  group-parts (r ∷ rs) = join-parts r rs (group cell left rs) (group-parts rs)

module _ (p o : ℕ) (g : Run) (rows : List (List ℕ)) (q : PartOf (root p) (close p) rows o g) where
  size : length (slice o (o + length g.rows) rows) ≡ length g.rows
  size = length-slice o (o + length g.rows) rows q.inside ∙ omega arith

  -- the rows of a run agree at its place
  pub part-agree : Agree p g.cell (slice o (o + length g.rows) rows)
  part-agree = record { cells = q.cells; fixed = rw size q.fixed; some = rw size q.some }

  -- where the rows do not agree at a place, no run there has them all
  pub part-proper : (Agree p g.cell rows → ⊥) → length g.rows < length rows
  part-proper n = go (leb (length rows) (length g.rows)) refl
    where
      go : (b : Bool) → leb (length rows) (length g.rows) ≡ b → length g.rows < length rows
      go true e =
          let el : o + length g.rows ≡ length rows = omega (arith, leb-true (length rows) (length g.rows) e, q.inside) in
          let eo : o ≡ 0 = omega (arith, leb-true (length rows) (length g.rows) e, q.inside) in
          let ep : slice o (o + length g.rows) rows ≡ rows = rw (el, eo) (take-length rows) in
          absurd (n (rw ep at part-agree))
      go false e = leb-false (length rows) (length g.rows) e
