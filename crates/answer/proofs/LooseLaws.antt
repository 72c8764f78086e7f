-- A row under a skeleton, whatever variables it repeats.
use Prim.Native.Nat.{ℕ, zero, suc, ◌+◌, ◌^◌, ◌≤◌, ◌<◌}
use mathlib.Core.Path.{◌≡◌, sym, ◌∙◌, ap, subst}
use mathlib.Core.Logic.{◌≢◌, ⊎_elim}
use mathlib.Core.Bool.{true}
use mathlib.Core.List.Memᴰ
use mathlib.Core.List.{List, [], ◌∷◌, ◌++◌, Memᴰ}
use native.Mathlib.Nat.{zero-add, suc-add}
use native.Mathlib.Omega.{arith}
use lib.ListN.{length, length-append}
use Rattle.cell.specs.Cell.{arity, is_var}
use Rattle.term.specs.Terms.{Terms, front, back, root, close}
use Rattle.term.proofs.TermsLaws.{front-back, front-terms, back-terms, one_cell, Terms-++, terms-long}
use Rattle.table.specs.All.{All}
use Rattle.table.specs.Table.{count}
use Rattle.answer.specs.Skeleton.{hole, fill, decide}
use Rattle.answer.proofs.CountLaws.{count-mem, mem-count}
use Rattle.answer.specs.code.Loose.{RowLike}
use Rattle.answer.specs.Run.{Counts, zero_of, one_of, none_of}
use Rattle.answer.proofs.SkeletonLaws.{fill-decide, decide-count, count-fill, var-no-hole}
use Rattle.answer.specs.code.Loose.{Loose}

pub row-like : {K x : List ℕ} → Loose K x → RowLike (fill K x)
row-like f = record { low = λ c m v. let h = f.low c m v in omega arith }

-- the cell at a place, and the list without it
pub close-front : (i : ℕ) (x : List ℕ) (c : ℕ) (B : List ℕ) → back i x ≡ c ∷ B → (root i x ≡ c) × (close i x ≡ front i x ++ B)
unfolding root close front back
close-front i [] c B e = absurd (let z : ◌≡◌ {A = ℕ} 0 1 = cc in let y : ⊥ = omega arith in y)
close-front zero (d ∷ xs) c B e = (cc, cc)
close-front (suc i) (d ∷ xs) c B e = let r = close-front (arity d + i) xs c B e in (r.0, ap (λ (l : List ℕ). d ∷ l) r.1)

-- a row split at an open place
pub record Split (i c j : ℕ) (x y : List ℕ) : Type 0 where
  pub A : List ℕ
  pub args : List ℕ
  pub B : List ℕ
  pub whole : x ≡ A ++ (c ∷ (args ++ B))
  pub closed : y ≡ A ++ (args ++ B)
  pub t_a : Terms i A
  pub targs : Terms (arity c) args
  pub t_b : Terms j B

split : (i j : ℕ) (x : List ℕ) → Terms (i + suc j) x → Split i (root i x) j x (close i x)
split i j x t =
    let o = one_cell (back-terms i (suc j) x t) in
    let r = close-front i x o.0 o.1 o.2 in
    let f = front-back (arity o.0) o.1 in
    rw r.0
    (record {
      A = front i x;
      args = front (arity o.0) o.1;
      B = back (arity o.0) o.1;
      whole = sym (front-back i x) ∙ ap (λ (l : List ℕ). front i x ++ l) (o.2 ∙ ap (λ (l : List ℕ). o.0 ∷ l) (sym f));
      closed = r.1 ∙ ap (λ (l : List ℕ). front i x ++ l) (sym f);
      t_a = front-terms i (suc j) x t;
      targs = front-terms (arity o.0) j o.1 o.3;
      t_b = back-terms (arity o.0) j o.1 o.3;
    })

mem-mid : {v : ℕ} (c : ℕ) (A B : List ℕ) → Memᴰ v (A ++ B) → Memᴰ v (A ++ (c ∷ B))
mem-mid c A B m = ⊎_elim (λ p. Memᴰ.append_left (c ∷ B) p) (λ q. Memᴰ.append_right A (Memᴰ.tail q)) (Memᴰ.append_cases A m)

-- closing a place of a row is deciding it in the skeleton
module _ (K : List ℕ) (i j : ℕ) (e : count hole K ≡ i + suc j) {x : List ℕ} (f : Loose K x) where
  pub parts : Split i (root i x) j x (close i x)
  parts = split i j x (rw e at f.terms)

  pub no-hole : root i x ≢ hole
  no-hole p = f.symbols (subst (λ (l : List ℕ). Memᴰ hole l) (sym parts.whole) (Memᴰ.append_right parts.A (Memᴰ.head (sym p))))

  pub refill : fill (decide i (root i x) K) (close i x) ≡ fill K x
  refill =
      ap (fill (decide i (root i x) K)) parts.closed ∙ fill-decide i (root i x) K parts.B no-hole parts.t_a parts.targs
      ∙ ap (fill K) (sym parts.whole)

  pub holes : count hole (decide i (root i x) K) ≡ i + (arity (root i x) + j)
  holes = let d = decide-count i (root i x) K no-hole (omega arith) in omega arith

  pub loose-close : Loose (decide i (root i x) K) (close i x)
  loose-close = record {
    terms = rw (holes, parts.closed) (Terms-++ parts.t_a (Terms-++ parts.targs parts.t_b));
    low = λ c m v. f.low c (subst (λ (l : List ℕ). Memᴰ c l) refill m) v;
    short = omega (
      arith,
      f.short,
      ap length parts.whole,
      ap length parts.closed,
      length-append parts.A (root i x ∷ (parts.args ++ parts.B)),
      length-append parts.A (parts.args ++ parts.B),
    );
    symbols = λ m. f.symbols (subst (λ (l : List ℕ). Memᴰ hole l) (sym parts.whole)
        (mem-mid (root i x) parts.A (parts.args ++ parts.B) (subst (λ (l : List ℕ). Memᴰ hole l) parts.closed m)));
  }

pub some-row : (P : List ℕ → Type 0) (rows : List (List ℕ)) → 0 < length rows → All P rows → (x : List ℕ) × P x
some-row P [] l a = absurd (let z : ⊥ = omega arith in z)
some-row P (r ∷ rs) l a = (r, a.0)

pub skeleton-low : {K x : List ℕ} → Loose K x → (c : ℕ) → Memᴰ c K → is_var c ≡ true → c < 2 ^ 15
skeleton-low {K} {x} F c m v =
    F.low c (mem-count c (fill K x) (let e = count-fill c K x (var-no-hole c v) F.terms in let o = count-mem c m in omega arith)) v

pub skeleton-short : {K x : List ℕ} → Loose K x → 2 ^ 15 + count hole K ≤ 2 ^ 16
skeleton-short F = let h = terms-long F.terms in let s = F.short in omega arith

pub counts-++ : {P : List ℕ → Type 0} {xs ys : List (List ℕ)} {m n : ℕ} → Counts P xs m → Counts P ys n → Counts P (xs ++ ys) (m + n)
counts-++ zero_of d = rw zero-add d
counts-++ (one_of p c) d = rw suc-add (one_of p (counts-++ c d))
counts-++ (none_of p c) d = none_of p (counts-++ c d)
