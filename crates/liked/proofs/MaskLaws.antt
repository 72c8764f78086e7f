-- Every set of columns has its mask: of columns that are there, one below the power of two of the width, and its columns are these.
use Prim.Native.Nat.{ℕ, zero, suc, ◌+◌, ◌^◌, ◌≤◌, ◌<◌}
use mathlib.Core.Path.{◌≡◌, refl, sym, ◌∙◌}
use mathlib.Core.Logic.{⊎_elim}
use mathlib.Core.Bool.{Bool, true, false, true≢false, cond}
use mathlib.Core.List.Memᴰ
use mathlib.Core.List.{List, [], ◌∷◌, Memᴰ}
use native.Mathlib.Omega.{arith}
use native.Mathlib.Decide.{dec_lt}
use Rattle.table.specs.All.{All}
use Rattle.plan.specs.Named.{any_past, occurs}
use Rattle.plan.proofs.ColumnsLaws.{column-exactly}
use Rattle.answer.specs.Run.{Ascends, done, more_of}
use Rattle.answer.specs.Jobs.{bits_of}
use Rattle.answer.proofs.BitsLaws.{bits-mem, bits-few}
use Rattle.liked.specs.Liked.{columns_of}
use Rattle.liked.proofs.ColumnLaws.{columns-named}

-- the columns of a list that are at c or one of so many after it, ascending
ordered : (columns : List ℕ) (c left : ℕ) → List ℕ
ordered columns c zero = []
ordered columns c (suc left) = cond (occurs c columns) (c ∷ ordered columns (suc c) left) (ordered columns (suc c) left)

-- numbers that ascend from further on ascend from here
sooner : {f g : ℕ} {xs : List ℕ} → f ≤ g → Ascends g xs → Ascends f xs
sooner l done = done
sooner {f} l (more_of {x = x} h a) = let k : f ≤ x = omega arith in more_of k a

module _ (columns : List ℕ) where
  ordered-ascends : (c left : ℕ) → Ascends c (ordered columns c left)
  unfolding ordered
  ordered-ascends c zero = done
  ordered-ascends c (suc left) = go (occurs c columns) (ordered-ascends (suc c) left)
    where
      go : (b : Bool) → Ascends (suc c) (ordered columns (suc c) left)
          → Ascends c (cond b (c ∷ ordered columns (suc c) left) (ordered columns (suc c) left))
      go true a = let k : c ≤ c = omega arith in more_of k a
      go false a = sooner (omega arith) a

  ordered-low : (c left n : ℕ) → c + left ≤ n → All (λ x. x < n) (ordered columns c left)
  unfolding ordered
  ordered-low c zero n h = tt
  ordered-low c (suc left) n h = go (occurs c columns) (ordered-low (suc c) left n (omega arith))
    where
      go : (b : Bool) → All (λ x. x < n) (ordered columns (suc c) left)
          → All (λ x. x < n) (cond b (c ∷ ordered columns (suc c) left) (ordered columns (suc c) left))
      go true a = (omega arith, a)
      go false a = a

  ordered-in : (c left d : ℕ) → c ≤ d → d < c + left → occurs d columns ≡ true → Memᴰ d (ordered columns c left)
  unfolding ordered
  ordered-in c zero d l h e = absurd (let z : ⊥ = omega arith in z)
  ordered-in c (suc left) d l h e = go (occurs c columns) refl (dec_lt c d) (λ k. ordered-in (suc c) left d k (omega arith) e)
    where
      same : ¬ (c < d) → d ≡ c
      same n = omega (arith, n)

      go : (b : Bool) → occurs c columns ≡ b → Dec (c < d) → (c < d → Memᴰ d (ordered columns (suc c) left))
          → Memᴰ d (cond b (c ∷ ordered columns (suc c) left) (ordered columns (suc c) left))
      go true q (yes k) below = Memᴰ.tail (below k)
      go true q (no n) below = Memᴰ.head (same n)
      go false q (yes k) below = below k
      go false q (no n) below = absurd (true≢false (sym e ∙ (let z : d ≡ c = same n in rw z q)))

  ordered-from : (c left d : ℕ) → Memᴰ d (ordered columns c left) → (occurs d columns ≡ true) × (d < c + left)
  unfolding ordered
  ordered-from c zero d m = absurd (Memᴰ.not-nil m)
  ordered-from c (suc left) d m = go (occurs c columns) refl m (λ k. (let i = ordered-from (suc c) left d k in (i.0, omega (arith, i.1))))
    where
      go : (b : Bool) → occurs c columns ≡ b → Memᴰ d (cond b (c ∷ ordered columns (suc c) left) (ordered columns (suc c) left))
          → (Memᴰ d (ordered columns (suc c) left) → (occurs d columns ≡ true) × (d < c + suc left))
          → (occurs d columns ≡ true) × (d < c + suc left)
      go true q m below = ⊎_elim (λ e. rw e (q, omega arith)) below (Memᴰ.cases_cons m)
      go false q m below = below m

-- the mask of a list whose columns are all below the width
pub record Mask (width : ℕ) (columns : List ℕ) : Type 0 where
  pub mask : ℕ
  pub small : mask < 2 ^ width
  pub alike : (c : ℕ) → occurs c columns ≡ occurs c (columns_of mask)

pub mask-of : (width : ℕ) (columns : List ℕ) → width ≤ 8 → any_past width columns ≡ false → Mask width columns
mask-of width columns l p = record {
  mask = bits_of xs;
  small = bits-few width up (ordered-low columns 0 width width (omega arith));
  alike = λ c. both c (occurs c columns) (occurs c (columns_of (bits_of xs))) refl refl;
}
  where
    xs : List ℕ
    xs = ordered columns 0 width

    up : Ascends 0 xs
    up = ordered-ascends columns 0 width

    there : (c : ℕ) → occurs c columns ≡ true → c < width
    there c e = go (dec_lt c width)
      where
        go : Dec (c < width) → c < width
        go (yes h) = h
        go (no n) = absurd (true≢false (sym ((column-exactly width columns).1 (c, e, omega (arith, n))) ∙ p))

    into : (c : ℕ) → occurs c columns ≡ true → occurs c (columns_of (bits_of xs)) ≡ true
    into c e =
        let h = there c e in
        (columns-named (bits_of xs) c).1 (omega (arith, h), (bits-mem c xs up).1 (ordered-in columns 0 width c (omega arith) (omega (arith, h)) e))

    back : (c : ℕ) → occurs c (columns_of (bits_of xs)) ≡ true → occurs c columns ≡ true
    back c e = (ordered-from columns 0 width c ((bits-mem c xs up).0 ((columns-named (bits_of xs) c).0 e).1)).0

    both : (c : ℕ) (a b : Bool) → occurs c columns ≡ a → occurs c (columns_of (bits_of xs)) ≡ b → a ≡ b
    both c true true q r = refl
    both c true false q r = sym (into c q) ∙ r
    both c false true q r = sym q ∙ back c r
    both c false false q r = refl
