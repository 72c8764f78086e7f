-- What stands at a place of a list; words no two of which are equal; and a word's position, by what stands there.
use Prim.Native.Nat.{ℕ, suc, ◌≤◌, ◌<◌}
use mathlib.Core.Path.{◌≡◌, refl, sym, ap, subst, ◌∙◌}
use mathlib.Core.Bool.{Bool, true, false, cond}
use mathlib.Core.List.{List, [], ◌∷◌, ◌++◌, map, Memᴰ}
use mathlib.Core.Logic.{◌⊎◌, inl, inr}
use native.Mathlib.Omega.{arith}
use native.Mathlib.Decide.{dec_lt}
use lib.ListN.{length}
use Rattle.cell.specs.Same.{same}
use Rattle.grammar.specs.Meaning.{Place, bytes_at, position}
use Rattle.grammar.specs.Numbering.{Words, Nth, here, later, New, First, words_at}
use Rattle.cell.proofs.SameLaws.{same_refl, same-eq, same-differ}

module _ {A : Type 0} where
  pub nth-below : {xs : List A} {k : ℕ} {x : A} → Nth xs k x → k < length xs
  nth-below here = omega arith
  nth-below (later h) = let i = nth-below h in omega arith

  pub nth-one : {xs : List A} {k : ℕ} {x y : A} → Nth xs k x → Nth xs k y → x ≡ y
  nth-one here here = refl
  nth-one (later h) (later g) = nth-one h g

  pub nth_left : {xs : List A} (ys : List A) {k : ℕ} {x : A} → Nth xs k x → Nth (xs ++ ys) k x
  nth_left ys here = here
  nth_left ys (later h) = later (nth_left ys h)

  pub nth_right : (xs : List A) {ys : List A} {k : ℕ} {x : A} → Nth ys k x → (j : ℕ) × Nth (xs ++ ys) j x
  nth_right [] {k = k} h = (k, h)
  nth_right (y ∷ xs) h = let i = nth_right xs h in (suc i.0, later i.1)

  pub nth_seam : (xs : List A) (x : A) (ys : List A) → Nth (xs ++ (x ∷ ys)) (length xs) x
  nth_seam [] x ys = here
  nth_seam (y ∷ xs) x ys = later (nth_seam xs x ys)

  -- among some and one more: among them, or it is the one
  pub nth-added : (xs : List A) {y : A} {k : ℕ} {x : A} → Nth (xs ++ (y ∷ [])) k x → Nth xs k x ⊎ ((k ≡ length xs) × (x ≡ y))
  nth-added [] here = inr (refl, refl)
  nth-added [] (later h) = let i = nth-below h in absurd (omega arith)
  nth-added (z ∷ xs) here = inl here
  nth-added (z ∷ xs) (later h) = go (nth-added xs h)
    where
      go : {y : A} {k : ℕ} {x : A} → Nth xs k x ⊎ ((k ≡ length xs) × (x ≡ y))
          → Nth (z ∷ xs) (suc k) x ⊎ ((suc k ≡ suc (length xs)) × (x ≡ y))
      go (inl g) = inl (later g)
      go (inr e) = inr (ap suc e.0, e.1)

  -- among some and others: among them, or behind them
  pub nth-parts : (xs ys : List A) {k : ℕ} {x : A} → Nth (xs ++ ys) k x → Nth xs k x ⊎ (length xs ≤ k)
  nth-parts [] ys h = inr (omega arith)
  nth-parts (z ∷ xs) ys here = inl here
  nth-parts (z ∷ xs) ys (later h) = go (nth-parts xs ys h)
    where
      go : {k : ℕ} {x : A} → Nth xs k x ⊎ (length xs ≤ k) → Nth (z ∷ xs) (suc k) x ⊎ (suc (length xs) ≤ suc k)
      go (inl g) = inl (later g)
      go (inr l) = inr (omega arith)

  -- what is one of them stands somewhere
  pub mem-nth : {x : A} {xs : List A} → Memᴰ x xs → (k : ℕ) × Nth xs k x
  mem-nth {x = x} (Memᴰ.head {xs = xs} e) = (0, subst (λ (y : A). Nth (y ∷ xs) 0 x) e here)
  mem-nth (Memᴰ.tail m) = let i = mem-nth m in (suc i.0, later i.1)

-- what stands in a changed list
pub nth-map : {A B : Type 0} (f : A → B) {xs : List A} {k : ℕ} {x : A} → Nth xs k x → Nth (map f xs) k (f x)
nth-map f here = here
nth-map f (later h) = later (nth-map f h)

pub nth-unmap : {A B : Type 0} (f : A → B) (xs : List A) {k : ℕ} {y : B} → Nth (map f xs) k y → (x : A) × Nth xs k x × (y ≡ f x)
nth-unmap f [] h = let i = nth-below h in absurd (omega arith)
nth-unmap f (x ∷ xs) here = (x, here, refl)
nth-unmap f (x ∷ xs) (later h) = let i = nth-unmap f xs h in (i.0, later i.1, i.2)

-- A WORD IS THERE, OR IT IS NEW
new-more : {v w : List ℕ} {vs : Words} → (w ≡ v → ⊥) → New vs w → New (v ∷ vs) w
new-more d n k here = d refl
new-more d n k (later {k = j} h) = n j h

pub find : (vs : Words) (w : List ℕ) → ((k : ℕ) × Nth vs k w) ⊎ New vs w
find [] w = inr (λ k h. (let i = nth-below h in omega arith))
find (v ∷ vs) w = go (same w v) refl (find vs w)
  where
    go : (b : Bool) → same w v ≡ b → ((k : ℕ) × Nth vs k w) ⊎ New vs w → ((k : ℕ) × Nth (v ∷ vs) k w) ⊎ New (v ∷ vs) w
    go true e f = inl (0, subst (Nth (v ∷ vs) 0) (sym (same-eq w v e)) here)
    go false e (inl h) = inl (suc h.0, later h.1)
    go false e (inr n) = inr (new-more (same-differ w v e) n)

-- NO TWO OF THE WORDS OF A KIND ARE EQUAL
pub record Parted (Kind : List ℕ → Type 0) (ws : Words) : Type 0 where
  pub one : (j k : ℕ) (w : List ℕ) → Kind w → Nth ws j w → Nth ws k w → j ≡ k

-- any word
abbrev pub Any : List ℕ → Type 0
Any w = Unit {0}

pub parted-none : (Kind : List ℕ → Type 0) → Parted Kind []
parted-none Kind = record { one = λ j k w q h g. (let i = nth-below h in absurd (omega arith)) }

pub parted-added : (Kind : List ℕ → Type 0) (ws : Words) (v : List ℕ) → Parted Kind ws → (Kind v → New ws v) → Parted Kind (ws ++ (v ∷ []))
parted-added Kind ws v p n = record { one = λ j k w q h g. go j k w q (nth-added ws h) (nth-added ws g) }
  where
    go : (j k : ℕ) (w : List ℕ) → Kind w → Nth ws j w ⊎ ((j ≡ length ws) × (w ≡ v)) → Nth ws k w ⊎ ((k ≡ length ws) × (w ≡ v)) → j ≡ k
    go j k w q (inl h) (inl g) = p.one j k w q h g
    go j k w q (inl h) (inr g) = absurd (n (subst Kind g.1 q) j (subst (Nth ws j) g.1 h))
    go j k w q (inr h) (inl g) = absurd (n (subst Kind h.1 q) k (subst (Nth ws k) h.1 g))
    go j k w q (inr h) (inr g) = h.0 ∙ sym g.0

-- A WORD'S POSITION
pub words_long : (t : List ℕ) (vs : List Place) → length (words_at t vs) ≡ length vs
words_long t [] = refl
words_long t (v ∷ vs) = ap suc (words_long t vs)

pub words-added : (t : List ℕ) (vs : List Place) (v : Place) → words_at t (vs ++ (v ∷ [])) ≡ words_at t vs ++ (bytes_at t v ∷ [])
words-added t [] v = refl
words-added t (u ∷ vs) v = ap (λ (ws : Words). bytes_at t u ∷ ws) (words-added t vs v)

pub position-nth : (t w : List ℕ) (vs : List Place) → position t w vs < length vs → Nth (words_at t vs) (position t w vs) w
unfolding position
position-nth t w [] h = absurd (omega arith)
position-nth t w (v ∷ vs) h = go (same w (bytes_at t v)) refl (position-nth t w vs) h
  where
    go : (b : Bool) → same w (bytes_at t v) ≡ b → (position t w vs < length vs → Nth (words_at t vs) (position t w vs) w)
        → cond b 0 (suc (position t w vs)) < suc (length vs) → Nth (bytes_at t v ∷ words_at t vs) (cond b 0 (suc (position t w vs))) w
    go true e f l = subst (Nth (bytes_at t v ∷ words_at t vs) 0) (sym (same-eq w (bytes_at t v) e)) here
    go false e f l = later (f (omega arith))

-- the first of those that are equal
pub position_first : (t : List ℕ) {w : List ℕ} {k : ℕ} (vs : List Place) → Nth (words_at t vs) k w → position t w vs ≤ k
unfolding position
position_first t [] h = let i = nth-below h in absurd (omega arith)
position_first t (v ∷ vs) here = rw (same_refl (bytes_at t v)) (omega arith)
position_first t {w} (v ∷ vs) (later {k = j} h) = go (same w (bytes_at t v)) (position t w vs) j (position_first t vs h)
  where
    go : (b : Bool) (n j : ℕ) → n ≤ j → cond b 0 (suc n) ≤ suc j
    go true n j l = omega arith
    go false n j l = omega arith

pub position-new : (t w : List ℕ) (vs : List Place) → New (words_at t vs) w → length vs ≤ position t w vs
position-new t w vs n = go (dec_lt (position t w vs) (length vs))
  where
    go : Dec (position t w vs < length vs) → length vs ≤ position t w vs
    go (yes l) = absurd (n (position t w vs) (position-nth t w vs l))
    go (no l) = omega arith

-- A WORD FIRST STANDS at one place, which is its position
pub first_one : {ws : Words} {j k : ℕ} {w : List ℕ} → First ws j w → First ws k w → j ≡ k
first_one {j = j} {k} f g = let a = f.least k g.there in let b = g.least j f.there in omega arith

-- with others behind them it stands where it stood; and a new one where it is added
pub first-left : {ws : Words} (vs : Words) {k : ℕ} {w : List ℕ} → First ws k w → First (ws ++ vs) k w
first-left {ws} vs {k} {w} f = record { there = nth_left vs f.there; least = λ j h. by (nth-parts ws vs h) }
  where
    by : {j : ℕ} → Nth ws j w ⊎ (length ws ≤ j) → k ≤ j
    by {j} (inl g) = f.least j g
    by (inr l) = let b = nth-below f.there in omega arith

pub first-seam : (ws : Words) (w : List ℕ) (vs : Words) → New ws w → First (ws ++ (w ∷ vs)) (length ws) w
first-seam ws w vs n = record { there = nth_seam ws w vs; least = λ j h. by (nth-parts ws (w ∷ vs) h) }
  where
    by : {j : ℕ} → Nth ws j w ⊎ (length ws ≤ j) → length ws ≤ j
    by {j} (inl g) = absurd (n j g)
    by (inr l) = l

pub position-there : (t : List ℕ) {w : List ℕ} {k : ℕ} (vs : List Place) → Nth (words_at t vs) k w → First (words_at t vs) (position t w vs) w
position-there t {w} vs h =
    let l = position_first t vs h in
    let b = nth-below h in
    let n = words_long t vs in
    record { there = position-nth t w vs (omega arith); least = λ j g. position_first t vs g }

pub position_at : (t : List ℕ) {w : List ℕ} {k : ℕ} (vs : List Place) → First (words_at t vs) k w → position t w vs ≡ k
position_at t vs h = first_one (position-there t vs h.there) h

-- where no other word is equal, what stands at a place has that position
pub position-one : (t : List ℕ) {w : List ℕ} {k : ℕ} {Kind : List ℕ → Type 0} (vs : List Place) → Parted Kind (words_at t vs) → Kind w
    → Nth (words_at t vs) k w → position t w vs ≡ k
position-one t {w} {k} vs p q h =
    let l : k < length vs = subst (λ (n : ℕ). k < n) (words_long t vs) (nth-below h) in
    let i = position_first t vs h in
    p.one (position t w vs) k w q (position-nth t w vs (omega arith)) h
