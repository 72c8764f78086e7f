-- What a list of goals tries together: added up goal by goal, from the first on.
use Prim.Native.Nat.{ℕ, suc, ◌+◌, ◌-◌, ◌^◌, ◌≤◌, ◌<◌}
use mathlib.Core.Path.{◌≡◌, refl, sym, ◌∙◌, ap}
use mathlib.Core.List.{List, [], ◌∷◌}
use native.Mathlib.Omega.{arith}
use lib.ListN.{length, get_or, drop, length-drop}
use lib.Seq.{drop-cons}
use Rattle.answer.specs.Jobs.{Asked}
use Rattle.answer.specs.declared.Job.{Job}
use Rattle.answer.proofs.JobsLaws.{asked-fixed}
use Rattle.sums.specs.Sums.{held, up_by}
use Rattle.sums.proofs.HeldLaws.{held_up, held_all, held_none}
use Rattle.shift.specs.Totals.{asks, goals_in, Tries, none, more, TriesInAll}

-- the goals from the i-th word on
goals-more : (list : List ℕ) (i : ℕ) → 1 < length list - i
    → goals_in (drop i list) ≡ asks (get_or list i 0) (get_or list (i + 1) 0) ∷ goals_in (drop (i + 2) list)
unfolding goals_in
goals-more list i h =
    let a : drop i list ≡ get_or list i 0 ∷ drop (suc i) list = drop-cons list i 0 (omega arith) in
    let b : drop (suc i) list ≡ get_or list (suc i) 0 ∷ drop (suc (suc i)) list = drop-cons list (suc i) 0 (omega arith) in
    let x : i + 1 ≡ suc i = omega arith in
    let y : i + 2 ≡ suc (suc i) = omega arith in
    rw (a, b, x, y)

goals-none : (list : List ℕ) (i : ℕ) → length list - i ≤ 1 → goals_in (drop i list) ≡ []
unfolding goals_in
goals-none list i h = go (drop i list) (omega (arith, length-drop i list))
  where
    go : (l : List ℕ) → length l ≤ 1 → goals_in l ≡ []
    go [] e = refl
    go (x ∷ []) e = refl
    go (x ∷ y ∷ l) e = absurd (let z : ⊥ = omega arith in z)

-- all goals try what was added up and what those from the i-th word on try, as far as 64 bits hold it
pub record Rest (t p cells list : List ℕ) (i tried : ℕ) : Type 0 where
  pub all : {n : ℕ} → Tries t p cells (goals_in (drop i list)) n → (sum : ℕ) × Tries t p cells (goals_in list) sum × (held (tried + n) ≡ held sum)

module _ {t p cells list : List ℕ} where
  pub rest_all : Rest t p cells list 0 0
  rest_all = record { all = λ {n} v. (n, v, held_none n) }

  pub rest-on : {i tried : ℕ} {k : Job} → 1 < length list - i → tried < 2 ^ 64 → Asked t p cells (asks (get_or list i 0) (get_or list (i + 1) 0)) k
      → Rest t p cells list i tried → Rest t p cells list (i + 2) (up_by tried k.tried)
  rest-on {i} {tried} {k} h l a r = record {
    all = λ {n} v.
        (let o = r.all {n = k.tried + n} (rw (goals-more list i h) (more a v)) in
        (o.0, o.1, held_up tried k.tried n l ∙ o.2));
  }

  pub rest-none : {i tried : ℕ} → length list - i ≤ 1 → tried < 2 ^ 64 → Rest t p cells list i tried → TriesInAll t p cells list tried
  rest-none {i} {tried} h l r =
      let o = r.all {n = 0} (rw (goals-none list i h) none) in
      record { sum = o.0; tries = o.1; adds = sym (held_all tried l) ∙ o.2 }

-- Two totals that are allowed are one
pub tries-one : {t p cells : List ℕ} {jobs : List Job} {m n : ℕ} → Tries t p cells jobs m → Tries t p cells jobs n → m ≡ n
tries-one none none = refl
tries-one (more a v) (more b w) = let e = ap (λ (j : Job). j.tried) (asked-fixed a b) in omega (arith, e, tries-one v w)

pub total-fixed : {t p cells list : List ℕ} {m n : ℕ} → TriesInAll t p cells list m → TriesInAll t p cells list n → m ≡ n
total-fixed x y = x.adds ∙ ap held (tries-one x.tries y.tries) ∙ sym y.adds
