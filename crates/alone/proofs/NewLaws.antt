-- Nodes that are new, and nodes that stand.
use Prim.Native.Nat.{ℕ, zero, suc, ◌+◌, ◌^◌, ◌≤◌, ◌<◌}
use mathlib.Core.Path.{◌≡◌, refl, sym, ◌∙◌, ap, ap₂, subst}
use mathlib.Core.Logic.{◌↔◌, ⊎_elim, by_cases}
use mathlib.Core.Bool.{Bool, true, false, cond}
use mathlib.Core.List.Memᴰ
use mathlib.Core.List.{List, [], ◌∷◌, ◌++◌, Memᴰ}
use native.Mathlib.Decide.{ℕ_discrete}
use native.Mathlib.Omega.{arith}
use lib.Dec.{ltb}
use lib.ListN.{get_or}
use borrow.Author.Tests.{lt-ltb, ltb-true, ltb-false}
use Rattle.cell.specs.Cell.{arity}
use Rattle.term.specs.Unify.{inst}
use Rattle.term.proofs.Inst.{inst-++}
use Rattle.table.specs.All.{All}
use Rattle.table.specs.Table.{up_from}
use Rattle.table.proofs.HeadLaws.{up-length}
use Rattle.answer.specs.code.Renamed.{var}
use Rattle.answer.proofs.CountLaws.{up_mem, up-distinct}
use Rattle.walking.specs.code.Link.{steps, entries}
use Rattle.classes.specs.code.Nodes.{Nodes, owns, at, reps, Solves}
use Rattle.classes.specs.code.Agrees.{Agrees, New}
use Rattle.classes.proofs.Joined.{vals}
use Rattle.classes.proofs.ArrayLaws.{at-is}
use Rattle.alone.specs.code.Alone.{own, graph, Steady}

pub all-mem : (P : ℕ → Type 0) (xs : List ℕ) → All P xs → (x : ℕ) → Memᴰ x xs → P x
all-mem P [] a x m = absurd (Memᴰ.not-nil m)
all-mem P (y ∷ xs) a x m = ⊎_elim (λ e. subst P (sym e) a.0) (all-mem P xs a.1 x) (Memᴰ.cases_cons m)

up_in : (m a r : ℕ) → m ≤ r → r < m + a → Memᴰ r (up_from m a)
unfolding up_from
up_in m zero r h l = absurd (let z : ⊥ = omega arith in z)
up_in m (suc a) r h l = by_cases (ℕ_discrete r m) (λ e. Memᴰ.head e) (λ d. Memᴰ.tail (up_in (suc m) a r (omega (arith, d)) (omega arith)))

pub own_is : (r : ℕ) → r < 64 → own r ≡ var r ∷ []
own_is r h = rw (lt-ltb r 64 h)

owns-up : (N : Nodes) → ((r : ℕ) → N.own r ≡ own r) → (m a : ℕ) → m + a ≤ 64 → owns N (up_from m a) ≡ up_from (var m) a
unfolding owns up_from
owns-up N h m zero l = refl
owns-up N h m (suc a) l =
    let q : suc (var m) ≡ var (suc m) = omega arith in
    let o : N.own m ≡ var m ∷ [] = h m ∙ own_is m (omega arith) in
    let t : owns N (up_from (suc m) a) ≡ up_from (suc (var m)) a = rw q (owns-up N h (suc m) a (omega arith)) in
    ap₂ (λ (x y : List ℕ). x ++ y) o t

-- what a variable of a node is
own-mem : (r c : ℕ) → Memᴰ c (own r) → c ≡ var (cond (ltb r 64) r 64)
own-mem r c m = ⊎_elim (λ e. e) (λ q. absurd (Memᴰ.not-nil q)) (Memᴰ.cases_cons m)

-- the node that a variable of another is
pub own-low : (r c : ℕ) → Memᴰ c (own r) → 2 ^ 16 ≤ c
own-low r c m = let e = own-mem r c m in omega arith

own_range : (r c m a : ℕ) → m + a ≤ 64 → Memᴰ c (own r) → var m ≤ c → c < var m + a → (m ≤ r) × (r < m + a)
own_range r c m a l q h k = go (ltb r 64) refl
  where
    go : (b : Bool) → ltb r 64 ≡ b → (m ≤ r) × (r < m + a)
    go true e = let z : c ≡ var r = own-mem r c q ∙ rw e in (omega arith, omega arith)
    go false e = let z : c ≡ var 64 = own-mem r c q ∙ rw e in absurd (let y : ⊥ = omega arith in y)

module _ {sib bs ns cls : List ℕ} {m : ℕ} (S : Steady sib bs ns cls m) where
  pub new-nodes : (a : ℕ) → m + a ≤ 64 → New (graph bs ns sib) cls (up_from m a)
  new-nodes a l = record {
    cells = up_from (var m) a;
    fresh = rw (up-length m a) (up-distinct (var m) a (omega arith));
    are = owns-up (graph bs ns sib) (λ r. refl) m a l;
    apart = λ r n c q k. let u = up_mem (var m) a c k in let o = own_range r c m a l q u.0 u.1 in n (up_in m a r o.0 o.1);
    selves = λ r q. let e = S.selves r (up_mem m a (at cls r) q).0 in (subst (λ (x : ℕ). Memᴰ x (up_from m a)) e q, e);
    fixed = λ r q. S.fixed r (up_mem m a r q).0;
    bare = λ r q. S.bare r (up_mem m a r q).0;
    no-kid =
        λ r nz s q k. let u = up_mem m a s k in let o =
        all-mem (λ (x : ℕ). x < m) (steps sib (arity (get_or bs r 0)) (get_or ns r 0)) (S.kids-low r nz) s q in omega arith;
  }

  pub new-cells : (a : ℕ) (l : m + a ≤ 64) → (new-nodes a l).cells ≡ up_from (var m) a
  unfolding new-nodes
  new-cells a l = refl

  pub steps-new : (a q : ℕ) → 32 ≤ q → q + a ≤ 64 → steps sib a q ≡ up_from q a
  unfolding steps up_from
  steps-new zero q h l = refl
  steps-new (suc a) q h l =
      let e = S.next q h (omega arith) in
      let o : q + 1 ≡ suc q = omega arith in
      ap (λ (y : List ℕ). q ∷ y) (rw (e, o) (steps-new a (suc q) (omega arith) (omega arith)))

  pub not_new : (r a : ℕ) → r < m → ¬ Memᴰ r (up_from m a)
  not_new r a h q = let u = up_mem m a r q in omega arith

  -- what stands for a node below m is below m
  pub at_low : (r : ℕ) → r < m → at cls r < m
  at_low r h = go (ltb (at cls r) m) refl
    where
      go : (b : Bool) → ltb (at cls r) m ≡ b → at cls r < m
      go true e = ltb-true (at cls r) m e
      go false e = absurd (let l = ltb-false (at cls r) m e in let q = S.selves r l in let z : ⊥ = omega arith in z)

  pub entries_at : (rs : List ℕ) → All (λ (r : ℕ). r < 64) rs → entries cls rs ≡ reps cls rs
  entries_at [] a = refl
  entries_at (r ∷ rs) a = ap₂ ◌∷◌ (sym (at-is cls r (omega (arith, S.ready.size, a.0)))) (entries_at rs a.1)

  pub reps-low : (rs : List ℕ) → All (λ (r : ℕ). r < m) rs → All (λ (r : ℕ). r < m) (reps cls rs)
  reps-low [] a = tt
  reps-low (r ∷ rs) a = (at_low r a.0, reps-low rs a.1)

-- nodes and what stands for them have the same values
vals-reps : {N : Nodes} {rep : List ℕ} {τ : ℕ → List ℕ} → Solves N rep τ → (rs : List ℕ) → vals N τ (reps rep rs) ≡ vals N τ rs
unfolding owns inst
vals-reps s [] = refl
vals-reps {N} {rep} {τ} s (r ∷ rs) =
    inst-++ τ (N.own (at rep r)) (owns N (reps rep rs)) ∙ ap₂ ◌++◌ (sym (s.classes r)) (vals-reps s rs) ∙ sym (inst-++ τ (N.own r) (owns N rs))

pub agree-reps : {N : Nodes} {rep : List ℕ} (xs P ks Q : List ℕ) → Agrees N rep xs (P ++ (ks ++ Q)) ↔ Agrees N rep xs (P ++ (reps rep ks ++ Q))
agree-reps {N} {rep} xs P ks Q = (
  λ a. record { by = a.by; solves = a.solves; same = a.same ∙ sym (swap a.solves) },
  λ a. record { by = a.by; solves = a.solves; same = a.same ∙ swap a.solves },
)
  where
    three : (τ : ℕ → List ℕ) (X : List ℕ) → vals N τ (P ++ (X ++ Q)) ≡ vals N τ P ++ (vals N τ X ++ vals N τ Q)
    three τ X =
        ap (inst τ) (Rattle.classes.proofs.Agree.owns-++ N P (X ++ Q) ∙ ap (λ (l : List ℕ). owns N P ++ l) (Rattle.classes.proofs.Agree.owns-++ N X Q))
        ∙ inst-++ τ (owns N P) (owns N X ++ owns N Q) ∙ ap (λ (l : List ℕ). vals N τ P ++ l) (inst-++ τ (owns N X) (owns N Q))

    swap : {τ : ℕ → List ℕ} → Solves N rep τ → vals N τ (P ++ (reps rep ks ++ Q)) ≡ vals N τ (P ++ (ks ++ Q))
    swap {τ} s = three τ (reps rep ks) ∙ ap (λ (l : List ℕ). vals N τ P ++ (l ++ vals N τ Q)) (vals-reps s ks) ∙ sym (three τ ks)
