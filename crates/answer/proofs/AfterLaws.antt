-- One decision of a run keeps the meaning of what is left: the five elementary steps together.
use Prim.Native.Nat.{ℕ, suc, ◌+◌, ◌^◌, ◌≤◌}
use mathlib.Core.Path.{◌≡◌, refl, sym, ◌∙◌, ap, subst}
use mathlib.Core.Logic.{◌↔◌, ⊎_elim}
use mathlib.Core.Bool.{Bool, true, false, cond, true≢false}
use mathlib.Core.List.Memᴰ
use mathlib.Core.List.{List, ◌∷◌, ◌++◌, Memᴰ}
use native.Mathlib.Nat.{zero-add, le_refl}
use native.Mathlib.Numerals.{one-add}
use native.Mathlib.Omega.{arith}
use lib.Dec.{eqb}
use borrow.Author.Tests.{eqb-true, eqb-false}
use Rattle.cell.specs.Cell.{arity, is_var}
use Rattle.cell.proofs.CellLaws.{var-arity, var-small}
use Rattle.term.specs.Terms.{Terms, more, front, back}
use Rattle.term.specs.Unify.{inst, Unifies}
use Rattle.term.proofs.TermsLaws.{Terms-++, front-back, front-terms, back-terms}
use Rattle.term.proofs.Inst.{Terms-inst, Subst-id, Subst-bind, Terms-symbol}
use Rattle.term.specs.Bind.{id_s, bind}
use Rattle.term.proofs.Step.{Terms-fresh, same-symbol, other-symbol, row-variable, goal-variable}
use Rattle.term.proofs.Decide.{inst-mem}
use Rattle.table.specs.Table.{up_from}
use Rattle.answer.specs.code.After.{Left, stuck, left, meet, after}
use Rattle.answer.proofs.CountLaws.{up_mem, up-distinct}
use Rattle.answer.specs.code.Loose.{RowLike, GoalLike}

-- the row's side: A before the place, c at it, B after
pub record RowAt (c : ℕ) (A B : List ℕ) : Type 0 where
  pub row : RowLike (A ++ (c ∷ B))
  pub once : is_var c ≡ true → ¬ Memᴰ c (A ++ B)

-- what a decision on c at place i leaves of the goal's terms R, for every row that has c there
pub data Met (n i c k : ℕ) (R : List ℕ) : Left → Type 0 where
  met : {R' : List ℕ} → ((A B : List ℕ) → RowAt c A B → Terms i A → Unifies (A ++ (c ∷ B)) R ↔ Unifies (A ++ B) R')
      → Terms (i + (arity c + k)) R' → GoalLike (n + arity c) R' → Met n i c k R (left R')
  unmet : ((A B : List ℕ) → RowAt c A B → Terms i A → ¬ Unifies (A ++ (c ∷ B)) R) → Met n i c k R stuck

met-test : {n i c k : ℕ} {R : List ℕ} (b : Bool) {x y : Left} → (b ≡ true → Met n i c k R x) → (b ≡ false → Met n i c k R y) → Met n i c k R (cond b x y)
met-test true f g = f refl
met-test false f g = g refl

GoalLike-sub : {n m : ℕ} {xs ys : List ℕ} → n ≤ m → ((c : ℕ) → Memᴰ c ys → Memᴰ c xs) → GoalLike n xs → GoalLike m ys
GoalLike-sub h f g = record { range = λ c q v. let r = g.range c (f c q) v in omega arith }

mem-++ : {x : ℕ} (xs ys : List ℕ) {P : Type 0} → (Memᴰ x xs → P) → (Memᴰ x ys → P) → Memᴰ x (xs ++ ys) → P
mem-++ xs ys f g m = ⊎_elim f g (Memᴰ.append_cases xs m)

mem-place : {x : ℕ} (c : ℕ) (A B : List ℕ) → Memᴰ x (A ++ B) → Memᴰ x (A ++ (c ∷ B))
mem-place c A B m = mem-++ A B (λ p. Memᴰ.append_left (c ∷ B) p) (λ q. Memᴰ.append_right A (Memᴰ.tail q)) m

-- a variable of the row
after-variable : (n i c k : ℕ) {A' D : List ℕ} → is_var c ≡ true → Terms i A' → Terms (suc k) D → GoalLike n (A' ++ D)
    → Met n i c k (A' ++ D) (left (A' ++ back 1 D))
after-variable n i c k {A'} {D} hc a' u g =
    let u₁ : Terms (1 + k) D = rw one-add u in
    let tf = front-terms 1 k D u₁ in
    let tb = back-terms 1 k D u₁ in
    let fb = front-back 1 D in
    met (λ A B r a.
    let low = r.row.low c (Memᴰ.append_right A (Memᴰ.head refl)) hc in
    let e = row-variable c B (back 1 D) hc a a' tf (r.once hc) (λ m. let q =
    g.range c (subst (λ (l : List ℕ). Memᴰ c (A' ++ l)) fb m) hc in omega arith) in
    subst (λ (l : List ℕ). Unifies (A ++ (c ∷ B)) (A' ++ l) ↔ Unifies (A ++ B) (A' ++ back 1 D)) fb e)
    (rw (var-arity c hc, zero-add) (Terms-++ a' tb))
    (GoalLike-sub (omega arith) (λ x m. mem-++ A' (back 1 D) (λ p. Memᴰ.append_left D p)
    (λ q. Memᴰ.append_right A' (subst (λ (l : List ℕ). Memᴰ x l) fb (Memᴰ.append_right (front 1 D) q))) m) g)

GoalLike-++ : {n : ℕ} {xs ys : List ℕ} → GoalLike n xs → GoalLike n ys → GoalLike n (xs ++ ys)
GoalLike-++ {n} {xs} {ys} g h = record { range = λ c m v. mem-++ xs ys (λ p. g.range c p v) (λ q. h.range c q v) m }

GoalLike-up : (n a : ℕ) → 2 ^ 16 ≤ n → GoalLike (n + a) (up_from n a)
GoalLike-up n a h = record { range = λ c m v. let r = up_mem n a c m in omega arith }

GoalLike-inst : {n : ℕ} {xs : List ℕ} (c d : ℕ) → is_var c ≡ false → 2 ^ 16 ≤ n → GoalLike n xs
    → GoalLike (n + arity c) (inst (bind d (c ∷ up_from n (arity c)) id_s) xs)
GoalLike-inst {n} {xs} c d hc h g = record {
  range = λ x m v. ⊎_elim
      (λ p. ⊎_elim (λ e. absurd (true≢false (sym v ∙ ap is_var e ∙ hc))) (λ q. (GoalLike-up n (arity c) h).range x q v) (Memᴰ.cases_cons p))
      (λ q. let r = g.range x q.0 v in omega arith)
      (inst-mem d (c ∷ up_from n (arity c)) xs x m);
}

-- a symbol of the row against the goal's first cell there
after-symbol : (n i c k : ℕ) {A' D : List ℕ} → is_var c ≡ false → Terms i A' → Terms (suc k) D → GoalLike n (A' ++ D)
    → 2 ^ 16 ≤ n → n + arity c ≤ 2 ^ 30 → Met n i c k (A' ++ D) (meet n c A' D)
unfolding meet
after-symbol n i c k {A'} hc a' (more {c = d} {xs = D} u) g low high =
    let f = up-distinct n (arity c) high in
    let g_a = GoalLike-sub (le_refl n) (λ x m. Memᴰ.append_left (d ∷ D) m) g in
    let g_d = GoalLike-sub (le_refl n) (λ x m. Memᴰ.append_right A' (Memᴰ.tail m)) g in
    met-test (is_var d)
    (λ hd.
    let vg = g.range d (Memᴰ.append_right A' (Memᴰ.head refl)) hd in
    let s = Subst-bind d hd (Terms-symbol c (Terms-fresh f)) Subst-id in
    let newer : (w : ℕ) → Memᴰ w (up_from n (arity c)) → is_var w ≡ true = λ w h. let q = up_mem n (arity c) w h in var-small w (omega arith) in
    met (λ A B r a. goal-variable c d B D hc hd a a' f
    (λ m. let q = r.row.low d (mem-place c A B m) hd in omega arith)
    (λ w h m. let q = up_mem n (arity c) w h in ⊎_elim (λ p. omega arith) (λ p. let o = r.row.low w (mem-place c A B p) (newer w h) in
    omega arith) (Memᴰ.cases_cons m))
    (λ w h m. let q = up_mem n (arity c) w h in let o = (GoalLike-++ g_a g_d).range w m (newer w h) in omega arith))
    (Terms-++ (Terms-inst s a') (Terms-++ (Terms-fresh f) (Terms-inst s (rw (var-arity d hd, zero-add) at u))))
    (GoalLike-++ (GoalLike-inst c d hc low g_a) (GoalLike-++ (GoalLike-up n (arity c) low) (GoalLike-inst c d hc low g_d))))
    (λ hd. met-test (eqb c d)
    (λ e. met (λ A B r a. rw (← eqb-true c d e) (same-symbol c B D hc a a')) (Terms-++ a' (rw (eqb-true c d e) u))
    (GoalLike-sub (omega arith) (λ x m. m) (GoalLike-++ g_a g_d)))
    (λ e. unmet (λ A B r a. other-symbol c d B D hc hd (eqb-false c d e) a a')))

pub after-correct : (n i c k : ℕ) (R : List ℕ) → Terms (i + suc k) R → GoalLike n R → 2 ^ 16 ≤ n → n + arity c ≤ 2 ^ 30 → Met n i c k R (after n i c R)
unfolding after
after-correct n i c k R u g low high =
    let fb = front-back i R in
    let g₁ = subst (λ (l : List ℕ). GoalLike n l) (sym fb) g in
    let a' = front-terms i (suc k) R u in
    let v = back-terms i (suc k) R u in
    subst (λ (l : List ℕ). Met n i c k l (after n i c R)) fb
    (met-test (is_var c)
    (λ hc. after-variable n i c k hc a' v g₁)
    (λ hc. after-symbol n i c k hc a' v g₁ low high))
