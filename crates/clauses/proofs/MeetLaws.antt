-- A head and a goal have a most general common instance, or nothing in common; and it can be had with variables as low as theirs together.
use Prim.Native.Nat.{ℕ, ◌+◌, ◌-◌, ◌^◌, ◌≤◌, ◌<◌}
use mathlib.Core.Path.{◌≡◌, refl, sym, ◌∙◌, ap}
use mathlib.Core.Logic.{◌⊎◌, inl, inr, ⊎_elim}
use mathlib.Core.Bool.{Bool, true, false, cond, true≢false}
use mathlib.Core.List.Memᴰ
use mathlib.Core.List.{List, [], ◌∷◌, ◌++◌, map, Memᴰ}
use native.Mathlib.Omega.{arith}
use lib.Dec.{ltb}
use borrow.Author.Tests.{lt-ltb, le-ltb, ltb-true}
use Rattle.cell.specs.Cell.{is_var}
use Rattle.cell.proofs.CellLaws.{var-small, small-var}
use Rattle.term.specs.Terms.{Terms}
use Rattle.term.specs.Unify.{inst, Subst, renamed, Matches}
use Rattle.term.specs.Bind.{id_s}
use Rattle.term.proofs.Tests.{bool_cases, cond-case}
use Rattle.term.proofs.Inst.{Terms-var, then, inst-then, inst-agree, inst-id}
use Rattle.term.proofs.Decide.{Decides, says-yes, says-no, unifiable-correct}
use Rattle.instance.specs.Instance.{Common, MostGeneral}
use Rattle.instance.proofs.Instances.{general-variant}
use Rattle.instance.proofs.Variants.{inst-map}
use Rattle.instance.proofs.Apart.{Below, common-matches}
use Rattle.instance.proofs.General.{unified-general}

-- every variable of a list is such a one
pub record Vars (P : ℕ → Type 0) (xs : List ℕ) : Type 0 where
  pub each : (c : ℕ) → Memᴰ c xs → is_var c ≡ true → P c

vars-tail : {P : ℕ → Type 0} {c : ℕ} {xs : List ℕ} → Vars P (c ∷ xs) → Vars P xs
vars-tail v = record { each = λ c m. v.each c (Memᴰ.tail m) }

-- MOVED TOGETHER. A head's variables are below n, a goal's from 2^16 to 2^16 + d: these follow the head's, and are put back
module _ (n d : ℕ) (hn : n ≤ 2 ^ 16) (hd : d ≤ 2 ^ 16) where
  data Range (c : ℕ) : Type 0 where
    of-head : c < n → Range c
    of-goal : 2 ^ 16 ≤ c → c < 2 ^ 16 + d → Range c

  low_number : ℕ → ℕ
  low_number c = cond (is_var c) (cond (ltb c (2 ^ 16)) c (cond (ltb c (2 ^ 17)) (n + (c - 2 ^ 16)) c)) c

  low : ℕ → List ℕ
  low c = low_number c ∷ []

  high_number : ℕ → ℕ
  high_number c = cond (is_var c) (cond (ltb c n) c (cond (ltb c (n + d)) (2 ^ 16 + (c - n)) c)) c

  high : ℕ → List ℕ
  high c = high_number c ∷ []

  low-symbol : (c : ℕ) → is_var c ≡ false → low_number c ≡ c
  unfolding low_number
  low-symbol c v = rw v

  high-symbol : (c : ℕ) → is_var c ≡ false → high_number c ≡ c
  unfolding high_number
  high-symbol c v = rw v

  low-var : (c : ℕ) → is_var c ≡ true → is_var (low_number c) ≡ true
  unfolding low_number
  low-var c v =
      let h = small-var c v in
      rw v (cond-case (ltb c (2 ^ 16)) (λ (m : ℕ). is_var m ≡ true) (λ e. v)
      (λ e. cond-case (ltb c (2 ^ 17)) (λ (m : ℕ). is_var m ≡ true) (λ f. var-small (n + (c - 2 ^ 16)) (let l = ltb-true c (2 ^ 17) f in omega arith)) (λ f. v)))

  high-var : (c : ℕ) → is_var c ≡ true → is_var (high_number c) ≡ true
  unfolding high_number
  high-var c v =
      let h = small-var c v in
      rw v (cond-case (ltb c n) (λ (m : ℕ). is_var m ≡ true) (λ e. v)
      (λ e. cond-case (ltb c (n + d)) (λ (m : ℕ). is_var m ≡ true) (λ f. var-small (2 ^ 16 + (c - n)) (let l = ltb-true c (n + d) f in omega arith)) (λ f. v)))

  low-good : Subst low
  unfolding low
  low-good = record { vars = λ c v. Terms-var (low-var c v); symbols = λ c v. ap (λ (m : ℕ). m ∷ []) (low-symbol c v) }

  high-good : Subst high
  unfolding high
  high-good = record { vars = λ c v. Terms-var (high-var c v); symbols = λ c v. ap (λ (m : ℕ). m ∷ []) (high-symbol c v) }

  low-range : (c : ℕ) → is_var c ≡ true → Range c → low_number c < n + d
  unfolding low_number
  low-range c v (of-head h) = rw (v, lt-ltb c (2 ^ 16) (omega arith)) (omega arith)
  low-range c v (of-goal h k) = rw (v, le-ltb c (2 ^ 16) h, lt-ltb c (2 ^ 17) (omega arith)) (omega arith)

  back-range : (c : ℕ) → is_var c ≡ true → Range c → high_number (low_number c) ≡ c
  unfolding high_number low_number
  back-range c v (of-head h) = rw (v, lt-ltb c (2 ^ 16) (omega arith), v, lt-ltb c n h)
  back-range c v (of-goal h k) =
      let w : is_var (n + (c - 2 ^ 16)) ≡ true = var-small (n + (c - 2 ^ 16)) (omega arith) in
      let e : n + (c - 2 ^ 16) - n ≡ c - 2 ^ 16 = omega arith in
      rw (
        v,
        le-ltb c (2 ^ 16) h,
        lt-ltb c (2 ^ 17) (omega arith),
        w,
        le-ltb (n + (c - 2 ^ 16)) n (omega arith),
        lt-ltb (n + (c - 2 ^ 16)) (n + d) (omega arith),
        e,
      ) (omega arith)

  lowered : (T : List ℕ) → inst low T ≡ map low_number T
  unfolding low
  lowered T = inst-map low low_number T (λ c m. refl)

  low_below : (T : List ℕ) → Vars Range T → Below (n + d) (inst low T)
  low_below T v = record { vars = λ c m h. go T v c (rw (lowered T) at m) h }
    where
      go : (T : List ℕ) → Vars Range T → (c : ℕ) → Memᴰ c (map low_number T) → is_var c ≡ true → c < n + d
      go [] v c m h = absurd (Memᴰ.not-nil m)
      go (x ∷ T) v c m h = ⊎_elim
          (λ e. ⊎_elim
          (λ w. rw e (low-range x w (v.each x (Memᴰ.head refl) w)))
          (λ w. absurd (true≢false (sym h ∙ ap is_var (e ∙ low-symbol x w) ∙ w))) (bool_cases (is_var x)))
          (λ q. go T (vars-tail v) c q h) (Memᴰ.cases_cons m)

  back_low : (T : List ℕ) → Vars Range T → inst high (inst low T) ≡ T
  unfolding then low high inst id_s
  back_low T v = inst-then low high T ∙ inst-agree (then low high) id_s T (λ c m. go c m (bool_cases (is_var c))) ∙ inst-id T
    where
      go : (c : ℕ) → Memᴰ c T → (is_var c ≡ true) ⊎ (is_var c ≡ false) → then low high c ≡ id_s c
      go c m (inl w) = ap (λ (x : ℕ). x ∷ []) (back-range c w (v.each c m w))
      go c m (inr w) = ap (λ (x : ℕ). x ∷ []) (ap high_number (low-symbol c w) ∙ high-symbol c w)

  -- what a head and a goal have in common, or that they have nothing
  pub data Meets (head goal : List ℕ) : Type 0 where
    meets : {T : List ℕ} → MostGeneral head goal T → Below (n + d) T → Meets head goal
    apart_from : ((zs : List ℕ) → Common head goal zs → ⊥) → Meets head goal

  head-range : {head : List ℕ} → Below n head → Vars Range head
  head-range b = record { each = λ c m v. of-head (b.vars c m v) }

  goal-range : (goal : List ℕ) → Below d goal → Vars Range (renamed goal)
  unfolding renamed
  goal-range goal b = record { each = λ c m v. go goal b c m v }
    where
      go : (goal : List ℕ) → Below d goal → (c : ℕ) → Memᴰ c (renamed goal) → is_var c ≡ true → Range c
      go [] b c m v = absurd (Memᴰ.not-nil m)
      go (x ∷ xs) b c m v = ⊎_elim
          (λ e. ⊎_elim
          (λ w. let q : c ≡ 2 ^ 16 + x = e ∙ rw w in let l = b.vars x (Memᴰ.head refl) w in of-goal (omega arith) (omega arith))
          (λ w. let q : c ≡ x = e ∙ rw w in absurd (true≢false (sym v ∙ ap is_var q ∙ w))) (bool_cases (is_var x)))
          (λ q. go xs (record { vars = λ y o. b.vars y (Memᴰ.tail o) }) c q v) (Memᴰ.cases_cons m)

  wider : {m k : ℕ} {xs : List ℕ} → m ≤ k → Below m xs → Below k xs
  wider h b = record { vars = λ c m v. let l = b.vars c m v in omega arith }

  pub meet : {w : ℕ} (head goal : List ℕ) → Terms w head → Terms w (renamed goal) → Below n head → Below d goal → Meets head goal
  meet head goal t u a b = go (unifiable-correct head (renamed goal) t u)
    where
      go : {p : Bool} → Decides (Matches head goal) p → Meets head goal
      go (says-yes m) =
          let G = renamed goal in
          let f = unified-general t u (wider hn a) (wider hd b) m in
          let i = f.2 (head ++ G) (record { found = λ c n v. Memᴰ.append_left G n }) (record { found = λ c n v. Memᴰ.append_right head n }) in
          let v : Vars Range f.0 = record {
            each = λ c m h.
                ⊎_elim (λ q. (head-range a).each c q h) (λ q. (goal-range goal b).each c q h) (Memᴰ.append_cases head (i.found c m h));
          } in
          meets (general-variant (record { by = low; good = low-good; same = refl })
          (record { by = high; good = high-good; same = back_low f.0 v }) f.1) (low_below f.0 v)
      go (says-no m) = apart_from (λ zs c. m (common-matches (wider hn a) (wider hd b) c))
