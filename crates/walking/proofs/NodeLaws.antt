-- The goal's cells as nodes, filled from the first cell on.
use Prim.Native.Nat.{ℕ, ◌+◌, ◌≤◌, ◌<◌}
use mathlib.Core.Path.{◌≡◌, refl, sym, ◌∙◌, ap}
use mathlib.Core.Logic.{◌≢◌, by_cases}
use mathlib.Core.Bool.{true, false, true≢false}
use mathlib.Core.List.{List}
use native.Mathlib.Omega.{arith}
use native.Mathlib.Decide.{ℕ_discrete}
use lib.ListN.{length, get_or, set, replicate, length-set, length-replicate, get_or-replicate}
use lib.Seq.{get_or-set_same, get_or-set_other}
use borrow.Author.Tests.{eq-eqb, ne_eqb}
use Rattle.cell.specs.Cell.{is_var}
use Rattle.cell.proofs.CellLaws.{var-small}
use Rattle.term.proofs.Lists.{get_d-zeros}
use Rattle.table.specs.Table.{up_from}
use Rattle.table.proofs.HeadLaws.{up-length}
use Rattle.answer.proofs.CountLaws.{up_at}
use Rattle.walking.specs.code.Goal.{Whole, first_of, NamedTo}

pub first-none : (first : List ℕ) (v p : ℕ) → get_or first v 0 ≡ 64 → first_of first v p ≡ p
unfolding first_of
first-none first v p e = rw (eq-eqb (get_or first v 0) 64 e)

pub first_some : (first : List ℕ) (v p : ℕ) → get_or first v 0 ≢ 64 → first_of first v p ≡ get_or first v 0
unfolding first_of
first_some first v p e = rw (ne_eqb (get_or first v 0) 64 e)

-- The first cells of variables, for the cells before p: none is kept for a variable that none of them has.
pub record Firsts (goal first : List ℕ) (p : ℕ) : Type 0 where
  pub none : (v : ℕ) → v < 32 → get_or first v 0 ≡ 64 → (q : ℕ) → q < p → get_or goal q 0 ≢ v
  pub some : (v : ℕ) → v < 32 → get_or first v 0 ≢ 64
      → (get_or first v 0 < p) × (get_or goal (get_or first v 0) 0 ≡ v) × ((q : ℕ) → q < get_or first v 0 → get_or goal q 0 ≢ v)
  pub size : length first ≡ 32

-- the loop's invariant: the cells before p are done
pub record Naming (goal bs ns us rep first : List ℕ) (p : ℕ) : Type 0 where
  pub done : NamedTo goal rep bs ns us p
  pub firsts : Firsts goal first p
  pub reach : p ≤ length goal

pub naming-none : (goal bs ns us rep first : List ℕ) → length bs ≡ 64 → length ns ≡ 64 → us ≡ replicate 64 0 → rep ≡ up_from 0 64
    → first ≡ replicate 32 64 → Naming goal bs ns us rep first 0
naming-none goal bs ns us rep first zb zn eu er ef = record {
  done = record {
    symbols = λ p h v. absurd (let z : ⊥ = omega arith in z);
    variables = λ p h v. absurd (let z : ⊥ = omega arith in z);
    others = λ r h l. rw er (up_at 0 64 r l ∙ omega arith);
    unbound = λ r h. rw eu (get_d-zeros 64 r);
    size-rep = rw er (up-length 0 64);
    size-bound = zb;
    size-args = zn;
    size-until = rw eu (length-replicate {A = ℕ} 64 0);
  };
  firsts = record {
    none = λ v f e q l. absurd (let z : ⊥ = omega arith in z);
    some = λ v l d. absurd (d (rw ef (get_or-replicate 32 v 64 0 l)));
    size = rw ef (length-replicate {A = ℕ} 32 64);
  };
  reach = omega arith;
}

module _ {goal bs ns us rep first : List ℕ} {p : ℕ} (w : Whole goal) (N : Naming goal bs ns us rep first p) (l : p < length goal) where
  abbrev D : NamedTo goal rep bs ns us p
  D = N.done

  few : p < 32
  few = omega (arith, w.few)

  before : (q : ℕ) → q < p + 1 → q ≢ p → q < p
  before q h d = omega (arith, d)

  -- a symbol
  pub naming-symbol : is_var (get_or goal p 0) ≡ false → Naming goal (set bs p (get_or goal p 0)) (set ns p (p + 1)) (set us p 4095) rep first (p + 1)
  naming-symbol v =
      let c = get_or goal p 0 in
      record {
        done = record {
          symbols = λ q h k. by_cases (ℕ_discrete q p)
              (λ e. rw e (record {
                node = D.others p (omega arith) (omega (arith, few));
                cell = get_or-set_same bs p c 0 (omega (arith, few, D.size-bound));
                args_at = get_or-set_same ns p (p + 1) 0 (omega (arith, few, D.size-args));
                ends = get_or-set_same us p 4095 0 (omega (arith, few, D.size-until));
              }))
              (λ d. let x = D.symbols q (before q h d) k in record {
                node = x.node;
                cell = get_or-set_other bs p q c 0 d ∙ x.cell;
                args_at = get_or-set_other ns p q (p + 1) 0 d ∙ x.args_at;
                ends = get_or-set_other us p q 4095 0 d ∙ x.ends;
              });
          variables = λ q h k. by_cases (ℕ_discrete q p)
              (λ e. absurd (true≢false (sym k ∙ rw e v)))
              (λ d. let x = D.variables q (before q h d) k in
              record { low = x.low; cell = x.cell; first = x.first; ends = get_or-set_other us p q 4095 0 d ∙ x.ends });
          others = λ r h k. D.others r (omega arith) k;
          unbound = λ r h. get_or-set_other us p r 4095 0 (λ e. let z : ⊥ = omega arith in z) ∙ D.unbound r (omega arith);
          size-rep = D.size-rep;
          size-bound = length-set bs p c ∙ D.size-bound;
          size-args = length-set ns p (p + 1) ∙ D.size-args;
          size-until = length-set us p 4095 ∙ D.size-until;
        };
        firsts = record {
          none = λ u f e q h. by_cases (ℕ_discrete q p)
              (λ z y. true≢false (sym (var-small u (omega arith)) ∙ ap is_var (sym y) ∙ rw z v))
              (λ d. N.firsts.none u f e q (before q h d));
          some = λ u f d. let x = N.firsts.some u f d in (omega arith, x.1, x.2);
          size = N.firsts.size;
        };
        reach = omega arith;
      }

  -- a variable
  module _ (v : is_var (get_or goal p 0) ≡ true) where
    abbrev c : ℕ
    c = get_or goal p 0

    abbrev x : ℕ
    x = first_of first c p

    pub number_small : c < 32
    number_small = w.vars p l v

    first-is : (x ≤ p) × (get_or goal x 0 ≡ c) × ((q : ℕ) → q < x → get_or goal q 0 ≢ c)
    first-is = by_cases (ℕ_discrete (get_or first c 0) 64)
        (λ e. rw (first-none first c p e) (omega arith, refl, λ q h. N.firsts.none c number_small e q h))
        (λ e. rw (first_some first c p e) (let y = N.firsts.some c number_small e in (omega arith, y.1, y.2)))

    kept : (u : ℕ) → u ≢ c → get_or (set first c x) u 0 ≡ get_or first u 0
    kept u d = get_or-set_other first c u x 0 d

    here : get_or (set first c x) c 0 ≡ x
    here = get_or-set_same first c x 0 (omega (arith, number_small, N.firsts.size))

    firsts-then : Firsts goal (set first c x) (p + 1)
    firsts-then =
        let y = first-is in
        record {
          none = λ u f e q h. by_cases (ℕ_discrete u c)
              (λ z. absurd (let e' : get_or (set first c x) c 0 ≡ 64 = rw z at e in let n : ⊥ = omega (arith, here, few, y.0) in n))
              (λ d. by_cases (ℕ_discrete q p)
              (λ z k. d (sym k ∙ rw z refl))
              (λ n. N.firsts.none u f (sym (kept u d) ∙ e) q (before q h n)));
          some = λ u f e. by_cases (ℕ_discrete u c)
              (λ z. rw (z, here) (omega arith, y.1, y.2))
              (λ d. let e' : get_or first u 0 ≢ 64 = λ k. e (kept u d ∙ k) in let s = N.firsts.some u f e' in rw (kept u d) (omega arith, s.1, s.2));
          size = length-set first c x ∙ N.firsts.size;
        }

    rep-here : get_or (set rep p x) p 0 ≡ x
    rep-here = get_or-set_same rep p x 0 (omega (arith, few, D.size-rep))

    rep-other : (q : ℕ) → q ≢ p → get_or (set rep p x) q 0 ≡ get_or rep q 0
    rep-other q d = get_or-set_other rep p q x 0 d

    pub naming-variable : Naming goal bs ns us (set rep p x) (set first c x) (p + 1)
    naming-variable =
        let y = first-is in
        record {
          done = record {
            symbols = λ q h k. by_cases (ℕ_discrete q p)
                (λ e. absurd (true≢false (sym v ∙ ap (λ (z : ℕ). is_var (get_or goal z 0)) (sym e) ∙ k)))
                (λ d. let s = D.symbols q (before q h d) k in record { node = rep-other q d ∙ s.node; cell = s.cell; args_at = s.args_at; ends = s.ends });
            variables = λ q h k. by_cases (ℕ_discrete q p)
                (λ e. rw e (record { low = rw rep-here y.0; cell = rw rep-here y.1; first = rw rep-here y.2; ends = D.unbound p (omega arith) }))
                (λ d. let s = D.variables q (before q h d) k in
                record { low = rw (rep-other q d) s.low; cell = rw (rep-other q d) s.cell; first = rw (rep-other q d) s.first; ends = s.ends });
            others = λ r h k. rep-other r (λ e. let z : ⊥ = omega arith in z) ∙ D.others r (omega arith) k;
            unbound = λ r h. D.unbound r (omega arith);
            size-rep = length-set rep p x ∙ D.size-rep;
            size-bound = D.size-bound;
            size-args = D.size-args;
            size-until = D.size-until;
          };
          firsts = firsts-then;
          reach = omega arith;
        }
