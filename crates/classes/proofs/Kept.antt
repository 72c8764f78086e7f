-- What a binding and a joining keep: nodes as they should be, classes closed, all terms finite. And that something agrees where they are.
use Prim.Native.Nat.{ℕ, ◌<◌, ◌≤◌}
use mathlib.Core.Path.{◌≡◌, refl, sym, ◌∙◌, ap, ap₂, subst}
use mathlib.Core.Logic.{◌≢◌, by_cases}
use mathlib.Core.Bool.{false}
use mathlib.Core.List.{List, [], ◌∷◌, Memᴰ, ◌++◌}
use native.Mathlib.Decide.{ℕ_discrete}
use native.Mathlib.Omega.{arith}
use lib.ListN.{length}
use Rattle.cell.specs.Cell.{arity, is_var}
use Rattle.term.specs.Unify.{inst}
use Rattle.term.proofs.Inst.{inst-++, inst-agree, Terms-inst}
use Rattle.term.specs.code.Fresh.{Fresh}
use Rattle.term.proofs.Step.{Spread, spread}
use Rattle.table.specs.All.{All}
use Rattle.classes.specs.code.Nodes.{Nodes, owns, at, Solves, Fair, Merges, Closed}
use Rattle.classes.specs.code.Finite.{Fin, bare, over, FinAll, no_more, and-more, Sort, literal, variable, Within}
use Rattle.classes.specs.code.Agrees.{Agrees, Binds, New}
use Rattle.classes.proofs.Joined.{val, vals, grows}
use Rattle.classes.proofs.Agree.{owns-terms}
use Rattle.classes.proofs.Bind.{owns-bound}

-- a binding
module _ {N N' : Nodes} (rep : List ℕ) {v c : ℕ} {ws : List ℕ} (b : Binds N N' v c ws) (n : New N rep ws) (hc : is_var c ≡ false) (nc : c ≢ 0)
    (hl : length ws ≡ arity c) (hz : N.head v ≡ 0)
    (nv : ¬ Memᴰ v ws) (fv : at rep v ≡ v) where
  other : (r : ℕ) → N.head r ≢ 0 → r ≢ v
  other r nz e = nz (ap N.head e ∙ hz)

  pub fair-bound : Fair N → Fair N'
  fair-bound f = record {
    term = λ r. rw (b.own_same r) (f.term r);
    symbol = λ r nz. by_cases (ℕ_discrete r v) (λ e. rw (e, b.head-here) hc) (λ d. rw (b.head-other r d) (f.symbol r (rw (b.head-other r d) at nz)));
    number = λ r nz. by_cases (ℕ_discrete r v)
        (λ e. rw (e, b.head-here, b.kids-here) hl) (λ d. rw (b.head-other r d, b.kids-other r d) (f.number r (rw (b.head-other r d) at nz)));
  }

  pub closed-bound : Closed N rep → Closed N' rep
  closed-bound k r nz = by_cases (ℕ_discrete r v)
      (λ e. rw (e, fv) (refl, refl))
      (λ d. let nz' : N.head r ≢ 0 = rw (b.head-other r d) at nz in
      let o = k r nz' in
      let d' : at rep r ≢ v = other (at rep r) (λ z. nz' (sym o.0 ∙ z)) in
      rw (b.head-other r d, b.kids-other r d, b.head-other (at rep r) d', b.kids-other (at rep r) d') o)

  mutual
    fin-new : (xs : List ℕ) → ((r : ℕ) → Memᴰ r xs → Memᴰ r ws) → FinAll N' rep xs
    fin-new [] h = no_more
    fin-new (r ∷ xs) h =
        let m = h r (Memᴰ.head refl) in
        let d : r ≢ v = λ e. nv (subst (λ (x : ℕ). Memᴰ x ws) e m) in
        let z : N'.head (at rep r) ≡ 0 = rw (n.fixed r m, b.head-other r d) (n.bare r m) in
        and-more (bare z) (fin-new xs (λ q o. h q (Memᴰ.tail o)))

  mutual
    pub fin-bound : {r : ℕ} → Fin N rep r → Fin N' rep r
    fin-bound (bare {r} z) = by_cases (ℕ_discrete (at rep r) v)
        (λ e. over {r = r} (rw (e, b.head-here) nc) (rw (e, b.kids-here) (fin-new ws (λ q m. m))))
        (λ d. bare {r = r} (b.head-other (at rep r) d ∙ z))
    fin-bound (over {r} z k) =
        let d = other (at rep r) z in
        over {r = r} (rw (b.head-other (at rep r) d) z) (rw (b.kids-other (at rep r) d) (fins-bound k))

    fins-bound : {rs : List ℕ} → FinAll N rep rs → FinAll N' rep rs
    fins-bound no_more = no_more
    fins-bound (and-more t ts) = and-more (fin-bound t) (fins-bound ts)

  pub within-bound : {node : ℕ → ℕ} {m : ℕ} → v < m → All (λ (s : ℕ). s < m) ws → Within N rep node m → Within N' rep node m
  within-bound {node} {m} lv lw W = record {
    sorts = λ r i. sort-bound r (W.sorts r i);
    kids-in = λ r i nz. by_cases (ℕ_discrete r v) (λ e. rw (e, b.kids-here) lw) (λ d. rw (b.kids-other r d) (W.kids-in r i (rw (b.head-other r d) at nz)));
    rep_in = W.rep_in;
    out = λ r i. ((W.out r i).0, let d : r ≢ v = λ e. let z : ⊥ = omega arith in z in b.head-other r d ∙ (W.out r i).1);
  }
    where
      sort-bound : (r : ℕ) → Sort N rep node r → Sort N' rep node r
      sort-bound r (literal nz e) =
          let d = other r nz in
          literal (rw (b.head-other r d) nz) (b.own_same r ∙ e
          ∙ ap₂ ◌∷◌ (sym (b.head-other r d)) (sym (owns-bound b (N'.kids r) ∙ ap (owns N) (b.kids-other r d))))
      sort-bound r (variable x h e s) = variable x h (b.own_same r ∙ e) s

-- a joining
pub within-merged : {N : Nodes} {rep rep' : List ℕ} {node : ℕ → ℕ} {m a d : ℕ} → Merges N rep a d rep' → ((r : ℕ) → r < m → at rep' r < m)
    → ((r : ℕ) → m ≤ r → at rep' r ≡ r) → Within N rep node m → Within N rep' node m
within-merged {N} {rep} {rep'} {node} M low out W = record {
  sorts = λ r i. go r (W.sorts r i);
  kids-in = W.kids-in;
  rep_in = low;
  out = λ r i. (out r i, (W.out r i).1);
}
  where
    go : (r : ℕ) → Sort N rep node r → Sort N rep' node r
    go r (literal nz e) = literal nz e
    go r (variable x h e s) = variable x h e (grows M r (node x) s)

-- where the classes are solved, distinct variables of the row agree with any nodes
module _ {N : Nodes} (f : Fair N) {rep : List ℕ} {σ : ℕ → List ℕ} (s : Solves N rep σ) {xs : List ℕ} (rs : List ℕ) (h : Fresh (length rs) xs)
    (apart : (r c : ℕ) → Memᴰ c (N.own r) → ¬ Memᴰ c xs) where
  taken : Spread σ xs (vals N σ rs)
  taken = spread (vals N σ rs) s.good h (Terms-inst s.good (owns-terms f rs))

  still : (r : ℕ) → val N taken.new r ≡ val N σ r
  still r = inst-agree taken.new σ (N.own r) (λ c m. taken.keeps c (apart r c m))

  stills : (qs : List ℕ) → vals N taken.new qs ≡ vals N σ qs
  unfolding owns inst
  stills [] = refl
  stills (q ∷ qs) = inst-++ taken.new (N.own q) (owns N qs) ∙ ap₂ ◌++◌ (still q) (stills qs) ∙ sym (inst-++ σ (N.own q) (owns N qs))

  pub alive : Agrees N rep xs rs
  alive = record {
    by = taken.new;
    solves = record {
      good = taken.good;
      classes = λ r. still r ∙ s.classes r ∙ sym (still (at rep r));
      heads = λ r nz. still r ∙ s.heads r nz ∙ ap (λ (l : List ℕ). N.head r ∷ l) (sym (stills (N.kids r)));
    };
    same = taken.hits ∙ sym (stills rs);
  }
