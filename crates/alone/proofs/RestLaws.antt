-- One branch of the rest of a row, by what the code does to its arrays.
use Prim.Native.Nat.{ℕ, suc, ◌+◌, ◌-◌, ◌≤◌, ◌<◌}
use mathlib.Core.Path.{◌≡◌, refl, sym, ◌∙◌, subst}
use mathlib.Core.Logic.{◌≢◌}
use mathlib.Core.Bool.{Bool, true, false, true≢false}
use mathlib.Core.List.{List, ◌∷◌, ◌++◌}
use native.Mathlib.Omega.{arith}
use lib.ListN.{length, get_or, take, drop}
use lib.Seq.{split_at, length-sets, length-take-le}
use Rattle.cell.specs.Cell.{arity, is_var}
use Rattle.cell.proofs.CellLaws.{var-small}
use Rattle.term.specs.Terms.{Terms, root, close}
use Rattle.term.specs.Unify.{Unifies}
use Rattle.table.specs.Table.{up_from}
use Rattle.answer.specs.Skeleton.{hole, fill, decide}
use Rattle.answer.specs.code.Loose.{RowLike}
use Rattle.plan.specs.Notes.{below, cell_in, slot_in, next_in}
use Rattle.walking.specs.code.Link.{steps, entries}
use Rattle.alone.specs.code.Alone.{Chain, end, at_place, Going, Gone, Standing}
use Rattle.alone.specs.code.Rest.{length_of, Noted, Safe, Takes, same-symbol, other-symbol, new-symbol, first-met, met-again, Under}
use Rattle.alone.proofs.StandLaws.{node-low, stand-same, dead-other, stand-first, stand-again, dead-again, stand-bind, kept_low}
use Rattle.alone.proofs.NewLaws.{steps-new}
use Rattle.walking.proofs.RefLaws.{up-all}
use Rattle.classes.proofs.ArrayLaws.{at-is}
use Rattle.alone.proofs.ChainLaws.{going-fails, going_on, going-ends}

module _ {R x₀ : List ℕ} {all : List (List ℕ)} {words sib bs ns cls rs keep : List ℕ} {from at to : ℕ} where
  -- no branch is left: the row is a hit
  pub rest-ends : Under R x₀ all words sib bs ns cls rs keep from at to → to ≤ at → (d : ℕ) → from + d ≡ to → Gone R x₀ all d true
  unfolding length_of
  rest-ends U l d e = go U.chain U.going U.left
    where
      go : {k : ℕ} {x : List ℕ} (q : Chain k x) → Going R x₀ all sib bs ns cls rs keep U.slots U.K x U.m k q U.done → at + length_of q ≡ to
          → Gone R x₀ all d true
      go end G h = let z : U.done ≡ d = omega (arith, U.so_far) in subst (λ (n : ℕ). Gone R x₀ all n true) z (going-ends end G refl)
      go (at_place i p q) G h = absurd (let z : ⊥ = omega arith in z)

-- A branch: it stands at place i.
module _ {R x₀ : List ℕ} {all : List (List ℕ)} {sib bs ns cls rs keep : List ℕ} {k : ℕ} {x : List ℕ} {K slots : List ℕ} {m done : ℕ} (i : ℕ)
    (h : i ≤ k) (q : Chain (arity (root i x) + k) (close i x))
    (G : Going R x₀ all sib bs ns cls rs keep slots K x m (suc k) (at_place i h q) done) (zr : length rs ≡ 64) (fits : m + arity (root i x) < 64)
    (nh : root i x ≢ hole)
    (low : is_var (root i x) ≡ true → root i x < 32) where
  abbrev c : ℕ
  c = root i x

  abbrev A : List ℕ
  A = take i slots

  abbrev s : ℕ
  s = get_or slots i 0

  abbrev B : List ℕ
  B = drop (suc i) slots

  abbrev u : ℕ
  u = get_or rs s 0

  S : Standing R sib bs ns cls rs keep slots K m (suc k)
  S = G.standing

  split : slots ≡ A ++ (s ∷ B)
  split = split_at slots i 0 (omega (arith, G.standing.width))

  at_i : length A ≡ i
  at_i = length-take-le i slots (omega (arith, G.standing.width))

  placed : Standing R sib bs ns cls rs keep (A ++ (s ∷ B)) K m (length A + suc (k - i))
  placed = let e : suc k ≡ length A + suc (k - i) = omega (arith, at_i) in rw (← split, ← e) G.standing

  back : {bs' ns' cls' rs' keep' : List ℕ} → Standing R sib bs' ns' cls' rs' keep' (A ++ (up_from m (arity c) ++ B)) (decide (length A) c K)
      (m + arity c) (length A + (arity c + (k - i)))
      → Standing R sib bs' ns' cls' rs' keep' (below i (arity c) m slots) (decide i c K) (m + arity c) (arity c + k)
  back {bs'} {ns'} {cls'} {rs'} {keep'} T =
      let e : length A + (arity c + (k - i)) ≡ arity c + k = omega (arith, at_i) in
      subst (λ (n : ℕ). Standing R sib bs' ns' cls' rs' keep' (below i (arity c) m slots) (decide n c K) (m + arity c) (arity c + k)) at_i
      (subst (λ (n : ℕ). Standing R sib bs' ns' cls' rs' keep' (A ++ (up_from m (arity c) ++ B)) (decide (length A) c K) (m + arity c) n) e T)

  few : m + arity c ≤ 64
  few = omega arith

  dead-back : ((X : List ℕ) → Terms (length A + (arity c + (k - i))) X → RowLike (fill (decide (length A) c K) X)
      → ¬ Unifies (fill (decide (length A) c K) X) R)
      → (X : List ℕ) → Terms (i + (arity c + (k - i))) X → RowLike (fill (decide i c K) X) → ¬ Unifies (fill (decide i c K) X) R
  dead-back d =
      subst (λ (n : ℕ). (X : List ℕ) → Terms (n + (arity c + (k - i))) X → RowLike (fill (decide n c K) X) → ¬ Unifies (fill (decide n c K) X) R) at_i
      d

  not-zero : is_var c ≡ false → c ≢ 0
  not-zero hv e = true≢false (sym (var-small c (omega arith)) ∙ hv)

  node-64 : u < 64
  node-64 = node-low A s B (k - i) placed zr c nh few

  -- it can be tested
  safe : Safe sib bs ns cls keep c u m
  safe =
      let st = G.standing.steady in
      let l = node-64 in
      let x-is : at-cls ≡ get_or cls u 0 = at-is cls u (omega (arith, st.ready.size)) in
      record {
        ready = st.ready;
        node = l;
        stands = rw (← x-is) (st.ready.small u l);
        room = few;
        low = low;
        kept = λ hv ne. kept_low A s B (k - i) placed zr c nh few (low hv) ne;
        kids = λ e hv. rw e at (st.ready.kids (get_or cls u 0) (rw (← x-is) (st.ready.small u l)) (λ z. not-zero hv (sym e ∙ z)));
        new = rw (steps-new st (arity c) m st.some few) (up-all m (arity c) few);
      }
    where
      at-cls : ℕ
      at-cls = Rattle.classes.specs.code.Nodes.at cls u

  -- it succeeds
  takes-on : {bs' ns' cls' rs' keep' : List ℕ} {b : Bool} → Takes sib c u m bs ns cls rs keep bs' ns' cls' rs' keep' b → b ≡ true
      → Going R x₀ all sib bs' ns' cls' rs' keep' (below i (arity c) m slots) (decide i c K) (close i x) (m + arity c) (arity c + k) q (done + 1)
      × (length rs' ≡ 64)
  takes-on (same-symbol hv e eb en ec ek er) o = (
    rw (eb, en, ec, ek) (going_on i h q G (back (stand-same A s B (k - i) placed zr c nh few hv (λ z. not-zero hv (sym e ∙ z)) e er))),
    rw er (length-sets rs m (entries cls (steps sib (arity c) (get_or ns (get_or cls u 0) 0))) ∙ zr),
  )
  takes-on (other-symbol hv nz d) o = absurd (true≢false (sym o))
  takes-on (new-symbol hv z eb en ec ek er) o = (
    rw (eb, en, ec, ek) (going_on i h q G (back (stand-bind A s B (k - i) placed zr c nh few hv z er))),
    rw er (length-sets rs m (entries cls (steps sib (arity c) m)) ∙ zr),
  )
  takes-on (first-met hv e eb en ec ek er) o =
      (rw (eb, en, ec, ek, er) (going_on i h q G (back (stand-first A s B (k - i) placed zr c nh few (low hv) e))), rw er zr)
  takes-on (met-again hv ne E eb en ek er) o =
      (rw (eb, en, ek, er) (going_on i h q G (back (stand-again A s B (k - i) placed zr c nh few (low hv) ne E o))), rw er zr)

  -- it fails
  takes-off : {bs' ns' cls' rs' keep' : List ℕ} {b : Bool} → Takes sib c u m bs ns cls rs keep bs' ns' cls' rs' keep' b → b ≡ false
      → Gone R x₀ all (done + 1) false
  takes-off (same-symbol hv e eb en ec ek er) o = absurd (true≢false o)
  takes-off (new-symbol hv z eb en ec ek er) o = absurd (true≢false o)
  takes-off (first-met hv e eb en ec ek er) o = absurd (true≢false o)
  takes-off (other-symbol hv nz d) o = going-fails i h q G (dead-back (dead-other A s B (k - i) placed zr c nh few hv nz d))
  takes-off (met-again hv ne E eb en ek er) o = going-fails i h q G (dead-back (dead-again A s B (k - i) placed zr c nh few (low hv) ne E o))

-- In the loop.
module _ {R x₀ : List ℕ} {all : List (List ℕ)} {words sib bs ns cls rs keep : List ℕ} {from at to : ℕ}
    (U : Under R x₀ all words sib bs ns cls rs keep from at to) (l : at < to) where
  abbrev W : ℕ
  W = get_or words at 0

  pub rest-safe : Safe sib bs ns cls keep (cell_in W) (get_or rs (slot_in W) 0) (next_in W)
  unfolding length_of Noted
  rest-safe = go U.chain U.going U.noted U.left
    where
      go : {k : ℕ} {x : List ℕ} (q : Chain k x) → Going R x₀ all sib bs ns cls rs keep U.slots U.K x U.m k q U.done
          → Noted q words at U.slots U.m → at + length_of q ≡ to
          → Safe sib bs ns cls keep (cell_in W) (get_or rs (slot_in W) 0) (next_in W)
      go end G n e = absurd (let z : ⊥ = omega arith in z)
      go (at_place i h q) G n e = rw (n.0, n.1, n.2) (safe i h q G U.size-refs n.3 n.5 n.4)

  module _ {bs' ns' cls' rs' keep' : List ℕ} {b : Bool}
      (t : Takes sib (cell_in W) (get_or rs (slot_in W) 0) (next_in W) bs ns cls rs keep bs' ns' cls' rs' keep' b) where
    pub rest-on : b ≡ true → Under R x₀ all words sib bs' ns' cls' rs' keep' from (at + 1) to
    unfolding length_of Noted
    rest-on o = go U.chain U.going U.noted U.left
      where
        go : {k : ℕ} {x : List ℕ} (q : Chain k x) → Going R x₀ all sib bs ns cls rs keep U.slots U.K x U.m k q U.done
            → Noted q words at U.slots U.m → at + length_of q ≡ to
            → Under R x₀ all words sib bs' ns' cls' rs' keep' from (at + 1) to
        go end G n e = absurd (let z : ⊥ = omega arith in z)
        go (at_place {k} {x} i h q) G n e =
            let y = takes-on i h q G U.size-refs n.3 n.5 n.4 (rw (n.0, n.1, n.2) at t) o in
            record {
              k = arity (root i x) + k;
              x = close i x;
              K = decide i (root i x) U.K;
              slots = below i (arity (root i x)) U.m U.slots;
              m = U.m + arity (root i x);
              chain = q;
              done = U.done + 1;
              going = y.0;
              noted = n.6;
              left = omega arith;
              so_far = omega (arith, U.so_far);
              size-refs = y.1;
            }

    pub rest-off : b ≡ false → (d : ℕ) → from + d ≡ at + 1 → Gone R x₀ all d false
    unfolding length_of Noted
    rest-off o d f = go U.chain U.going U.noted U.left
      where
        go : {k : ℕ} {x : List ℕ} (q : Chain k x) → Going R x₀ all sib bs ns cls rs keep U.slots U.K x U.m k q U.done
            → Noted q words at U.slots U.m → at + length_of q ≡ to
            → Gone R x₀ all d false
        go end G n e = absurd (let z : ⊥ = omega arith in z)
        go (at_place i h q) G n e =
            let z : U.done + 1 ≡ d = omega (arith, U.so_far) in
            subst (λ (n : ℕ). Gone R x₀ all n false) z (takes-off i h q G U.size-refs n.3 n.5 n.4 (rw (n.0, n.1, n.2) at t) o)
