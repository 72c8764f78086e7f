-- One clause's numbers, taken apart: what its line is and how many bytes it has.
use Prim.Native.Nat.{ℕ, zero, suc, ◌+◌, ◌-◌, ◌≤◌, ◌<◌}
use mathlib.Core.Path.{◌≡◌, refl, sym, ◌∙◌, ap}
use mathlib.Core.Logic.{◌≢◌}
use mathlib.Core.Bool.{Bool, true, false, cond}
use mathlib.Core.List.{List, [], ◌∷◌, ◌++◌}
use native.Mathlib.Omega.{arith}
use lib.Dec.{eqb}
use lib.ListN.{length, get_or, take, drop}
use lib.Seq.{take_all}
use Rattle.table.specs.Table.{up_from}
use Rattle.table.proofs.HeadLaws.{up-length}
use Rattle.grammar.specs.Numbering.{Words}
use Rattle.clauses.specs.Clauses.{Body, nothing, calls, Clause, handed}
use Rattle.clauses.specs.Text.{atom_text, body_text, line_text}
use Rattle.clauses.specs.code.Size.{atom_bytes, body_bytes, line_bytes}
use Rattle.unfolding.specs.Flat.{called_in}
use Rattle.handing.specs.code.Lines.{met_in, One}

-- the variables of a call
abbrev pub ups : List ℕ
ups = 0 ∷ 1 ∷ 2 ∷ 3 ∷ 4 ∷ 5 ∷ 6 ∷ 7 ∷ 8 ∷ 9 ∷ 10 ∷ 11 ∷ 12 ∷ 13 ∷ 14 ∷ 15 ∷ 16 ∷ 17 ∷ 18 ∷ 19 ∷ 20 ∷ 21 ∷ 22 ∷ 23 ∷ 24 ∷ 25 ∷ 26 ∷ 27 ∷ 28 ∷ 29 ∷ 30 ∷ 31 ∷ []

take-up : (v n d : ℕ) → take v (up_from n (v + d)) ≡ up_from n v
unfolding up_from
take-up zero n d = refl
take-up (suc v) n d = let e : suc v + d ≡ suc (v + d) = omega arith in rw e (ap (λ (l : List ℕ). n ∷ l) (take-up v (suc n) d))

ups-is : ups ≡ up_from 0 32
unfolding up_from
ups-is = refl

pub ups-taken : (v : ℕ) → v ≤ 32 → take v ups ≡ up_from 0 v
ups-taken v h =
    let e : 32 ≡ v + (32 - v) = omega arith in
    ap (take v) (ups-is ∙ ap (up_from 0) e) ∙ take-up v 0 (32 - v)

pub ups-long : (v : ℕ) → v ≤ 32 → v ≡ length (take v ups)
ups-long v h = sym (ap length (ups-taken v h) ∙ up-length 0 v)

-- no more variables than cells
met-few : (cells : List ℕ) (v : ℕ) → met_in cells v ≤ v + length cells
unfolding met_in
met-few [] v = omega arith
met-few (c ∷ cells) v = go (eqb c v) (met-few cells)
  where
    go : (b : Bool) → ((u : ℕ) → met_in cells u ≤ u + length cells) → met_in cells (cond b (suc v) v) ≤ v + suc (length cells)
    go true h = let z = h (suc v) in omega arith
    go false h = let z = h v in omega arith

no_body : (b : Body) → ((j : ℕ) → b ≡ calls j → 0 < j) → called_in b ≡ 0 → b ≡ nothing
no_body nothing h e = refl
no_body (calls j) h e = absurd (let l = h j refl in let z : ⊥ = omega arith in z)

a_call : (b : Body) → called_in b ≢ 0 → b ≡ calls (called_in b)
a_call nothing e = absurd (e refl)
a_call (calls j) e = refl

module _ (xs : List ℕ) (o : One xs) where
  abbrev it : Clause
  it = o.it

  -- the head, as the code cuts it out
  abbrev cut : List ℕ
  cut = take (length xs - 4) (drop 4 xs)

  pub one-long : length xs ≡ 4 + length it.head
  one-long = ap length o.is ∙ (let e : suc (suc (suc (suc (length it.head)))) ≡ 4 + length it.head = omega arith in e)

  head-is : cut ≡ it.head
  head-is = let e : drop 4 xs ≡ it.head = ap (drop 4) o.is in rw e (take_all (length xs - 4) it.head (omega (arith, one-long)))

  pub cut_short : length cut ≤ 32
  cut_short = rw head-is o.plain.short

  pub met-short : met_in cut 0 ≤ 32
  met-short = omega (arith, met-few cut 0, cut_short)

  predicate-is : get_or xs 0 0 ≡ it.predicate
  predicate-is = ap (λ (l : List ℕ). get_or l 0 0) o.is

  called_is : get_or xs 1 0 ≡ called_in it.body
  called_is = ap (λ (l : List ℕ). get_or l 1 0) o.is

  width_is : get_or xs 2 0 ≡ it.width
  width_is = ap (λ (l : List ℕ). get_or l 2 0) o.is

  fact : get_or xs 1 0 ≡ 0 → it.body ≡ nothing
  fact e = no_body it.body o.plain.called (sym called_is ∙ e)

  rule : get_or xs 1 0 ≢ 0 → it.body ≡ calls (get_or xs 1 0)
  rule e = a_call it.body (λ z. e (called_is ∙ z)) ∙ ap calls (sym called_is)

  -- what the call is made on
  arguments : (v : ℕ) → v ≡ met_in cut 0 → (handed it.head ≡ take v ups) × (length (handed it.head) ≡ v)
  arguments v e =
      let h : met_in it.head 0 ≡ v = ap (λ (l : List ℕ). met_in l 0) (sym head-is) ∙ sym e in
      let a : handed it.head ≡ up_from 0 v = o.plain.order ∙ ap (up_from 0) h in
      (a ∙ sym (ups-taken v (omega (arith, met-short))), ap length a ∙ up-length 0 v)

  module _ (words : Words) where
    head_bytes : atom_bytes words (get_or xs 0 0) cut ≡ atom_bytes words it.predicate it.head
    head_bytes = ap (λ (k : ℕ). atom_bytes words k cut) predicate-is ∙ ap (atom_bytes words it.predicate) head-is

    pub fact-bytes : (r : ℕ) → get_or xs 1 0 ≡ 0 → r ≡ atom_bytes words (get_or xs 0 0) cut → r + 2 ≡ line_bytes words it
    fact-bytes r z e = omega (arith, e, head_bytes, ap (body_bytes words it.head) (fact z))

    pub rule-bytes : (r s v : ℕ) → get_or xs 1 0 ≢ 0 → r ≡ atom_bytes words (get_or xs 0 0) cut → v ≡ met_in cut 0
        → s ≡ atom_bytes words (get_or xs 1 0) (take v ups)
        → r + 2 + 4 + s ≡ line_bytes words it
    rule-bytes r s v z e m f =
        omega (arith, e, f, head_bytes, ap (body_bytes words it.head) (rule z), ap (atom_bytes words (get_or xs 1 0)) (arguments v m).0)

    head-text : (k w : ℕ) → k ≡ get_or xs 0 0 → w ≡ get_or xs 2 0 → atom_text words it.predicate it.width it.head ≡ atom_text words k w cut
    head-text k w a d =
        ap (λ (n : ℕ). atom_text words n it.width it.head) (sym (a ∙ predicate-is))
        ∙ ap (λ (n : ℕ). atom_text words k n it.head) (sym (d ∙ width_is))
        ∙ ap (atom_text words k w) (sym head-is)

    line-text : (b A : List ℕ) → body_text words it.head it.body ≡ b → atom_text words it.predicate it.width it.head ≡ A
        → line_text words it ≡ A ++ (b ++ (46 ∷ 10 ∷ []))
    line-text b A e f =
        ap (λ (l : List ℕ). l ++ (body_text words it.head it.body ++ (46 ∷ 10 ∷ []))) f ∙ ap (λ (l : List ℕ). A ++ (l ++ (46 ∷ 10 ∷ []))) e

    pub fact-text : (k j w : ℕ) → k ≡ get_or xs 0 0 → j ≡ get_or xs 1 0 → w ≡ get_or xs 2 0 → j ≡ 0
        → line_text words it ≡ atom_text words k w cut ++ (46 ∷ 10 ∷ [])
    fact-text k j w a b d z =
        line-text [] (atom_text words k w cut) (ap (body_text words it.head) (fact (sym b ∙ z))) (head-text k w a d)

    pub rule-text : (k j w v : ℕ) → k ≡ get_or xs 0 0 → j ≡ get_or xs 1 0 → w ≡ get_or xs 2 0 → j ≢ 0 → v ≡ met_in cut 0
        → line_text words it
        ≡ atom_text words k w cut ++ ((32 ∷ 58 ∷ 45 ∷ 32 ∷ []) ++ (atom_text words j v (take v ups) ++ (46 ∷ 10 ∷ [])))
    rule-text k j w v a b d z m =
        let q = arguments v m in
        let e : it.body ≡ calls j = rule (λ y. z (b ∙ y)) ∙ ap calls (sym b) in
        let c : atom_text words j (length (handed it.head)) (handed it.head) ≡ atom_text words j v (take v ups)
        = ap (λ (n : ℕ). atom_text words j n (handed it.head)) q.1 ∙ ap (atom_text words j v) q.0 in
        line-text (32 ∷ 58 ∷ 45 ∷ 32 ∷ atom_text words j v (take v ups)) (atom_text words k w cut)
        (ap (body_text words it.head) e ∙ ap (λ (l : List ℕ). 32 ∷ 58 ∷ 45 ∷ 32 ∷ l) c) (head-text k w a d)
