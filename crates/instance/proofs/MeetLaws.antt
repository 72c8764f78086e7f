-- A row and a goal made equal, cell by cell: what is left to be made equal stays what it was, and at the end the goal so far is the most general
-- common instance. Nothing here asks
-- that a row's variable is used once.
use Prim.Native.Nat.{ℕ, ◌+◌, ◌-◌, ◌≤◌, ◌<◌}
use mathlib.Core.Path.{◌≡◌, refl, sym, ◌∙◌, ap, subst}
use mathlib.Core.Logic.{◌≢◌, ◌↔◌}
use mathlib.Core.Bool.{true, false}
use mathlib.Core.List.Memᴰ
use mathlib.Core.List.{List, [], ◌∷◌, ◌++◌, append_assoc, Memᴰ}
use native.Mathlib.Nat.{zero-add}
use native.Mathlib.Numerals.{one-add}
use native.Mathlib.Omega.{arith}
use lib.ListN.{length, length-append}
use Rattle.cell.specs.Cell.{arity, is_var}
use Rattle.cell.proofs.CellLaws.{var-arity}
use Rattle.term.specs.Terms.{Terms, none}
use Rattle.term.specs.Unify.{inst}
use Rattle.term.proofs.TermsLaws.{back-terms, back-++, zero-nil}
use Rattle.term.proofs.Inst.{inst-++, Terms-inst, Subst-id, Subst-bind, inst-var, Terms-var}
use Rattle.term.proofs.Step.{at_place, other-symbol}
use Rattle.term.proofs.Occurs.{inst-long, occurs-check}
use Rattle.term.proofs.Decide.{two-long, remove, Within-inst, Within-part, Within-tail, remove-shorter}
use Rattle.term.specs.Bind.{Within, bind, id_s}
use Rattle.instance.specs.Instance.{Common, MostGeneral}
use Rattle.instance.specs.Rewrite.{put}
use Rattle.instance.specs.code.Left.{Solves, Left}
use Rattle.instance.proofs.Instances.{most-general}
use Rattle.instance.proofs.General.{solves-cell, solves-bind, solves-turn}
use Rattle.instance.proofs.Apart.{after-cell}

-- a variable does not occur in the term that it meets
apart-there : (v d : ℕ) (t xs ys : List ℕ) {S Y : List ℕ} → is_var v ≡ true → v ≢ d → Terms 1 (d ∷ t) → Solves (v ∷ xs) ((d ∷ t) ++ ys) S Y
    → ¬ Memᴰ v (d ∷ t)
apart-there v d t xs ys hv h ht u m =
    let p = (at_place xs ys u.good (Terms-var hv) ht).0 u.same in
    occurs-check u.good m (two-long t m h) (sym (inst-var u.by v) ∙ p.0)

module _ {row goal xs P ys : List ℕ} {turns : ℕ} (w : Left row goal xs P ys turns) where
  pub some_left : Solves xs ys (P ++ ys) w.made
  some_left = (w.gives w.made).1 w.makes

  -- what is there is never longer than what it becomes
  pub left-long : (Y : List ℕ) → Common row goal Y → (length P + length ys ≤ length Y) × (length xs ≤ length Y)
  left-long Y q =
      let u = (w.gives Y).1 q in
      let a = inst-long u.good (P ++ ys) in
      let b = inst-long u.good xs in
      let c : length (inst u.by P) + length (inst u.by ys) ≡ length Y =
      sym (length-append (inst u.by P) (inst u.by ys)) ∙ ap length (sym (inst-++ u.by P ys) ∙ u.gives) in
      (omega (arith, a, length-append P ys, ap length u.gives), omega (arith, b, ap length u.same, c))

-- the same cell
pub left-cell : {row goal P : List ℕ} {c d : ℕ} {xs ys : List ℕ} {turns : ℕ} → c ≡ d → Left row goal (c ∷ xs) P (d ∷ ys) turns
    → Left row goal xs (P ++ (d ∷ [])) ys turns
left-cell {row} {goal} {P} {c} {d} {xs} {ys} e w =
    let f : (P ++ (d ∷ [])) ++ ys ≡ P ++ (d ∷ ys) = append_assoc P (d ∷ []) ys in
    let t = after-cell w.row-terms in
    let u = after-cell w.goal-terms in
    let k : u.0 ≡ t.0 = omega (arith, t.1, u.1) in
    record {
      gives = λ Y. subst (λ (S : List ℕ). Solves xs ys S Y ↔ Common row goal Y) (sym f) (
        λ s. (w.gives Y).0 ((solves-cell xs ys (P ++ (d ∷ ys)) Y e).1 s),
        λ q. (solves-cell xs ys (P ++ (d ∷ ys)) Y e).0 ((w.gives Y).1 q),
      );
      made = w.made;
      makes = w.makes;
      owed = arity c + t.0;
      row-terms = t.2;
      goal-terms = subst (λ (z : ℕ). Terms (arity z + t.0) ys) (sym e) (subst (λ (n : ℕ). Terms (arity d + n) ys) k u.2);
      vars = w.vars;
      row_within = Within-tail w.row_within;
      goal-within = subst (λ (S : List ℕ). Within w.vars S) (sym f) w.goal-within;
      few = w.few;
    }

-- A variable meets a term: it is replaced by it everywhere. First for two lists, whichever is the row's.
module _ (v d : ℕ) (t xs ys S : List ℕ) {row goal : List ℕ} (hv : is_var v ≡ true) (ne : v ≢ d) (ht : Terms 1 (d ∷ t))
    (f : (Y : List ℕ) → Solves (v ∷ xs) ((d ∷ t) ++ ys) S Y ↔ Common row goal Y) {made : List ℕ} (q : Common row goal made) where
  met-apart : ¬ Memᴰ v (d ∷ t)
  met-apart = apart-there v d t xs ys hv ne ht ((f made).1 q)

  met-gives : (Y : List ℕ) → Solves (put v (d ∷ t) xs) (put v (d ∷ t) ys) (put v (d ∷ t) S) Y ↔ Common row goal Y
  met-gives Y = let g = solves-bind v xs ys S Y hv ht met-apart in (λ s. (f Y).0 (g.1 s), λ z. g.0 ((f Y).1 z))

  met-terms : {k : ℕ} {zs : List ℕ} → Terms k zs → Terms k (put v (d ∷ t) zs)
  met-terms u = Terms-inst (Subst-bind v hv ht Subst-id) u

  met-within : {vars zs : List ℕ} → Within vars (d ∷ t) → Within vars zs → Within (remove v vars) (put v (d ∷ t) zs)
  met-within wt wz = Within-inst v met-apart wt wz

-- the row's
pub left-first : {row goal P : List ℕ} {v d : ℕ} {t xs : List ℕ} (ys : List ℕ) {turns : ℕ} → is_var v ≡ true → v ≢ d → Terms 1 (d ∷ t)
    → Left row goal (v ∷ xs) P ((d ∷ t) ++ ys) turns
    → (0 < turns) × Left row goal (put v (d ∷ t) xs) (put v (d ∷ t) (P ++ (d ∷ t))) (put v (d ∷ t) ys) (turns - 1)
left-first {row} {goal} {P} {v} {d} {t} {xs} ys {turns} hv ne ht w =
    let T : List ℕ = d ∷ t in
    let S : List ℕ = P ++ (T ++ ys) in
    let ρ = bind v T id_s in
    let f = append_assoc P T ys in
    let e : put v T S ≡ put v T (P ++ T) ++ put v T ys = ap (put v T) (sym f) ∙ inst-++ ρ (P ++ T) ys in
    let a = after-cell w.row-terms in
    let b : Terms (1 + a.0) (T ++ ys) = rw one-add (rw a.1 at w.goal-terms) in
    let tx : Terms a.0 xs = rw (var-arity v hv, zero-add) at a.2 in
    let ty : Terms a.0 ys = subst (λ (l : List ℕ). Terms a.0 l) (back-++ ys ht) (back-terms 1 a.0 (T ++ ys) b) in
    let m = w.row_within.found v (Memᴰ.head refl) hv in
    let r = remove-shorter v w.vars m in
    let w_s = Within-part w.vars P (T ++ ys) w.goal-within in
    let wt = (Within-part w.vars T ys w_s.1).0 in (
      omega (arith, r, w.few),
      record {
        gives =
            λ Y. subst (λ (l : List ℕ). Solves (put v T xs) (put v T ys) l Y ↔ Common row goal Y) e
            (met-gives v d t xs ys S hv ne ht w.gives w.makes Y);
        made = w.made;
        makes = w.makes;
        owed = a.0;
        row-terms = met-terms v d t xs ys S hv ne ht w.gives w.makes tx;
        goal-terms = met-terms v d t xs ys S hv ne ht w.gives w.makes ty;
        vars = remove v w.vars;
        row_within = met-within v d t xs ys S hv ne ht w.gives w.makes wt (Within-tail w.row_within);
        goal-within = subst (λ (l : List ℕ). Within (remove v w.vars) l) e (met-within v d t xs ys S hv ne ht w.gives w.makes wt w.goal-within);
        few = omega (arith, r, w.few);
      },
    )

-- the goal's
pub left-second : {row goal P : List ℕ} {v d : ℕ} {t : List ℕ} (xs : List ℕ) {ys : List ℕ} {turns : ℕ} → is_var v ≡ true → v ≢ d → Terms 1 (d ∷ t)
    → Left row goal ((d ∷ t) ++ xs) P (v ∷ ys) turns
    → (0 < turns) × Left row goal (put v (d ∷ t) xs) (put v (d ∷ t) (P ++ (v ∷ []))) (put v (d ∷ t) ys) (turns - 1)
left-second {row} {goal} {P} {v} {d} {t} xs {ys} {turns} hv ne ht w =
    let T : List ℕ = d ∷ t in
    let S : List ℕ = P ++ (v ∷ ys) in
    let ρ = bind v T id_s in
    let f = append_assoc P (v ∷ []) ys in
    let e : put v T S ≡ put v T (P ++ (v ∷ [])) ++ put v T ys = ap (put v T) (sym f) ∙ inst-++ ρ (P ++ (v ∷ [])) ys in
    let g : (Y : List ℕ) → Solves (v ∷ ys) (T ++ xs) S Y ↔ Common row goal Y = λ Y. (λ s. (w.gives Y).0 (solves-turn s), λ z. solves-turn ((w.gives Y).1 z)) in
    let a = after-cell w.goal-terms in
    let b : Terms (1 + a.0) (T ++ xs) = rw one-add (rw a.1 at w.row-terms) in
    let ty : Terms a.0 ys = rw (var-arity v hv, zero-add) at a.2 in
    let tx : Terms a.0 xs = subst (λ (l : List ℕ). Terms a.0 l) (back-++ xs ht) (back-terms 1 a.0 (T ++ xs) b) in
    let m = w.goal-within.found v (Memᴰ.append_right P (Memᴰ.head refl)) hv in
    let r = remove-shorter v w.vars m in
    let wx = Within-part w.vars T xs w.row_within in (
      omega (arith, r, w.few),
      record {
        gives = λ Y. subst (λ (l : List ℕ). Solves (put v T xs) (put v T ys) l Y ↔ Common row goal Y) e
            (let z = met-gives v d t ys xs S hv ne ht g w.makes Y in (λ s. z.0 (solves-turn s), λ c. solves-turn (z.1 c)));
        made = w.made;
        makes = w.makes;
        owed = a.0;
        row-terms = met-terms v d t ys xs S hv ne ht g w.makes tx;
        goal-terms = met-terms v d t ys xs S hv ne ht g w.makes ty;
        vars = remove v w.vars;
        row_within = met-within v d t ys xs S hv ne ht g w.makes wx.0 wx.1;
        goal-within = subst (λ (l : List ℕ). Within (remove v w.vars) l) e (met-within v d t ys xs S hv ne ht g w.makes wx.0 w.goal-within);
        few = omega (arith, r, w.few);
      },
    )

-- two symbols that meet are the same
pub left-symbols : {row goal P : List ℕ} {c d : ℕ} {xs ys : List ℕ} {turns : ℕ} → is_var c ≡ false → is_var d ≡ false
    → Left row goal (c ∷ xs) P (d ∷ ys) turns → ¬ (c ≢ d)
left-symbols {c = c} {d = d} {xs = xs} {ys = ys} hc hd w ne =
    let u = some_left w in
    other-symbol c d xs ys hc hd ne none none (record { by = u.by; good = u.good; same = u.same })

-- nothing is left: the goal so far is the most general common instance
pub left-done : {row goal P ys : List ℕ} {turns : ℕ} → Left row goal [] P ys turns → MostGeneral row goal (P ++ ys)
left-done {row} {goal} {P} {ys} w =
    let z = done w.row-terms w.goal-terms in
    most-general (λ Y. (
      λ c. let u = (w.gives Y).1 c in record { by = u.by; good = u.good; same = u.gives },
      λ i. (w.gives Y).0 (record { by = i.by; good = i.good; same = ap (inst i.by) (sym z); gives = i.same }),
    ))
  where
    done : {k : ℕ} → Terms k [] → Terms k ys → ys ≡ []
    done none u = zero-nil u
