-- A text is one program (specs/Reading).
use Prim.Native.Nat.{ℕ, suc, ◌+◌, ◌-◌, ◌*◌, ◌<◌}
use mathlib.Core.Path.{◌≡◌, refl, sym, ◌∙◌, ap, ap₂, subst}
use mathlib.Core.List.{List, [], ◌∷◌, ◌++◌, append_assoc}
use native.Mathlib.Omega.{arith}
use lib.ListN.{length, take, drop}
use lib.Seq.{take_at}
use Rattle.octets.specs.Octets.{decimal}
use Rattle.grammar.specs.Grammar.{is_lower, is_upper, is_digit, is_word, Gap, Symbol}
use Rattle.grammar.specs.Numbering.{Words, NumberedRow}
use Rattle.grammar.specs.Reader.{is_blank, Solid}
use Rattle.grammar.proofs.NthLaws.{parted-none}
use Rattle.grammar.proofs.RowLaws.{Named, row_one}
use Rattle.grammar.proofs.LongLaws.{gap-place}
use Rattle.grammar.proofs.Complete.{Follows}
use Rattle.termtext.proofs.SpellLaws.{decimal-read}
use Rattle.clauses.specs.Clauses.{Body, calls, Clause, clause_of, handed}
use Rattle.clauses.specs.Text.{predicate_word}
use Rattle.clauses.specs.Reading.{AtomAt, atom, ClauseAt, a-fact, a-rule, ClausesAt, none, last, next, Reads}
use Rattle.clauses.proofs.GrammarLaws.{Same, SameTerm, gap-one, gap-moved, args-moved, args_one, past, byte_of}
use Rattle.clauses.proofs.GrammarLaws.{worth, shorn, digits-worth, digits-shorn, over}

-- ATOMS. `'` is 39: a predicate's number ends there
quote-follows : (xs : List ℕ) → Follows (39 ∷ xs)
unfolding is_word is_lower is_upper is_digit
quote-follows xs = (refl, refl, refl)

number_cut : (k : ℕ) (xs : List ℕ) → (worth (decimal k ++ (39 ∷ xs)) 0 ≡ k) × (shorn (decimal k ++ (39 ∷ xs)) ≡ 39 ∷ xs)
unfolding worth shorn
number_cut k xs =
    let r = decimal-read k in
    let d = r.digits 0 (39 ∷ xs) in
    let o = over (39 ∷ xs) (quote-follows xs) k in
    let z : 10 * 0 + (r.digit - 48) ≡ r.digit - 48 = omega arith in
    (rw (r.is, r.first, z) (digits-worth d ∙ o.0), rw (r.is, r.first) (digits-shorn d ∙ o.1))

atom-cut : (j k : ℕ) (xs ys : List ℕ) → predicate_word j ++ (40 ∷ xs) ≡ predicate_word k ++ (40 ∷ ys) → (j ≡ k) × (xs ≡ ys)
atom-cut j k xs ys e =
    let m = number_cut j (40 ∷ xs) in
    let n = number_cut k (40 ∷ ys) in
    let z : decimal j ++ (39 ∷ 40 ∷ xs) ≡ decimal k ++ (39 ∷ 40 ∷ ys) =
    sym (append_assoc (decimal j) (39 ∷ []) (40 ∷ xs)) ∙ ap (drop 2) e ∙ append_assoc (decimal k) (39 ∷ []) (40 ∷ ys) in
    (sym m.0 ∙ ap (λ (l : List ℕ). worth l 0) z ∙ n.0, ap (drop 2) (sym m.1 ∙ ap shorn z ∙ n.1))

record SameAtom (q q' k k' w w' : ℕ) (ys ys' : List ℕ) (ss ss' : List Symbol) : Type 0 where
  predicate : k ≡ k'
  width : w ≡ w'
  term : SameTerm q q' ys ys' ss ss'

atom-one : {p q q' k k' w w' : ℕ} {xs ys ys' : List ℕ} {ss ss' : List Symbol} → AtomAt p xs q ys k w ss → AtomAt p xs q' ys' k' w' ss'
    → SameAtom q q' k k' w w' ys ys' ss ss'
atom-one {p} (atom {k = j} {inside = xs} e a) (atom {k = k} {inside = ys} f b) =
    let c = atom-cut j k xs ys (sym e ∙ f) in
    let r = args_one a (args-moved (record { place = ap (λ (n : ℕ). p + suc (length (predicate_word n))) c.0; rest = c.1 }) b) in
    record { predicate = c.0; width = ap suc r.many; term = r.term }

atom-moved : {p p' q k w : ℕ} {xs xs' ys : List ℕ} {ss : List Symbol} → Same p p' xs xs' → AtomAt p' xs' q ys k w ss → AtomAt p xs q ys k w ss
atom-moved {p} {q = q} {k} {w} {xs' = xs'} {ys = ys} {ss = ss} e a =
    subst (λ (l : List ℕ). AtomAt p l q ys k w ss) (sym e.rest) (subst (λ (n : ℕ). AtomAt n xs' q ys k w ss) (sym e.place) a)

atom-solid : {p q k w : ℕ} {xs ys : List ℕ} {ss : List Symbol} → AtomAt p xs q ys k w ss → Solid xs
unfolding is_blank
atom-solid (atom e a) = rw e (refl, refl)

-- CLAUSES. `.` is 46, `:` is 58
solid-stop : (xs : List ℕ) → Solid (46 ∷ xs)
unfolding is_blank
solid-stop xs = (refl, refl)

solid-neck : (xs : List ℕ) → Solid (58 ∷ xs)
unfolding is_blank
solid-neck xs = (refl, refl)

record SameClause (q q' : ℕ) (ys ys' : List ℕ) (c c' : Clause) : Type 0 where
  clause : c ≡ c'
  ends : Same q q' ys ys'

heads-one : (xs ys : List ℕ) → length xs ≡ length ys → xs ++ handed xs ≡ ys ++ handed ys → xs ≡ ys
heads-one xs ys n e =
    sym (take_at xs (handed xs) (length xs) refl) ∙ ap (take (length xs)) e ∙ take_at ys (handed ys) (length xs) (sym n)

same-clause : {k k' w w' : ℕ} {xs ys : List ℕ} {b b' : Body} → k ≡ k' → w ≡ w' → xs ≡ ys → b ≡ b' → clause_of k w xs b ≡ clause_of k' w' ys b'
same-clause {k' = k'} {w} {w'} {xs} {ys} {b} e f g h =
    ap (λ (n : ℕ). clause_of n w xs b) e ∙ ap (λ (n : ℕ). clause_of k' n xs b) f ∙ ap (λ (l : List ℕ). clause_of k' w' l b) g ∙ ap (clause_of k' w' ys) h

module _ (t : List ℕ) (words : Words) where
  clause-one : {p q q' : ℕ} {xs ys ys' : List ℕ} {c c' : Clause} → ClauseAt t words p xs q ys c → ClauseAt t words p xs q' ys' c'
      → SameClause q q' ys ys' c c'
  clause-one (a-fact {zs = ys} {cells = cs} x g r) (a-fact {zs = zs} {cells = ds} y h u) =
      let a = atom-one x y in
      let d = row_one t words (parted-none Named) r (subst (λ (l : List Symbol). NumberedRow t words [] l ds) (sym a.term.symbols) u) in
      let v = gap-one g (solid-stop ys) (gap-moved a.term.ends h) (solid-stop zs) in
      record { clause = same-clause a.predicate a.width d refl; ends = past v }
  clause-one (a-fact {zs = ys} x g r) (a-rule {zs = zs} y h i z k m n u) =
      let v = gap-one g (solid-stop ys) (gap-moved (atom-one x y).term.ends h) (solid-neck (45 ∷ zs)) in
      absurd (omega (arith, byte_of v))
  clause-one (a-rule {zs = ys} x g i z k m n u) (a-fact {zs = zs} y h r) =
      let v = gap-one g (solid-neck (45 ∷ ys)) (gap-moved (atom-one x y).term.ends h) (solid-stop zs) in
      absurd (omega (arith, byte_of v))
  clause-one (a-rule {zs = ys} {is = is} {cells = cs} {ss = ss} {rs = rs} x g i z k m n u)
      (a-rule {zs = zs} {is = js} {cells = ds} {ss = ss'} {rs = rs'} y h j w l o q v) =
      let a = atom-one x y in
      let b = gap-one g (solid-neck (45 ∷ ys)) (gap-moved a.term.ends h) (solid-neck (45 ∷ zs)) in
      let c = gap-one i (atom-solid z) (gap-moved (past (past b)) j) (atom-solid w) in
      let d = atom-one z (atom-moved c w) in
      let e = gap-one k (solid-stop is) (gap-moved d.term.ends l) (solid-stop js) in
      let f : ss ++ rs ≡ ss' ++ rs' = ap₂ ◌++◌ a.term.symbols d.term.symbols in
      let r = row_one t words (parted-none Named) u (subst (λ (s : List Symbol). NumberedRow t words [] s (ds ++ handed ds)) (sym f) v) in
      let s = heads-one cs ds (m ∙ ap length a.term.symbols ∙ sym o) r in
      record { clause = same-clause a.predicate a.width s (ap calls d.predicate); ends = past e }

  clause-solid : {p q : ℕ} {xs ys : List ℕ} {c : Clause} → ClauseAt t words p xs q ys c → Solid xs
  clause-solid (a-fact x g r) = atom-solid x
  clause-solid (a-rule x g i z k m n u) = atom-solid x

  atom-some : {A : Type 0} {p q k w : ℕ} {xs ys : List ℕ} {ss : List Symbol} → AtomAt p xs q ys k w ss → xs ≡ [] → A
  atom-some (atom e a) z = absurd (omega (arith, ap length (sym z ∙ e)))

  clause-some : {A : Type 0} {p q : ℕ} {xs ys : List ℕ} {c : Clause} → ClauseAt t words p xs q ys c → xs ≡ [] → A
  clause-some (a-fact x g r) e = atom-some x e
  clause-some (a-rule x g i z k m n u) e = atom-some x e

  program-solid : {p : ℕ} {xs : List ℕ} {cs : List Clause} → ClausesAt t words p xs cs → Solid xs
  program-solid none = tt
  program-solid (last x) = clause-solid x
  program-solid (next x g l r) = clause-solid x

  program-moved : {p p' : ℕ} {xs xs' : List ℕ} {cs : List Clause} → Same p p' xs xs' → ClausesAt t words p' xs' cs → ClausesAt t words p xs cs
  program-moved {p} {xs' = xs'} {cs = cs} e a =
      subst (λ (l : List ℕ). ClausesAt t words p l cs) (sym e.rest) (subst (λ (n : ℕ). ClausesAt t words n xs' cs) (sym e.place) a)

  -- layout of at least one byte does not stand at the end
  no_more : {A : Type 0} {q r : ℕ} {ys zs : List ℕ} → Gap q ys r zs → q < r → ys ≡ [] → A
  no_more g l e = absurd (let z : ⊥ = omega (arith, gap-place g, ap length e, l) in z)

  clauses-one : {p : ℕ} {xs : List ℕ} {cs ds : List Clause} → ClausesAt t words p xs cs → ClausesAt t words p xs ds → cs ≡ ds
  clauses-one none none = refl
  clauses-one none (last y) = clause-some y refl
  clauses-one none (next y g l r) = clause-some y refl
  clauses-one (last x) none = clause-some x refl
  clauses-one (last x) (last y) = ap (λ (c : Clause). c ∷ []) (clause-one x y).clause
  clauses-one (last x) (next y g l r) = no_more g l (sym (clause-one x y).ends.rest)
  clauses-one (next x g l r) none = clause-some x refl
  clauses-one (next x g l r) (last y) = no_more g l (clause-one x y).ends.rest
  clauses-one (next x g l r) (next y h m s) =
      let a = clause-one x y in
      let v = gap-one g (program-solid r) (gap-moved a.ends h) (program-solid s) in
      ap₂ ◌∷◌ a.clause (clauses-one r (program-moved v s))

-- a text is one program
pub reads-one : {words : Words} {t : List ℕ} {cs ds : List Clause} → Reads words t cs → Reads words t ds → cs ≡ ds
reads-one {words} {t} x y =
    let v = gap-one x.layout (program-solid t words x.clauses) y.layout (program-solid t words y.clauses) in
    clauses-one t words x.clauses (program-moved t words v y.clauses)
