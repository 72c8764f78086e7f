-- The list of names, symbol by symbol: it is where each name first stands, no two of its words are equal, and it has every name.
use Prim.Native.Nat.{ℕ, suc, ◌+◌}
use mathlib.Core.Path.{◌≡◌, refl, sym, ap, subst, ◌∙◌}
use mathlib.Core.List.{List, [], ◌∷◌, ◌++◌, append-nil, append_assoc}
use mathlib.Core.Logic.{◌⊎◌, inl, inr}
use native.Mathlib.Omega.{arith}
use lib.ListN.{length, length-append}
use lib.Seq.{slice}
use Rattle.grammar.specs.Grammar.{Symbol, name, variable, number}
use Rattle.grammar.specs.Meaning.{Place, place, bytes_at, names_from}
use Rattle.grammar.specs.Numbering.{Words, Nth, here, later, New, First, words_at, Firsts}
use Rattle.grammar.specs.Numbering as numbering
use Rattle.grammar.proofs.NumberLaws.{meet-old, meet-new}
use Rattle.grammar.proofs.NthLaws.{nth-below, nth_left, nth_seam, find, Any, Parted, parted-added}
use Rattle.grammar.proofs.NthLaws.{words_long, words-added, first-seam, position_first, position-new}

module _ (t : List ℕ) where
  pub firsts-names : {met : Words} {ss : List Symbol} {ws : List Place} (ns : List Place) → met ≡ words_at t ns → Firsts t met ss ws
      → names_from t ns ss ≡ ns ++ ws
  unfolding names_from
  firsts-names ns q numbering.none = sym (append-nil ns)
  firsts-names ns q (numbering.first {s = s} {e = e} {ss = ss} {ns = ws} n f) =
      let w = place s e in
      let m = position-new t (slice s e t) ns (subst (λ (m : Words). New m (slice s e t)) q n) in
      ap (λ (ms : List Place). names_from t ms ss) (meet-new t ns w m)
      ∙ firsts-names (ns ++ (w ∷ [])) (ap (λ (m : Words). m ++ (bytes_at t w ∷ [])) q ∙ sym (words-added t ns w)) f
      ∙ append_assoc ns (w ∷ []) ws
  firsts-names ns q (numbering.again {k = k} {s = s} {e = e} {ss = ss} h f) =
      let w = place s e in
      let g = subst (λ (m : Words). Nth m k (bytes_at t w)) q h in
      let l = position_first t ns g in
      let b = nth-below g in
      let c = words_long t ns in
      ap (λ (ms : List Place). names_from t ms ss) (meet-old t ns w (omega arith)) ∙ firsts-names ns q f
  firsts-names ns q (numbering.a-variable f) = firsts-names ns q f
  firsts-names ns q (numbering.a-number f) = firsts-names ns q f

  pub firsts-hold : (met : Words) (ss : List Symbol) → (ns : List Place) × Firsts t met ss ns
  firsts-hold met [] = ([], numbering.none)
  firsts-hold met (name s e a ∷ ss) = go (find met (slice s e t)) (firsts-hold met ss) (firsts-hold (met ++ (slice s e t ∷ [])) ss)
    where
      go : ((k : ℕ) × Nth met k (slice s e t)) ⊎ New met (slice s e t) → (ns : List Place) × Firsts t met ss ns
          → (ns : List Place) × Firsts t (met ++ (slice s e t ∷ [])) ss ns → (ns : List Place) × Firsts t met (name s e a ∷ ss) ns
      go (inl h) f g = (f.0, numbering.again h.1 f.1)
      go (inr n) f g = (place s e ∷ g.0, numbering.first n g.1)
  firsts-hold met (variable s e ∷ ss) = let f = firsts-hold met ss in (f.0, numbering.a-variable f.1)
  firsts-hold met (number v ∷ ss) = let f = firsts-hold met ss in (f.0, numbering.a-number f.1)

  pub firsts-parted : {met : Words} {ss : List Symbol} {ns : List Place} → Parted Any met → Firsts t met ss ns
      → Parted Any (met ++ words_at t ns)
  firsts-parted {met} p numbering.none = subst (Parted Any) (sym (append-nil met)) p
  firsts-parted {met} p (numbering.first {s = s} {e = e} {ns = ns} n f) =
      let w = slice s e t in
      subst (Parted Any) (append_assoc met (w ∷ []) (words_at t ns)) (firsts-parted (parted-added Any met w p (λ u. n)) f)
  firsts-parted p (numbering.again h f) = firsts-parted p f
  firsts-parted p (numbering.a-variable f) = firsts-parted p f
  firsts-parted p (numbering.a-number f) = firsts-parted p f

  pub firsts-all : {met : Words} {ss : List Symbol} {ns : List Place} {i s e a : ℕ} → Firsts t met ss ns → Nth ss i (name s e a)
      → (k : ℕ) × Nth (met ++ words_at t ns) k (slice s e t)
  firsts-all {met} (numbering.first {s = s} {e = e} {ns = ns} n f) here = (length met, nth_seam met (slice s e t) (words_at t ns))
  firsts-all {met} {s = s'} {e = e'} (numbering.first {s = s} {e = e} {ns = ns} n f) (later h) =
      let i = firsts-all f h in
      (i.0, subst (λ (ws : Words). Nth ws i.0 (slice s' e' t)) (append_assoc met (slice s e t ∷ []) (words_at t ns)) i.1)
  firsts-all (numbering.again {k = k} {ns = ns} g f) here = (k, nth_left (words_at t ns) g)
  firsts-all (numbering.again g f) (later h) = firsts-all f h
  firsts-all (numbering.a-variable f) (later h) = firsts-all f h
  firsts-all (numbering.a-number f) (later h) = firsts-all f h
  firsts-all {i = i} {s = s'} {e = e'} {a = a} (Rattle.grammar.specs.Numbering.none {met = met}) x5 = elim x5 [ ]

  -- THE LIST IS ONE
  pub firsts-one : {met : Words} {ss : List Symbol} {ns ms : List Place} → Firsts t met ss ns → Firsts t met ss ms → ns ≡ ms
  firsts-one numbering.none numbering.none = refl
  firsts-one (numbering.first {s = s} {e = e} n f) (numbering.first m g) = ap (λ (ns : List Place). place s e ∷ ns) (firsts-one f g)
  firsts-one (numbering.first n f) (numbering.again {k = k} h g) = absurd (n k h)
  firsts-one (numbering.again {k = k} h f) (numbering.first n g) = absurd (n k h)
  firsts-one (numbering.again h f) (numbering.again i g) = firsts-one f g
  firsts-one (numbering.a-variable f) (numbering.a-variable g) = firsts-one f g
  firsts-one (numbering.a-number f) (numbering.a-number g) = firsts-one f g

  -- each of its words first stands where the list says, behind those met before
  pub firsts-first : {met : Words} {ss : List Symbol} {ns : List Place} {i : ℕ} {w : List ℕ} → Firsts t met ss ns → Nth (words_at t ns) i w
      → First (met ++ words_at t ns) (length met + i) w
  firsts-first {met} (numbering.first {s = s} {e = e} {ns = ns} n f) here =
      let z : length met ≡ length met + 0 = omega arith in
      subst (λ (k : ℕ). First (met ++ words_at t (place s e ∷ ns)) k (slice s e t)) z (first-seam met (slice s e t) (words_at t ns) n)
  firsts-first {met} {w = w} (numbering.first {s = s} {e = e} {ns = ns} n f) (later {k = k} h) =
      let v = slice s e t in
      let l : length (met ++ (v ∷ [])) + k ≡ length met + suc k = omega (arith, length-append met (v ∷ [])) in
      subst (λ (j : ℕ). First (met ++ (v ∷ words_at t ns)) j w) l
      (subst (λ (ws : Words). First ws (length (met ++ (v ∷ [])) + k) w) (append_assoc met (v ∷ []) (words_at t ns)) (firsts-first f h))
  firsts-first (numbering.again g f) h = firsts-first f h
  firsts-first (numbering.a-variable f) h = firsts-first f h
  firsts-first (numbering.a-number f) h = firsts-first f h
  firsts-first {i = i} {w = w} (Rattle.grammar.specs.Numbering.none {met = met}) h = elim h [ ]
