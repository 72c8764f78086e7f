-- What the list of names says (02, W-201), by places: where each name first stands, in the order of the text, and each name of the text.
use Prim.Native.Nat.{ℕ, ◌+◌, ◌/◌, ◌%◌, ◌^◌, ◌≤◌, ◌<◌}
use mathlib.Core.Path.{◌≡◌, refl, sym, ap₂, subst, ◌∙◌}
use mathlib.Core.List.{List, [], ◌∷◌, ◌++◌, Memᴰ}
use native.Mathlib.Omega.{arith}
use lib.ListN.{length}
use lib.Seq.{slice}
use Rattle.grammar.specs.Grammar.{Symbol, name, Fact, Text}
use Rattle.grammar.specs.Meaning.{Place, place, bytes_at, symbols_of, names_of, entry_of, name_list}
use Rattle.grammar.specs.Numbering.{Words, Nth, here, later, New, Firsts, FirstAt}
use Rattle.grammar.specs.Numbering as numbering
use Rattle.grammar.proofs.NthLaws.{nth_left, nth_seam, mem-nth, nth-map, nth-unmap}
use Rattle.grammar.proofs.Numbered.{names-are, each-name}
use Rattle.grammar.proofs.Along.{Along, a-name, a-variable, a-number, along-name, text-along}
use Rattle.limits.specs.Limits.{most_text_bytes}

module _ (t : List ℕ) where
  -- a name that is listed first stands there, and is none of those met before
  record Told (met : Words) (ss : List Symbol) (w : Place) : Type 0 where
    at : FirstAt t ss w.start w.end
    new : New met (bytes_at t w)

  -- the first of the symbols itself
  told_here : {p q s e a : ℕ} {met : Words} {ss : List Symbol} → Along p (name s e a ∷ ss) q → New met (slice s e t)
      → Told met (name s e a ∷ ss) (place s e)
  told_here {s = s} {e} {a} {ss = ss} l n =
      record { at = record { args = a; there = Memᴰ.head refl; first = λ s' e' a' m q. by l m }; new = n }
    where
      by : {p q s' e' a' : ℕ} → Along p (name s e a ∷ ss) q → Memᴰ (name s' e' a') (name s e a ∷ ss) → s ≤ s'
      by {s' = s'} l (Memᴰ.head x) = let z : s' ≡ s = cc in omega arith
      by (a-name h k l) (Memᴰ.tail m) = omega (arith, along-name l m)

  -- one behind another name, which has other bytes
  told-later : {s e a : ℕ} {met met' : Words} {ss : List Symbol} {w : Place} → ((k : ℕ) (v : List ℕ) → Nth met k v → (j : ℕ) × Nth met' j v)
      → (slice s e t ≡ bytes_at t w → ⊥) → Told met' ss w → Told met (name s e a ∷ ss) w
  told-later {s} {e} {a} {ss = ss} {w = w} more n x =
      record {
        at = record { args = x.at.args; there = Memᴰ.tail x.at.there; first = λ s' e' a' m q. by m q };
        new = λ k h. let i = more k (bytes_at t w) h in x.new i.0 i.1;
      }
    where
      by : {s' e' a' : ℕ} → Memᴰ (name s' e' a') (name s e a ∷ ss) → slice s' e' t ≡ bytes_at t w → w.start ≤ s'
      by {s'} {e'} (Memᴰ.head y) q =
          let u : s ≡ s' = cc in
          let v : e ≡ e' = cc in
          absurd (n (ap₂ (λ (i j : ℕ). slice i j t) u v ∙ q))
      by {s'} {e'} {a'} (Memᴰ.tail m) q = x.at.first s' e' a' m q

  -- one behind a symbol that is no name
  told-past : {x : Symbol} {met : Words} {ss : List Symbol} {w : Place} → ((s e a : ℕ) → name s e a ≡ x → ⊥) → Told met ss w
      → Told met (x ∷ ss) w
  told-past {x} {ss = ss} {w = w} n o =
      record { at = record { args = o.at.args; there = Memᴰ.tail o.at.there; first = λ s e a m q. by m q }; new = o.new }
    where
      by : {s e a : ℕ} → Memᴰ (name s e a) (x ∷ ss) → slice s e t ≡ bytes_at t w → w.start ≤ s
      by {s} {e} {a} (Memᴰ.head y) q = absurd (n s e a y)
      by {s} {e} {a} (Memᴰ.tail m) q = o.at.first s e a m q

  told : {met : Words} {ss : List Symbol} {ns : List Place} {p q k : ℕ} {w : Place} → Along p ss q → Firsts t met ss ns → Nth ns k w
      → Told met ss w
  told l (numbering.first n f) here = told_here l n
  told {met = met} {w = w} (a-name h k l) (numbering.first {s = s} {e = e} n f) (later i) =
      let x = told l f i in
      told-later (λ k v g. (k, nth_left (slice s e t ∷ []) g))
      (λ q. x.new (length met) (subst (Nth (met ++ (slice s e t ∷ [])) (length met)) q (nth_seam met (slice s e t) []))) x
  told {met = met} (a-name h k l) (numbering.again {k = j} g f) i =
      let x = told l f i in
      told-later (λ k v y. (k, y)) (λ q. x.new j (subst (Nth met j) q g)) x
  told (a-variable l) (numbering.a-variable f) i = told-past (λ s e a q. absurd (let z : ◌≡◌ {A = ℕ} 0 1 = cc in omega arith)) (told l f i)
  told (a-number l) (numbering.a-number f) i = told-past (λ s e a q. absurd (let z : ◌≡◌ {A = ℕ} 0 1 = cc in omega arith)) (told l f i)
  told {p = p} {q = q} {k = k} {w = w} l (Rattle.grammar.specs.Numbering.none {met = met}) i = elim i [ ]

  -- in the order of the text
  rising : {met : Words} {ss : List Symbol} {ns : List Place} {p q j k : ℕ} {v w : Place} → Along p ss q → Firsts t met ss ns
      → Nth ns j v → Nth ns k w → j < k → v.start < w.start
  rising l (numbering.first n f) here here h = absurd (omega arith)
  rising (a-name x y l) (numbering.first n f) here (later i) h = omega (arith, along-name l (told l f i).at.there)
  rising l (numbering.first n f) (later i) here h = absurd (omega arith)
  rising (a-name x y l) (numbering.first n f) (later i) (later g) h = rising l f i g (omega arith)
  rising (a-name x y l) (numbering.again z f) i g h = rising l f i g h
  rising (a-variable l) (numbering.a-variable f) i g h = rising l f i g h
  rising (a-number l) (numbering.a-number f) i g h = rising l f i g h
  rising {p = p} {q = q} {j = j} {k = k} {v = v} {w = w} l (Rattle.grammar.specs.Numbering.none {met = met}) i g h = elim i [ ]

-- THE LIST OF A TEXT, whose entries have the start in bits 15..0 and the bytes in 31..16
abbrev Start : ℕ → ℕ
Start n = n % 2 ^ 16

abbrev End : ℕ → ℕ
End n = n % 2 ^ 16 + n / 2 ^ 16

module _ {t : List ℕ} {fs : List Fact} (x : Text t fs) (h : length t ≤ most_text_bytes) where
  firsts : Firsts t [] (symbols_of fs) (names_of t fs)
  firsts = (names-are t fs (names_of t fs)).1 refl

  -- a place is read back from its entry, and an entry is that of a place
  back : {k : ℕ} {w : Place} → Nth (names_of t fs) k w → (Start (entry_of w) ≡ w.start) × (End (entry_of w) ≡ w.end)
  back i = let l = along-name (text-along x) (told t (text-along x) firsts i).at.there in omega arith

  record Entry (k n : ℕ) : Type 0 where
    at : Place
    listed : Nth (names_of t fs) k at
    start : Start n ≡ at.start
    end : End n ≡ at.end

  entry : {k n : ℕ} → Nth (name_list t fs) k n → Entry k n
  unfolding name_list
  entry {k} i =
      let j = nth-unmap entry_of (names_of t fs) i in
      let b = back j.1 in
      subst (Entry k) (sym j.2) (record { at = j.0; listed = j.1; start = b.0; end = b.1 })

  pub entry_first : {k n : ℕ} → Nth (name_list t fs) k n → FirstAt t (symbols_of fs) (Start n) (End n)
  entry_first i = let y = entry i in rw (y.end, y.start) (told t (text-along x) firsts y.listed).at

  pub entry-order : {j k m n : ℕ} → Nth (name_list t fs) j m → Nth (name_list t fs) k n → j < k → Start m < Start n
  entry-order i g l =
      let y = entry i in
      let z = entry g in
      omega (arith, y.start, z.start, rising t (text-along x) firsts y.listed z.listed l)

  -- and each name of the text has one
  pub entry-each : {s e a : ℕ} → Memᴰ (name s e a) (symbols_of fs)
      → (k : ℕ) × (n : ℕ) × Nth (name_list t fs) k n × (slice (Start n) (End n) t ≡ slice s e t)
  unfolding name_list
  entry-each m =
      let j = each-name t firsts (mem-nth m).1 in
      let g = nth-unmap (bytes_at t) (names_of t fs) j.1 in
      let b = back g.1 in
      (j.0, entry_of g.0, nth-map entry_of g.1, ap₂ (λ (i k : ℕ). slice i k t) b.0 b.1 ∙ sym g.2)
