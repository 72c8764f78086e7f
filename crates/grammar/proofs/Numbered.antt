-- The list of names and the cells of a text's facts are what 02 says by equal bytes and first appearances (specs/Numbering), and
-- nothing else is: stated for every list of facts.
use Prim.Native.Nat.{ℕ, ◌<◌}
use mathlib.Core.Path.{◌≡◌, refl, sym, ap, subst, ◌∙◌}
use mathlib.Core.List.{List, [], ◌∷◌, map, flatten, tail-eq_of_cons-eq}
use mathlib.Core.Logic.{◌↔◌}
use native.Mathlib.Omega.{arith}
use lib.ListN.{length}
use lib.Seq.{slice}
use Rattle.grammar.specs.Grammar.{Symbol, name, variable, Fact}
use Rattle.grammar.specs.Meaning.{Place, position, symbols_of, names_of, cells_from, width_of, table_cells}
use Rattle.grammar.specs.Numbering.{Words, Nth, words_at, Firsts, Unnamed, NumberedRow, Rows}
use Rattle.grammar.proofs.NthLaws.{nth-below, nth-one, Any, Parted, parted-none, words_long, position-nth, position-one}
use Rattle.grammar.proofs.NthLaws.{position-there}
use Rattle.grammar.proofs.FirstLaws.{firsts-names, firsts-hold, firsts-parted, firsts-all}
use Rattle.grammar.proofs.RowLaws.{Named, rows-cells, rows-hold, two-variables}

-- "Names are numbered from 0 in order of first appearance, and a list of where each name first stands": the list is that one
pub names-are : (t : List ℕ) (fs : List Fact) (ns : List Place) → Firsts t [] (symbols_of fs) ns ↔ (names_of t fs ≡ ns)
names-are t fs ns = (firsts-names t [] refl, back)
  where
    back : names_of t fs ≡ ns → Firsts t [] (symbols_of fs) ns
    back e =
        let f = firsts-hold t [] (symbols_of fs) in
        subst (Firsts t [] (symbols_of fs)) (sym (firsts-names t [] refl f.1) ∙ e) f.1

-- every name of the text is listed
pub each-name : (t : List ℕ) {ss : List Symbol} {ns : List Place} {i s e a : ℕ} → Firsts t [] ss ns → Nth ss i (name s e a)
    → (k : ℕ) × Nth (words_at t ns) k (slice s e t)
each-name t = firsts-all t

-- two have one number exactly when their bytes are equal
pub one_name : (t : List ℕ) {ss : List Symbol} {ns : List Place} {j k : ℕ} {v w : List ℕ} → Firsts t [] ss ns
    → Nth (words_at t ns) j v → Nth (words_at t ns) k w → (j ≡ k) ↔ (v ≡ w)
one_name t {ns = ns} {j} {k} {v} {w} f h g = (
  λ e. nth-one h (subst (λ (n : ℕ). Nth (words_at t ns) n w) (sym e) g),
  λ e. (firsts-parted t (parted-none Any) f).one j k w tt (subst (Nth (words_at t ns) j) e h) g,
)

-- the number that Meaning gives to a name is where the list has its bytes
pub name-number : (t : List ℕ) (fs : List Fact) (w : List ℕ) (k : ℕ)
    → Nth (words_at t (names_of t fs)) k w ↔ ((position t w (names_of t fs) ≡ k) × (k < length (names_of t fs)))
name-number t fs w k = (
  λ h. (position-one t (names_of t fs) apart tt h, subst (λ (n : ℕ). k < n) (words_long t (names_of t fs)) (nth-below h)),
  λ g. subst (λ (n : ℕ). Nth (words_at t (names_of t fs)) n w) g.0 (position-nth t w (names_of t fs) (omega (arith, g.0, g.1))),
)
  where
    apart : Parted Any (words_at t (names_of t fs))
    apart = firsts-parted t (parted-none Any) ((names-are t fs (names_of t fs)).1 refl)

-- 01, "A table is: width, row count, then the rows": the cells of the rows are those
pub cells_are : (t : List ℕ) (fs : List Fact) (cs : List ℕ) → Rows t (names_of t fs) fs cs ↔ (table_cells t fs ≡ width_of fs ∷ length fs ∷ cs)
unfolding table_cells
cells_are t fs cs = (λ r. ap (λ (x : List ℕ). width_of fs ∷ length fs ∷ x) (to r), back)
  where
    listed : Firsts t [] (symbols_of fs) (names_of t fs)
    listed = (names-are t fs (names_of t fs)).1 refl

    rows : List ℕ
    rows = flatten (map (λ (f : Fact). cells_from t (names_of t fs) [] f.symbols) fs)

    to : {xs : List ℕ} → Rows t (names_of t fs) fs xs → rows ≡ xs
    to = rows-cells t (names_of t fs)

    back : width_of fs ∷ length fs ∷ rows ≡ width_of fs ∷ length fs ∷ cs → Rows t (names_of t fs) fs cs
    back e =
        let r = rows-hold t (names_of t fs) fs (λ i s e a h. (_, position-there t (names_of t fs) (each-name t listed h).1)) in
        let q : r.0 ≡ cs = sym (to r.1) ∙ tail-eq_of_cons-eq (tail-eq_of_cons-eq e) in
        subst (Rows t (names_of t fs) fs) q r.1

-- two variables of a row are one exactly when they have the same bytes and are not `_`
pub one-variable : (t : List ℕ) {ws : Words} {ss : List Symbol} {cs : List ℕ} {i j s e s' e' c c' : ℕ} → NumberedRow t ws [] ss cs → i < j
    → Nth ss i (variable s e) → Nth cs i c → Nth ss j (variable s' e') → Nth cs j c'
    → (c ≡ c') ↔ ((slice s e t ≡ slice s' e' t) × (Unnamed (slice s e t) → ⊥))
one-variable t {ws} = two-variables t ws (parted-none Named)
