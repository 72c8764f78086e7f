-- The numbers of a row's variables, law by law, and what is written behind a beginning.
use Prim.Native.Nat.{ℕ, suc, ◌+◌, ◌-◌, ◌≤◌, ◌<◌}
use mathlib.Core.Path.{◌≡◌, refl, sym, ap, ap₂, subst, ◌∙◌}
use mathlib.Core.Bool.{Bool, true, false, cond, ◌&&◌}
use mathlib.Core.List.{List, [], ◌∷◌, ◌++◌, map, append_assoc}
use native.Mathlib.Omega.{arith}
use native.Mathlib.Numerals.{add-one}
use native.Mathlib.Decide.{ℕ_discrete}
use lib.Dec.{eqb, ltb}
use lib.ListN.{length, get_or, set, take, drop, length-append, length-set, take-append-drop}
use lib.Seq.{drop-append-le, length-take-le}
use lib.Seq.{slice, slice-cons, slice_empty, length-slice, drop-cons, append_snoc, set-append_seam, get_or-set_same, get_or-set_other}
use Rattle.cell.specs.Same.{same}
use Rattle.grammar.specs.Meaning.{Place, place, bytes_at, position, variable_number, variables_with, entry_of}
use Rattle.cell.proofs.SameLaws.{same-no}
use Rattle.grammar.proofs.NumberLaws.{position-kept, position-added, fresh-number, named-number, with-new, with-old}
use Rattle.loading.specs.Load.{put_first}
use Rattle.texttable.specs.code.Tree.{word_listed, listed, Tree, WordMet, old, new}
use Rattle.texttable.specs.code.Numbers.{is_fresh, RowVars, VariableIs}
use Rattle.texttable.specs.declared.numbers.Row.{Row}
use Rattle.texttable.specs.declared.numbers.Numbered.{Numbered}
use Rattle.texttable.proofs.TreeLaws.{word-says}

-- `_`: one byte, and it is 95
pub long-not-fresh : (t : List ℕ) (s e : ℕ) → e ≤ length t → (e - s ≡ 1 → ⊥) → is_fresh (slice s e t) ≡ false
long-not-fresh t s e h n = same-no (slice s e t) (95 ∷ []) (λ q. n (sym (length-slice s e t h) ∙ ap length q))

pub fresh-is : (t : List ℕ) (s e : ℕ) → s < e → e ≤ length t → e - s ≡ 1 → is_fresh (slice s e t) ≡ eqb (get_or t s 0) 95
unfolding same
fresh-is t s e l h q =
    let r : suc s ≡ e = omega arith in
    ap is_fresh (slice-cons s e t 0 l h ∙ ap (λ (n : ℕ). get_or t s 0 ∷ slice n e t) r ∙ ap (λ (xs : List ℕ). get_or t s 0 ∷ xs) (slice_empty e t))
    ∙ and-true (eqb (get_or t s 0) 95)
  where
    and-true : (b : Bool) → (b && true) ≡ b
    and-true true = refl
    and-true false = refl

-- a word that is not there and not the one that is added
position-passed : (t w : List ℕ) (vs : List Place) (v : Place) → position t w vs ≡ length vs → same w (bytes_at t v) ≡ false
    → position t w (vs ++ (v ∷ [])) ≡ length (vs ++ (v ∷ []))
unfolding position
position-passed t w [] v h e = rw e
position-passed t w (b ∷ bs) v h e = go (same w (bytes_at t b)) (position-passed t w bs v) h
  where
    go : (x : Bool) → (position t w bs ≡ length bs → same w (bytes_at t v) ≡ false → position t w (bs ++ (v ∷ [])) ≡ length (bs ++ (v ∷ [])))
        → cond x 0 (suc (position t w bs)) ≡ suc (length bs) → cond x 0 (suc (position t w (bs ++ (v ∷ [])))) ≡ suc (length (bs ++ (v ∷ [])))
    go true f q = absurd (omega arith)
    go false f q = ap suc (f (omega arith) e)

abbrev row : ℕ → ℕ → Row
row named all = record { named = named; all = all }

module _ (t words ways given : List ℕ) (r : Row) (s e : ℕ) (X : RowVars t words ways given r) where
  -- `_`
  pub fresh-variable : is_fresh (slice s e t) ≡ true
      → VariableIs t X.places (place s e) words ways given (record { number = r.all; row = row r.named (r.all + 1) })
  fresh-variable f =
      let n = fresh-number t X.places (place s e) f in
      let m = with-new t X.places (place s e) (omega (arith, n)) in
      let long : length (X.places ++ (place s e ∷ [])) ≡ r.all + 1 = length-append X.places (place s e ∷ []) ∙ omega (arith, X.all) in
      record {
        vars = record {
          places = X.places ++ (place s e ∷ []);
          all = long;
          few = omega (arith, X.few);
          tree = X.tree;
          size = X.size;
          found = λ j h. (
              let x = X.found j h in
              (position-kept t (word_listed t (get_or words j 0)) X.places (place s e ∷ []) (omega (arith, x.0, x.1, X.all)) ∙ x.0, omega (arith, x.1)));
          missing = λ v n' g. position-passed t v X.places (place s e) (X.missing v n' g) (other v g);
        };
        with' = sym m;
        number = sym (n ∙ X.all);
        low = omega arith;
      }
    where
      other : (v : List ℕ) → is_fresh v ≡ false → same v (slice s e t) ≡ false
      other v g = same-no v (slice s e t) (λ q. (let z : true ≡ false = sym f ∙ ap is_fresh (sym q) ∙ g in let y : ◌≡◌ {A = ℕ} 0 1 = cc in omega arith))

  -- a variable that is met again
  pub old-variable : {words' ways' : List ℕ} {j : ℕ} → is_fresh (slice s e t) ≡ false → WordMet t words ways r.named s e words' ways' j → j < r.named
      → VariableIs t X.places (place s e) words' ways' given (record { number = get_or given j 0; row = r })
  old-variable f (old {r = j} h q a b) l =
      let x = X.found j h in
      let p : position t (slice s e t) X.places ≡ get_or given j 0 = ap (λ (v : List ℕ). position t v X.places) (sym q) ∙ x.0 in
      let n = named-number t X.places (place s e) f ∙ p in
      rw (a, b)
      (record { vars = X; with' = sym (with-old t X.places (place s e) (omega (arith, n, x.1, X.all))); number = sym n; low = x.1 })
  old-variable f (new n a T) l = absurd (omega arith)

  -- and one that is new
  pub new-variable : {words' ways' : List ℕ} {j : ℕ} → s < e → s < 65536 → is_fresh (slice s e t) ≡ false
      → WordMet t words ways r.named s e words' ways' j → r.named ≤ j
      → VariableIs t X.places (place s e) words' ways' (set given r.named r.all) (record { number = r.all; row = row (r.named + 1) (r.all + 1) })
  new-variable l k f (old h q a b) m = absurd (omega arith)
  new-variable {words'} {ways'} l k f (new n a T) m =
      let g : position t (slice s e t) X.places ≡ length X.places = X.missing (slice s e t) n f in
      let num = named-number t X.places (place s e) f ∙ g in
      let long : length (X.places ++ (place s e ∷ [])) ≡ r.all + 1 = length-append X.places (place s e ∷ []) ∙ omega (arith, X.all) in
      record {
        vars = record {
          places = X.places ++ (place s e ∷ []);
          all = long;
          few = omega (arith, X.few);
          tree = subst (Tree t words' ways') (sym (add-one r.named)) T;
          size = length-set given r.named r.all ∙ X.size ∙ sym (ap length a ∙ length-set words r.named (listed s e));
          found = λ j h. by j (omega arith) (ℕ_discrete j r.named);
          missing = λ v y z. (
              let o : same v (slice s e t) ≡ false = same-no v (slice s e t) (λ q. y r.named (omega arith) (last ∙ sym q)) in
              position-passed t v X.places (place s e) (X.missing v (λ j h q. y j (omega arith) (earlier j h ∙ q)) z) o);
        };
        with' = sym (with-new t X.places (place s e) (omega (arith, num)));
        number = sym (num ∙ X.all);
        low = omega arith;
      }
    where
      room : r.named < length words
      room = omega (arith, T.room, ap length a, length-set words r.named (listed s e))

      last : word_listed t (get_or words' r.named 0) ≡ slice s e t
      last = ap (λ (x : List ℕ). word_listed t (get_or x r.named 0)) a ∙ ap (word_listed t) (get_or-set_same words r.named (listed s e) 0 room)
          ∙ word-says t s e (omega arith) k

      earlier : (j : ℕ) → j < r.named → word_listed t (get_or words' j 0) ≡ word_listed t (get_or words j 0)
      earlier j h = ap (λ (x : List ℕ). word_listed t (get_or x j 0)) a ∙ ap (word_listed t) (get_or-set_other words r.named j (listed s e) 0 (λ q. omega arith))

      by : (j : ℕ) → j < suc r.named → Dec (j ≡ r.named)
          → (position t (word_listed t (get_or words' j 0)) (X.places ++ (place s e ∷ [])) ≡ get_or (set given r.named r.all) j 0)
          × (get_or (set given r.named r.all) j 0 < r.all + 1)
      by j h (yes q) =
          let g = X.missing (slice s e t) n f in
          let p = position-added t (place s e) X.places (omega (arith, g)) in
          let v : get_or (set given r.named r.all) j 0 ≡ r.all =
          ap (λ (i : ℕ). get_or (set given r.named r.all) i 0) q ∙ get_or-set_same given r.named r.all 0 (omega (arith, room, X.size)) in (
            ap (λ (i : ℕ). position t (word_listed t (get_or words' i 0)) (X.places ++ (place s e ∷ []))) q
                ∙ ap (λ (y : List ℕ). position t y (X.places ++ (place s e ∷ []))) last ∙ p ∙ X.all ∙ sym v,
            omega (arith, v),
          )
      by j h (no q) =
          let i : j < r.named = omega arith in
          let x = X.found j i in
          let v = get_or-set_other given r.named j r.all 0 q in (
            ap (λ (y : List ℕ). position t y (X.places ++ (place s e ∷ []))) (earlier j i)
                ∙ position-kept t (word_listed t (get_or words j 0)) X.places (place s e ∷ []) (omega (arith, x.0, x.1, X.all))
                ∙ x.0 ∙ sym v,
            omega (arith, v, x.1),
          )

-- no variables yet
unfoldable pub no-variables : (t words ways given : List ℕ) → Tree t words ways 0 → length given ≡ length words → RowVars t words ways given (row 0 0)
unfolding position
no-variables t words ways given T e =
    record { places = []; all = refl; few = omega arith; tree = T; size = e; found = λ j h. absurd (omega arith); missing = λ w n f. refl }

pub entries-more : (ns : List Place) (w : Place) → map entry_of ns ++ (entry_of w ∷ []) ≡ map entry_of (ns ++ (w ∷ []))
entries-more [] w = refl
entries-more (n ∷ ns) w = ap (λ (l : List ℕ). entry_of n ∷ l) (entries-more ns w)

-- a store at the end of what is written
pub set_next : (xs start : List ℕ) (k c : ℕ) → length xs ≡ k → k < length start
    → set (xs ++ drop k start) k c ≡ (xs ++ (c ∷ [])) ++ drop (k + 1) start
set_next xs start k c e h =
    ap₂ (λ (l : List ℕ) (i : ℕ). set (xs ++ l) i c) (drop-cons start k 0 h) (sym e)
    ∙ set-append_seam xs (get_or start k 0) (drop (suc k) start) c
    ∙ sym (append_snoc xs c (drop (suc k) start))
    ∙ ap (λ (i : ℕ). (xs ++ (c ∷ [])) ++ drop i start) (sym (add-one k))

-- one variable at most is added
with-few : (t : List ℕ) (vs : List Place) (w : Place) → length (variables_with t vs w) ≤ length vs + 1
unfolding variables_with
with-few t vs w = go (ltb (variable_number t vs w) (length vs))
  where
    go : (b : Bool) → length (cond b vs (vs ++ (w ∷ []))) ≤ length vs + 1
    go true = omega arith
    go false = omega (arith, length-append vs (w ∷ []))

pub variable-few : {t words ways given : List ℕ} {vs : List Place} {w : Place} {v : Numbered} → VariableIs t vs w words ways given v
    → v.row.all ≤ length vs + 1
variable-few {t} {vs = vs} {w = w} x = omega (arith, x.vars.all, ap length x.with', with-few t vs w)

pub met-low : {t list links list' links' : List ℕ} {count s e r : ℕ} → WordMet t list links count s e list' links' r → r ≤ count
met-low (old h q a b) = omega arith
met-low (new n a T) = omega arith

-- the front of a part is the front of the whole
pub front-part : (xs room : List ℕ) (n : ℕ) → length xs ≤ n → n ≤ length room → put_first xs (take n room) ++ drop n room ≡ put_first xs room
front-part xs room n h l =
    append_assoc xs (drop (length xs) (take n room)) (drop n room)
    ∙ ap (λ (ys : List ℕ). xs ++ ys)
    (sym (drop-append-le (length xs) (take n room) (drop n room) (omega (arith, length-take-le n room l))) ∙ ap (drop (length xs)) (take-append-drop n room))
