-- Names as bytes: two that are the same, and bytes that are one.
use Prim.Native.Nat.{ℕ, suc, ◌+◌, ◌-◌, ◌≤◌, ◌<◌}
use mathlib.Core.Path.{◌≡◌, refl, sym, ap, subst, ◌∙◌}
use mathlib.Core.Bool.{Bool, true, false, ◌&&◌}
use mathlib.Core.List.{List, [], ◌∷◌, ◌++◌}
use native.Mathlib.Omega.{arith}
use lib.Dec.{eqb}
use lib.ListN.{length, get_or, take, drop, drop_of_length-le}
use lib.Seq.{slice, length-take-le, take-add, drop-append_seam}
use borrow.Author.Tests.{eqb-true, eqb-false}
use Rattle.grammar.specs.Grammar as G
use Rattle.grammar.specs.Grammar.{is_lower, Word, Symbol, name, Term}
use Rattle.cell.specs.Same.{same}
use Rattle.grammar.specs.Reader.{Ends}
use Rattle.std.specs.Cmp.Lexicographic.{pointwise}
use Rattle.lex.specs.Names.{IsName, Names, NameSaid}
use Rattle.lex.specs.code.Ends.{WordTo}
use Rattle.lex.proofs.ByteLaws.{here}

-- the same bytes, as `==` compares them
pub same-pointwise : (xs ys : List ℕ) → pointwise eqb xs ys ≡ same xs ys
unfolding same
same-pointwise [] [] = refl
same-pointwise [] (b ∷ ys) = refl
same-pointwise (a ∷ xs) [] = refl
same-pointwise (a ∷ xs) (b ∷ ys) = ap (λ (t : Bool). eqb a b && t) (same-pointwise xs ys)

-- a name, taken apart
record Named (p : ℕ) (w : List ℕ) (q : ℕ) (ys : List ℕ) : Type 0 where
  byte : ℕ
  rest : List ℕ
  is : w ≡ byte ∷ rest
  lower : is_lower byte ≡ true
  word : Word (suc p) rest q ys

named : {p q : ℕ} {w ys : List ℕ} {ss : List Symbol} → Term p w q ys ss → ss ≡ (name p q 0 ∷ []) → Named p w q ys
named (G.is_name {b = b} {xs = xs} l k) e = record { byte = b; rest = xs; is = refl; lower = l; word = k }
named (G.is-compound l k a h) e = absurd (let z : ◌≡◌ {A = ℕ} 0 1 = cc in omega arith)
named (G.is-variable l k) e = absurd (let z : ◌≡◌ {A = ℕ} 0 1 = cc in omega arith)
named (G.is_number l k h) e = absurd (let z : ◌≡◌ {A = ℕ} 0 1 = cc in omega arith)
named (G.is_negative l k h b) e = absurd (let z : ◌≡◌ {A = ℕ} 0 1 = cc in omega arith)

-- a word up to the end ends nowhere else
word-one : {p q r : ℕ} {xs ys : List ℕ} → Word p xs q [] → Word p xs r ys → Ends ys → q ≡ r
word-one G.none G.none e = refl
word-one (G.more b k) G.none e = absurd (let z : true ≡ false = sym b ∙ e in let y : ◌≡◌ {A = ℕ} 0 1 = cc in omega arith)
word-one (G.more b k) (G.more c l) e = word-one k l e

pub no_bytes : (w : List ℕ) → length w ≡ 0 → IsName w → ⊥
no_bytes w e x =
    let n = named x refl in
    let z : ◌≡◌ {A = ℕ} 0 1 = (let l = ap length n.is in omega arith) in
    omega arith

pub no_lower : (w : List ℕ) → is_lower (get_or w 0 0) ≡ false → IsName w → ⊥
no_lower w e x =
    let n = named x refl in
    let b : true ≡ false = sym n.lower ∙ ap (λ (v : List ℕ). is_lower (get_or v 0 0)) (sym n.is) ∙ e in
    let y : ◌≡◌ {A = ℕ} 0 1 = cc in
    omega arith

module _ (w : List ℕ) (h : 0 < length w) (r : ℕ) (k : WordTo w 1 r) where
  all-name : is_lower (get_or w 0 0) ≡ true → r ≡ length w → IsName w
  all-name e q =
      let l : length w ≤ r = omega arith in
      subst (λ (v : List ℕ). Term 0 v (length w) [] (name 0 (length w) 0 ∷ [])) (sym (here w 0 h))
      (G.is_name e (subst (λ (n : ℕ). Word 1 (drop 1 w) n []) q (subst (λ (ys : List ℕ). Word 1 (drop 1 w) r ys) (drop_of_length-le w l) k.word)))

  ends-before : (r ≡ length w → ⊥) → IsName w → ⊥
  ends-before n x =
      let m = named x refl in
      n (sym (word-one m.word (subst (λ (v : List ℕ). Word 1 v r (drop r w)) (ap (drop 1) m.is) k.word) k.ends))

  -- a name, or it ends before
  pub name-or-not : is_lower (get_or w 0 0) ≡ true → Names w (eqb r (length w))
  name-or-not e = by (eqb r (length w)) refl
    where
      by : (b : Bool) → eqb r (length w) ≡ b → Names w b
      by true q = all-name e (eqb-true r (length w) q)
      by false q = ends-before (eqb-false r (length w) q)

-- a part of a text, as it is lent
pub part-is : (t : List ℕ) (a e : ℕ) → a ≤ e → e ≤ length t → take (e - a) (drop a t) ≡ slice a e t
part-is t a e h k =
    let n : a + (e - a) ≡ e = omega arith in
    let l : length (take a t) ≡ a = length-take-le a t (omega arith) in
    sym
    (ap (λ (x : ℕ). drop a (take x t)) (sym n)
    ∙ ap (drop a) (take-add a (e - a) t)
    ∙ ap (λ (x : ℕ). drop x (take a t ++ take (e - a) (drop a t))) (sym l)
    ∙ drop-append_seam (take a t) (take (e - a) (drop a t)))

pub part-said : (t : List ℕ) (start bytes : ℕ) (b : Bool) → start + bytes ≤ length t → Names (take (start + bytes - start) (drop start t)) b
    → NameSaid t start bytes b
part-said t start bytes b h x = by b (subst (λ (w : List ℕ). Names w b) (part-is t start (start + bytes) (omega arith) h) x)
  where
    by : (b : Bool) → Names (slice start (start + bytes) t) b → NameSaid t start bytes b
    by true y = (h, y)
    by false y = λ l. y
