-- "the predicates' names can't clash with them" (02, W-210): a predicate's word is no lower-case name, and two predicates have two words.
use Prim.Native.Nat.{ℕ}
use mathlib.Core.Path.{◌≡◌, refl, sym, ◌∙◌, ap, subst}
use mathlib.Core.Logic.{◌≢◌}
use mathlib.Core.Bool.{true}
use mathlib.Core.List.{List, [], ◌∷◌, ◌++◌}
use native.Mathlib.Omega.{arith}
use lib.ListN.{length, take, drop, length-append}
use lib.Seq.{take_at}
use Rattle.table.proofs.ReadLaws.{not-both}
use Rattle.octets.specs.Octets.{decimal}
use Rattle.grammar.specs.Grammar.{is_lower}
use Rattle.lex.specs.Names.{IsName}
use Rattle.termtext.proofs.SpellLaws.{Lower, lower, name-lower, decimal-one}
use Rattle.clauses.specs.Text.{predicate_word}

lower-first : {b : ℕ} {rest : List ℕ} → IsName (b ∷ rest) → is_lower b ≡ true
lower-first {b} {rest} n = go (name-lower n)
  where
    go : Lower (b ∷ rest) → is_lower b ≡ true
    go (lower e g) = e

-- a lower-case name begins neither with the quote of `'P0'` nor with the capital of the name that is quoted, `P0`
pub names_apart : (k : ℕ) (w : List ℕ) → IsName w → w ≢ predicate_word k
unfolding is_lower
names_apart k w n e = let z = lower-first (subst IsName e n) in not-both z refl

pub names-bare : (k : ℕ) (w : List ℕ) → IsName w → w ≢ 80 ∷ decimal k
unfolding is_lower
names-bare k w n e = let z = lower-first (subst IsName e n) in not-both z refl

pub words-apart : (j k : ℕ) → predicate_word j ≡ predicate_word k → j ≡ k
words-apart j k e =
    let z : decimal j ++ (39 ∷ []) ≡ decimal k ++ (39 ∷ []) = ap (drop 2) e in
    let n = length (decimal j) in
    let m : length (decimal k) ≡ n = omega (arith, ap length z, length-append (decimal j) (39 ∷ []), length-append (decimal k) (39 ∷ [])) in
    decimal-one (sym (take_at (decimal j) (39 ∷ []) n refl) ∙ ap (take n) z ∙ take_at (decimal k) (39 ∷ []) n m)
