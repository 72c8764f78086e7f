-- Where the names of a text stand: each lies in the text, and its bytes there are a name.
use Prim.Native.Nat.{ℕ, ◌+◌, ◌≤◌}
use mathlib.Core.Path.{◌≡◌, refl, sym, ap, subst, ◌∙◌}
use mathlib.Core.List.{List, [], ◌∷◌, ◌++◌, flatten}
use native.Mathlib.Omega.{arith}
use lib.ListN.{length, take, drop}
use lib.Seq.{slice, take-append_seam}
use Rattle.term.proofs.Lists.{slice-take}
use Rattle.table.specs.All.{All}
use Rattle.table.proofs.AllLaws.{all-++}
use Rattle.grammar.specs.Grammar as G
use Rattle.grammar.specs.Grammar.{Word, Symbol, name, variable, number, Fact, Text}
use Rattle.grammar.specs.Meaning.{symbols_of}
use Rattle.grammar.proofs.LongLaws.{word_on}
use Rattle.termtext.proofs.SpellLaws.{Going, Lower, lower}
use Rattle.termtext.proofs.TextLaws.{Named, left-within, text-has}

-- a name from a place up to another
pub record Stands (t : List ℕ) (s e : ℕ) : Type 0 where
  pub from : s ≤ e
  pub within : e ≤ length t
  pub named : Lower (slice s e t)

-- a symbol that is a name, and the names of a fact
abbrev pub NameStands : List ℕ → Symbol → Type 0
NameStands t (name s e a) = Stands t s e
NameStands t (variable s e) = Unit {0}
NameStands t (number v) = Unit {0}

abbrev pub FactStands : List ℕ → Fact → Type 0
FactStands t f = Stands t f.start f.end × All (NameStands t) f.symbols

-- the bytes of a word, and what is left after it
record Bytes (p : ℕ) (xs : List ℕ) (q : ℕ) (ys : List ℕ) : Type 0 where
  bytes : List ℕ
  is : xs ≡ bytes ++ ys
  long : q ≡ p + length bytes
  going : Going bytes

word_bytes : {p q : ℕ} {xs ys : List ℕ} → Word p xs q ys → Bytes p xs q ys
word_bytes G.none = record { bytes = []; is = refl; long = omega arith; going = tt }
word_bytes (G.more {b = b} e w) =
    let r = word_bytes w in
    record { bytes = b ∷ r.bytes; is = ap (λ (l : List ℕ). b ∷ l) r.is; long = omega (arith, r.long); going = (e, r.going) }

module _ (t : List ℕ) where
  -- ONE NAME
  name-stands : (p q : ℕ) → Named t p q → Stands t p q
  name-stands p q m =
      let r = word_bytes m.word in
      let u = m.byte ∷ r.bytes in
      let e : drop p t ≡ u ++ m.after = m.here.is ∙ ap (λ (l : List ℕ). m.byte ∷ l) r.is in
      let j : q ≡ p + length u = omega (arith, r.long) in
      let z : slice p q t ≡ u
      = ap (λ (k : ℕ). slice p k t) j ∙ slice-take p (length u) t ∙ ap (take (length u)) e ∙ take-append_seam u m.after in
      record {
        from = omega arith;
        within = omega (arith, left-within m.here, (word_on m.word).1);
        named = subst Lower (sym z) (lower m.lower r.going);
      }

  -- THE FACTS OF A TEXT
  pub text-stands : {fs : List Fact} → Text t fs → All (FactStands t) fs
  text-stands x = text-has t (NameStands t) (λ p q a m h. name-stands p q m) (λ p q. tt) (λ v h. tt) x

  pub symbols-stand : (fs : List Fact) → All (FactStands t) fs → All (NameStands t) (symbols_of fs)
  unfolding flatten
  symbols-stand [] a = tt
  symbols-stand (f ∷ fs) a = all-++ (NameStands t) f.symbols (symbols_of fs) a.0.1 (symbols-stand fs a.1)
