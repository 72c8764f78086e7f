-- Two results that the promise of `read_words` allows are equal, for every text and both rooms.
use Prim.Native.Nat.{ℕ}
use mathlib.Core.Path.{◌≡◌, refl, sym, ap, ap₂, subst}
use mathlib.Core.List.{List}
use native.Mathlib.Omega.{arith}
use Rattle.refusal.specs.Refusal.{Refused, told}
use Rattle.refusal.specs.Read.{read, refuse}
use Rattle.refusal.proofs.RefusalLaws.{told-one}
use Rattle.grammar.specs.Grammar.{Fact}
use Rattle.grammar.specs.Taken.{Taken}
use Rattle.grammar.proofs.Fixed.{taken-fixed}
use Rattle.scan.specs.declared.Counted.{Counted}
use Rattle.scan.proofs.Fixed.{counts-fixed}
use Rattle.texttable.specs.Words.{NamesAre, no_room, many, few, with_names, WordsAre, facts, refused}
use Rattle.texttable.specs.declared.NamesRead.{NamesRead}
use Rattle.texttable.specs.declared.TextWords.{TextWords}
use Rattle.refusal.specs.declared.Refusal.{Refusal}
use Rattle.std.specs.Prelude.{Result, Ok, Err}

names-fixed : {t : List ℕ} {fs : List Fact} {room : ℕ} {list made l m l' m' : List ℕ} {a b : NamesRead}
    → NamesAre t fs room list made l m a → NamesAre t fs room list made l' m' b → (a ≡ b) × (l ≡ l') × (m ≡ m')
names-fixed (no_room h) (no_room i) = (refl, refl, refl)
names-fixed (no_room h) (many i j) = absurd (omega arith)
names-fixed (no_room h) (few i j) = absurd (omega arith)
names-fixed (many h k) (no_room i) = absurd (omega arith)
names-fixed (many h k) (many i j) = (refl, refl, refl)
names-fixed (many h k) (few i j) = absurd (omega arith)
names-fixed (few h k) (no_room i) = absurd (omega arith)
names-fixed (few h k) (many i j) = absurd (omega arith)
names-fixed (few h k) (few i j) = (refl, refl, refl)

pub taken-apart : {t : List ℕ} {fs : List Fact} {o : Refused} → Taken t (read fs) → Taken t (refuse o) → ⊥
taken-apart {t} x y = let e = taken-fixed t x y in let z : ◌≡◌ {A = ℕ} 0 1 = cc in omega arith

pub words-fixed : {t : List ℕ} {room : ℕ} {list made l m l' m' : List ℕ} {a b : Result TextWords Refusal} → WordsAre t room list made l m a
    → WordsAre t room list made l' m' b → (a ≡ b) × (l ≡ l') × (m ≡ m')
words-fixed {t} {room} {list} {made} {l' = l'} {m' = m'} (facts C x) (facts {r = r} D y) =
    let e = counts-fixed t C D in
    let n = names-fixed x (subst (λ (fs : List Fact). NamesAre t fs room list made l' m' r) (sym e.0) y) in
    (ap₂ (λ (c : Counted) (k : NamesRead). Ok (with_names c k)) e.1 n.0, n.1, n.2)
words-fixed (facts C x) (refused y) = absurd (taken-apart C.taken y)
words-fixed (refused x) (facts D y) = absurd (taken-apart D.taken x)
words-fixed {t} (refused {f = f} x) (refused {f = g} y) =
    let e = taken-fixed t x y in
    let q : told f ≡ told g = cc in
    (ap Err (told-one q), refl, refl)
