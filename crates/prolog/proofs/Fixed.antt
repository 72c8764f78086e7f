-- Two results that the promise of `read_text` allows are equal, for every text and both rooms; and two that `make_facts` may have.
use mathlib.Core.Path.{◌≡◌, refl, ap, ap₂}
use mathlib.Core.List.{List}
use lib.ListN.{length}
use Prim.Native.Nat.{ℕ, ◌≤◌, ◌<◌}
use native.Mathlib.Omega.{arith}
use Rattle.refusal.specs.Refusal.{told}
use Rattle.refusal.proofs.RefusalLaws.{told-one}
use Rattle.grammar.specs.Grammar.{Fact}
use Rattle.grammar.specs.Meaning.{table_cells, name_list}
use Rattle.grammar.proofs.Fixed.{taken-fixed}
use Rattle.loading.specs.Load.{TextLoads, put_first}
use Rattle.loading.proofs.Fixed.{text-fixed}
use Rattle.scan.specs.Scan.{Counts}
use Rattle.scan.specs.declared.Counted.{Counted}
use Rattle.scan.proofs.Fixed.{counts-fixed}
use Rattle.texttable.proofs.Fixed.{taken-apart}
use Rattle.prolog.specs.Entry.{text_told, sizes, FactsAre, are-made, too_long, not_taken}
use Rattle.prolog.specs.declared.FactsMade.{FactsMade}
use Rattle.prolog.specs.declared.FactsMade.TheVariants as facts-made
use Rattle.prolog.specs.declared.TextSize.{TextSize}
use Rattle.refusal.specs.declared.Refusal.{Refusal}
use Rattle.std.specs.Prelude.{Result, Ok, Err}
use Rattle.limits.specs.Limits.{most_names}

text_told-one : (a b : Result TextSize Refusal) → text_told a ≡ text_told b → a ≡ b
text_told-one (Ok n) (Ok m) e = let c : n.cells ≡ m.cells = cc in let d : n.names ≡ m.names = cc in ap₂ (λ (x y : ℕ). Ok (sizes x y)) c d
text_told-one (Ok n) (Err g) e = absurd (let z : ◌≡◌ {A = ℕ} 0 1 = cc in omega arith)
text_told-one (Err f) (Ok m) e = absurd (let z : ◌≡◌ {A = ℕ} 0 1 = cc in omega arith)
text_told-one (Err f) (Err g) e = let q : told f ≡ told g = cc in ap Err (told-one q)

pub read-text-fixed : {t cells names cells' names' cells'' names'' : List ℕ} {r s : Result TextSize Refusal}
    → TextLoads t cells names cells' names' (text_told r) → TextLoads t cells names cells'' names'' (text_told s)
    → (r ≡ s) × (cells' ≡ cells'') × (names' ≡ names'')
read-text-fixed {r = r} {s = s} a b = let f = text-fixed a b in (text_told-one r s f.0, f.1, f.2)

long_apart : {t : List ℕ} {c d : Counted} → Counts t c → Counts t d → c.symbols ≤ most_names → most_names < d.symbols → ⊥
long_apart {t} C D h k = omega (arith, ap (λ (x : Counted). x.symbols) (counts-fixed t C D).1)

pub make-facts-fixed : {t made list m l m' l' : List ℕ} {a b : Result FactsMade Refusal} → FactsAre t made list m l a → FactsAre t made list m' l' b
    → (a ≡ b) × (m ≡ m') × (l ≡ l')
make-facts-fixed {t} {made} {list} (are-made C h) (are-made D k) =
    let e = counts-fixed t C D in (
      ap₂ (λ (c : Counted) (fs : List Fact). Ok (facts-made.Made c (sizes (length (table_cells t fs)) (length (name_list t fs))))) e.1 e.0,
      ap (λ (fs : List Fact). put_first (table_cells t fs) made) e.0,
      ap (λ (fs : List Fact). put_first (name_list t fs) list) e.0,
    )
make-facts-fixed (are-made C h) (too_long D k) = absurd (long_apart C D h k)
make-facts-fixed (are-made C h) (not_taken y) = absurd (taken-apart C.taken y)
make-facts-fixed (too_long C h) (are-made D k) = absurd (long_apart D C k h)
make-facts-fixed {t} (too_long C h) (too_long D k) = (ap (λ (c : Counted). Ok (facts-made.Long c)) (counts-fixed t C D).1, refl, refl)
make-facts-fixed (too_long C h) (not_taken y) = absurd (taken-apart C.taken y)
make-facts-fixed (not_taken x) (are-made D k) = absurd (taken-apart D.taken x)
make-facts-fixed (not_taken x) (too_long D k) = absurd (taken-apart D.taken x)
make-facts-fixed {t} (not_taken {f = f} x) (not_taken {f = g} y) =
    let e = taken-fixed t x y in
    let q : told f ≡ told g = cc in
    (ap Err (told-one q), refl, refl)
