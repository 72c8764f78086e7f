-- Two results that a promise allows are equal: the answer, and what the rooms hold.
use Prim.Native.Nat.{ℕ}
use mathlib.Core.Path.{◌≡◌, sym, ◌∙◌, ap, ap₂}
use mathlib.Core.List.{List, ◌++◌}
use native.Mathlib.Omega.{arith}
use lib.ListN.{length, drop}
use Rattle.refusal.specs.Refusal.{told, Answer, answered, turned}
use Rattle.refusal.proofs.RefusalLaws.{told-one}
use Rattle.table.proofs.ReadLaws.{apart, read_one, refuse-one}
use Rattle.filing.specs.Files.{Card, no_room, FileWritten, not-accepted, room-short, written}
use Rattle.filing.specs.Files.{FileLoaded, not-read, table-short, plan-short, loaded}
use Rattle.filing.specs.Answers.{written_told, contents_told}
use Rattle.std.specs.Prelude.{Result, Ok, Err}
use Rattle.refusal.specs.declared.Refusal.{Refusal}
use Rattle.filing.specs.declared.Written.{Written}
use Rattle.filing.specs.declared.Contents.{Contents}

-- what follows from an equation on both sides
same : {A : Type 0} {x y z : A} → x ≡ z → y ≡ z → x ≡ y
same p q = p ∙ sym q

pub written-fixed : {t p room a b : List ℕ} {x y : Answer} → FileWritten t p room a x → FileWritten t p room b y → (x ≡ y) × (a ≡ b)
written-fixed (not-accepted f e r s) (not-accepted g e' r' s') = (same r (r' ∙ ap turned (refuse-one (sym e' ∙ e))), same s s')
written-fixed (not-accepted f e r s) (room-short n e' l r' s') = apart (sym e' ∙ e)
written-fixed (not-accepted f e r s) (written n e' l r' s') = apart (sym e' ∙ e)
written-fixed (room-short n e l r s) (not-accepted f e' r' s') = apart (sym e ∙ e')
written-fixed (room-short n e l r s) (room-short m e' l' r' s') = (same r r', same s s')
written-fixed (room-short n e l r s) (written m e' l' r' s') = absurd (omega arith)
written-fixed (written n e l r s) (not-accepted f e' r' s') = apart (sym e ∙ e')
written-fixed (written n e l r s) (room-short m e' l' r' s') = absurd (omega arith)
written-fixed (written n e l r s) (written m e' l' r' s') = (same r r', same s s')

-- a file has one reading; so its cards are one
pub loaded-fixed : {f t p t₁ p₁ t₂ p₂ : List ℕ} {x y : Answer} → FileLoaded f t p t₁ p₁ x → FileLoaded f t p t₂ p₂ y
    → (x ≡ y) × (t₁ ≡ t₂) × (p₁ ≡ p₂)
loaded-fixed (not-read g e r s u) (not-read h e' r' s' u') = (same r (r' ∙ ap turned (refuse-one (sym e' ∙ e))), same s s', same u u')
loaded-fixed (not-read g e r s u) (table-short c e' l r' s' u') = apart (sym e' ∙ e)
loaded-fixed (not-read g e r s u) (plan-short c e' k l r' s' u') = apart (sym e' ∙ e)
loaded-fixed (not-read g e r s u) (loaded c e' k l r' s' u') = apart (sym e' ∙ e)
loaded-fixed (table-short c e l r s u) (not-read g e' r' s' u') = apart (sym e ∙ e')
loaded-fixed (table-short c e l r s u) (table-short d e' l' r' s' u') =
    let q = read_one (sym e' ∙ e) in (same r (r' ∙ ap (λ (x : Card). no_room (length x.table)) q), same s s', same u u')
loaded-fixed (table-short c e l r s u) (plan-short d e' k l' r' s' u') =
    let q = ap (λ (x : Card). length x.table) (read_one (sym e' ∙ e)) in absurd (omega (arith, q))
loaded-fixed (table-short c e l r s u) (loaded d e' k l' r' s' u') =
    let q = ap (λ (x : Card). length x.table) (read_one (sym e' ∙ e)) in absurd (omega (arith, q))
loaded-fixed (plan-short c e k l r s u) (not-read g e' r' s' u') = apart (sym e ∙ e')
loaded-fixed (plan-short c e k l r s u) (table-short d e' l' r' s' u') =
    let q = ap (λ (x : Card). length x.table) (read_one (sym e' ∙ e)) in absurd (omega (arith, q))
loaded-fixed (plan-short c e k l r s u) (plan-short d e' k' l' r' s' u') =
    let q = read_one (sym e' ∙ e) in (same r (r' ∙ ap (λ (x : Card). no_room (length x.plan)) q), same s s', same u u')
loaded-fixed (plan-short c e k l r s u) (loaded d e' k' l' r' s' u') =
    let q = ap (λ (x : Card). length x.plan) (read_one (sym e' ∙ e)) in absurd (omega (arith, q))
loaded-fixed (loaded c e k l r s u) (not-read g e' r' s' u') = apart (sym e ∙ e')
loaded-fixed (loaded c e k l r s u) (table-short d e' l' r' s' u') =
    let q = ap (λ (x : Card). length x.table) (read_one (sym e' ∙ e)) in absurd (omega (arith, q))
loaded-fixed (loaded c e k l r s u) (plan-short d e' k' l' r' s' u') =
    let q = ap (λ (x : Card). length x.plan) (read_one (sym e' ∙ e)) in absurd (omega (arith, q))
loaded-fixed {t = t} {p = p} (loaded c e k l r s u) (loaded d e' k' l' r' s' u') =
    let q = read_one (sym e' ∙ e) in (
      same r (r' ∙ ap (λ (x : Card). answered (length x.table) (length x.plan)) q),
      same s (s' ∙ ap (λ (x : Card). x.table ++ drop (length x.table) t) q),
      same u (u' ∙ ap (λ (x : Card). x.plan ++ drop (length x.plan) p) q),
    )

-- write_file and read_file: the promise gives 01's number and values, which tell the cases apart
same-written : (a b : Result Written Refusal) → written_told a ≡ written_told b → a ≡ b
same-written (Ok x) (Ok y) e =
    let first : x.bytes ≡ y.bytes = cc in
    let second : x.blocks ≡ y.blocks = cc in
    let with : ℕ → ℕ → Result Written Refusal = λ m n. Ok (record { bytes = m; blocks = n }) in
    ap₂ with first second
same-written (Ok x) (Err g) e = absurd (let z : ◌≡◌ {A = ℕ} 0 1 = cc in omega arith)
same-written (Err f) (Ok y) e = absurd (let z : ◌≡◌ {A = ℕ} 0 1 = cc in omega arith)
same-written (Err f) (Err g) e = let q : told f ≡ told g = cc in ap Err (told-one q)

same-contents : (a b : Result Contents Refusal) → contents_told a ≡ contents_told b → a ≡ b
same-contents (Ok x) (Ok y) e =
    let first : x.table ≡ y.table = cc in
    let second : x.plan ≡ y.plan = cc in
    let with : ℕ → ℕ → Result Contents Refusal = λ m n. Ok (record { table = m; plan = n }) in
    ap₂ with first second
same-contents (Ok x) (Err g) e = absurd (let z : ◌≡◌ {A = ℕ} 0 1 = cc in omega arith)
same-contents (Err f) (Ok y) e = absurd (let z : ◌≡◌ {A = ℕ} 0 1 = cc in omega arith)
same-contents (Err f) (Err g) e = let q : told f ≡ told g = cc in ap Err (told-one q)

pub write-file-fixed : {t p room a b : List ℕ} {x y : Result Written Refusal} → FileWritten t p room a (written_told x)
    → FileWritten t p room b (written_told y) → (x ≡ y) × (a ≡ b)
write-file-fixed {x = x} {y = y} v w = let f = written-fixed v w in (same-written x y f.0, f.1)

pub read-file-fixed : {f t p t₁ p₁ t₂ p₂ : List ℕ} {x y : Result Contents Refusal} → FileLoaded f t p t₁ p₁ (contents_told x)
    → FileLoaded f t p t₂ p₂ (contents_told y) → (x ≡ y) × (t₁ ≡ t₂) × (p₁ ≡ p₂)
read-file-fixed {x = x} {y = y} v w = let f = loaded-fixed v w in (same-contents x y f.0, f.1, f.2)
