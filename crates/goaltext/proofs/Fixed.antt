-- Two results that a promise allows are equal: of `predicate_of` for every text, and of `read_goal` for every text, list of names,
-- predicate, goal and both rooms.
use Prim.Native.Nat.{ℕ}
use mathlib.Core.Path.{◌≡◌, refl, sym, ap, ap₂, ◌∙◌}
use mathlib.Core.List.{List}
use native.Mathlib.Omega.{arith}
use Rattle.refusal.specs.Refusal.{told}
use Rattle.refusal.specs.Read.{Read}
use Rattle.refusal.proofs.RefusalLaws.{told-one}
use Rattle.grammar.proofs.Fixed.{taken-fixed}
use Rattle.loading.specs.Load.{put_first}
use Rattle.termtext.specs.Saying.{words_in, predicate_in}
use Rattle.termtext.specs.Goal.{Goal}
use Rattle.termtext.specs.declared.Predicate.{Predicate}
use Rattle.termtext.proofs.One.{read_one}
use Rattle.goaltext.specs.Asked.{predicate_of, PredicateIs, first, none, AskedAs, too_many, asked, said, goal_text_told, goal_cells, new_of}
use Rattle.goaltext.specs.Asked.{GoalAsked}
use Rattle.std.specs.Prelude.{Result, Ok, Err}
use Rattle.goaltext.specs.declared.GoalTextSize.{GoalTextSize}
use Rattle.refusal.specs.declared.Refusal.{Refusal}

pub predicate-of-fixed : {t : List ℕ} {r s : Predicate} → PredicateIs t r → PredicateIs t s → r ≡ s
predicate-of-fixed {t} (first {f = f} x) (first {f = g} y) = let e = taken-fixed t x y in let z : f ≡ g = cc in ap predicate_of z
predicate-of-fixed {t} (first x) (none y) = absurd (let e = taken-fixed t x y in let z : ◌≡◌ {A = ℕ} 0 1 = cc in omega arith)
predicate-of-fixed {t} (none x) (first y) = absurd (let e = taken-fixed t x y in let z : ◌≡◌ {A = ℕ} 0 1 = cc in omega arith)
predicate-of-fixed (none x) (none y) = refl

pub told_text : (a b : Result GoalTextSize Refusal) → goal_text_told a ≡ goal_text_told b → a ≡ b
told_text (Ok c) (Ok d) e =
    let first : c.cells ≡ d.cells = cc in
    let second : c.names ≡ d.names = cc in
    let with : ℕ → ℕ → Result GoalTextSize Refusal = λ m n. Ok (record { cells = m; names = n }) in
    ap₂ with first second
told_text (Ok c) (Err g) e = absurd (let z : ◌≡◌ {A = ℕ} 0 1 = cc in omega arith)
told_text (Err f) (Ok d) e = absurd (let z : ◌≡◌ {A = ℕ} 0 1 = cc in omega arith)
told_text (Err f) (Err g) e = let q : told f ≡ told g = cc in ap Err (told-one q)

pub asked-one : {text names : List ℕ} {p : Predicate} {goal : List ℕ} {a b : Read Goal} → AskedAs text names p goal a
    → AskedAs text names p goal b → a ≡ b
asked-one (too_many h) (too_many k) = refl
asked-one (too_many h) (asked k y) = absurd (omega arith)
asked-one (asked h x) (too_many k) = absurd (omega arith)
asked-one {text} {names} {p} {goal} (asked h x) (asked k y) = read_one (words_in text names) (predicate_in text p) p.width goal x y

pub read-goal-fixed : {text names : List ℕ} {p : Predicate} {goal cells cells' cells'' new new' new'' : List ℕ} {r s : Result GoalTextSize Refusal}
    → GoalAsked text names p goal cells cells' new new' r → GoalAsked text names p goal cells cells'' new new'' s
    → (r ≡ s) × (cells' ≡ cells'') × (new' ≡ new'')
read-goal-fixed {cells = cells} {new = new} {r = r} {s = s} x y =
    let e = asked-one x.rule y.rule in
    let a = x.answers in
    let b = y.answers in (
      told_text r s (a.tells ∙ ap said e ∙ sym b.tells),
      a.wrote ∙ ap (λ (o : Read Goal). put_first (goal_cells o) cells) e ∙ sym b.wrote,
      a.listed ∙ ap (λ (o : Read Goal). put_first (new_of o) new) e ∙ sym b.listed,
    )
