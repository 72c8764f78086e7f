-- Two results that the promise allows are equal, for every text, list of names, goal and both rooms.
use Prim.Native.Nat.{ℕ}
use mathlib.Core.Path.{◌≡◌, refl, sym, ap, subst, ◌∙◌}
use mathlib.Core.List.{List}
use lib.Dec.{ltb}
use lib.ListN.{length}
use borrow.Author.Tests.{lt-ltb, le-ltb}
use Rattle.refusal.specs.Refusal.{refused}
use Rattle.refusal.specs.Read.{Read, read, refuse, when, and_then}
use Rattle.refusal.specs.declared.Reason.TheVariants as reason
use Rattle.refusal.specs.declared.Input.TheVariants as input
use Rattle.loading.specs.Load.{put_first}
use Rattle.termtext.specs.Goal.{Goal}
use Rattle.termtext.specs.declared.Predicate.{Predicate}
use Rattle.goaltext.specs.Asked.{PredicateIs, AskedAs, said, goal_cells, new_of}
use Rattle.std.specs.Prelude.{Result}
use Rattle.goaltext.specs.declared.GoalTextSize.{GoalTextSize}
use Rattle.refusal.specs.declared.Refusal.{Refusal}
use Rattle.goaltext.proofs.Fixed.{predicate-of-fixed, asked-one, told_text}
use Rattle.goalroom.specs.Rooms.{GoalFits, not-read, no_cells, no_names, fits, GoalInto}

-- the two rooms, in the order of the refusals
abbrev pub roomed : ℕ → ℕ → Goal → Read Goal
roomed c k g =
    when (ltb c (length g.cells)) (refused reason.Room input.Lent (length g.cells))
    (when (ltb k (length g.new)) (refused reason.Room input.Lent (length g.new)) (read g))

-- what the reader of a goal says by the facts' predicate, and what comes of it
pub record Comes (text names goal : List ℕ) (c k : ℕ) (o : Read Goal) : Type 0 where
  pub p : Predicate
  pub is : PredicateIs text p
  pub says : Read Goal
  pub rule : AskedAs text names p goal says
  pub comes : o ≡ and_then says (roomed c k)

pub fits-is : {text names goal : List ℕ} {c k : ℕ} {o : Read Goal} → GoalFits text names goal c k o → Comes text names goal c k o
fits-is (not-read {p} {f} q a) = record { p = p; is = q; says = refuse f; rule = a; comes = refl }
fits-is {c = c} (no_cells {p} {g} q a l) =
    record { p = p; is = q; says = read g; rule = a; comes = rw (lt-ltb c (length g.cells) l) }
fits-is {c = c} {k} (no_names {p} {g} q a l m) =
    record { p = p; is = q; says = read g; rule = a; comes = rw (le-ltb c (length g.cells) l, lt-ltb k (length g.new) m) }
fits-is {c = c} {k} (fits {p} {g} q a l m) =
    record { p = p; is = q; says = read g; rule = a; comes = rw (le-ltb c (length g.cells) l, le-ltb k (length g.new) m) }

pub fits_one : {text names goal : List ℕ} {c k : ℕ} {a b : Read Goal} → GoalFits text names goal c k a → GoalFits text names goal c k b → a ≡ b
fits_one {text} {names} {goal} {c} {k} x y =
    let u = fits-is x in
    let v = fits-is y in
    let p = predicate-of-fixed u.is v.is in
    let s = asked-one (subst (λ (p : Predicate). AskedAs text names p goal u.says) p u.rule) v.rule in
    u.comes ∙ ap (λ (o : Read Goal). and_then o (roomed c k)) s ∙ sym v.comes

pub goal-into-fixed : {text names goal cells cells' cells'' new new' new'' : List ℕ} {r s : Result GoalTextSize Refusal} → GoalInto text names goal cells cells' new new' r
    → GoalInto text names goal cells cells'' new new'' s → (r ≡ s) × (cells' ≡ cells'') × (new' ≡ new'')
goal-into-fixed {cells = cells} {new = new} {r = r} {s = s} x y =
    let e = fits_one x.rule y.rule in
    let a = x.answers in
    let b = y.answers in (
      told_text r s (a.tells ∙ ap said e ∙ sym b.tells),
      a.wrote ∙ ap (λ (o : Read Goal). put_first (goal_cells o) cells) e ∙ sym b.wrote,
      a.listed ∙ ap (λ (o : Read Goal). put_first (new_of o) new) e ∙ sym b.listed,
    )
