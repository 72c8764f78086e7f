-- What a branch's clause is made from, and the clause.
use Rattle.std.specs.Prelude.{ℕ, ◌+◌, ◌-◌, ◌^◌, ◌<◌, ◌≡◌, List, length, get_or, replicate}
use Rattle.cell.specs.Cell.{arity}
use Rattle.table.specs.All.{All}
use Rattle.table.specs.Table.{count}
use Rattle.answer.specs.Skeleton.{hole, decide}
use Rattle.clauses.specs.Clauses.{Clause, clause_of}
use Rattle.clauses.specs.code.Walk.{fold_head, fold_body}
use Rattle.unfolding.specs.code.Walk.{Stands, Fills}
use Rattle.unfolding.specs.declared.own.Own.{Own}

-- the head of a predicate with so many open places, one of them decided by the branch's cell
abbrev pub first_head : (plan : List ℕ) (p index width : ℕ) → List ℕ
first_head plan p index width = decide index (get_or plan p 0) (replicate width hole)

-- at p stands a branch's cell, and after it the state below, whose rows fill the head
pub record BranchAt (plan : List ℕ) (p index : ℕ) (o : Own) : Type 0 where
  pub below : Stands plan (p + 1) (arity (get_or plan p 0) + o.width - 1)
  pub some : 0 < length below.rows
  pub there : index < o.width
  pub open-here : count hole (first_head plan p index o.width) ≡ below.k
  pub fills : All (Fills below.k (first_head plan p index o.width)) below.rows
  pub predicate-small : o.predicate < 2 ^ 32
  pub called-small : o.called < 2 ^ 32

abbrev pub branch_clause : {plan : List ℕ} {p index : ℕ} {o : Own} → BranchAt plan p index o → Clause
branch_clause {plan} {p} {index} {o} w =
    clause_of o.predicate o.width (fold_head w.below.tree (first_head plan p index o.width)) (fold_body w.below.tree o.called)
