-- Programs (02, W-210, "Write an accepted plan as clauses by the translation in document 001, section 4"): clauses, each a head and a body
-- that is nothing or one call. The call's arguments are the head's variables, in the order in which they first appear, so of a body only
-- the predicate that is called has to be said.
use Rattle.std.specs.Prelude.{ℕ, List, []}
use Rattle.table.specs.Table.{appear}

-- document 001, section 4, "If the sequence of transitions ends in a branch point, the body of the clause is a call to the predicate
-- associated with that branch point"; a row has no body of its own
pub data Body : Type 0 where
  nothing : Body
  calls : (predicate : ℕ) → Body

-- a clause ("as clauses"): the number of its predicate, how many arguments that has, and their cells, which are so many terms
pub record Clause : Type 0 where
  pub predicate : ℕ
  pub width : ℕ
  pub head : List ℕ
  pub body : Body

abbrev pub clause_of : (predicate width : ℕ) → List ℕ → Body → Clause
clause_of k w h b = record { predicate = k; width = w; head = h; body = b }

-- what a body calls its predicate on: "The fringe variables of the state are passed as arguments to the predicate" (001, section 4)
abbrev pub handed : List ℕ → List ℕ
handed head = appear [] head
