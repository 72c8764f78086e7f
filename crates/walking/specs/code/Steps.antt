-- What one branch of the walk does to the arrays (crates/run/src/step.rt): the branch number i, with the cell c, looks at the node v; the
-- slots from `next` on are new, and what it binds is bound before the branch number `skip`. These definitions describe the code's own
-- state; no promise of a public function cites them.
use Rattle.std.specs.Prelude.{ℕ, ◌+◌, ◌≤◌, ◌<◌, ◌≡◌, ◌≢◌, Bool, true, false, List, get_or, set}
use Rattle.std.proofs.lemmas.List.Edits.{sets}
use Rattle.cell.specs.Cell.{arity, is_var}
use Rattle.table.specs.All.{All}
use Rattle.walking.specs.code.Link.{steps, goal_nodes}

-- it can be tested: what it reads and writes is in the arrays
pub record Safe (sib bound args until : List ℕ) (i c v next : ℕ) : Type 0 where
  pub node : v < 64
  pub room : next + arity c ≤ 64
  pub same : i < get_or until v 0 → get_or bound v 0 ≡ c → All (λ x. x < 64) (steps sib (arity c) (get_or args v 0))
  pub new : All (λ x. x < 64) (steps sib (arity c) next)

-- whether it succeeds, and the arrays after it
pub data Step (rep sib : List ℕ) (i c v next skip : ℕ) (bound args until refers bound' args' until' refers' : List ℕ) : Bool → Type 0 where
  -- a row's variable takes whatever stands there
  step-any : is_var c ≡ true → bound' ≡ bound → args' ≡ args → until' ≡ until → refers' ≡ refers
      → Step rep sib i c v next skip bound args until refers bound' args' until' refers' true
  -- the same symbol: its arguments get slots
  step_same : is_var c ≡ false → i < get_or until v 0 → get_or bound v 0 ≡ c → bound' ≡ bound → args' ≡ args → until' ≡ until
      → refers' ≡ sets refers next (goal_nodes rep sib (arity c) (get_or args v 0))
      → Step rep sib i c v next skip bound args until refers bound' args' until' refers' true
  -- another one
  step_other : is_var c ≡ false → i < get_or until v 0 → get_or bound v 0 ≢ c → bound' ≡ bound → args' ≡ args → until' ≡ until → refers' ≡ refers
      → Step rep sib i c v next skip bound args until refers bound' args' until' refers' false
  -- an unbound node: it is bound to the symbol over new nodes, for the branches below
  step-binds : is_var c ≡ false → get_or until v 0 ≤ i → bound' ≡ set bound v c → args' ≡ set args v next → until' ≡ set until v skip
      → refers' ≡ sets refers next (goal_nodes rep sib (arity c) next)
      → Step rep sib i c v next skip bound args until refers bound' args' until' refers' true
