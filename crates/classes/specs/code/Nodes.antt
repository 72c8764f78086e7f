-- Nodes in classes (02, W-209): terms by reference, none of them written out. These definitions describe the code's own state; no promise of
-- a public function cites them.
use Rattle.std.specs.Prelude.{ℕ, ◌<◌, ◌≡◌, ◌≢◌, false, cond, List, [], ◌∷◌, ◌++◌, map, eqb, length, get_or}
use Rattle.cell.specs.Cell.{arity, is_var}
use Rattle.term.specs.Terms.{Terms}
use Rattle.term.specs.Unify.{inst, Subst}

-- what the nodes are: the cells that each stands for, its symbol (0: none), and its arguments
pub record Nodes : Type 0 where
  pub own : ℕ → List ℕ
  pub head : ℕ → ℕ
  pub kids : ℕ → List ℕ

-- the cells of some nodes, one after another
unfoldable pub owns : Nodes → List ℕ → List ℕ
owns N [] = []
owns N (r ∷ rs) = N.own r ++ owns N rs

-- the node that stands for r's class
abbrev pub at : List ℕ → ℕ → ℕ
at rep r = get_or rep r r

-- the class of x joined to that of y
abbrev pub to : ℕ → ℕ → ℕ → ℕ
to x y z = cond (eqb z x) y z

unfoldable pub join : ℕ → ℕ → List ℕ → List ℕ
join x y rep = map (to x y) rep

-- τ is a solution: a class has one value, and a node with a symbol is that symbol over its arguments
pub record Solves (N : Nodes) (rep : List ℕ) (τ : ℕ → List ℕ) : Type 0 where
  pub good : Subst τ
  pub classes : (r : ℕ) → inst τ (N.own r) ≡ inst τ (N.own (at rep r))
  pub heads : (r : ℕ) → N.head r ≢ 0 → inst τ (N.own r) ≡ N.head r ∷ inst τ (owns N (N.kids r))

-- well-formed: one term each; a symbol with as many arguments as it takes
pub record Fair (N : Nodes) : Type 0 where
  pub term : (r : ℕ) → Terms 1 (N.own r)
  pub symbol : (r : ℕ) → N.head r ≢ 0 → is_var (N.head r) ≡ false
  pub number : (r : ℕ) → N.head r ≢ 0 → length (N.kids r) ≡ arity (N.head r)

-- what stands for a class stands for itself
pub record Flat (rep : List ℕ) : Type 0 where
  pub fixed : (r : ℕ) → at rep (at rep r) ≡ at rep r

-- THE TWO FUNCTIONS: a term against a term, and a list of arguments against a list, with the classes before and after
mutual
  pub data Merges (N : Nodes) : List ℕ → ℕ → ℕ → List ℕ → Type 0 where
    same : {rep rep' : List ℕ} {a b : ℕ} → at rep a ≡ at rep b → rep' ≡ rep → Merges N rep a b rep'
    loose : {rep rep' : List ℕ} {a b : ℕ} → at rep a ≢ at rep b → at rep a < length rep → N.head (at rep a) ≡ 0
        → rep' ≡ join (at rep a) (at rep b) rep → Merges N rep a b rep'
    bound : {rep rep' : List ℕ} {a b : ℕ} → at rep a ≢ at rep b → at rep b < length rep → N.head (at rep b) ≡ 0
        → rep' ≡ join (at rep b) (at rep a) rep → Merges N rep a b rep'
    alike : {rep rep' : List ℕ} {a b : ℕ} → at rep a ≢ at rep b → at rep a < length rep → N.head (at rep a) ≢ 0 → N.head (at rep a) ≡ N.head (at rep b)
        → MergesAll N (join (at rep a) (at rep b) rep) (N.kids (at rep a)) (N.kids (at rep b)) rep' → Merges N rep a b rep'

  pub data MergesAll (N : Nodes) : List ℕ → List ℕ → List ℕ → List ℕ → Type 0 where
    nil : {rep rep' : List ℕ} → rep' ≡ rep → MergesAll N rep [] [] rep'
    cons : {rep rep' rep'' : List ℕ} {a b : ℕ} {xs ys : List ℕ} → Merges N rep a b rep' → MergesAll N rep' xs ys rep'' → MergesAll N rep (a ∷ xs) (b ∷ ys) rep''

mutual
  pub data Fails (N : Nodes) : List ℕ → ℕ → ℕ → Type 0 where
    clash : {rep : List ℕ} {a b : ℕ} → N.head (at rep a) ≢ 0 → N.head (at rep b) ≢ 0 → N.head (at rep a) ≢ N.head (at rep b) → Fails N rep a b
    within : {rep : List ℕ} {a b : ℕ} → at rep a < length rep → N.head (at rep a) ≢ 0 → N.head (at rep a) ≡ N.head (at rep b)
        → FailsAll N (join (at rep a) (at rep b) rep) (N.kids (at rep a)) (N.kids (at rep b)) → Fails N rep a b

  pub data FailsAll (N : Nodes) : List ℕ → List ℕ → List ℕ → Type 0 where
    first : {rep : List ℕ} {a b : ℕ} {xs ys : List ℕ} → Fails N rep a b → FailsAll N rep (a ∷ xs) (b ∷ ys)
    later : {rep rep' : List ℕ} {a b : ℕ} {xs ys : List ℕ} → Merges N rep a b rep' → FailsAll N rep' xs ys → FailsAll N rep (a ∷ xs) (b ∷ ys)

-- some nodes, each by the one that stands for it
abbrev pub reps : List ℕ → List ℕ → List ℕ
reps rep rs = map (at rep) rs

-- a node with a symbol has the symbol of the one that stands for it, and its arguments are in that one's arguments' classes, as `fin` has
-- the classes
abbrev pub ClosedTo : Nodes → (fin rep : List ℕ) → Type 0
ClosedTo N fin rep = (r : ℕ) → N.head r ≢ 0 → (N.head (at rep r) ≡ N.head r) × (reps fin (N.kids r) ≡ reps fin (N.kids (at rep r)))

abbrev pub Closed : Nodes → List ℕ → Type 0
Closed N rep = ClosedTo N rep rep
