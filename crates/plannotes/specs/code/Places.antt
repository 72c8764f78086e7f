-- The open places of a state as the code keeps them (src/places.rt).
use Rattle.std.specs.Prelude.{ℕ, zero, suc, ◌+◌, ◌-◌, ◌≤◌, ◌<◌, ◌≡◌, ◌≢◌, cond, List, [], ◌∷◌, eqb, length, get_or}
use Rattle.table.specs.All.{All}
use Rattle.plan.specs.Notes.{below}

-- the slots that are read on the way from a slot along a links, and where they end
unfoldable pub steps : (links : List ℕ) → ℕ → ℕ → List ℕ
steps links zero s = []
steps links (suc a) s = s ∷ steps links a (get_or links s 0)

unfoldable pub hop_of : (links : List ℕ) → ℕ → ℕ → ℕ
hop_of links zero s = s
hop_of links (suc a) s = hop_of links a (get_or links s 0)

-- from a slot h the links lead to the slots xs, one after another
unfoldable pub Path : (links : List ℕ) → ℕ → List ℕ → Type 0
Path links h [] = Unit {0}
Path links h (x ∷ xs) = (get_or links h 0 ≡ x) × Path links x xs

-- where they end
unfoldable pub last_of : ℕ → List ℕ → ℕ
last_of h [] = h
last_of h (x ∷ xs) = last_of x xs

-- no slot twice
unfoldable pub NoSlotTwice : List ℕ → Type 0
NoSlotTwice [] = Unit {0}
NoSlotTwice (x ∷ xs) = All (λ (y : ℕ). x ≢ y) xs × NoSlotTwice xs

-- the last of a new slots from m on; where there is none, the slot before them
unfoldable pub last_new : (before m a : ℕ) → ℕ
last_new b m a = cond (eqb a 0) b (m + (a - 1))

-- the open places, left to right: the slots that the links lead to from the head. Slots below m are made; each other leads to the next number
pub record Open (links : List ℕ) (m : ℕ) (slots : List ℕ) : Type 0 where
  pub path : Path links 0 slots
  pub made : All (λ (s : ℕ). s < m) (0 ∷ slots)
  pub apart : NoSlotTwice (0 ∷ slots)
  pub free : (j : ℕ) → m ≤ j → j < 64 → get_or links j 0 ≡ j + 1
  pub size : length links ≡ 64

-- one of the open places is to be closed, and there are slots for a new ones from m on
pub record Spot (links : List ℕ) (i a m : ℕ) : Type 0 where
  pub slots : List ℕ
  pub opens : Open links m slots
  pub here : i < length slots
  pub room : m + a ≤ 63

-- it is closed: its slot, and what is open then
pub record Closed {links : List ℕ} {i a m : ℕ} (w : Spot links i a m) (links' : List ℕ) (slot : ℕ) : Type 0 where
  pub found : slot ≡ get_or w.slots i 0
  pub opens : Open links' (m + a) (below i a m w.slots)
