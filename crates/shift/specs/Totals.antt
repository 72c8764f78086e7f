-- What a list of goals tries together (02, W-214, "the total tried over a W-202 list"), where two words say where a goal's cells are.
use Rattle.std.specs.Prelude.{ℕ, ◌+◌, ◌≡◌, List, [], ◌∷◌}
use Rattle.answer.specs.Jobs.{Asked}
use Rattle.answer.specs.declared.Job.{Job}
use Rattle.sums.specs.Sums.{held}

-- a goal to be asked, by where its cells start and how many they are: W-202's record of it, with nothing written yet
abbrev pub asks : (start count : ℕ) → Job
asks start count = record { start = start; count = count; number = 0; place = 0; hits = 0; tried = 0 }

-- the goals of a list, two words for each; a last word by itself is passed over
unfoldable pub goals_in : List ℕ → List Job
goals_in [] = []
goals_in (start ∷ []) = []
goals_in (start ∷ count ∷ words) = asks start count ∷ goals_in words

-- what goals try together: what their records say that they tried, once they are asked by W-202. So a refused goal adds nothing
pub data Tries (t p cells : List ℕ) : List Job → ℕ → Type 0 where
  none : Tries t p cells [] 0
  more : {j k : Job} {jobs : List Job} {n : ℕ} → Asked t p cells j k → Tries t p cells jobs n → Tries t p cells (j ∷ jobs) (k.tried + n)

-- and as far as 64 bits hold it
pub record TriesInAll (t p cells list : List ℕ) (total : ℕ) : Type 0 where
  pub sum : ℕ
  pub tries : Tries t p cells (goals_in list) sum
  pub adds : total ≡ held sum
