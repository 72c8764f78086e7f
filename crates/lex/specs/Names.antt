-- Whether bytes of a text are a name in lower case (02, W-201: "names in lower case"), by the grammar: read alone they are a name.
use Rattle.std.specs.Prelude.{ℕ, ◌+◌, ◌≤◌, Bool, true, false, List, [], ◌∷◌, length}
use Rattle.std.proofs.Math.Seq.{slice}
use Rattle.grammar.specs.Grammar.{Term, name}

abbrev pub IsName : List ℕ → Type 0
IsName w = Term 0 w (length w) [] (name 0 (length w) 0 ∷ [])

-- bytes are a name, or not
abbrev pub Names : List ℕ → Bool → Type 0
Names w true = IsName w
Names w false = IsName w → ⊥

-- so many bytes from a place on lie in the text and are a name, or not
abbrev pub NameSaid : List ℕ → ℕ → ℕ → Bool → Type 0
NameSaid t start bytes true = (start + bytes ≤ length t) × IsName (slice start (start + bytes) t)
NameSaid t start bytes false = start + bytes ≤ length t → IsName (slice start (start + bytes) t) → ⊥
