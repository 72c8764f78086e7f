-- A program's text, read: ISO/IEC 13211-1, 6.2 to 6.5, as far as these programs go. Gaps, arguments, names, variables and numbers are
-- W-201's (crate grammar).
--
--     program = gap { clause gap1 } [ clause ]            gap1 is a gap of at least one byte
--     clause  = atom gap "." | atom gap ":-" gap atom gap "."
--     atom    = "'P" digits "'" "(" args ")"              6.4.2, quoted token: the number has no zero too many
--
-- Names are numbered by the words of a list (02, W-210, "Names come from W-201's list"), and variables through the whole clause, by first
-- appearance (grammar/specs/Numbering).
use Rattle.std.specs.Prelude.{ℕ, suc, ◌+◌, ◌<◌, ◌≡◌, List, [], ◌∷◌, ◌++◌, length}
use Rattle.grammar.specs.Grammar.{Gap, Symbol, Args}
use Rattle.grammar.specs.Numbering.{Words, NumberedRow}
use Rattle.clauses.specs.Clauses.{Clause, clause_of, nothing, calls, handed}
use Rattle.clauses.specs.Text.{predicate_word}

-- a predicate with its arguments: its number, how many they are, their symbols. `(` is 40
pub data AtomAt : ℕ → List ℕ → ℕ → List ℕ → (predicate width : ℕ) → List Symbol → Type 0 where
  atom : {p q k last : ℕ} {xs inside ys : List ℕ} {symbols : List Symbol} → xs ≡ predicate_word k ++ (40 ∷ inside)
      → Args 0 (p + suc (length (predicate_word k))) inside q ys last symbols → AtomAt p xs q ys k (suc last) symbols

-- a clause of a text t. A body hands on the head's variables. `.` is 46, `:` and `-` are 58 and 45
pub data ClauseAt (t : List ℕ) (words : Words) : ℕ → List ℕ → ℕ → List ℕ → Clause → Type 0 where
  a-fact : {p q r k w : ℕ} {xs ys zs cells : List ℕ} {ss : List Symbol} → AtomAt p xs q ys k w ss → Gap q ys r (46 ∷ zs)
      → NumberedRow t words [] ss cells → ClauseAt t words p xs (suc r) zs (clause_of k w cells nothing)
  a-rule : {p q r s e f k w j v : ℕ} {xs ys zs us os is cells : List ℕ} {ss rs : List Symbol} → AtomAt p xs q ys k w ss
      → Gap q ys r (58 ∷ 45 ∷ zs) → Gap (suc (suc r)) zs s us → AtomAt s us e os j v rs → Gap e os f (46 ∷ is)
      → length cells ≡ length ss → v ≡ length (handed cells) → NumberedRow t words [] (ss ++ rs) (cells ++ handed cells)
      → ClauseAt t words p xs (suc f) is (clause_of k w cells (calls j))

-- clauses up to the end of the text: after a full stop the text ends or layout follows (6.4.8)
pub data ClausesAt (t : List ℕ) (words : Words) : ℕ → List ℕ → List Clause → Type 0 where
  none : {p : ℕ} → ClausesAt t words p [] []
  last : {p q : ℕ} {xs : List ℕ} {c : Clause} → ClauseAt t words p xs q [] c → ClausesAt t words p xs (c ∷ [])
  next : {p q r : ℕ} {xs ys zs : List ℕ} {c : Clause} {cs : List Clause} → ClauseAt t words p xs q ys c → Gap q ys r zs → q < r
      → ClausesAt t words r zs cs → ClausesAt t words p xs (c ∷ cs)

-- a text is this program
pub record Reads (words : Words) (t : List ℕ) (cs : List Clause) : Type 0 where
  pub at : ℕ
  pub rest : List ℕ
  pub layout : Gap 0 t at rest
  pub clauses : ClausesAt t words at rest cs
