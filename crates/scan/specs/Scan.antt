-- What the scan of a text answers (02, W-201): its facts, counted, or the first of BYTES, TEXT and OTHER.
use Rattle.std.specs.Prelude.{ℕ, ◌≡◌, List, length, Result, Ok, Err}
use Rattle.refusal.specs.Refusal.{told}
use Rattle.refusal.specs.Read.{Read, read, refuse}
use Rattle.grammar.specs.Grammar.{Fact}
use Rattle.grammar.specs.Meaning.{width_of, symbols_of}
use Rattle.grammar.specs.Taken.{Taken}
use Rattle.scan.specs.declared.Counted.{Counted}
use Rattle.refusal.specs.declared.Refusal.{Refusal}

abbrev pub counted_as : ℕ → ℕ → ℕ → Counted
counted_as f w s = record { facts = f; width = w; symbols = s }

-- how many facts there are, the first one's number of arguments, the symbols of all
abbrev pub counted_in : Read (List Fact) → Read Counted
counted_in (read fs) = read (counted_as (length fs) (width_of fs) (length (symbols_of fs)))
counted_in (refuse f) = refuse f

-- what the code says
abbrev pub scan_told : Result Counted Refusal → Read Counted
scan_told (Ok c) = read c
scan_told (Err f) = refuse (told f)

-- the promise, for every text
pub record ScanIs (t : List ℕ) (r : Result Counted Refusal) : Type 0 where
  pub says : Read (List Fact)
  pub rule : Taken t says
  pub answer : scan_told r ≡ counted_in says

-- the text is taken as facts, and these are counted
pub record Counts (t : List ℕ) (c : Counted) : Type 0 where
  pub facts : List Fact
  pub taken : Taken t (read facts)
  pub number : length facts ≡ c.facts
  pub width : width_of facts ≡ c.width
  pub symbols : length (symbols_of facts) ≡ c.symbols
