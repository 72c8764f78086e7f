-- What is said of a text's words, case by case.
use Prim.Native.Nat.{ℕ, ◌+◌, ◌≤◌, ◌<◌}
use mathlib.Core.Path.{sym, subst, ◌∙◌}
use mathlib.Core.List.{List}
use native.Mathlib.Omega.{arith}
use lib.ListN.{length-map}
use Rattle.grammar.specs.Meaning.{names_of, entry_of, name_list}
use Rattle.scan.specs.Scan.{Counts}
use Rattle.scan.specs.declared.Counted.{Counted}
use Rattle.scan.proofs.SaysLaws.{counts-read}
use Rattle.texttable.specs.Words.{NamesAre, no_room, many, few}
use Rattle.texttable.specs.code.Names.{CountsNames}
use Rattle.texttable.specs.code.Cells.{TableIs}
use Rattle.texttable.specs.declared.NamesRead.TheVariants as names-read
use Rattle.limits.specs.Limits.{most_names}

module _ (t : List ℕ) (room : ℕ) (list made : List ℕ) {c : Counted} (C : Counts t c) where
  pub names-passed : room < c.symbols + 2 → NamesAre t C.facts room list made list made names-read.Passed
  names-passed h = no_room (omega (arith, C.symbols))

  pub names-counted : {r : ℕ} → c.symbols + 2 ≤ room → most_names < c.symbols → CountsNames t r
      → NamesAre t C.facts room list made list made (names-read.Counted r)
  unfolding name_list
  names-counted h k n =
      let e = n C.facts (counts-read C).1 ∙ sym (length-map (names_of t C.facts) entry_of) in
      subst (λ (i : ℕ). NamesAre t C.facts room list made list made (names-read.Counted i)) (sym e)
      (many (omega (arith, C.symbols)) (omega (arith, C.symbols)))

  pub names-listed : {list' made' : List ℕ} {r : ℕ} → c.symbols + 2 ≤ room → c.symbols ≤ most_names → TableIs t C.facts list list' made made' r
      → NamesAre t C.facts room list made list' made' (names-read.Listed r)
  names-listed h k T = rw (T.count, T.names, T.wrote) (few (omega (arith, C.symbols)) (omega (arith, C.symbols)))
