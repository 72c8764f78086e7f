-- "W-201's reader of that text gives the cells back": what `answertext::put_answer` puts for some cells is read, by the table's names and the
-- goal's new ones, as a goal of exactly these cells, none of whose names is new.
use Rattle.std.specs.Prelude.{ℕ, ◌≡◌, ◌↔◌, List}
use Rattle.loading.specs.Load.{Loaded}
use Rattle.termtext.specs.Saying.{words_of, predicate_in, said_in, known}
use Rattle.termtext.specs.Goal.{Goal, Asks}
use Rattle.termtext.specs.declared.Predicate.{Predicate}

abbrev pub ReadBack : (text : List ℕ) → Loaded → Predicate → (goal : List ℕ) → Goal → (cells : List ℕ) → Type 0
ReadBack text L p goal G cells =
    let words = words_of text L.names goal G.new in
    let said = said_in text L.names goal G.new p cells in
    (H : Goal) → Asks words (predicate_in text p) p.width said H ↔ (H ≡ known cells)
