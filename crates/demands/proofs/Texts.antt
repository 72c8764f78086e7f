-- Request W-201 (document 02), tables from Prolog text: its sentences, proved of what the entry promises (`TextCoded`, crate dudowiej).
use Prim.Native.Nat.{ℕ, ◌≤◌, ◌<◌}
use mathlib.Core.Path.{◌≡◌, refl, sym, ◌∙◌, ap, subst}
use mathlib.Core.Logic.{◌⊎◌, ◌↔◌}
use mathlib.Core.List.{List, [], ◌∷◌}
use native.Mathlib.Omega.{arith}
use lib.ListN.{length}
use Rattle.refusal.specs.Refusal.{Refused, refused, Answer, turned}
use Rattle.refusal.specs.Read.{Read, read, refuse}
use Rattle.refusal.specs.declared.Reason.TheVariants as reason
use Rattle.refusal.specs.declared.Input.TheVariants as input
use Rattle.table.proofs.Accepted.{table-accepted}
use Rattle.grammar.specs.Grammar.{is_lower, is_upper, is_digit, is_word, Fact, Text}
use Rattle.grammar.specs.Reader.{is_blank, layout, put, on_close, past, step, finish, run, text_of}
use Rattle.grammar.specs.Stops.{Stops}
use Rattle.grammar.specs.Meaning.{Place, none, found, symbols_of, names_of, width_of, table_cells, name_list}
use Rattle.grammar.specs.Numbering.{Firsts, Rows}
use Rattle.grammar.proofs.Numbered.{names-are, cells_are}
use Rattle.grammar.proofs.Listed.{entry_first, entry-each, entry-order}
use Rattle.grammar.specs.Other.{OtherAmong}
use Rattle.grammar.proofs.Other.{other-among}
use Rattle.grammar.proofs.Sizes.{text-some, text-wide, text-few}
use Rattle.grammar.proofs.Written.{zero-term, minus-zero-term}
use Rattle.grammar.specs.Taken.{Taken, too_long, no_text, other-fact, taken}
use Rattle.grammar.proofs.Accepted as grammar
use Rattle.loading.specs.Load as load
use Rattle.loading.specs.Load.{Loaded, Loads, load_says, TextLoads, cells_after, names_after}
use Rattle.loading.proofs.Fixed.{load_is}
use Rattle.loading.proofs.LentLaws.{table-never-lent}
use Rattle.textlines.proofs.Enough.{names-fewer}
use Rattle.refusal.specs.Coded.{decoded}
use Rattle.dudowiej.specs.Coded.{TextCoded}
use Rattle.dudowiej.proofs.Back.{text-back}
use Rattle.demands.specs.Texts.{TextTurned, Request201, Sizes, NamesListed, ZeroInFront, ZeroAfterMinus, Nine}
use Rattle.demands.specs.Texts as texts
use Rattle.limits.specs.Limits.{most_text_bytes}

-- "and the reading is unique"
pub reading-unique : (text : List ℕ) {facts others : List Fact} → Text text facts → Text text others → facts ≡ others
reading-unique = grammar.unique

-- "The reader accepts exactly the grammar", and TEXT's place is there exactly where the grammar gives no reading, and is one
pub reading-or-place : (text : List ℕ) → ((facts : List Fact) × Text text facts) ⊎ ((k : ℕ) × Stops text k)
reading-or-place = grammar.one_of_two

pub no-reading-with-place : (text : List ℕ) (k : ℕ) {facts : List Fact} → Stops text k → Text text facts → ⊥
no-reading-with-place = grammar.not-both

pub one_place : (text : List ℕ) {j k : ℕ} → Stops text j → Stops text k → j ≡ k
one_place = grammar.one_place

-- "Names are numbered from 0 in order of first appearance, and a list of where each name first stands in the text": the list is that one
pub names-listed : (text : List ℕ) (facts : List Fact) (ns : List Place) → Firsts text [] (symbols_of facts) ns ↔ (names_of text facts ≡ ns)
names-listed = names-are

-- a cell for each symbol: a name's number is where the list has its bytes, a variable's is that of its first appearance in its row, "`_` as
-- a fresh variable each time", a number's its value
pub cells-meant : (text : List ℕ) (facts : List Fact) (cells : List ℕ)
    → Rows text (names_of text facts) facts cells ↔ (table_cells text facts ≡ width_of facts ∷ length facts ∷ cells)
cells-meant = cells_are

-- "A text has at least one fact, a fact at least one argument, a name inside at most 4"
pub sizes : (text : List ℕ) (facts : List Fact) → Text text facts → Sizes facts
sizes text facts x =
    record { some-fact = text-some x; some-argument = λ f m. text-wide x m; at-most-4 = λ s e args m. text-few x m }

-- "a list of where each name first stands in the text, start and bytes"
pub names-first : (text : List ℕ) (facts : List Fact) → length text ≤ most_text_bytes → Text text facts → NamesListed text facts (name_list text facts)
names-first text facts h x =
    record {
      first = λ k entry i. entry_first x h i;
      each = λ s e args m. entry-each x h m;
      order = λ j k one two i g l. entry-order x h i g l;
    }

-- "`09` and `9` are the number 9"
pub zero-in-front : ZeroInFront
zero-in-front p b q xs ys symbols d l = zero-term d l

pub zero-after-minus : ZeroAfterMinus
zero-after-minus p q xs ys symbols l = minus-zero-term l

pub nine : Nine
unfolding text_of run step finish layout is_blank put on_close past is_lower is_upper is_digit is_word
nine = record { with-zero = (grammar.accepted _ _).0 refl; without = (grammar.accepted _ _).0 refl }

-- facts of one predicate and width
alike : {text : List ℕ} (fs : List Fact) → length text ≤ most_text_bytes → Text text fs → OtherAmong text fs none → Taken text (read fs)
alike {text} fs h x o = taken h x ((other-among text fs none).0 o)

-- the refusals, as the promise has them and as the request lists them
module _ {text cells names : List ℕ} where
  turned_as : {f : Refused} → Loads text (length cells) (length names) (refuse f) → TextTurned text cells names f
  turned_as (load.not_taken x) = by x
    where
      by : {g : Refused} → Taken text (refuse g) → TextTurned text cells names g
      by (too_long h) = texts.bytes h
      by (no_text {k = k} h s) = texts.no_text k h s
      by (other-fact {k = k} {fs = fs} h x o) = texts.other fs k h x ((other-among text fs (found k)).1 o)
  turned_as (load.no_cells {facts = fs} (taken h x o) l) = texts.no_cells fs h x ((other-among text fs none).1 o) l
  turned_as (load.no_names {facts = fs} (taken h x o) l m) = texts.no_names fs h x ((other-among text fs none).1 o) l m
  turned_as (load.no_table {facts = fs} {f = f} (taken h x o) l m e) =
      texts.no_table fs f (record { bytes = h; reading = x; alike = (other-among text fs none).1 o; room = l; list = m }) e

  turned_by : {f : Refused} → TextTurned text cells names f → Loads text (length cells) (length names) (refuse f)
  turned_by (texts.bytes h) = load.not_taken (too_long h)
  turned_by (texts.no_text k h s) = load.not_taken (no_text h s)
  turned_by (texts.other fs k h x o) = load.not_taken (other-fact h x ((other-among text fs (found k)).0 o))
  turned_by (texts.no_cells fs h x o l) = load.no_cells (alike fs h x o) l
  turned_by (texts.no_names fs h x o l m) = load.no_names (alike fs h x o) l m
  turned_by (texts.no_table fs f F e) = load.no_table (alike fs F.bytes F.reading F.alike) F.room F.list e

-- ROOM is that of the cells, which are more than the names, or of the names where the cells fit
room_of : {text cells names : List ℕ} {f : Refused} {facts : List Fact} {place : ℕ} → TextTurned text cells names f
    → f ≡ refused reason.Room input.Lent place → Text text facts
    → ((length cells < place) ↔ (place ≡ length (table_cells text facts))) × ((place ≤ length cells) ↔ (place ≡ length (name_list text facts)))
room_of (texts.bytes h) e x = absurd (omega (arith, ap (λ (f : Refused). f.number) e))
room_of (texts.no_text k h s) e x = absurd (omega (arith, ap (λ (f : Refused). f.number) e))
room_of (texts.other fs k h y o) e x = absurd (omega (arith, ap (λ (f : Refused). f.number) e))
room_of {text} {facts = facts} (texts.no_cells fs h y o l) e x =
    let z = ap (λ (gs : List Fact). length (table_cells text gs)) (grammar.unique text y x) in
    let p = ap (λ (f : Refused). f.place) e in
    let n = names-fewer text facts in
    ((λ m. omega arith, λ m. omega arith), (λ m. absurd (omega arith), λ m. absurd (omega arith)))
room_of {text} {facts = facts} (texts.no_names fs h y o l m) e x =
    let c = ap (λ (gs : List Fact). length (table_cells text gs)) (grammar.unique text y x) in
    let z = ap (λ (gs : List Fact). length (name_list text gs)) (grammar.unique text y x) in
    let p = ap (λ (f : Refused). f.place) e in
    let n = names-fewer text facts in
    ((λ m. absurd (omega arith), λ m. absurd (omega arith)), (λ m. omega arith, λ m. omega arith))
room_of {text} {place = place} (texts.no_table fs f F q) e x = absurd (table-never-lent (table_cells text fs) reason.Room place (q ∙ ap refuse e))

-- a refusal is answered exactly where the promise has one
says-turned : (o : Read Loaded) (f : Refused) → load_says o ≡ turned f → o ≡ refuse f
says-turned (read x) f e = absurd (let z : ◌≡◌ {A = ℕ} 0 1 = cc in omega arith)
says-turned (refuse g) f e = let q : g ≡ f = cc in ap refuse q

module _ {text cells names cells' names' : List ℕ} {answer : Answer} (x : TextLoads text cells names cells' names' answer) where
  says : {o : Read Loaded} → Loads text (length cells) (length names) o → x.says ≡ o
  says l = load_is text (length cells) (length names) x.rule ∙ sym (load_is text (length cells) (length names) l)

  turns : (f : Refused) → (answer ≡ turned f) ↔ TextTurned text cells names f
  turns f = (
    λ e. turned_as (subst (Loads text (length cells) (length names)) (says-turned x.says f (sym x.told ∙ e)) x.rule),
    λ r. x.told ∙ ap load_says (says (turned_by r)),
  )

  loads-or-refuses : Request201 text cells names cells' names' answer
  loads-or-refuses = record {
    loads = λ facts width rows F i.
        let l = load.loads (alike facts F.bytes F.reading F.alike) F.room F.list ((table-accepted _ width rows).1 i) in
        let e = says l in (
          x.told ∙ ap load_says e,
          x.wrote ∙ ap (λ (o : Read Loaded). cells_after o cells) e,
          x.listed ∙ ap (λ (o : Read Loaded). names_after o names) e,
        );
    refuses = turns;
    untouched = λ f e.
        let q = says-turned x.says f (sym x.told ∙ e) in
        (x.wrote ∙ ap (λ (o : Read Loaded). cells_after o cells) q, x.listed ∙ ap (λ (o : Read Loaded). names_after o names) q);
    room = λ facts place y e. room_of ((turns (refused reason.Room input.Lent place)).0 e) refl y;
  }

pub request-201 : {text cells names cells' names' : List ℕ} {n : ℕ} → TextCoded text cells names cells' names' n
    → Request201 text cells names cells' names' (decoded n)
request-201 {text} {cells} {names} {cells'} {names'} x =
    subst (Request201 text cells names cells' names') (sym (text-back x)) (loads-or-refuses x.loaded)
