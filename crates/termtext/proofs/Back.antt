-- "W-201's reader of that text gives the cells back": the text of an answer is a goal's text, its cells are the answer's, and none of its
-- names is new.
use Prim.Native.Nat.{ℕ, zero, suc, ◌+◌, ◌^◌, ◌≤◌, ◌<◌}
use mathlib.Core.Path.{◌≡◌, refl, sym, ap, subst, ◌∙◌}
use mathlib.Core.Bool.{true, false}
use mathlib.Core.List.{List, [], ◌∷◌, ◌++◌, append-nil, append_assoc, Memᴰ}
use mathlib.Core.Logic.{◌⊎◌, inl, inr}
use native.Mathlib.Omega.{arith}
use native.Mathlib.Decide.{dec_lt}
use lib.ListN.{length, length-append}
use lib.Seq.{slice}
use Rattle.cell.specs.Cell as cell
use Rattle.cell.specs.Cell.{Cell, kind_of, number_of, variable_cell, name_cell, number_cell}
use Rattle.cell.proofs.CellLaws.{built-name, built-number, var-small}
use Rattle.refusal.specs.Read.{read}
use Rattle.term.specs.Terms.{Terms}
use Rattle.table.specs.Table.{appear}
use Rattle.table.specs.code.Looks.{cell_from, cells_from}
use Rattle.table.proofs.ReadLaws.{first, read_one, not-both}
use Rattle.table.proofs.LooksLaws as looks
use Rattle.table.proofs.SoundLaws.{Seen, symbol, new, old, seen, Sound, sound-cells, down}
use Rattle.grammar.specs.Grammar as G
use Rattle.grammar.specs.Grammar.{is_lower, Symbol, Fact, fact, Args, Text}
use Rattle.grammar.specs.Stops.{Stops}
use Rattle.grammar.specs.Numbering as numbering
use Rattle.grammar.specs.Numbering.{Words, Nth, here, later, New, First, Firsts, NumberedRow}
use Rattle.grammar.specs.Reader.{nothing, finish, stops, run, text_of}
use Rattle.grammar.proofs.Complete.{run-head, at_first, at-head-open, run-width}
use Rattle.grammar.proofs.Accepted.{refused-at}
use Rattle.grammar.proofs.NthLaws.{nth-below, nth_left, nth_seam, nth-added}
use Rattle.lex.specs.Names.{IsName}
use Rattle.termtext.specs.Saying.{variable_word, closing, owing, terms_text, IsAnswer, answer_text, known}
use Rattle.termtext.specs.Goal.{with_stop, unstopped, Ours, Asks}
use Rattle.termtext.proofs.SpellLaws.{Going, Lower, lower, name-lower, going-word, variable-named, variable-one}
use Rattle.termtext.proofs.SayLaws.{Spells, none, a-name, a-variable, a-number, ArgsSaid, terms-said, slice-word}
use Rattle.termtext.proofs.SayLaws.{Good, good-variable, good-name, good-number, Goods}

-- THE VARIABLES MET: the words of 0 up to a number
abbrev pub met : ℕ → Words
met zero = []
met (suc n) = met n ++ (variable_word n ∷ [])

met-long : (n : ℕ) → length (met n) ≡ n
met-long zero = refl
met-long (suc n) = omega (arith, length-append (met n) (variable_word n ∷ []), met-long n)

met_has : (n k : ℕ) → k < n → Nth (met n) k (variable_word k)
met_has zero k h = absurd (omega arith)
met_has (suc n) k h = by (dec_lt k n) (met_has n k)
  where
    by : Dec (k < n) → (k < n → Nth (met n) k (variable_word k)) → Nth (met n ++ (variable_word n ∷ [])) k (variable_word k)
    by (yes l) f = nth_left (variable_word n ∷ []) (f l)
    by (no l) f =
        let e : k ≡ n = omega arith in
        let w = variable_word n in
        rw e (subst (λ (j : ℕ). Nth (met n ++ (w ∷ [])) j w) (met-long n) (nth_seam (met n) w []))

met-new : (n k : ℕ) → n ≤ k → New (met n) (variable_word k)
met-new zero k h j i = let b = nth-below i in omega arith
met-new (suc n) k h j i = by (nth-added (met n) i) (met-new n k (omega arith) j)
  where
    by : Nth (met n) j (variable_word k) ⊎ ((j ≡ length (met n)) × (variable_word k ≡ variable_word n))
        → (Nth (met n) j (variable_word k) → ⊥) → ⊥
    by (inl g) f = f g
    by (inr e) f = omega (arith, variable-one e.1)

-- THE CELLS are those of a row by the same words, and no name is new
abbrev pub Apart : Words → Type 0
Apart words = (j k : ℕ) (w : List ℕ) → Nth words j w → Nth words k w → j ≡ k

module _ (t : List ℕ) (words : Words) where
  one-variable : {n s e : ℕ} {vars u : ℕ} {ss : List Symbol} {cs : List ℕ} → n < 2 ^ 16 → slice s e t ≡ variable_word n
      → Seen (variable_cell n) vars (read u) → NumberedRow t words (met u) ss cs
      → NumberedRow t words (met vars) (G.variable s e ∷ ss) (variable_cell n ∷ cs)
  one-variable {n} h e (symbol c i) r = absurd (not-both (var-small n (omega arith)) i)
  one-variable {n} {s} {e} {vars} {ss = ss} {cs = cs} h w (new c i z) r =
      let q : slice s e t ≡ variable_word vars = w ∙ ap variable_word z in
      numbering.first (subst (New (met vars)) (sym q) (met-new vars vars (omega arith))) (z ∙ sym (met-long vars))
      (subst (λ (v : List ℕ). NumberedRow t words (met vars ++ (v ∷ [])) ss cs) (sym q) r)
  one-variable {n} {vars = vars} h w (old c i z) r =
      numbering.again (λ u. variable-named n (sym w ∙ u)) (subst (Nth (met vars) n) (sym w) (met_has vars n z)) refl r

  -- where no two words are equal, a word first stands where it stands
  first-there : {k : ℕ} {w : List ℕ} → Apart words → Nth words k w → First words k w
  first-there {k} {w} a h = record { there = h; least = λ j g. omega (arith, a j k w g h) }

  pub spelt-row : {ss : List Symbol} {cs : List ℕ} (vars p v : ℕ) → Apart words → Spells t words ss cs → cells_from false cs vars p ≡ read v
      → NumberedRow t words (met vars) ss cs
  unfolding cells_from
  spelt-row vars p v apart none e = numbering.none
  spelt-row vars p v apart (a-name {a = a} {k = k} {cs = cs} l m h x) e =
      let f = first (cell_from false (name_cell a k) vars p) (λ (u : ℕ). cells_from false cs u (suc p)) e in
      let z : f.0 ≡ vars = read_one (sym f.1 ∙ looks.a-name false (name_cell a k) vars p (built-name a k l m)) in
      numbering.a-name (first-there apart h) refl
      (spelt-row vars (suc p) v apart x (subst (λ (u : ℕ). cells_from false cs u (suc p) ≡ read v) z f.2))
  spelt-row vars p v apart (a-number {v = n} {cs = cs} l x) e =
      let f = first (cell_from false (number_cell n) vars p) (λ (u : ℕ). cells_from false cs u (suc p)) e in
      let z : f.0 ≡ vars = read_one (sym f.1 ∙ looks.a-number false (number_cell n) vars p (built-number n l)) in
      numbering.a-number refl (spelt-row vars (suc p) v apart x (subst (λ (u : ℕ). cells_from false cs u (suc p) ≡ read v) z f.2))
  spelt-row vars p v apart (a-variable {n = n} {cs = cs} l h x) e =
      let f = first (cell_from false (variable_cell n) vars p) (λ (u : ℕ). cells_from false cs u (suc p)) e in
      one-variable l h (subst (Seen (variable_cell n) vars) f.1 (seen false (variable_cell n) vars p))
      (spelt-row f.0 (suc p) v apart x f.2)

  spelt-firsts : {ss : List Symbol} {cs : List ℕ} → Spells t words ss cs → Firsts t words ss []
  spelt-firsts none = numbering.none
  spelt-firsts (a-name l m h x) = numbering.again h (spelt-firsts x)
  spelt-firsts (a-variable l h x) = numbering.a-variable (spelt-firsts x)
  spelt-firsts (a-number l x) = numbering.a-number (spelt-firsts x)

-- GOOD CELLS, one by one
abbrev pub Named : Words → Type 0
Named words = (k : ℕ) (w : List ℕ) → Nth words k w → IsName w

name-good : (words : Words) (a k : ℕ) → a ≤ 4 → k < length words → k < 2 ^ 16 → Named words → Good words (name_cell a k)
name-good words a k h l m n = let w = nth_of words k l in good-name h m w.1 (name-lower (n k w.0 w.1))
  where
    nth_of : (ws : Words) (k : ℕ) → k < length ws → (w : List ℕ) × Nth ws k w
    nth_of [] k h = absurd (omega arith)
    nth_of (w ∷ ws) zero h = (w, here)
    nth_of (w ∷ ws) (suc k) h = let n = nth_of ws k (omega arith) in (n.0, later n.1)

cell-good : (words : Words) {c : ℕ} → Cell c → (kind_of c ≡ 1 → number_of c < length words) → Named words → Good words c
cell-good words (cell.variable h) l n = good-variable h
cell-good words (cell.number h) l n = good-number h
cell-good words (cell.name {a = a} {n = k} h m) l n =
    let e : number_of (name_cell a k) ≡ k = omega arith in
    name-good words a k h (subst (λ (j : ℕ). j < length words) e (l (omega arith))) m n

pub cells-good : (words : Words) (xs : List ℕ) → ((c : ℕ) → Memᴰ c xs → Cell c)
    → ((c : ℕ) → Memᴰ c xs → kind_of c ≡ 1 → number_of c < length words) → Named words → Goods words xs
cells-good words [] g l n = tt
cells-good words (c ∷ xs) g l n = (
  cell-good words (g c (Memᴰ.head refl)) (l c (Memᴰ.head refl)) n,
  cells-good words xs (λ d m. g d (Memᴰ.tail m)) (λ d m. l d (Memᴰ.tail m)) n,
)

-- THE TEXT. It is no text by itself, for its full stop is missing; and with one it is
module _ (b : ℕ) (rest inside : List ℕ) (lo : is_lower b ≡ true) (go : Going rest) where
  abbrev bracket : ℕ
  bracket = suc (length rest)

  unstopped-run : {q d : ℕ} {ss : List Symbol} → Args 0 (suc bracket) inside q [] d ss → text_of (b ∷ (rest ++ (40 ∷ inside))) ≡ stops q
  unfolding text_of run finish
  unstopped-run a =
      let w = going-word rest go 1 (40 ∷ inside) in
      let e : 1 + length rest ≡ bracket = omega arith in
      at_first b (rest ++ (40 ∷ inside)) nothing 0 lo
      ∙ run-head 0 nothing w
      ∙ rw e (at-head-open inside bracket 0 nothing)
      ∙ run-width 0 bracket [] a

  stopped-text : {q d : ℕ} {more : List ℕ} {ss : List Symbol} → Args 0 (suc bracket) more q (10 ∷ 46 ∷ []) d ss
      → Text (b ∷ (rest ++ (40 ∷ more))) (fact 0 bracket (suc d) ss ∷ [])
  stopped-text {more = more} a =
      let e : 1 + length rest ≡ bracket = omega arith in
      record {
        at = 0;
        rest = b ∷ (rest ++ (40 ∷ more));
        layout = G.none;
        facts = G.last (G.one lo (rw e at (going-word rest go 1 (40 ∷ more))) a (G.blank G.feed G.none)) G.none;
      }

-- an answer's predicate and the bytes of its terms, as a goal
module _ (words : Words) (b : ℕ) (rest : List ℕ) (lo : is_lower b ≡ true) (go : Going rest) (k : ℕ) (cells : List ℕ)
    (A : ArgsSaid words k cells) where
  abbrev said : List ℕ
  said = b ∷ (rest ++ (40 ∷ A.bytes))

  said-is : answer_text words (b ∷ rest) (suc k) cells ≡ said
  unfolding answer_text closing owing terms_text
  said-is =
      ap (λ (t : List ℕ). (b ∷ rest) ++ (40 ∷ t))
      (ap (terms_text words (suc k ∷ [])) (sym (append-nil cells)) ∙ A.flat [] [] ∙ append-nil A.bytes)

  abbrev place : ℕ
  place = suc (suc (length rest))

  said-stops : Stops said (length said)
  said-stops =
      let a = rw (append-nil A.bytes) at (A.reads 0 place [] G.none) in
      let l : place + length A.bytes ≡ length said = omega (arith, length-append rest (40 ∷ A.bytes)) in
      (refused-at said (length said)).0 (unstopped-run b rest A.bytes lo go a ∙ ap stops l)

  abbrev said-fact : Fact
  said-fact = fact 0 (suc (length rest)) (suc (0 + k)) (A.symbols place)

  said-text : Text (with_stop said) (said-fact ∷ [])
  said-text =
      let e : b ∷ (rest ++ (40 ∷ (A.bytes ++ (10 ∷ 46 ∷ [])))) ≡ with_stop said = simp append_assoc in
      subst (λ (t : List ℕ). Text t (said-fact ∷ [])) e (stopped-text b rest [] lo go (A.reads 0 place (10 ∷ 46 ∷ []) G.none))

  said-spells : Spells (with_stop said) words (A.symbols place) cells
  said-spells =
      let u = (b ∷ rest) ++ (40 ∷ []) in
      let m : length u ≡ place = omega (arith, length-append (b ∷ rest) (40 ∷ [])) in
      let e : u ++ (A.bytes ++ (10 ∷ 46 ∷ [])) ≡ with_stop said = simp append_assoc in
      subst (λ (n : ℕ). Spells (with_stop said) words (A.symbols n) cells) m
      (subst (λ (t : List ℕ). Spells t words (A.symbols (length u)) cells) e (A.spells u (10 ∷ 46 ∷ [])))

  said-ours : Ours (b ∷ rest) (suc k) (with_stop said) said-fact []
  said-ours =
      let w = b ∷ rest in
      let e : w ++ ((40 ∷ A.bytes) ++ (10 ∷ 46 ∷ [])) ≡ with_stop said = sym (append_assoc w (40 ∷ A.bytes) (10 ∷ 46 ∷ [])) in
      let z : 0 + length w ≡ length w = omega arith in
      record {
        single = refl;
        called = ap (slice 0 (length w)) (sym e) ∙ ap (λ (n : ℕ). slice 0 n (w ++ ((40 ∷ A.bytes) ++ (10 ∷ 46 ∷ [])))) (sym z)
            ∙ slice-word [] w ((40 ∷ A.bytes) ++ (10 ∷ 46 ∷ []));
        wide = omega arith;
      }

  said-asks : (v : ℕ) → Apart words → cells_from false cells 0 0 ≡ read v
      → Asks words (b ∷ rest) (suc k) (answer_text words (b ∷ rest) (suc k) cells) (known cells)
  said-asks v apart e =
      let r = spelt-row (with_stop said) words 0 0 v apart said-spells e in
      subst (λ (t : List ℕ). Asks words (b ∷ rest) (suc k) t (known cells)) (sym said-is)
      (record {
        whole = with_stop said;
        fact = said-fact;
        text = unstopped said-stops said-text;
        ours = said-ours;
        numbered = record {
          places = [];
          firsts = spelt-firsts (with_stop said) words said-spells;
          listed = refl;
          row = subst (λ (ws : Words). NumberedRow (with_stop said) ws [] (A.symbols place) cells) (sym (append-nil words)) r;
        };
      })

-- THE THEOREM
pub back : {words : Words} {predicate : List ℕ} {width : ℕ} {cells : List ℕ} → IsAnswer words predicate width cells
    → Asks words predicate width (answer_text words predicate width cells) (known cells)
unfolding down
back {words} {predicate} {width} {cells} a = by width a.some a.terms (name-lower a.called)
  where
    sound : Sound cells 0 (0 + length (appear [] cells))
    sound =
        record {
          cells = a.good;
          more = length (appear [] cells);
          total = refl;
          order = a.order;
        }

    by : {w : List ℕ} (n : ℕ) → 1 ≤ n → Terms n cells → Lower w → Asks words w n (answer_text words w n cells) (known cells)
    by zero h t l = absurd (omega arith)
    by (suc k) h t (lower {b = b} {rest = rest} lo go) =
        said-asks words b rest lo go k cells (terms-said words t (cells-good words cells a.good a.listed a.names))
        (0 + length (appear [] cells)) a.apart (sound-cells false cells 0 0 sound)
