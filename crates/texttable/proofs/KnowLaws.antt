-- The words that are met while the cells are written, law by law: each symbol's number is the next of the text's numbers.
use Prim.Native.Nat.{ℕ, suc, ◌+◌, ◌-◌, ◌≤◌, ◌<◌}
use mathlib.Core.Path.{◌≡◌, refl, sym, ap, ap₂, subst, ◌∙◌}
use mathlib.Core.Bool.{Bool, true, false}
use mathlib.Core.List.{List, [], ◌∷◌, ◌++◌, map}
use native.Mathlib.Omega.{arith}
use native.Mathlib.Numerals.{add-one}
use native.Mathlib.Decide.{ℕ_discrete}
use lib.ListN.{length, get_or, set, drop, length-append, length-drop, length-map}
use lib.Seq.{drop-cons}
use Rattle.grammar.specs.Grammar.{Fact}
use Rattle.grammar.specs.Reader.{reads, text_of}
use Rattle.grammar.specs.Meaning.{Place, place, meet, names_of, entry_of, name_list}
use Rattle.loading.specs.Load.{put_first}
use Rattle.loading.specs.Items.{Item, of-name, of-variable, of_number, items_of, names_met, numbering}
use Rattle.loading.proofs.ItemLaws.{names-items}
use Rattle.lex.specs.Turns.{Turns}
use Rattle.lex.specs.declared.turn.Turn.{Turn}
use Rattle.lex.specs.declared.turn.Turn.TheVariants as turn
use Rattle.symbols.specs.Next.{spot, After, NextIs}
use Rattle.symbols.specs.Next as next
use Rattle.symbols.specs.code.Left.{Left, LeftAfter, AheadLeft, StartLeft}
use Rattle.symbols.specs.declared.Spot.{Spot}
use Rattle.symbols.specs.declared.Ahead.{Ahead}
use Rattle.symbols.specs.declared.Ahead.TheVariants as ahead
use Rattle.symbols.proofs.LeftLaws.{next-reads}
use Rattle.symbols.proofs.NextLaws.{close_more}
use Rattle.texttable.specs.Words.{numbers_of}
use Rattle.texttable.specs.code.Tree.{listed, Tree, WordMet, Cleared}
use Rattle.texttable.specs.code.Numbers.{VariableIs}
use Rattle.texttable.specs.code.Cells.{making, known, Knows}
use Rattle.texttable.specs.declared.numbers.Numbered.{Numbered}
use Rattle.texttable.specs.declared.cells.Making.{Making}
use Rattle.texttable.specs.declared.cells.Known.{Known}
use Rattle.texttable.proofs.TreeLaws.{tree-cleared}
use Rattle.texttable.proofs.NameLaws.{MetIs, met-is}
use Rattle.texttable.proofs.NumberLaws.{no-variables, entries-more, set_next}
use Rattle.limits.specs.Limits.{most_text_bytes}

-- what is left begins with the next one
next_one : (x : ℕ) (xs all : List ℕ) (k : ℕ) → (x ∷ xs) ≡ drop k all → (get_or all k 0 ≡ x) × (xs ≡ drop (k + 1) all)
next_one x xs all k e =
    let h : k < length all = omega (arith, ap length e, length-drop k all) in
    let q : (x ∷ xs) ≡ (get_or all k 0 ∷ drop (suc k) all) = e ∙ drop-cons all k 0 h in
    let a : x ≡ get_or all k 0 = cc in
    let b : xs ≡ drop (suc k) all = cc in
    (sym a, b ∙ ap (λ (n : ℕ). drop n all) (sym (add-one k)))

small-more : (xs : List ℕ) (c n : ℕ) → ((i : ℕ) → i < c → get_or xs i 0 < 65536) → get_or xs c 0 ≡ n → n < 65536 → (i : ℕ) → i < c + 1 → get_or xs i 0 < 65536
small-more xs c n s e h i l = by (ℕ_discrete i c)
  where
    by : Dec (i ≡ c) → get_or xs i 0 < 65536
    by (yes q) = let z = ap (λ (j : ℕ). get_or xs j 0) q in omega (arith, z, e, h)
    by (no q) = s i (omega arith)

-- at a place where an item ended nothing came since
at-end : (t : List ℕ) (to : Spot) (rest : List Item) → Left t to rest → (x : Turn) (r : Ahead) → Turns t to.at to.past x → After t to.depth x r
    → NextIs t to r
at-end t to rest L x r c a = next.stands (omega (arith, L.few, L.within)) c a

-- BEFORE THE FIRST SYMBOL
pub nothing_known : (t : List ℕ) (facts : List Fact) (list links words ways given : List ℕ) (from : Spot) → text_of t ≡ reads facts → StartLeft t from
    → Tree t list links 0 → Tree t words ways 0 → length given ≡ length words
    → Knows t facts list list links words ways given (making from.at false 0 0) (known 0 0 0)
unfolding no-variables
nothing_known t facts list links words ways given from e S T W g =
    record {
      names = [];
      number = refl;
      shown = record { tree = T; says = λ i h. absurd (omega arith) };
      entries = refl;
      vars = no-variables t words ways given W g;
      few = (omega arith, omega arith);
      from = from;
      rest = items_of facts;
      left = S.left facts e;
      low = omega arith;
      here = λ x r c a. (
          let q = S.spot in
          at-end t from (items_of facts) (S.left facts e) x r
          (subst (λ (sp : Spot). Turns t sp.at sp.past x) (sym q) c) (subst (λ (sp : Spot). After t sp.depth x r) (sym q) a));
      met = refl;
      numbers = refl;
      small = λ i h. absurd (omega arith);
    }

module _ (t : List ℕ) (facts : List Fact) (list₀ list links words ways given : List ℕ) (m : Making) (k : Known)
    (N : Knows t facts list₀ list links words ways given m k) where
  pub ahead_of : (x : Turn) (r : Ahead) → Turns t m.at m.past x → After t m.depth x r → AheadLeft t N.from r
  ahead_of x r c a = next-reads (N.here x r c a)

  pub names-tree : Tree t list links k.names
  names-tree = subst (Tree t list links) N.number N.shown.tree

  -- a name
  module _ (s e n : ℕ) (to : Spot) (list' links' : List ℕ) (A : AheadLeft t N.from (ahead.Name s e to)) (h : length t ≤ most_text_bytes) (l : n < 65536)
      (μ : WordMet t list links k.names s e list' links' n) where
    met : MetIs t list links N.names (place s e) list' links' n
    met =
        met-is t list links N.names s e N.shown (omega (arith, A.1)) (omega (arith, A.1, A.2, A.3.within))
        (subst (λ (c : ℕ). WordMet t list links c s e list' links' n) (sym N.number) μ)

    after : LeftAfter t (of-name (place s e)) to N.rest
    after = A.3.left N.rest N.left

    name-next : (get_or (numbers_of t facts) m.count 0 ≡ n)
        × (numbering t (meet t N.names (place s e)) N.vars.places after.after ≡ drop (m.count + 1) (numbers_of t facts))
    unfolding numbering
    name-next =
        next_one n (numbering t (meet t N.names (place s e)) N.vars.places after.after) (numbers_of t facts) m.count
        (ap (λ (v : ℕ). v ∷ numbering t (meet t N.names (place s e)) N.vars.places after.after) met.number
        ∙ ap (numbering t N.names N.vars.places) (sym after.is) ∙ N.numbers)

    pub name-number : get_or (numbers_of t facts) m.count 0 ≡ n
    name-number = name-next.0

    name-met : names_met t (meet t N.names (place s e)) after.after ≡ names_met t [] (items_of facts)
    unfolding names_met
    name-met = ap (names_met t N.names) (sym after.is) ∙ N.met

    pub name_new : n ≡ k.names → k.names < length list
        → Knows t facts list₀ list' links' words ways given (making to.at to.past to.depth (m.count + 1))
        (record { names = k.names + 1; row = k.row })
    name_new z room =
        let y = z ∙ sym N.number in
        let q = met.grew y in
        let r : k.names < length list₀ =
        omega (
          arith,
          room,
          ap length N.entries,
          length-append (map entry_of N.names) (drop k.names list₀),
          length-map N.names entry_of,
          N.number,
          length-drop k.names list₀,
        ) in
        record {
          names = meet t N.names (place s e);
          number = ap length q ∙ length-append N.names (place s e ∷ []) ∙ ap (λ (c : ℕ). c + 1) N.number;
          shown = met.shown;
          entries =
              met.entry y
              ∙ ap₂ (λ (xs : List ℕ) (c : ℕ). set xs c (listed s e)) N.entries N.number
              ∙ set_next (map entry_of N.names) list₀ k.names (listed s e) (length-map N.names entry_of ∙ N.number) r
              ∙ ap (λ (xs : List ℕ). xs ++ drop (k.names + 1) list₀) (entries-more N.names (place s e) ∙ ap (map entry_of) (sym q));
          vars = N.vars;
          few = (omega (arith, N.few.0), omega (arith, N.few.1));
          from = to;
          rest = after.after;
          left = after.left;
          low = omega arith;
          here = at-end t to after.after after.left;
          met = name-met;
          numbers = name-next.1;
          small = small-more (numbers_of t facts) m.count n N.small name-number l;
        }

    pub name-known : (n ≡ k.names → ⊥)
        → Knows t facts list₀ list' links' words ways given (making to.at to.past to.depth (m.count + 1))
        (record { names = k.names; row = k.row })
    name-known z =
        let q = met.stayed (λ y. z (y ∙ N.number)) in
        record {
          names = meet t N.names (place s e);
          number = ap length q.0 ∙ N.number;
          shown = met.shown;
          entries = q.1 ∙ N.entries ∙ ap (λ (ns : List Place). map entry_of ns ++ drop k.names list₀) (sym q.0);
          vars = N.vars;
          few = (omega (arith, N.few.0), omega (arith, N.few.1));
          from = to;
          rest = after.after;
          left = after.left;
          low = omega arith;
          here = at-end t to after.after after.left;
          met = name-met;
          numbers = name-next.1;
          small = small-more (numbers_of t facts) m.count n N.small name-number l;
        }

  -- a variable
  module _ (s e : ℕ) (to : Spot) (v : Numbered) {words' ways' given' : List ℕ} (A : AheadLeft t N.from (ahead.Variable s e to))
      (x : VariableIs t N.vars.places (place s e) words' ways' given' v) where
    behind : LeftAfter t (of-variable (place s e)) to N.rest
    behind = A.3.left N.rest N.left

    variable-next : (get_or (numbers_of t facts) m.count 0 ≡ v.number)
        × (numbering t N.names x.vars.places behind.after ≡ drop (m.count + 1) (numbers_of t facts))
    unfolding numbering
    variable-next =
        next_one v.number (numbering t N.names x.vars.places behind.after) (numbers_of t facts) m.count
        (ap₂ (λ (i : ℕ) (vs : List Place). i ∷ numbering t N.names vs behind.after) x.number x.with'
        ∙ ap (numbering t N.names N.vars.places) (sym behind.is) ∙ N.numbers)

    pub variable-number : get_or (numbers_of t facts) m.count 0 ≡ v.number
    variable-number = variable-next.0

    variable-met : names_met t N.names behind.after ≡ names_met t [] (items_of facts)
    unfolding names_met
    variable-met = ap (names_met t N.names) (sym behind.is) ∙ N.met

    pub variable-known : v.number < 65536 → v.row.all ≤ m.count + 1
        → Knows t facts list₀ list links words' ways' given' (making to.at to.past to.depth (m.count + 1))
        (record { names = k.names; row = v.row })
    variable-known l h =
        record {
          names = N.names;
          number = N.number;
          shown = N.shown;
          entries = N.entries;
          vars = x.vars;
          few = (omega (arith, N.few.0), h);
          from = to;
          rest = behind.after;
          left = behind.left;
          low = omega arith;
          here = at-end t to behind.after behind.left;
          met = variable-met;
          numbers = variable-next.1;
          small = small-more (numbers_of t facts) m.count v.number N.small variable-number l;
        }

  -- a number
  module _ (v : ℕ) (to : Spot) (A : AheadLeft t N.from (ahead.Number v to)) where
    past : LeftAfter t (of_number v) to N.rest
    past = A.1.left N.rest N.left

    number-next : (get_or (numbers_of t facts) m.count 0 ≡ v)
        × (numbering t N.names N.vars.places past.after ≡ drop (m.count + 1) (numbers_of t facts))
    unfolding numbering
    number-next =
        next_one v (numbering t N.names N.vars.places past.after) (numbers_of t facts) m.count
        (ap (numbering t N.names N.vars.places) (sym past.is) ∙ N.numbers)

    pub number-number : get_or (numbers_of t facts) m.count 0 ≡ v
    number-number = number-next.0

    number-met : names_met t N.names past.after ≡ names_met t [] (items_of facts)
    unfolding names_met
    number-met = ap (names_met t N.names) (sym past.is) ∙ N.met

    pub number-known : Knows t facts list₀ list links words ways given (making to.at to.past to.depth (m.count + 1)) k
    number-known =
        record {
          names = N.names;
          number = N.number;
          shown = N.shown;
          entries = N.entries;
          vars = N.vars;
          few = (omega (arith, N.few.0), omega (arith, N.few.1));
          from = to;
          rest = past.after;
          left = past.left;
          low = omega arith;
          here = at-end t to past.after past.left;
          met = number-met;
          numbers = number-next.1;
          small = small-more (numbers_of t facts) m.count v N.small number-number (omega (arith, A.0));
        }

  -- another row
  pub row-known : {ways' : List ℕ} (to : Spot) → AheadLeft t N.from (ahead.Row to) → Cleared ways ways' k.row.named
      → Knows t facts list₀ list links words ways' given (making to.at to.past to.depth m.count) (known k.names 0 0)
  unfolding names_met numbering no-variables
  row-known {ways'} to A c =
      let L = A.left N.rest N.left in
      record {
        names = N.names;
        number = N.number;
        shown = N.shown;
        entries = N.entries;
        vars = no-variables t words ways' given (tree-cleared t words ways ways' k.row.named N.vars.tree c) N.vars.size;
        few = (N.few.0, omega arith);
        from = to;
        rest = L.after;
        left = L.left;
        low = omega arith;
        here = at-end t to L.after L.left;
        met = ap (names_met t N.names) (sym L.is) ∙ N.met;
        numbers = ap (numbering t N.names N.vars.places) (sym L.is) ∙ N.numbers;
        small = N.small;
      }

  -- a mark: nothing is met
  on : (at : ℕ) (past : Bool) (depth : ℕ) → N.from.at ≤ at
      → ((x : Turn) (r : Ahead) → Turns t at past x → After t depth x r → NextIs t N.from r)
      → Knows t facts list₀ list links words ways given (making at past depth m.count) k
  on at _ depth l f =
      record {
        names = N.names;
        number = N.number;
        shown = N.shown;
        entries = N.entries;
        vars = N.vars;
        few = N.few;
        from = N.from;
        rest = N.rest;
        left = N.left;
        low = l;
        here = f;
        met = N.met;
        numbers = N.numbers;
        small = N.small;
      }

  pub comma-known : (p : ℕ) → Turns t m.at m.past (turn.Comma p)
      → Knows t facts list₀ list links words ways given (making (p + 1) false m.depth m.count) k
  comma-known p T = on (p + 1) false m.depth (omega (arith, N.low, T.leads.0)) (λ x r c a. N.here (turn.Comma p) r T (next.comma c a))

  pub close-known : (p : ℕ) → Turns t m.at m.past (turn.Close p) → (m.depth ≡ 0 → ⊥)
      → Knows t facts list₀ list links words ways given (making (p + 1) true (m.depth - 1) m.count) k
  close-known p T n =
      on (p + 1) true (m.depth - 1) (omega (arith, N.low, T.leads.0)) (λ x r c a. N.here (turn.Close p) r T (close_more p m.depth n c a))

  -- the end
  pub all_known : AheadLeft t N.from ahead.End → (k.names ≡ length (name_list t facts)) × (list ≡ put_first (name_list t facts) list₀)
  unfolding names_met name_list
  all_known A =
      let e = A N.rest N.left in
      let q : N.names ≡ names_of t facts = ap (names_met t N.names) (sym e) ∙ N.met ∙ names-items t [] facts in
      let c : k.names ≡ length (map entry_of (names_of t facts)) = sym N.number ∙ ap length q ∙ sym (length-map (names_of t facts) entry_of) in
      (c, N.entries ∙ ap₂ (λ (ns : List Place) (i : ℕ). map entry_of ns ++ drop i list₀) q c)
