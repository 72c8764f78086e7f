-- One turn of the writing, case by case, in the code's own form.
use Prim.Native.Nat.{ℕ, ◌+◌, ◌-◌, ◌≤◌, ◌<◌}
use mathlib.Core.Path.{◌≡◌, refl, sym, ap, subst, ◌∙◌}
use mathlib.Core.Bool.{true, false}
use mathlib.Core.List.{List, ◌++◌}
use native.Mathlib.Omega.{arith}
use lib.ListN.{length, get_or, set, take, drop, length-append, length-drop}
use lib.Seq.{length-take-le}
use Rattle.cell.specs.Cell.{variable_cell, name_cell, number_cell}
use Rattle.grammar.specs.Grammar.{name, variable, number, Fact}
use Rattle.grammar.specs.Meaning.{place, symbols_of, name_list}
use Rattle.lex.specs.Turns.{Turns}
use Rattle.lex.specs.declared.turn.Turn.TheVariants as turn
use Rattle.symbols.specs.Next.{spot, next_row, last_row}
use Rattle.symbols.specs.Next as next
use Rattle.symbols.specs.code.Left.{AheadLeft, StartLeft}
use Rattle.symbols.specs.declared.Spot.{Spot}
use Rattle.symbols.specs.declared.Ahead.TheVariants as ahead
use Rattle.symbols.proofs.NextLaws.{row_more}
use Rattle.texttable.specs.Words.{numbers_of}
use Rattle.texttable.specs.code.Tree.{Tree}
use Rattle.texttable.specs.code.Numbers.{RowVars}
use Rattle.texttable.specs.code.Cells.{making, known, with_argument, NamePut, put-new, put-old, VariablePut}
use Rattle.texttable.specs.code.Cells.{RowMade, Makes, Knows, State, Ready, Written, MadeIs, Writes}
use Rattle.texttable.specs.declared.numbers.Row.{Row}
use Rattle.texttable.specs.declared.cells.Making.{Making}
use Rattle.texttable.specs.declared.cells.Known.{Known}
use Rattle.texttable.specs.declared.cells.Made.{Made}
use Rattle.texttable.specs.declared.cells.Made.TheVariants as made
use Rattle.texttable.proofs.NumberLaws.{met-low, variable-few, front-part}
use Rattle.texttable.proofs.KnowLaws as know
use Rattle.texttable.proofs.CellLaws as cell
use Rattle.limits.specs.Limits.{most_names, most_text_bytes}

module _ (t list links words ways given cells owners : List ℕ) (m : Making) (k : Known) where
  -- what a turn leads to
  on : {next : Making} {k' : Known} {list' links' words' ways' given' cells' owners' : List ℕ} {r : Made}
      (R : Ready t list links words ways given cells owners m k) → r ≡ made.Go next k' → m.at < next.at
      → State t R.facts R.start R.listed list' links' words' ways' given' cells' owners' next k'
      → MadeIs t R.facts R.start R.listed m list' links' words' ways' given' cells' owners' r
  on {list' = list'} {links' = links'} {words' = words'} {ways' = ways'} {given' = given'} {cells' = cells'} {owners' = owners'} R e h S =
      subst (MadeIs t R.facts R.start R.listed m list' links' words' ways' given' cells' owners') (sym e) (h, S)

  -- what a symbol needs, where there is room for it
  module _ (R : Ready t list links words ways given cells owners m k) (s e : ℕ) (l : s < e) (h : e ≤ length t)
      (room : m.count < length (symbols_of R.facts)) where
    pub name-room : (s ≤ e) × (e ≤ length t) × (length t < 65536) × (k.names < length list) × (k.names < most_text_bytes)
        × Tree t list links k.names × (m.count < length cells)
    name-room =
        let N = R.state.knows in (
          omega arith,
          h,
          omega (arith, R.rooms.text),
          omega (arith, room, N.few.0, R.rooms.for-names),
          omega (arith, room, N.few.0, R.rooms.for-names, R.rooms.few.0),
          know.names-tree t R.facts R.listed list links words ways given m k N,
          omega (arith, room, R.rooms.roomy.for-cells),
        )

    variable-room : (s < e) × (e ≤ length t) × (length t ≤ most_text_bytes) × (k.row.all < length words) × (length words < most_text_bytes)
        × RowVars t words ways given k.row × (m.count < length cells)
    variable-room =
        let N = R.state.knows in (
          l,
          h,
          R.rooms.text,
          omega (arith, room, N.few.1, R.rooms.for-words),
          R.rooms.few.1,
          N.vars,
          omega (arith, room, R.rooms.roomy.for-cells),
        )

  -- A NAME, with its bracket or without: what is written and what is known then
  module _ (R : Ready t list links words ways given cells owners m k) (s e : ℕ) (to : Spot) (owners' : List ℕ)
      (A : AheadLeft t R.state.knows.from (ahead.Name s e to)) (room : m.count < length (symbols_of R.facts))
      (M : Makes t R.facts (numbers_of t R.facts) R.start (set cells m.count (name_cell 0 (get_or (numbers_of t R.facts) m.count 0))) owners'
      (making to.at to.past to.depth (m.count + 1))) where
    moved : {cells' : List ℕ} (v : ℕ) → get_or (numbers_of t R.facts) m.count 0 ≡ v → cells' ≡ set cells m.count (name_cell 0 v)
        → Makes t R.facts (numbers_of t R.facts) R.start cells' owners' (making to.at to.past to.depth (m.count + 1))
    moved v q c =
        subst (λ (x : List ℕ). Makes t R.facts (numbers_of t R.facts) R.start x owners' (making to.at to.past to.depth (m.count + 1)))
        (ap (λ (i : ℕ). set cells m.count (name_cell 0 i)) q ∙ sym c) M

    name-state : {list' links' cells' : List ℕ} {n : ℕ} → NamePut t list links k.names s e list' links' cells cells' m.count n
        → State t R.facts R.start R.listed list' links' words ways given cells' owners' (making to.at to.past to.depth (m.count + 1))
        (record { names = n; row = k.row })
    name-state {list'} {links'} (put-new μ c) =
        let l : k.names < 65536 = omega (arith, room, R.state.knows.few.0, R.rooms.roomy.few) in
        let q = know.name-number t R.facts R.listed list links words ways given m k R.state.knows s e k.names to list' links' A
        R.rooms.text l μ in
        record {
          makes = moved k.names q c;
          knows = know.name_new t R.facts R.listed list links words ways given m k R.state.knows s e k.names to list' links' A
              R.rooms.text l μ refl
              (omega (arith, room, R.state.knows.few.0, R.rooms.for-names));
        }
    name-state {list'} {links'} (put-old {n = n} μ z c) =
        let l : n < 65536 = omega (arith, met-low μ, room, R.state.knows.few.0, R.rooms.roomy.few) in
        let q = know.name-number t R.facts R.listed list links words ways given m k R.state.knows s e n to list' links' A R.rooms.text l μ in
        record {
          makes = moved n q c;
          knows = know.name-known t R.facts R.listed list links words ways given m k R.state.knows s e n to list' links' A R.rooms.text l μ z;
        }

  module _ (s e : ℕ) (T : Turns t m.at m.past (turn.Name s e)) where
    name-few : (R : Ready t list links words ways given cells owners m k) → m.count < length (symbols_of R.facts)
    name-few R = cell.put-room t R.facts (numbers_of t R.facts) R.start cells owners m R.rooms.roomy R.state.makes
        (name s e 0) e T.leads.2 T.same

    pub name-fits : Ready t list links words ways given cells owners m k
        → (s ≤ e) × (e ≤ length t) × (length t < 65536) × (k.names < length list) × (k.names < most_text_bytes)
        × Tree t list links k.names × (m.count < length cells)
    name-fits R = name-room R s e T.leads.1 T.leads.2 (name-few R)

    pub name-low : Ready t list links words ways given cells owners m k → m.count < 65536
    name-low R = omega (arith, name-few R, R.rooms.roomy.few)

    pub name-made : {list' links' cells' : List ℕ} {n : ℕ} {r : Made} → NamePut t list links k.names s e list' links' cells cells' m.count n
        → r ≡ made.Go (making e true m.depth (m.count + 1)) (record { names = n; row = k.row })
        → (R : Ready t list links words ways given cells owners m k)
        → MadeIs t R.facts R.start R.listed m list' links' words ways given cells' owners r
    name-made p g R =
        on R g (omega (arith, T.leads.0, T.leads.1))
        (name-state R s e (spot e true m.depth) owners
        (know.ahead_of t R.facts R.listed list links words ways given m k R.state.knows (turn.Name s e)
        (ahead.Name s e (spot e true m.depth)) T next.a-name) (name-few R)
        (cell.put-makes t R.facts (numbers_of t R.facts) R.start cells owners m R.rooms.roomy R.state.makes
        (name s e 0) e T.leads.2 T.same) p)

  module _ (s e : ℕ) (T : Turns t m.at m.past (turn.Open s e)) where
    open-few : (R : Ready t list links words ways given cells owners m k) → m.count < length (symbols_of R.facts)
    open-few R = cell.push-room t R.facts (numbers_of t R.facts) R.start cells owners m R.rooms.roomy R.state.makes s e T.leads.2
        T.same

    pub open-fits : Ready t list links words ways given cells owners m k
        → (s ≤ e) × (e ≤ length t) × (length t < 65536) × (k.names < length list) × (k.names < most_text_bytes)
        × Tree t list links k.names × (m.count < length cells)
    open-fits R = name-room R s e T.leads.1 (omega (arith, T.leads.2)) (open-few R)

    pub open-deep : (R : Ready t list links words ways given cells owners m k) → (m.count < 65536) × (m.depth < length owners) × (m.depth < 65536)
    open-deep R = (
      omega (arith, open-few R, R.rooms.roomy.few),
      cell.push-deep t R.facts (numbers_of t R.facts)
          R.start cells owners m R.rooms.roomy R.state.makes s e T.leads.2 T.same,
      cell.push-low t R.facts (numbers_of t R.facts) R.start cells owners m R.rooms.roomy R.state.makes s e T.leads.2 T.same,
    )

    pub open_made : {list' links' cells' : List ℕ} {n : ℕ} {r : Made} → NamePut t list links k.names s e list' links' cells cells' m.count n
        → r ≡ made.Go (making (e + 1) false (m.depth + 1) (m.count + 1)) (record { names = n; row = k.row })
        → (R : Ready t list links words ways given cells owners m k)
        → MadeIs t R.facts R.start R.listed m list' links' words ways given cells' (set owners m.depth m.count) r
    open_made p g R =
        on R g (omega (arith, T.leads.0, T.leads.1))
        (name-state R s e (spot (e + 1) false (m.depth + 1)) (set owners m.depth m.count)
        (know.ahead_of t R.facts R.listed list links words ways given m k R.state.knows (turn.Open s e)
        (ahead.Name s e (spot (e + 1) false (m.depth + 1))) T next.opens) (open-few R)
        (cell.push-makes t R.facts (numbers_of t R.facts) R.start cells owners m R.rooms.roomy R.state.makes s e T.leads.2 T.same) p)

  -- A VARIABLE
  module _ (s e : ℕ) (T : Turns t m.at m.past (turn.Variable s e)) where
    variable-few' : (R : Ready t list links words ways given cells owners m k) → m.count < length (symbols_of R.facts)
    variable-few' R = cell.put-room t R.facts (numbers_of t R.facts) R.start cells owners m R.rooms.roomy R.state.makes
        (variable s e) e T.leads.2 T.same

    pub variable-fits : Ready t list links words ways given cells owners m k
        → (s < e) × (e ≤ length t) × (length t ≤ most_text_bytes) × (k.row.all < length words) × (length words < most_text_bytes)
        × RowVars t words ways given k.row × (m.count < length cells)
    variable-fits R = variable-room R s e T.leads.1 T.leads.2 (variable-few' R)

    pub variable-low : Ready t list links words ways given cells owners m k → m.count < 65536
    variable-low R = omega (arith, variable-few' R, R.rooms.roomy.few)

    pub variable-made : {words' ways' given' cells' : List ℕ} {w : Row} {r : Made} (R : Ready t list links words ways given cells owners m k)
        → VariablePut t R.state.knows.vars.places (place s e) words' ways' given' cells cells' m.count w
        → r ≡ made.Go (making e true m.depth (m.count + 1)) (record { names = k.names; row = w })
        → MadeIs t R.facts R.start R.listed m list links words' ways' given' cells' owners r
    variable-made R p g =
        let A = know.ahead_of t R.facts R.listed list links words ways given m k R.state.knows (turn.Variable s e)
        (ahead.Variable s e (spot e true m.depth)) T next.a-variable in
        let v = p.numbered in
        let h : v.row.all ≤ m.count + 1 = omega (arith, variable-few p.is, R.state.knows.vars.all, R.state.knows.few.1) in
        let l : v.number < 65536 = omega (arith, h, p.is.low, variable-few' R, R.rooms.roomy.few) in
        let q = know.variable-number t R.facts R.listed list links words ways given m k R.state.knows s e (spot e true m.depth) v A p.is in
        on R (g ∙ ap (λ (w : Row). made.Go (making e true m.depth (m.count + 1)) (record { names = k.names; row = w })) p.row)
        (omega (arith, T.leads.0, T.leads.1))
        (record {
          makes =
              subst (λ (x : List ℕ). Makes t R.facts (numbers_of t R.facts) R.start x owners (making e true m.depth (m.count + 1)))
              (ap (λ (i : ℕ). set cells m.count (variable_cell i)) q ∙ sym p.cell)
              (cell.put-makes t R.facts (numbers_of t R.facts) R.start cells owners m R.rooms.roomy R.state.makes
              (variable s e) e T.leads.2 T.same);
          knows = know.variable-known t R.facts R.listed list links words ways given m k R.state.knows s e (spot e true m.depth) v A p.is l h;
        })

  -- A NUMBER
  module _ (v e : ℕ) (T : Turns t m.at m.past (turn.Number v e)) where
    pub number_fits : Ready t list links words ways given cells owners m k → (m.count < length cells) × (v ≤ 65535)
    number_fits R = (
      omega (
        arith,
        cell.put-room t R.facts (numbers_of t R.facts) R.start cells owners m R.rooms.roomy R.state.makes
            (number v) e T.leads.1 T.same,
        R.rooms.roomy.for-cells,
      ),
      T.leads.2,
    )

    pub number-low : Ready t list links words ways given cells owners m k → m.count < 65536
    number-low R = omega (
      arith,
      cell.put-room t R.facts (numbers_of t R.facts) R.start cells owners m R.rooms.roomy R.state.makes
          (number v) e T.leads.1 T.same,
      R.rooms.roomy.few,
    )

    pub number-made : {cells' : List ℕ} {r : Made} → cells' ≡ set cells m.count (number_cell v)
        → r ≡ made.Go (making e true m.depth (m.count + 1)) k → (R : Ready t list links words ways given cells owners m k)
        → MadeIs t R.facts R.start R.listed m list links words ways given cells' owners r
    number-made c g R =
        let A = know.ahead_of t R.facts R.listed list links words ways given m k R.state.knows (turn.Number v e)
        (ahead.Number v (spot e true m.depth)) T next.a-number in
        let q = know.number-number t R.facts R.listed list links words ways given m k R.state.knows v (spot e true m.depth) A in
        on R g T.leads.0
        (record {
          makes =
              subst (λ (x : List ℕ). Makes t R.facts (numbers_of t R.facts) R.start x owners (making e true m.depth (m.count + 1)))
              (ap (λ (i : ℕ). set cells m.count (number_cell i)) q ∙ sym c)
              (cell.put-makes t R.facts (numbers_of t R.facts) R.start cells owners m R.rooms.roomy R.state.makes
              (number v) e T.leads.1 T.same);
          knows = know.number-known t R.facts R.listed list links words ways given m k R.state.knows v (spot e true m.depth) A;
        })

  -- MARKS: the innermost open name has an argument more
  abbrev pub owner_of : ℕ
  owner_of = get_or owners (m.depth - 1) 0

  abbrev pub added_to : List ℕ
  added_to = set cells owner_of (with_argument (get_or cells owner_of 0))

  pub argument-fits : (m.depth ≡ 0 → ⊥) → Ready t list links words ways given cells owners m k → (m.depth - 1 < length owners) × (owner_of < length cells)
  argument-fits n R = cell.argument-fits t R.facts (numbers_of t R.facts) R.start cells owners m R.rooms.roomy R.state.makes n

  module _ (p : ℕ) (T : Turns t m.at m.past (turn.Comma p)) where
    pub comma-outer : {r : Made} → m.depth ≡ 0 → r ≡ made.Go (making (p + 1) false m.depth m.count) k
        → (R : Ready t list links words ways given cells owners m k)
        → MadeIs t R.facts R.start R.listed m list links words ways given cells owners r
    comma-outer z g R =
        on R g (omega (arith, T.leads.0))
        (record {
          makes = cell.comma-outer t R.facts (numbers_of t R.facts) R.start cells owners m R.rooms.roomy R.state.makes p T.leads.0
              T.leads.1 T.same z;
          knows = know.comma-known t R.facts R.listed list links words ways given m k R.state.knows p T;
        })

    pub comma-inner : {cells' : List ℕ} {r : Made} → (m.depth ≡ 0 → ⊥) → cells' ≡ added_to → r ≡ made.Go (making (p + 1) false m.depth m.count) k
        → (R : Ready t list links words ways given cells owners m k)
        → MadeIs t R.facts R.start R.listed m list links words ways given cells' owners r
    comma-inner n q g R =
        on R g (omega (arith, T.leads.0))
        (record {
          makes =
              subst (λ (x : List ℕ). Makes t R.facts (numbers_of t R.facts) R.start x owners (making (p + 1) false m.depth m.count)) (sym q)
              (cell.comma-makes t R.facts (numbers_of t R.facts) R.start cells owners m R.rooms.roomy R.state.makes p T.leads.0
              T.leads.1 T.same R.state.knows.small n);
          knows = know.comma-known t R.facts R.listed list links words ways given m k R.state.knows p T;
        })

  module _ (p : ℕ) (T : Turns t m.at m.past (turn.Close p)) where
    pub close-inner : {cells' : List ℕ} {r : Made} → (m.depth ≡ 0 → ⊥) → cells' ≡ added_to
        → r ≡ made.Go (making (p + 1) true (m.depth - 1) m.count) k → (R : Ready t list links words ways given cells owners m k)
        → MadeIs t R.facts R.start R.listed m list links words ways given cells' owners r
    close-inner n q g R =
        on R g (omega (arith, T.leads.0))
        (record {
          makes =
              subst (λ (x : List ℕ). Makes t R.facts (numbers_of t R.facts) R.start x owners (making (p + 1) true (m.depth - 1) m.count)) (sym q)
              (cell.close-makes t R.facts (numbers_of t R.facts) R.start cells owners m R.rooms.roomy R.state.makes p T.leads.0
              T.leads.1 T.same R.state.knows.small n);
          knows = know.close-known t R.facts R.listed list links words ways given m k R.state.knows p T n;
        })

    -- a row ends
    pub close-outer : (ways' : List ℕ) (r : Made) → m.depth ≡ 0 → RowMade t (p + 1) m.count k ways ways' r
        → (R : Ready t list links words ways given cells owners m k)
        → MadeIs t R.facts R.start R.listed m list links words ways' given cells owners r
    close-outer ways' (made.Go next k') z x R =
        let y = cell.row_makes t R.facts (numbers_of t R.facts) R.start cells owners m R.rooms.roomy R.state.makes p T.leads.0
        T.leads.1 T.same next.at z x.0 in
        let A = know.ahead_of t R.facts R.listed list links words ways given m k R.state.knows (turn.Close p)
        (ahead.Row (spot next.at false 0)) T (row_more z (next_row x.0)) in (
          y.0,
          record {
            makes = subst (Makes t R.facts (numbers_of t R.facts) R.start cells owners) (sym x.1) y.1;
            knows =
                subst (λ (j : Making). Knows t R.facts R.listed list links words ways' given j k') (sym x.1)
                (subst (Knows t R.facts R.listed list links words ways' given (making next.at false 0 m.count)) (sym x.2)
                (know.row-known t R.facts R.listed list links words ways given m k R.state.knows (spot next.at false 0) A x.3));
          },
        )
    close-outer ways' (made.Done n) z x R =
        let y = cell.all_made t R.facts (numbers_of t R.facts) R.start cells owners m R.rooms.roomy R.state.makes p T.leads.0
        T.leads.1 T.same z x.0 in
        let A = know.ahead_of t R.facts R.listed list links words ways given m k R.state.knows
        (turn.Close p) ahead.End T (row_more z (last_row x.0)) in
        let e = know.all_known t R.facts R.listed list links words ways given m k R.state.knows A in
        record { count = x.1 ∙ e.0; names = e.1; cells = y.1 }

  -- an accepted text does not stop
  pub never-stops : (p n : ℕ) → Turns t m.at m.past (turn.Stop p) → (R : Ready t list links words ways given cells owners m k)
      → MadeIs t R.facts R.start R.listed m list links words ways given cells owners (made.Done n)
  never-stops p n T R = absurd (cell.no_stop t R.facts (numbers_of t R.facts) R.start cells owners m R.rooms.roomy R.state.makes p T.same)

-- THE LOOP: what a turn needs, and what it leaves
abbrev pub ready : {t list₀ links₀ words₀ ways₀ given₀ cells₀ owners₀ : List ℕ} {m₀ : Making} {k₀ : Known}
    (list links words ways given cells owners : List ℕ) (m : Making) (k : Known)
    (R : Ready t list₀ links₀ words₀ ways₀ given₀ cells₀ owners₀ m₀ k₀) → length list ≡ length list₀ → length words ≡ length words₀
    → length cells ≡ length cells₀
    → length owners ≡ length owners₀ → State t R.facts R.start R.listed list links words ways given cells owners m k
    → Ready t list links words ways given cells owners m k
ready list links words ways given cells owners m k R a b c d S =
    record {
      facts = R.facts;
      start = R.start;
      listed = R.listed;
      rooms = record {
        text = R.rooms.text;
        roomy = record {
          for-cells = omega (arith, R.rooms.roomy.for-cells, c);
          for-owners = omega (arith, R.rooms.roomy.for-owners, d);
          few = R.rooms.roomy.few;
        };
        for-names = omega (arith, R.rooms.for-names, a);
        for-words = omega (arith, R.rooms.for-words, b);
        few = (omega (arith, R.rooms.few.0, a), omega (arith, R.rooms.few.1, b));
      };
      state = S;
    }

module _ (t start listed list links words ways given cells owners : List ℕ) (facts : List Fact) (m : Making) where
  pub went : {next : Making} {k : Known} {r : Made} → r ≡ made.Go next k → MadeIs t facts start listed m list links words ways given cells owners r
      → (m.at < next.at) × State t facts start listed list links words ways given cells owners next k
  went e x = subst (MadeIs t facts start listed m list links words ways given cells owners) e x

  pub ended : {n : ℕ} {r : Made} → r ≡ made.Done n → MadeIs t facts start listed m list links words ways given cells owners r
      → Written t facts start listed list cells n
  ended e x = subst (MadeIs t facts start listed m list links words ways given cells owners) e x

-- ALL: the first fact's arguments, with room for everything; `list` may be a part of the list
abbrev pub first-ready : {most : ℕ} {t whole list links words ways given cells owners : List ℕ} (from : Spot) (W : Writes most t whole cells) → most ≤ most_names
    → length list ≡ most → StartLeft t from → Tree t list links 0 → Tree t words ways 0 → length given ≡ length words → length words ≡ most
    → length owners ≡ most → Ready t list links words ways given cells owners (making from.at false 0 0) (known 0 0 0)
first-ready {t = t} {list = list} {links = links} {words = words} {ways = ways} {given = given} {cells = cells} {owners = owners} from W u a S T Y g b d =
    record {
      facts = W.facts;
      start = cells;
      listed = list;
      rooms = record {
        text = W.text;
        roomy = record { for-cells = W.for-cells; for-owners = omega (arith, W.few, d); few = omega (arith, W.few, u) };
        for-names = omega (arith, W.few, a);
        for-words = omega (arith, W.few, b);
        few = (omega (arith, a, u), omega (arith, b, u));
      };
      state = record {
        makes = cell.first-makes t W.facts (numbers_of t W.facts) cells owners from.at S.within (S.first W.facts W.accepted);
        knows = know.nothing_known t W.facts list links words ways given from W.accepted S T Y g;
      };
    }

-- what is written by a part of the list
pub written-part : (n : ℕ) {t : List ℕ} {facts : List Fact} {start listed list out : List ℕ} {r : ℕ} → n ≤ length listed → length list ≡ n
    → Written t facts start (take n listed) list out r → Written t facts start listed (list ++ drop n listed) out r
written-part n {t} {facts} {listed = listed} {list = list} l q W =
    let ns = name_list t facts in
    let part = take n listed in
    let c : length ns ≤ n =
    omega (arith, q, ap length W.names, length-append ns (drop (length ns) part), length-drop (length ns) part, length-take-le n listed l) in
    record { count = W.count; names = ap (λ (xs : List ℕ). xs ++ drop n listed) W.names ∙ front-part ns listed n c l; cells = W.cells }

-- at most so many are at most so many more
abbrev pub at_most : {most : ℕ} {t list cells : List ℕ} (more : ℕ) → most ≤ more → Writes most t list cells → Writes more t list cells
at_most more h W =
    record {
      facts = W.facts;
      accepted = W.accepted;
      text = W.text;
      for-list = W.for-list;
      for-cells = W.for-cells;
      few = omega (arith, W.few, h);
    }
