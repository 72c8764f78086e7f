-- One turn of the scan, law by law.
use Prim.Native.Nat.{ℕ, suc, ◌+◌, ◌-◌, ◌*◌, ◌≤◌, ◌<◌}
use mathlib.Core.Path.{◌≡◌, refl, sym, ap, ap₂, subst, ◌∙◌}
use mathlib.Core.Bool.{Bool, true, false}
use mathlib.Core.List.{List, [], ◌∷◌, ◌++◌}
use native.Mathlib.Omega.{arith}
use native.Mathlib.Numerals.{add-one}
use lib.ListN.{length, drop, length-set, length-append}
use borrow.Author.Tests.{lt-ltb, le-ltb}
use Rattle.grammar.specs.Grammar.{Symbol, name, variable, number}
use Rattle.grammar.specs.Reader.{arg, after, Frame, frame, one_more, one_more_in, Work, work, put, push, on_comma, on_close, Out, run}
use Rattle.lex.specs.Turns.{term_mode, on_mark, Turns}
use Rattle.lex.specs.declared.turn.Turn.{Turn}
use Rattle.lex.specs.declared.turn.Turn.TheVariants as turn
use Rattle.scan.specs.declared.arguments.Move.{Move}
use Rattle.scan.specs.declared.arguments.Move.TheVariants as move
use Rattle.scan.specs.declared.arguments.Spot.{Spot}
use Rattle.scan.specs.code.Levels.{level_at, stored, levels_of}
use Rattle.scan.proofs.LevelLaws.{levels-set}
use Rattle.scan.specs.code.Arguments.{spot, done_in, Ready, UnderSpot, Goes, Moved, arguments_at}
use Rattle.limits.specs.Limits.{most_text_bytes}

-- the innermost open name
record Innermost (dones : List ℕ) (d : ℕ) (opened : List Frame) : Type 0 where
  top : Frame
  rest : List Frame
  is : opened ≡ top ∷ rest
  done : top.done ≡ level_at dones d
  levels : levels_of dones d ≡ done_in rest

innermost : (dones : List ℕ) (d : ℕ) (opened : List Frame) → levels_of dones (suc d) ≡ done_in opened → Innermost dones d opened
unfolding levels_of
innermost dones d [] e = absurd (let z : ◌≡◌ {A = ℕ} 0 1 = cc in omega arith)
innermost dones d (f ∷ fs) e = record { top = f; rest = fs; is = refl; done = cc; levels = cc }

none_open : (dones : List ℕ) (opened : List Frame) → levels_of dones 0 ≡ done_in opened → opened ≡ []
unfolding levels_of
none_open dones [] e = refl
none_open dones (f ∷ fs) e = absurd (let z : ◌≡◌ {A = ℕ} 0 1 = cc in omega arith)

-- the spot that was made
to : {F : ℕ → ℕ → Out} {t dones : List ℕ} {sp s v : Spot} → v ≡ s → Goes F t dones sp.at s → Moved F t dones sp (move.Go v)
to {F} {t} {dones} {sp} q g = record { is = subst (Goes F t dones sp.at) (sym q) g }

module _ (t dones : List ℕ) (sp : Spot) (R : Ready t dones sp) {r : Turn} (T : Turns t sp.at sp.past r) where
  is-turn : {x : Turn} → r ≡ x → Turns t sp.at sp.past x
  is-turn e = subst (Turns t sp.at sp.past) e T

  -- places inside the text are small
  pub open-small : {s e : ℕ} → r ≡ turn.Open s e → e < 65535
  open-small q = omega (arith, (is-turn q).leads.2, R.text)

  pub comma-small : {p : ℕ} → r ≡ turn.Comma p → p < 65535
  comma-small q = omega (arith, (is-turn q).leads.1, R.text)

  pub close-small : {p : ℕ} → r ≡ turn.Close p → p < 65535
  close-small q = omega (arith, (is-turn q).leads.1, R.text)

  -- a symbol
  symbol-goes : (x : Symbol) (e : ℕ) → sp.at < e → e ≤ length t
      → ((w : Work) → run (drop sp.at t) (term_mode sp.past) w sp.at ≡ run (drop e t) after (put x w) e)
      → (F : ℕ → ℕ → Out) → UnderSpot F t dones sp → Goes F t dones sp.at (spot e true sp.depth sp.done (sp.symbols + 1))
  unfolding put
  symbol-goes x e l h f F U =
      record {
        on = l;
        ready = record { text = R.text; room = R.room; place = h; deep = omega (arith, R.deep); few = omega (arith, R.few); args = omega (arith, R.args) };
        under = record {
          opened = U.opened;
          out = U.out ++ (x ∷ []);
          levels = U.levels;
          count = length-append U.out (x ∷ []) ∙ ap (λ (n : ℕ). n + 1) U.count;
          same = λ s e'. U.same s e' ∙ f (work s e' sp.done U.opened U.out);
        };
      }

  module _ {e : ℕ} {v : Spot} (made : v ≡ spot e true sp.depth sp.done (sp.symbols + 1)) where
    pub name-moves : {s : ℕ} → r ≡ turn.Name s e → (F : ℕ → ℕ → Out) → UnderSpot F t dones sp → Moved F t dones sp (move.Go v)
    name-moves {s} q F U = let x = is-turn q in to made (symbol-goes (name s e 0) e (omega (arith, x.leads.0, x.leads.1)) x.leads.2 x.same F U)

    pub variable-moves : {s : ℕ} → r ≡ turn.Variable s e → (F : ℕ → ℕ → Out) → UnderSpot F t dones sp → Moved F t dones sp (move.Go v)
    variable-moves {s} q F U = let x = is-turn q in to made (symbol-goes (variable s e) e (omega (arith, x.leads.0, x.leads.1)) x.leads.2 x.same F U)

    pub number-moves : {n : ℕ} → r ≡ turn.Number n e → (F : ℕ → ℕ → Out) → UnderSpot F t dones sp → Moved F t dones sp (move.Go v)
    number-moves {n} q F U = let x = is-turn q in to made (symbol-goes (number n) e x.leads.0 x.leads.1 x.same F U)

  -- a name with its bracket
  pub open-moves : {s e : ℕ} {v : Spot} → v ≡ spot (e + 1) false (sp.depth + 1) sp.done (sp.symbols + 1) → r ≡ turn.Open s e
      → (F : ℕ → ℕ → Out) → UnderSpot F t dones sp → Moved F t (stored dones sp.depth 0) sp (move.Go v)
  unfolding push
  open-moves {s} {e} made q F U =
      let x = is-turn q in
      let l = x.leads in
      to made
      (record {
        on = omega (arith, l.0, l.1);
        ready = record {
          text = R.text;
          room = rw length-set R.room;
          place = omega (arith, l.2);
          deep = omega (arith, R.deep, l.0, l.1);
          few = omega (arith, R.few, l.0, l.1);
          args = omega (arith, R.args, l.0, l.1);
        };
        under = record {
          opened = frame (length U.out) s e 0 ∷ U.opened;
          out = U.out ++ (name s e 0 ∷ []);
          levels =
              ap (levels_of (stored dones sp.depth 0)) (add-one sp.depth)
              ∙ levels-set dones sp.depth 0 (omega (arith, R.room, R.deep, R.text, R.place)) (omega arith)
              ∙ ap (λ (ds : List ℕ). 0 ∷ ds) U.levels;
          count = length-append U.out (name s e 0 ∷ []) ∙ ap (λ (n : ℕ). n + 1) U.count;
          same = λ s' e'. U.same s' e' ∙ x.same (work s' e' sp.done U.opened U.out);
        };
      })

  -- no text goes on so
  pub stop-moves : {p : ℕ} → r ≡ turn.Stop p → (F : ℕ → ℕ → Out) → UnderSpot F t dones sp → Moved F t dones sp (move.Stop p)
  stop-moves q F U = record { is = λ s e. U.same s e ∙ (is-turn q).same (work s e sp.done U.opened U.out) }

  -- a mark: the numbers after it
  ready_on : (p depth done : ℕ) (past : Bool) → sp.at ≤ p → p < length t → depth ≤ sp.depth → done ≤ sp.done + 1
      → Ready t dones (spot (p + 1) past depth done sp.symbols)
  ready_on p depth done past l h a b =
      record { text = R.text; room = R.room; place = omega arith; deep = omega (arith, R.deep); few = omega (arith, R.few); args = omega (arith, R.args) }

  inner : {F : ℕ → ℕ → Out} (U : UnderSpot F t dones sp) → (sp.depth ≡ 0 → ⊥) → Innermost dones (sp.depth - 1) U.opened
  inner U n =
      let e : suc (sp.depth - 1) ≡ sp.depth = omega arith in
      innermost dones (sp.depth - 1) U.opened (ap (levels_of dones) e ∙ U.levels)

  module _ {p : ℕ} (q : r ≡ turn.Comma p) where
    commas : {F : ℕ → ℕ → Out} (U : UnderSpot F t dones sp) {fs : List Frame} → U.opened ≡ fs → (s e : ℕ)
        → F s e ≡ on_mark t p (on_comma s e sp.done fs U.out)
    commas U i s e =
        U.same s e
        ∙ (is-turn q).same (work s e sp.done U.opened U.out)
        ∙ ap (λ (fs : List Frame). on_mark t p (on_comma s e sp.done fs U.out)) i

    -- of the fact
    pub comma-fact : {v : Spot} → v ≡ spot (p + 1) false sp.depth (sp.done + 1) sp.symbols → sp.depth ≡ 0
        → (F : ℕ → ℕ → Out) → UnderSpot F t dones sp → Moved F t dones sp (move.Go v)
    unfolding on_comma
    comma-fact made z F U =
        let i = none_open dones U.opened (ap (levels_of dones) (sym z) ∙ U.levels) in
        let l = (is-turn q).leads in
        to made
        (record {
          on = omega (arith, l.0);
          ready = ready_on p sp.depth (sp.done + 1) false l.0 l.1 (omega arith) (omega arith);
          under = record {
            opened = [];
            out = U.out;
            levels = U.levels ∙ ap done_in i;
            count = U.count;
            same = λ s e. commas U i s e ∙ ap (λ (n : ℕ). run (drop (p + 1) t) arg (work s e n [] U.out) (p + 1)) (sym (add-one sp.done));
          };
        })

    -- of a name that has four arguments
    pub comma-full : (sp.depth ≡ 0 → ⊥) → 3 ≤ level_at dones (sp.depth - 1)
        → (F : ℕ → ℕ → Out) → UnderSpot F t dones sp → Moved F t dones sp (move.Stop p)
    unfolding on_comma
    comma-full n k F U =
        let i = inner U n in
        record { is = λ s e. commas U i.is s e ∙ rw (le-ltb i.top.done 3 (omega (arith, i.done))) }

    -- of a name that has fewer
    pub comma-inside : {v : Spot} → v ≡ spot (p + 1) false sp.depth sp.done sp.symbols → (sp.depth ≡ 0 → ⊥)
        → level_at dones (sp.depth - 1) < 3
        → (F : ℕ → ℕ → Out) → UnderSpot F t dones sp → Moved F t (stored dones (sp.depth - 1) (level_at dones (sp.depth - 1) + 1)) sp (move.Go v)
    unfolding on_comma
    comma-inside made n k F U =
        let i = inner U n in
        let g = i.top in
        let l = (is-turn q).leads in
        let e : suc (sp.depth - 1) ≡ sp.depth = omega arith in
        let v : level_at dones (sp.depth - 1) + 1 ≡ suc g.done = omega (arith, i.done) in
        to made
        (record {
          on = omega (arith, l.0);
          ready = record {
            text = R.text;
            room = rw length-set R.room;
            place = omega (arith, l.1);
            deep = omega (arith, R.deep, l.0);
            few = omega (arith, R.few, l.0);
            args = omega (arith, R.args, l.0);
          };
          under = record {
            opened = one_more g ∷ i.rest;
            out = one_more_in g U.out;
            levels =
                ap (levels_of (stored dones (sp.depth - 1) (level_at dones (sp.depth - 1) + 1))) (sym e)
                ∙ levels-set dones (sp.depth - 1) (level_at dones (sp.depth - 1) + 1) (omega (arith, R.room, R.deep, R.text, R.place)) (omega arith)
                ∙ ap₂ (λ (x : ℕ) (ds : List ℕ). x ∷ ds) v i.levels;
            count = length-set U.out g.owner (name g.start g.end (suc g.done)) ∙ U.count;
            same = λ s e'. commas U i.is s e' ∙ rw (lt-ltb g.done 3 (omega (arith, i.done)));
          };
        })

  module _ {p : ℕ} (q : r ≡ turn.Close p) where
    closes : {F : ℕ → ℕ → Out} (U : UnderSpot F t dones sp) {fs : List Frame} → U.opened ≡ fs → (s e : ℕ)
        → F s e ≡ on_mark t p (on_close s e sp.done fs U.out)
    closes U i s e =
        U.same s e
        ∙ (is-turn q).same (work s e sp.done U.opened U.out)
        ∙ ap (λ (fs : List Frame). on_mark t p (on_close s e sp.done fs U.out)) i

    pub close-fact : sp.depth ≡ 0 → (F : ℕ → ℕ → Out) → UnderSpot F t dones sp → Moved F t dones sp (move.Closed (p + 1))
    unfolding on_close
    close-fact z F U =
        let i = none_open dones U.opened (ap (levels_of dones) (sym z) ∙ U.levels) in
        let l = (is-turn q).leads in
        record {
          is = (
            omega (arith, l.0),
            record {
              within = omega (arith, l.1);
              args = omega (arith, R.args, l.0);
              few = omega (arith, R.few, l.0);
              out = U.out;
              count = U.count;
              same = λ s e. closes U i s e;
            },
          );
        }

    pub close-inside : {v : Spot} → v ≡ spot (p + 1) true (sp.depth - 1) sp.done sp.symbols → (sp.depth ≡ 0 → ⊥)
        → (F : ℕ → ℕ → Out) → UnderSpot F t dones sp → Moved F t dones sp (move.Go v)
    unfolding on_close
    close-inside made n F U =
        let i = inner U n in
        let g = i.top in
        let l = (is-turn q).leads in
        to made
        (record {
          on = omega (arith, l.0);
          ready = ready_on p (sp.depth - 1) sp.done true l.0 l.1 (omega arith) (omega arith);
          under = record {
            opened = i.rest;
            out = one_more_in g U.out;
            levels = i.levels;
            count = length-set U.out g.owner (name g.start g.end (suc g.done)) ∙ U.count;
            same = λ s e. closes U i.is s e;
          };
        })

-- the start
pub none_yet : (t dones : List ℕ) (at : ℕ) {v : Spot} → v ≡ spot at false 0 0 0 → at ≤ length t → length t ≤ most_text_bytes → length t < 8 * length dones
    → Ready t dones v × UnderSpot (arguments_at t at) t dones v
unfolding levels_of
none_yet t dones at q h k l =
    subst (λ (v : Spot). Ready t dones v × UnderSpot (arguments_at t at) t dones v) (sym q) (
      record { text = k; room = l; place = h; deep = omega arith; few = omega arith; args = omega arith },
      record { opened = []; out = []; levels = refl; count = refl; same = λ s e. refl },
    )

pub moves-is : {F : ℕ → ℕ → Out} {t dones : List ℕ} {sp : Spot} {r x : Move} → Moved F t dones sp r → r ≡ x → Moved F t dones sp x
moves-is {F} {t} {dones} {sp} m e = subst (Moved F t dones sp) e m
