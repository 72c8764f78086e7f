-- The next fact, read once: law by law.
use Prim.Native.Nat.{ℕ, ◌+◌, ◌≤◌, ◌<◌}
use mathlib.Core.Path.{◌≡◌, sym, ap, subst, ◌∙◌}
use mathlib.Core.Bool.{Bool}
use mathlib.Core.List.{List, []}
use native.Mathlib.Omega.{arith}
use native.Mathlib.Numerals.{add-one}
use lib.ListN.{length, drop}
use Rattle.grammar.specs.Grammar.{fact}
use Rattle.grammar.specs.Reader.{closed, stop, Work, work, nothing, Out, stops, reads, fact_before, run}
use Rattle.lex.specs.Heads.{fact_mode, Heads, Closes}
use Rattle.lex.specs.declared.fact.Head.{Head}
use Rattle.lex.specs.declared.fact.Head.TheVariants as head
use Rattle.lex.specs.declared.Stop.{Stop}
use Rattle.std.specs.Prelude.{Option, Result, Ok, Err}
use Rattle.scan.specs.declared.arguments.Arguments.{Arguments}
use Rattle.scan.specs.declared.facts.Seen.{Seen}
use Rattle.scan.specs.code.Arguments.{Whole, arguments_at, Reads}
use Rattle.scan.specs.code.Facts.{FactFits, FactIs}
use Rattle.limits.specs.Limits.{most_text_bytes}

module _ (t : List ℕ) (at : ℕ) (first : Bool) {r : Head} (H : Heads t at first r) where
  abbrev whole : Work → Out
  whole w = run (drop at t) (fact_mode first) w at

  is-head : {x : Head} → r ≡ x → Heads t at first x
  is-head e = subst (Heads t at first) e H

  pub no_more : r ≡ head.End → (w : Work) → whole w ≡ reads []
  no_more q w = (is-head q).same w

  pub no-head : {p : ℕ} → r ≡ head.Stop p → (w : Work) → whole w ≡ stops p
  no-head q w = (is-head q).same w

  module _ {s e : ℕ} (q : r ≡ head.Open s e) where
    pub open-within : e < length t
    open-within = (is-head q).reaches.2

    module _ {a : Result Arguments Stop} (A : Reads t (e + 1) a) where
      pub no_arguments : {p : Stop} → a ≡ Err p → (w : Work) → whole w ≡ stops p.at
      no_arguments {p} i w = (is-head q).same w ∙ subst (Reads t (e + 1)) i A s e

      module _ {v : Arguments} (i : a ≡ Ok v) where
        abbrev u : ℕ
        u = v.next

        abbrev d : ℕ
        d = v.last

        abbrev n : ℕ
        n = v.symbols

        args : (e + 1 < u) × Whole (arguments_at t (e + 1)) t u d n
        args = subst (Reads t (e + 1)) i A

        pub last-small : length t ≤ most_text_bytes → d < most_text_bytes
        last-small h = let x = args.1 in omega (arith, x.args, x.within)

        closing : (w : Work) → whole w ≡ run (drop u t) closed (work s e d [] args.1.out) u
        closing w = (is-head q).same w ∙ args.1.same s e

        module _ {z : Result ℕ Stop} (Z : Closes t u z) where
          is-end : {x : Result ℕ Stop} → z ≡ x → Closes t u x
          is-end j = subst (Closes t u) j Z

          pub no_end : {p : Stop} → z ≡ Err p → (w : Work) → whole w ≡ stops p.at
          no_end j w = closing w ∙ (is-end j).same (work s e d [] args.1.out)

          pub fact-fits : {next : ℕ} → z ≡ Ok next → FactFits t at first (record { start = s; end = e; width = d + 1; symbols = n; next = next })
          fact-fits {next} j =
              let x = args in
              let y = is-end j in
              let l = (is-head q).reaches in
              record {
                from = (l.0, l.1);
                within = (omega (arith, x.0, y.arrives.0), y.arrives.1);
                few = omega (arith, x.1.few, y.arrives.0);
                out = x.1.out;
                count = x.1.count;
                same =
                    λ w.
                    closing w
                    ∙ y.same (work s e d [] x.1.out)
                    ∙ ap (λ (k : ℕ). fact_before (fact s e k x.1.out) (run (drop next t) stop nothing next)) (sym (add-one d));
              }

pub fact-is : (t : List ℕ) (at : ℕ) (first : Bool) {r x : Result (Option Seen) Stop} → FactIs t at first r → r ≡ x → FactIs t at first x
fact-is t at first c e = subst (FactIs t at first) e c
