-- Two results that the entry's promise allows are equal, for every text and both rooms; and there is one.
use Prim.Native.Nat.{ℕ, ◌≤◌}
use mathlib.Core.Path.{◌≡◌, refl, sym, ap, ◌∙◌}
use mathlib.Core.Bool.{Bool, true, false}
use mathlib.Core.List.{List}
use lib.Dec.{ltb}
use lib.ListN.{length}
use borrow.Author.Tests.{lt-ltb, le-ltb, ltb-true, ltb-false}
use Rattle.refusal.specs.Refusal.{refused, Answer}
use Rattle.refusal.specs.Read.{Read, read, refuse, when, and_then}
use Rattle.refusal.specs.declared.Reason.TheVariants as reason
use Rattle.refusal.specs.declared.Input.TheVariants as input
use Rattle.table.specs.Table.{Table, table_of}
use Rattle.grammar.specs.Grammar.{Fact}
use Rattle.grammar.specs.Meaning.{table_cells, name_list}
use Rattle.grammar.specs.Taken.{Taken}
use Rattle.grammar.proofs.Fixed.{taken_of, taken_is, taken-holds}
use Rattle.loading.specs.Load.{Loaded, loaded, Loads, not_taken, no_cells, no_names, no_table, loads, TextLoads, load_says, cells_after, names_after}

-- the same as one function, in the order of the refusals
abbrev tabled : List ℕ → List Fact → Read Table → Read Loaded
tabled t fs r = and_then r (λ (T : Table). read (loaded t fs))

abbrev roomed : List ℕ → ℕ → ℕ → List Fact → Read Loaded
roomed t c n fs =
    when (ltb c (length (table_cells t fs))) (refused reason.Room input.Lent (length (table_cells t fs)))
    (when (ltb n (length (name_list t fs))) (refused reason.Room input.Lent (length (name_list t fs)))
    (tabled t fs (table_of (table_cells t fs))))

unfoldable pub load_of : List ℕ → ℕ → ℕ → Read Loaded
load_of t c n = and_then (taken_of t) (roomed t c n)

pub load_is : (t : List ℕ) (c n : ℕ) {o : Read Loaded} → Loads t c n o → o ≡ load_of t c n
unfolding load_of
load_is t c n (not_taken x) = rw (sym (taken_is t x))
load_is t c n (no_cells {facts = fs} x l) = rw (sym (taken_is t x), lt-ltb c (length (table_cells t fs)) l)
load_is t c n (no_names {facts = fs} x l m) =
    rw (sym (taken_is t x), le-ltb c (length (table_cells t fs)) l, lt-ltb n (length (name_list t fs)) m)
load_is t c n (no_table {facts = fs} x l m q) =
    rw (sym (taken_is t x), le-ltb c (length (table_cells t fs)) l, le-ltb n (length (name_list t fs)) m, q)
load_is t c n (loads {facts = fs} x l m q) =
    rw (sym (taken_is t x), le-ltb c (length (table_cells t fs)) l, le-ltb n (length (name_list t fs)) m, q)

-- HOW CLOSELY IT IS HELD
pub text-fixed : {t cells names cells' names' cells'' names'' : List ℕ} {a b : Answer} → TextLoads t cells names cells' names' a
    → TextLoads t cells names cells'' names'' b
    → (a ≡ b) × (cells' ≡ cells'') × (names' ≡ names'')
text-fixed {t} {cells} {names} x y =
    let e : x.says ≡ y.says = load_is t (length cells) (length names) x.rule ∙ sym (load_is t (length cells) (length names) y.rule) in (
      x.told ∙ ap load_says e ∙ sym y.told,
      x.wrote ∙ ap (λ (o : Read Loaded). cells_after o cells) e ∙ sym y.wrote,
      x.listed ∙ ap (λ (o : Read Loaded). names_after o names) e ∙ sym y.listed,
    )

-- and there is one for every text and both rooms
pub load-holds : (t : List ℕ) (c n : ℕ) → Loads t c n (load_of t c n)
unfolding load_of
load-holds t c n = by-text (taken_of t) (taken-holds t)
  where
    by-table : (fs : List Fact) (r : Read Table) → table_of (table_cells t fs) ≡ r → Taken t (read fs) → length (table_cells t fs) ≤ c → length (name_list t fs) ≤ n
        → Loads t c n (tabled t fs r)
    by-table fs (read T) q x l m = loads x l m q
    by-table fs (refuse f) q x l m = no_table x l m q

    by_names : (fs : List Fact) (b : Bool) → ltb n (length (name_list t fs)) ≡ b → Taken t (read fs) → length (table_cells t fs) ≤ c
        → Loads t c n (when b (refused reason.Room input.Lent (length (name_list t fs))) (tabled t fs (table_of (table_cells t fs))))
    by_names fs true q x l = no_names x l (ltb-true n (length (name_list t fs)) q)
    by_names fs false q x l = by-table fs (table_of (table_cells t fs)) refl x l (ltb-false n (length (name_list t fs)) q)

    by-cells : (fs : List Fact) (b : Bool) → ltb c (length (table_cells t fs)) ≡ b → Taken t (read fs)
        → Loads t c n (when b (refused reason.Room input.Lent (length (table_cells t fs)))
        (when (ltb n (length (name_list t fs))) (refused reason.Room input.Lent (length (name_list t fs)))
        (tabled t fs (table_of (table_cells t fs)))))
    by-cells fs true q x = no_cells x (ltb-true c (length (table_cells t fs)) q)
    by-cells fs false q x = by_names fs (ltb n (length (name_list t fs))) refl x (ltb-false c (length (table_cells t fs)) q)

    by-text : (o : Read (List Fact)) → Taken t o → Loads t c n (and_then o (roomed t c n))
    by-text (refuse f) x = not_taken x
    by-text (read fs) x = by-cells fs (ltb c (length (table_cells t fs))) refl x
