-- A table, a goal and a row by itself, by the first test that fails.
use mathlib.Core.Path.{◌≡◌}
use mathlib.Core.Bool.{true, false, ◌||◌}
use mathlib.Core.List.{List, []}
use Prim.Native.Nat.{ℕ, ◌≤◌, ◌<◌}
use lib.Dec.{ltb}
use lib.ListN.{length, get_or, take, drop}
use borrow.Author.Tests.{lt-ltb, le-ltb}
use Rattle.refusal.specs.Refusal.{Refused, refused}
use Rattle.refusal.specs.declared.Reason.TheVariants as reason
use Rattle.refusal.specs.declared.Input.TheVariants as input
use Rattle.refusal.specs.Read.{read, refuse, and_then}
use Rattle.table.specs.Table.{met, table, doubled, terms_from, rows_from, table_of, goal_of, row_of}
use Rattle.limits.specs.Limits.{most_table_cells}

module _ (t : List ℕ) where
  pub table-length : (ltb (length t) 2 || ltb most_table_cells (length t)) ≡ true → table_of t ≡ refuse (refused reason.Length input.Table 0)
  unfolding table_of
  table-length a = rw a

  module _ (a : (ltb (length t) 2 || ltb most_table_cells (length t)) ≡ false) where
    pub table-width : (ltb (get_or t 0 0) 1 || ltb 8 (get_or t 0 0)) ≡ true → table_of t ≡ refuse (refused reason.Width input.Table 0)
    unfolding table_of
    table-width b = rw (a, b)

    module _ (b : (ltb (get_or t 0 0) 1 || ltb 8 (get_or t 0 0)) ≡ false) where
      pub table-count : (ltb (get_or t 1 0) 1 || ltb 64 (get_or t 1 0)) ≡ true → table_of t ≡ refuse (refused reason.Count input.Table 1)
      unfolding table_of
      table-count c = rw (a, b, c)

      pub table-rows : (ltb (get_or t 1 0) 1 || ltb 64 (get_or t 1 0)) ≡ false
          → table_of t
          ≡ and_then (rows_from (get_or t 0 0) (get_or t 1 0) [] (drop 2 t) 2) (λ (rows : List (List ℕ)). read (table (get_or t 0 0) rows))
      unfolding table_of
      table-rows c = rw (a, b, c)

module _ (w : ℕ) (g : List ℕ) where
  pub goal-length : (ltb (length g) 1 || ltb 32 (length g)) ≡ true → goal_of w g ≡ refuse (refused reason.Length input.Goal 0)
  unfolding goal_of
  goal-length a = rw a

  module _ (a : (ltb (length g) 1 || ltb 32 (length g)) ≡ false) where
    pub goal-turned : {f : Refused} → terms_from false g w 0 0 0 ≡ refuse f → goal_of w g ≡ refuse f
    unfolding goal_of
    goal-turned e = rw (a, e)

    pub goal-extra : {e v : ℕ} → terms_from false g w 0 0 0 ≡ read (met e v) → e < length g → goal_of w g ≡ refuse (refused reason.Extra input.Goal e)
    unfolding goal_of
    goal-extra e h = rw (a, e, lt-ltb _ (length g) h)

    pub goal-whole : {e v : ℕ} → terms_from false g w 0 0 0 ≡ read (met e v) → length g ≤ e → goal_of w g ≡ read v
    unfolding goal_of
    goal-whole e h = rw (a, e, le-ltb _ (length g) h)

module _ (w : ℕ) (rows : List (List ℕ)) (r : List ℕ) where
  pub row-turned : {f : Refused} → terms_from true r w 0 0 0 ≡ refuse f → row_of w rows r ≡ refuse f
  unfolding row_of
  row-turned e = rw e

  module _ {e v : ℕ} (t : terms_from true r w 0 0 0 ≡ read (met e v)) where
    pub row_same : doubled (met e v) (take e r) rows ≡ true → row_of w rows r ≡ refuse (refused reason.Same input.Table 0)
    unfolding row_of
    row_same d = rw (t, d)

    pub row-extra : doubled (met e v) (take e r) rows ≡ false → e < length r → row_of w rows r ≡ refuse (refused reason.Extra input.Table e)
    unfolding row_of
    row-extra d h = rw (t, d, lt-ltb _ (length r) h)

    pub row-whole : doubled (met e v) (take e r) rows ≡ false → length r ≤ e → row_of w rows r ≡ read v
    unfolding row_of
    row-whole d h = rw (t, d, le-ltb _ (length r) h)
