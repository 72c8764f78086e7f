-- The notes as they are kept: what is put for a cell is there, and nothing is changed for a cell less than 64 places away.
use mathlib.Core.Path.{◌≡◌, ◌∙◌}
use mathlib.Core.Logic.{◌≢◌}
use mathlib.Core.List.{List}
use Prim.Native.Nat.{ℕ, ◌+◌, ◌%◌, ◌<◌}
use native.Mathlib.Omega.{arith}
use lib.ListN.{length, get_or, set, length-set}
use lib.Seq.{get_or-set_same, get_or-set_other}
use Rattle.paircosts.specs.declared.arrays.Note.{Note}
use Rattle.paircosts.specs.code.Notes.{note, note_in, put_note}

module _ (notes : List Note) (q : ℕ) (s : Note) where
  pub put_same : length notes ≡ 64 → note_in (put_note notes q s) q ≡ s
  put_same l = get_or-set_same notes (q % 64) s (note 0 0 0) (omega arith)

  pub put_other : (j : ℕ) → j % 64 ≢ q % 64 → note_in (put_note notes q s) j ≡ note_in notes j
  put_other j h = get_or-set_other notes (q % 64) (j % 64) s (note 0 0 0) h

  -- what is put for a cell is there for each that has the same place
  pub put-alike : (j : ℕ) → length notes ≡ 64 → j % 64 ≡ q % 64 → note_in (put_note notes q s) j ≡ s
  put-alike j l e = rw e (put_same l)

pub put-room : (notes : List Note) (q : ℕ) (s : Note) → length (put_note notes q s) ≡ length notes
put-room notes q s = simp length-set

pub put-later : (notes : List Note) (q : ℕ) (s : Note) (j : ℕ) → j < q → q < j + 64 → note_in (put_note notes q s) j ≡ note_in notes j
put-later notes q s j h l = put_other notes q s j (λ e. omega arith)

pub put-earlier : (notes : List Note) (q : ℕ) (s : Note) (j : ℕ) → q < j → j < q + 64 → note_in (put_note notes q s) j ≡ note_in notes j
put-earlier notes q s j h l = put_other notes q s j (λ e. omega arith)
