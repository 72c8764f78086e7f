-- What is said of one entry and of one cell.
use Prim.Native.Nat.{ℕ, ◌/◌, ◌%◌}
use mathlib.Core.Path.{◌≡◌, refl}
use mathlib.Core.Bool.{Bool, true, false}
use mathlib.Core.List.{List}
use native.Mathlib.Omega.{arith}
use lib.Dec.{ltb}
use borrow.Author.Tests.{ltb-true, ltb-false}
use Rattle.cell.specs.Cell.{kind_of, number_of}
use Rattle.lex.specs.Names.{NameSaid}
use Rattle.naming.specs.Says.{Says}
use Rattle.naming.specs.code.Names.{Entry, Known}

pub entry-said : (t : List ℕ) (name : ℕ) (b : Bool) → NameSaid t (name % 65536) (name / 65536) b → Says (Entry t name) b
entry-said t name true s = s
entry-said t name false s = λ e. s e.0 e.1

pub known-said : (c count : ℕ) → kind_of c ≡ 1 → (n : ℕ) → n ≡ number_of c → Says (Known count c) (ltb n count)
known-said c count k n e = go (ltb n count) refl
  where
    go : (b : Bool) → ltb n count ≡ b → Says (Known count c) b
    go true q = λ z. (let l = ltb-true n count q in omega arith)
    go false q = λ z. (let l = ltb-false n count q in let m = z k in omega arith)
