-- What is coded is read back by the header's masks and shifts; so two answers with one code are equal.
use mathlib.Core.Path.{◌≡◌, sym, ◌∙◌, ap}
use mathlib.Core.Bool.{false}
use Prim.Native.Nat.{ℕ, ◌+◌, ◌*◌, ◌/◌, ◌<◌, ◌^◌}
use native.Mathlib.Omega.{arith}
use lib.Dec.{eqb}
use borrow.Author.Tests.{ne_eqb}
use Rattle.refusal.specs.declared.Reason.{Reason}
use Rattle.refusal.specs.declared.Input.{Input}
use Rattle.refusal.specs.Refusal.{Answer, answered, turned, refused}
use Rattle.refusal.specs.Coded.{coded, Small, number_in, input_in, place_in, first_in, second_in, decoded}
use Rattle.refusal.proofs.RefusalLaws.{number_small, input-small}

pub decoded-coded : (a : Answer) → Small a → decoded (coded a) ≡ a
decoded-coded (answered first second) s =
    let n = coded (answered first second) in
    let none : number_in n ≡ 0 = omega arith in
    let one : first_in n ≡ first = omega arith in
    let two : second_in n ≡ second = omega arith in
    rw (none, one, two)
decoded-coded (turned f) s =
    let n = coded (turned f) in
    let number : number_in n ≡ f.number = omega arith in
    let rest : n / 2 ^ 8 ≡ f.input + 2 ^ 8 * f.place = omega arith in
    let input : input_in n ≡ f.input = rw rest (omega arith) in
    let place : place_in n ≡ f.place = omega arith in
    let some : eqb f.number 0 ≡ false = ne_eqb f.number 0 (λ e. omega arith) in
    rw (number, some, input, place)

pub coded-one : {a b : Answer} → Small a → Small b → coded a ≡ coded b → a ≡ b
coded-one {a} {b} s t e = sym (decoded-coded a s) ∙ ap decoded e ∙ decoded-coded b t

pub read_back : {a : Answer} {n : ℕ} → Small a → n ≡ coded a → decoded n ≡ a
read_back {a} s e = ap decoded e ∙ decoded-coded a s

-- a refusal by its reason and input is small where its place is
pub refused-small : (r : Reason) (i : Input) (p : ℕ) → p < 2 ^ 48 → Small (turned (refused r i p))
refused-small r i p l = ((number_small r).0, (number_small r).1, input-small i, l)

-- an answer that is equal to a small one
pub small_by : {a b : Answer} → a ≡ b → Small b → Small a
small_by e s = rw e s
