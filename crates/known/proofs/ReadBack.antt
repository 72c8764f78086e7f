-- `ask --known` takes what `put_list` puts: `read_list` reads it as the same columns.
use mathlib.Core.Path.{◌≡◌, ap}
use mathlib.Core.Bool.{true, false}
use mathlib.Core.Logic.{⊎_elim}
use mathlib.Core.List.{List, [], ◌∷◌, ◌++◌, append_assoc}
use Prim.Native.Nat.{ℕ, zero, suc, ◌+◌, ◌-◌, ◌*◌, ◌/◌, ◌%◌, ◌≤◌, ◌<◌}
use native.Mathlib.Nat.{mod-lt, div-lt_self}
use native.Mathlib.Omega.{arith}
use lib.Dec.{ltb}
use lib.ListN.{length, take}
use borrow.Author.Tests.{ne_eqb, le-ltb, lt-leb, ltb-true, ltb-false}
use Rattle.term.proofs.Tests.{bool_cases}
use Rattle.octets.specs.Octets.{decimal, Put}
use Rattle.octets.proofs.DecimalLaws.{decimal-small, decimal-more}
use Rattle.octets.proofs.PutLaws.{put-found}
use Rattle.known.specs.Known.{step_of, columns_typed, list_from, Listing, next_text, list_text}
use Rattle.std.specs.Prelude.{Option, Some}
use Rattle.known.specs.declared.Step.TheVariants as step

step-digit : (number d : ℕ) → number < 100000000 → d < 10 → step_of number (48 + d) ≡ step.Number (10 * number + d)
unfolding step_of
step-digit number d h g =
    let e : 48 + d - 48 ≡ d = omega arith in
    simp (ne_eqb (48 + d) 44 (λ i. absurd (omega arith)), le-ltb (48 + d) 48 (omega arith), le-ltb 57 (48 + d) (omega arith), lt-leb 100000000 number h, e)

step-comma : (number : ℕ) → 0 < number → step_of number 44 ≡ step.Column (number - 1)
unfolding step_of
step-comma number h = simp (ne_eqb number 0 (λ i. absurd (omega arith)))

-- what is read of some bytes: these columns, and no fault
pub record Reads (number : ℕ) (bytes columns : List ℕ) : Type 0 where
  pub those : columns_typed number bytes ≡ columns
  pub whole : list_from number bytes ≡ true

reads-digit : {number d : ℕ} {bytes columns : List ℕ} → number < 100000000 → d < 10 → Reads (10 * number + d) bytes columns
    → Reads number ((48 + d) ∷ bytes) columns
unfolding columns_typed list_from
reads-digit {number} {d} h g r = let e = step-digit number d h g in record { those = rw e r.those; whole = rw e r.whole }

reads-comma : {number : ℕ} {bytes columns : List ℕ} → 0 < number → Reads 0 bytes columns → Reads number (44 ∷ bytes) ((number - 1) ∷ columns)
unfolding columns_typed list_from
reads-comma {number} h r =
    let e = step-comma number h in
    record { those = rw e (ap (λ (l : List ℕ). (number - 1) ∷ l) r.those); whole = rw e r.whole }

reads_end : {number : ℕ} → 0 < number → Reads number [] ((number - 1) ∷ [])
unfolding columns_typed list_from
reads_end {number} h = let e = ne_eqb number 0 (λ i. absurd (omega arith)) in record { those = rw e; whole = rw e }

-- the digits of a number make it; the first number bounds it
reads-decimal : (k n : ℕ) {bytes columns : List ℕ} → n < k → n < 1000000000 → Reads n bytes columns → Reads 0 (decimal n ++ bytes) columns
reads-decimal zero n h g r = absurd (omega arith)
reads-decimal (suc k) n {bytes} {columns} h g r = ⊎_elim
    (λ (t : ltb n 10 ≡ true).
    let l = ltb-true n 10 t in
    let all : 10 * 0 + n ≡ n = omega arith in
    rw (decimal-small n l) (reads-digit {number = 0} (omega arith) l (rw all r)))
    (λ (f : ltb n 10 ≡ false).
    let l = ltb-false n 10 f in
    let less : n / 10 < n = div-lt_self (omega arith) (omega arith) in
    let last : n % 10 < 10 = mod-lt n (omega arith) in
    let all : 10 * (n / 10) + n % 10 ≡ n = omega arith in
    let on : Reads (n / 10) ((48 + n % 10) ∷ bytes) columns = reads-digit (omega arith) last (rw all r) in
    rw (decimal-more n l, append_assoc) (reads-decimal k (n / 10) (omega arith) (omega arith) on))
    (bool_cases (ltb n 10))

-- columns whose numbers a list may have
abbrev pub Small : List ℕ → Type 0
Small [] = Unit {0}
Small (c ∷ columns) = (c < 999999999) × Small columns

reads-number : (c : ℕ) {bytes columns : List ℕ} → c < 999999999 → Reads (c + 1) bytes columns → Reads 0 (decimal (c + 1) ++ bytes) columns
reads-number c h r = reads-decimal (suc (c + 1)) (c + 1) (omega arith) (omega arith) r

-- after a column the others, each with a comma before it
reads_more : (before c : ℕ) (columns : List ℕ) → Small columns → Reads (c + 1) (list_text (before + 1) columns) (c ∷ columns)
unfolding next_text list_text
reads_more before c [] s = let e : c + 1 - 1 ≡ c = omega arith in rw e at (reads_end {number = c + 1} (omega arith))
reads_more before c (d ∷ columns) s =
    let e : c + 1 - 1 ≡ c = omega arith in
    let more = reads-number d s.0 (reads_more (before + 1) d columns s.1) in
    rw (ne_eqb (before + 1) 0 (λ i. absurd (omega arith))) (rw e at (reads-comma {number = c + 1} (omega arith) more))

pub reads-list : (columns : List ℕ) → 0 < length columns → Small columns → Reads 0 (list_text 0 columns) columns
unfolding next_text list_text
reads-list [] h s = absurd (omega arith)
reads-list (c ∷ columns) h s = reads-number c s.0 (reads_more 0 c columns s.1)

-- what is put for columns, read in a room that is enough: they, and how many they are
pub read_back : (columns : List ℕ) {room room' : List ℕ} {r : Option ℕ} → 0 < length columns → Small columns → length columns ≤ length room
    → Listing (list_text 0 columns) room room' r → (r ≡ Some (length columns)) × (take (length columns) room' ≡ columns)
read_back columns {room} {room'} h s l p =
    let reads = reads-list columns h s in
    let put : Put room room' 0 columns p.count = rw reads.those at p.puts in
    let found = put-found put l in
    (rw (p.told, reads.whole, found.0), rw found.0 at found.1)
