-- Reading, as a value or a refusal: the form in which 01's tests are written down, one under the other, the first that holds deciding.
use Rattle.std.specs.Prelude.{Bool, cond}
use Rattle.refusal.specs.Refusal.{Refused}

pub data Read (A : Type 0) : Type 0 where
  read : A → Read A
  refuse : Refused → Read A

-- refused where the test holds, otherwise read on
abbrev pub when : {A : Type 0} → Bool → Refused → Read A → Read A
when b f r = cond b (refuse f) r

-- what is read, and then what is read with it
abbrev pub and_then : {A B : Type 0} → Read A → (A → Read B) → Read B
and_then (read x) f = f x
and_then (refuse r) f = refuse r
