-- The bytes of a list, one after another.
use mathlib.Core.Path.{◌≡◌, refl}
use mathlib.Core.Bool.{true, false}
use mathlib.Core.List.{List, [], ◌∷◌, ◌++◌}
use Prim.Native.Nat.{ℕ, ◌+◌, ◌-◌, ◌≤◌, ◌<◌}
use native.Mathlib.Numerals.{add-one}
use lib.ListN.{length, get_or, drop, drop_of_length-le}
use lib.Seq.{drop-cons}
use borrow.Author.Tests.{eq-eqb, ne_eqb}
use Rattle.octets.proofs.PutLaws.{Putting, put-ends}
use Rattle.known.specs.Known.{step_of, columns_typed, list_from, Listing, next_text, list_text}
use Rattle.std.specs.Prelude.{Some, None}
use Rattle.known.specs.declared.Step.TheVariants as step

module _ (word : List ℕ) (i number : ℕ) where
  -- by what the next byte makes of the number
  pub columns-number : (n : ℕ) → i < length word → step_of number (get_or word i 0) ≡ step.Number n
      → columns_typed number (drop i word) ≡ columns_typed n (drop (i + 1) word)
  unfolding columns_typed
  columns-number n h e = rw (drop-cons word i 0 h, add-one i, e)

  pub columns-column : (c : ℕ) → i < length word → step_of number (get_or word i 0) ≡ step.Column c
      → columns_typed number (drop i word) ≡ (c ∷ []) ++ columns_typed 0 (drop (i + 1) word)
  unfolding columns_typed
  columns-column c h e = rw (drop-cons word i 0 h, add-one i, e)

  pub columns-wrong : i < length word → step_of number (get_or word i 0) ≡ step.Wrong → columns_typed number (drop i word) ≡ []
  unfolding columns_typed
  columns-wrong h e = rw (drop-cons word i 0 h, e)

  pub list-number : (n : ℕ) → i < length word → step_of number (get_or word i 0) ≡ step.Number n
      → list_from number (drop i word) ≡ list_from n (drop (i + 1) word)
  unfolding list_from
  list-number n h e = rw (drop-cons word i 0 h, add-one i, e)

  pub list-column : (c : ℕ) → i < length word → step_of number (get_or word i 0) ≡ step.Column c
      → list_from number (drop i word) ≡ list_from 0 (drop (i + 1) word)
  unfolding list_from
  list-column c h e = rw (drop-cons word i 0 h, add-one i, e)

  pub list-wrong : i < length word → step_of number (get_or word i 0) ≡ step.Wrong → list_from number (drop i word) ≡ false
  unfolding list_from
  list-wrong h e = rw (drop-cons word i 0 h, e)

  -- and at the end
  pub columns-none : length word ≤ i → number ≡ 0 → columns_typed number (drop i word) ≡ []
  unfolding columns_typed
  columns-none h e = rw (drop_of_length-le word h, eq-eqb number 0 e)

  pub columns-last : length word ≤ i → (number ≡ 0 → ⊥) → columns_typed number (drop i word) ≡ (number - 1) ∷ []
  unfolding columns_typed
  columns-last h e = rw (drop_of_length-le word h, ne_eqb number 0 e)

  pub list-none : length word ≤ i → number ≡ 0 → list_from number (drop i word) ≡ false
  unfolding list_from
  list-none h e = rw (drop_of_length-le word h, eq-eqb number 0 e)

  pub list-last : length word ≤ i → (number ≡ 0 → ⊥) → list_from number (drop i word) ≡ true
  unfolding list_from
  list-last h e = rw (drop_of_length-le word h, ne_eqb number 0 e)

-- what is answered, once all columns are put
module _ {word room room' : List ℕ} {n : ℕ} where
  pub no-list : Putting room room' 0 n [] (columns_typed 0 word) → list_from 0 word ≡ false → Listing word room room' None
  no-list p e = record { count = n; puts = put-ends p; told = rw e }

  pub is-list : Putting room room' 0 n [] (columns_typed 0 word) → list_from 0 word ≡ true → Listing word room room' (Some n)
  is-list p e = record { count = n; puts = put-ends p; told = rw e }

-- columns put as a list, the next one and the end
pub list-next : (columns : List ℕ) (i : ℕ) → i < length columns
    → list_text i (drop i columns) ≡ next_text i (get_or columns i 0 + 1) ++ list_text (i + 1) (drop (i + 1) columns)
unfolding list_text
list-next columns i h = rw (drop-cons columns i 0 h, add-one i)

pub list-end : (columns : List ℕ) (i : ℕ) → length columns ≤ i → list_text i (drop i columns) ≡ []
unfolding list_text
list-end columns i h = rw (drop_of_length-le columns h)
