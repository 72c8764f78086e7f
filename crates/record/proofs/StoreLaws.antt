-- What is stored into a record, part by part.
use mathlib.Core.Path.{◌≡◌, refl, sym, ap, ◌∙◌}
use mathlib.Core.List.{List, [], ◌∷◌, ◌++◌, append_assoc, append-nil}
use Prim.Native.Nat.{ℕ, ◌+◌, ◌-◌, ◌≤◌}
use native.Mathlib.Omega.{arith}
use lib.ListN.{length, get_or, take, drop, replicate, length-append, length-drop, length-replicate}
use lib.ListN.{replicate-append-replicate, drop_of_length-le}
use lib.Seq.{sets, sets-eq, drop-cons, take_at, drop_at, take_all, drop-append-add}
use Rattle.record.specs.code.Rows.{in_room}
use Rattle.limits.specs.Limits.{kept_cells, most_table_cells, record_cells}

-- a part in the middle is exchanged for one of the same length
sets-middle : (xs ys zs new : List ℕ) → length new ≡ length ys → sets (xs ++ (ys ++ zs)) (length xs) new ≡ xs ++ (new ++ zs)
sets-middle xs ys zs new l =
    sets-eq new (xs ++ (ys ++ zs)) (length xs) (omega (arith, length-append xs (ys ++ zs), length-append ys zs))
    ∙ rw (take_at xs (ys ++ zs) (length xs) refl, drop-append-add xs (ys ++ zs) (length new), drop_at ys zs (length new) (sym l))
    (append_assoc xs new zs)

-- what is lent of a record from its 2,052th number on is what is kept
pub lent-all : (rec : List ℕ) → take (length rec - 2052) (drop 2052 rec) ≡ drop 2052 rec
lent-all rec = take_all (length rec - 2052) (drop 2052 rec) (omega (arith, length-drop 2052 rec))

pub lent-long : (rec : List ℕ) → length rec ≡ record_cells → length (take (length rec - 2052) (drop 2052 rec)) ≡ kept_cells
lent-long rec l = ap length (lent-all rec) ∙ length-drop 2052 rec ∙ omega arith

-- the numbers of a record, part after part: the end of it is lent and put back
module _ (n figure : ℕ) (room kept : List ℕ) (long : length room ≡ most_table_cells) where
  abbrev whole : List ℕ
  whole = n ∷ figure ∷ (room ++ kept)

  kept-part : drop 2052 whole ≡ kept
  kept-part = drop_at room kept most_table_cells long

  pub kept-lent : take (length whole - 2052) (drop 2052 whole) ≡ kept
  kept-lent = lent-all whole ∙ kept-part

  pub kept_put : (new : List ℕ) → take 2052 whole ++ (new ++ drop (length whole - 2052) (drop 2052 whole)) ≡ n ∷ figure ∷ (room ++ new)
  kept_put new =
      let none : drop (length whole - 2052) (drop 2052 whole) ≡ [] =
      drop_of_length-le (drop 2052 whole) {i = length whole - 2052} (omega (arith, length-drop 2052 whole)) in
      rw (none, append-nil new) (ap (λ (r : List ℕ). n ∷ figure ∷ (r ++ new)) (take_at room kept most_table_cells long))

  -- the room of the table's cells is exchanged
  pub room-put : (new : List ℕ) → length new ≡ most_table_cells → sets whole 2 new ≡ n ∷ figure ∷ (new ++ kept)
  room-put new l = sets-middle (n ∷ figure ∷ []) room kept new (l ∙ sym long)

-- cells at the end of a table become 0
cells-exchanged : (n figure : ℕ) (front back behind kept new : List ℕ) → length new ≡ length back
    → sets (n ∷ figure ∷ ((front ++ back) ++ behind) ++ kept) (2 + length front) new ≡ n ∷ figure ∷ (front ++ (new ++ behind)) ++ kept
cells-exchanged n figure front back behind kept new l =
    let e : n ∷ figure ∷ ((front ++ back) ++ behind) ++ kept ≡ (n ∷ figure ∷ front) ++ (back ++ (behind ++ kept)) = simp append_assoc in
    let f : n ∷ figure ∷ (front ++ (new ++ behind)) ++ kept ≡ (n ∷ figure ∷ front) ++ (new ++ (behind ++ kept)) = simp append_assoc in
    let i : 2 + length front ≡ length (n ∷ figure ∷ front) = omega arith in
    rw (e, f, i) (sets-middle (n ∷ figure ∷ front) back (behind ++ kept) new l)

pub back-cleared : (n figure : ℕ) (front back kept : List ℕ) → length front + length back ≤ most_table_cells
    → sets (n ∷ figure ∷ in_room (front ++ back) ++ kept) (2 + length front) (replicate (length back) 0) ≡ n ∷ figure ∷ in_room front ++ kept
back-cleared n figure front back kept h =
    let k : length back + (most_table_cells - length (front ++ back)) ≡ most_table_cells - length front = omega (arith, length-append front back) in
    cells-exchanged n figure front back (replicate (most_table_cells - length (front ++ back)) 0) kept (replicate (length back) 0)
    (length-replicate {A = ℕ} (length back) 0)
    ∙ ap (λ (zeros : List ℕ). n ∷ figure ∷ (front ++ zeros) ++ kept)
    (replicate-append-replicate {A = ℕ} (length back) (most_table_cells - length (front ++ back)) 0 ∙ ap (λ (k : ℕ). replicate k 0) k)

-- a table's cells where everything was cleared
cleared-all : (a b : ℕ) (rest zeros : List ℕ) → length zeros ≡ length rest → sets (a ∷ b ∷ rest) 2 zeros ≡ a ∷ b ∷ zeros
cleared-all a b rest zeros l = rw (append-nil rest, append-nil zeros) at (sets-middle (a ∷ b ∷ []) rest [] zeros l)

zeros-split : (n k z : ℕ) (cells : List ℕ) → z ≡ n + k → length cells ≤ n
    → replicate {A = ℕ} z 0 ≡ replicate (length cells) 0 ++ (replicate (n - length cells) 0 ++ replicate k 0)
zeros-split n k z cells e h =
    let m : z ≡ length cells + (n - length cells + k) = omega arith in
    rw (m, replicate-append-replicate {A = ℕ} (n - length cells) k 0)
    (sym (replicate-append-replicate {A = ℕ} (length cells) (n - length cells + k) 0))

cells-anew-at : (a b n k z : ℕ) (rest cells : List ℕ) → length rest ≡ z → z ≡ n + k → length cells ≤ n
    → sets (sets (a ∷ b ∷ rest) 2 (replicate z 0)) 2 cells ≡ a ∷ b ∷ ((cells ++ replicate (n - length cells) 0) ++ replicate k 0)
cells-anew-at a b n k z rest cells l e h =
    let behind : List ℕ = replicate (n - length cells) 0 ++ replicate k 0 in
    rw (
      cleared-all a b rest (replicate z 0) (length-replicate {A = ℕ} z 0 ∙ sym l),
      zeros-split n k z cells e h,
      append_assoc cells (replicate (n - length cells) 0) (replicate k 0),
    )
    (sets-middle (a ∷ b ∷ []) (replicate (length cells) 0) behind cells (sym (length-replicate {A = ℕ} (length cells) 0)))

pub cells-anew : (rec cells : List ℕ) → length rec ≡ record_cells → length cells ≤ most_table_cells
    → sets (sets rec 2 (replicate (record_cells - 2) 0)) 2 cells ≡ get_or rec 0 0 ∷ get_or rec 1 0 ∷ (in_room cells ++ replicate kept_cells 0)
cells-anew rec cells l h =
    let two : rec ≡ get_or rec 0 0 ∷ get_or rec 1 0 ∷ drop 2 rec =
    drop-cons rec 0 0 (omega arith) ∙ ap (λ (r : List ℕ). get_or rec 0 0 ∷ r) (drop-cons rec 1 0 (omega arith)) in
    ap (λ (r : List ℕ). sets (sets r 2 (replicate (record_cells - 2) 0)) 2 cells) two
    ∙ cells-anew-at (get_or rec 0 0) (get_or rec 1 0) most_table_cells kept_cells (record_cells - 2) (drop 2 rec) cells (length-drop 2 rec ∙ omega arith)
    (omega arith) h
