-- What is made of a hit, and what a pass has found, by the case of what the function answers.
use Rattle.std.specs.Prelude.{Option, Some, None}
use Prim.Native.Nat.{ℕ, ◌+◌, ◌-◌, ◌≤◌, ◌<◌}
use mathlib.Core.Path.{◌≡◌, refl, sym, ◌∙◌, ap, subst}
use mathlib.Core.List.{List, ◌++◌, flatten, append-nil, append_assoc}
use native.Mathlib.Omega.{arith}
use lib.ListN.{length, get_or, take, drop, length-take, length-append, length-drop, drop_of_length-le}
use lib.Seq.{sets, sets-eq, take_all, drop-drop}
use Rattle.octets.specs.Octets.{Put, fitting}
use Rattle.octets.proofs.PutLaws.{put-put, put-found}
use Rattle.table.specs.declared.Part.{Part}
use Rattle.table.specs.Table.{table_of, row_in, RowPlace}
use Rattle.table.proofs.Accepted.{all-at}
use Rattle.table.proofs.AllLaws.{all_drop}
use Rattle.table.proofs.PartLaws.{place-cells}
use Rattle.instance.specs.Reply.{Large}
use Rattle.instance.specs.code.Meet.{Hit, InstanceMet, Over}
use Rattle.instance.specs.code.Passes.{Held, Pass, Passed}
use Rattle.instance.proofs.PassLaws.{pass-hit, pass-end}
use Rattle.instance.proofs.RepliesLaws.{not-large}
use Rattle.meeting.specs.Ended.{Lent, Ended, ended, ended-over}
use Rattle.replies.specs.declared.pass.Done.{Done}
use Rattle.replies.specs.code.Sums.{Passing, Upto, Stops, PassedAt, passed, passed_over}

-- what a row and a goal have in common
pub within_by : {row goal cells other cells' : List ℕ} {r : Option ℕ} {n : ℕ} → r ≡ Some n → Ended row goal cells other cells' r
    → n ≤ length cells'
within_by {row} {goal} {cells} {other} {cells'} {n = n} e x = go (subst (Ended row goal cells other cells') e x)
  where
    go : Ended row goal cells other cells' (Some n) → n ≤ length cells'
    go (ended l m) = l

-- for a row by another name
module _ {here row goal cells other cells' : List ℕ} {r : Option ℕ} where
  met_by : {n : ℕ} → here ≡ row → r ≡ Some n → Ended here goal cells other cells' r → Hit row goal → InstanceMet row goal cells' n
  met_by {n} p e x = go (subst (Ended row goal cells other cells') e (subst (λ (l : List ℕ). Ended l goal cells other cells' r) p x))
    where
      go : Ended row goal cells other cells' (Some n) → Hit row goal → InstanceMet row goal cells' n
      go (ended l m) = m

  over_by : here ≡ row → r ≡ None → Ended here goal cells other cells' r → Hit row goal → Lent cells other → Over row goal
  over_by p e x = go (subst (Ended row goal cells other cells') e (subst (λ (l : List ℕ). Ended l goal cells other cells' r) p x))
    where
      go : Ended row goal cells other cells' None → Hit row goal → Lent cells other → Over row goal
      go (ended-over o) = o

-- a pass
module _ {room room' : List ℕ} {all : List (List ℕ)} where
  pub passed-by : {r : Option ℕ} {n : ℕ} → r ≡ Some n → PassedAt room room' all r → Passed room room' all n
  passed-by {n = n} e x = go (subst (PassedAt room room' all) e x)
    where
      go : PassedAt room room' all (Some n) → Passed room room' all n
      go (passed p) = p

  pub large-by : {r : Option ℕ} → r ≡ None → PassedAt room room' all r → Large all
  large-by e x = go (subst (PassedAt room room' all) e x)
    where
      go : PassedAt room room' all None → Large all
      go (passed_over l) = l

  -- the second finds what the first did
  pub passed-again : {list list' : List ℕ} {n : ℕ} {r : Option ℕ} → Passed list list' all n → PassedAt room room' all r → Passed room room' all n
  passed-again x (passed y) = record { cells = x.cells; wrote = y.wrote; short = x.short }
  passed-again x (passed_over l) = absurd (not-large x.short l)

  -- where the first has put them all, they are copied
  pub passed-copied : {list list' : List ℕ} {n m : ℕ} → Passed list list' all n → n ≤ length list → Put room room' 0 (take n list') m
      → Passed room room' all n
  passed-copied {list} {list'} {n} x h p =
      let w : Put list list' 0 (flatten all) (0 + length (fitting list 0 (flatten all))) = record { wrote = x.wrote; after = refl } in
      let f = put-found w (omega (arith, x.cells, h)) in
      let e : take n list' ≡ flatten all = ap (λ (k : ℕ). take k list') (x.cells ∙ sym f.0) ∙ f.1 in
      record { cells = x.cells; wrote = p.wrote ∙ ap (λ (t : List ℕ). sets room 0 (fitting room 0 t)) e; short = x.short }

-- a hit of a pass, by the place of its row
module _ {table starts : List ℕ} {rows : ℕ} {goal hits : List ℕ} {all : List (List ℕ)} {i : ℕ} {room₀ room : List ℕ} {on sum : ℕ}
    (a : Passing table starts rows goal hits all) (w : Pass table goal hits i all room₀ room on sum) (l : i < length hits)
    {here cells other cells' : List ℕ} {p : Part} {r : Option ℕ}
    (q : Held table starts rows → get_or hits i 0 < rows → RowPlace (table_of table) (get_or hits i 0) p)
    (h : here ≡ take (p.end - p.start) (drop p.start table)) (x : Ended here goal cells other cells' r) where
  row_is : here ≡ row_in (table_of table) (get_or hits i 0)
  row_is = h ∙ place-cells table (get_or hits i 0) (q a.held (all-at (λ (n : ℕ). n < rows) hits i 0 a.below l))

  pub hit-met : {n : ℕ} → r ≡ Some n → InstanceMet (row_in (table_of table) (get_or hits i 0)) goal cells' n
  hit-met e = met_by row_is e x (pass-hit w l)

  pub hit-over : r ≡ None → Lent cells other → Over (row_in (table_of table) (get_or hits i 0)) goal
  hit-over e = over_by row_is e x (pass-hit w l)

-- what is put into the part of a room from a place on is put into the room
put-behind : (room : List ℕ) (on : ℕ) {part text : List ℕ} {r : ℕ} → on ≤ length room → Put (drop on room) part 0 text r
    → Put room (take on room ++ part) on text (on + r)
put-behind room on {part} {text} h p =
    let xs = fitting room on text in
    let n : length (drop on room) - 0 ≡ length room - on = omega (arith, length-drop on room) in
    let f : fitting (drop on room) 0 text ≡ xs = ap (λ (k : ℕ). take k text) n in
    let l : on + length xs ≤ length room = omega (arith, h, length-take (length room - on) text) in
    let z : 0 + length xs ≡ length xs = omega arith in
    let a : sets (drop on room) 0 xs ≡ xs ++ drop (0 + length xs) (drop on room) = sets-eq xs (drop on room) 0 (omega (arith, l, n)) in
    let d : drop (0 + length xs) (drop on room) ≡ drop (on + length xs) room =
    ap (λ (k : ℕ). drop k (drop on room)) z ∙ drop-drop (length xs) on room in
    let b : take on room ++ (xs ++ drop (on + length xs) room) ≡ sets room on xs =
    sym (append_assoc (take on room) xs (drop (on + length xs) room)) ∙ sym (sets-eq xs room on l) in
    record {
      wrote = ap (λ (t : List ℕ). take on room ++ t) (p.wrote ∙ ap (sets (drop on room) 0) f ∙ a ∙ ap (λ (t : List ℕ). xs ++ t) d) ∙ b;
      after = omega (arith, p.after, ap length f);
    }

-- THE HITS THAT ARE LEFT
module _ {table starts : List ℕ} {rows : ℕ} {goal hits : List ℕ} {all : List (List ℕ)} {i : ℕ} {room₀ room : List ℕ} {on sum : ℕ}
    (a : Passing table starts rows goal hits all) (p : Pass table goal hits i all room₀ room on sum) where
  rest-is : take (length hits - i) (drop i hits) ≡ drop i hits
  rest-is = take_all (length hits - i) (drop i hits) (omega (arith, length-drop i hits))

  -- they are hits of the table
  passing-rest : Passing table starts rows goal (take (length hits - i) (drop i hits)) p.left
  passing-rest = rw rest-is (record {
    held = a.held;
    below = all_drop (λ (r : ℕ). r < rows) i hits a.below;
    few = omega (arith, a.few, length-drop i hits);
    at = p.at;
  })

  -- one of them is too long
  pub rest-large : (r : Done) → Stops table starts rows goal (take (length hits - i) (drop i hits)) r → r.hits < length hits - i → Large all
  rest-large r s l = p.large (s p.left passing-rest (omega (arith, l, ap length rest-is, length-drop i hits)))

  -- or all are put behind those before
  pub rest-passed : {part : List ℕ} {r : Done} → on ≤ length room
      → Upto table starts rows goal (take (length hits - i) (drop i hits)) (take (length room - on) (drop on room)) part r → length hits - i ≤ r.hits
      → Passed room₀ (take on room ++ (part ++ drop (length room - on) (drop on room))) all (sum + r.cells)
  rest-passed {part} {r} h u l =
      let e = take_all (length room - on) (drop on room) (omega (arith, length-drop on room)) in
      let b = drop_of_length-le (drop on room) {i = length room - on} (omega (arith, length-drop on room)) in
      let x = pass-end (u.pass p.left passing-rest) (omega (arith, l, ap length rest-is, length-drop i hits)) in
      let q : Passed (drop on room) part p.left r.cells = subst (λ (t : List ℕ). Passed t part p.left r.cells) e x in
      let w : Put (drop on room) part 0 (flatten p.left) (0 + length (fitting (drop on room) 0 (flatten p.left))) =
      record { wrote = q.wrote; after = refl } in
      let y = put-put p.put (put-behind room on h w) in
      let k : take on room ++ (part ++ drop (length room - on) (drop on room)) ≡ take on room ++ part =
      ap (λ (t : List ℕ). take on room ++ t) (ap (λ (t : List ℕ). part ++ t) b ∙ append-nil part) in
      record {
        cells = omega (arith, p.cells, q.cells, ap length p.split, length-append p.front (flatten p.left));
        wrote = k ∙ y.wrote ∙ ap (λ (t : List ℕ). sets room₀ 0 (fitting room₀ 0 t)) p.split;
        short = p.short q.short;
      }
