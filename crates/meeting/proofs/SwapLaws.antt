-- A variable replaced by a term of one cell: the cell is put in its place, and nothing moves.
use Prim.Native.Nat.{ℕ, zero, suc, ◌+◌, ◌≤◌, ◌<◌}
use mathlib.Core.Path.{◌≡◌, refl, sym, ◌∙◌, ap, ap₂}
use mathlib.Core.Bool.{true, false}
use mathlib.Core.Logic.{⊎_elim}
use mathlib.Core.List.{List, [], ◌∷◌, ◌++◌, map, map-append, append_assoc}
use native.Mathlib.Numerals.{add-one}
use native.Mathlib.Omega.{arith}
use lib.Dec.{eqb}
use lib.ListN.{length, get_or, set, take, drop, length-map, length-append, length-drop}
use lib.Seq.{take-suc, take-take, take_at, drop-cons, set_at, get_or_at, length-take-le}
use Rattle.term.specs.Unify.{inst}
use Rattle.term.specs.Bind.{bind, id_s}
use Rattle.term.proofs.Tests.{bool_cases}
use Rattle.instance.specs.Rewrite.{put}
use Rattle.meeting.specs.declared.Stand.{Stand}
use Rattle.meeting.specs.code.Turns.{instead, Swapped, turned, MeetingAt, Sound, Turning}

put_map : (v c : ℕ) (xs : List ℕ) → put v (c ∷ []) xs ≡ map (instead v c) xs
unfolding inst bind id_s
put_map v c [] = refl
put_map v c (x ∷ xs) =
    let h = put_map v c xs in
    ⊎_elim (λ (e : eqb x v ≡ true). rw e (ap (λ (l : List ℕ). c ∷ l) h)) (λ (e : eqb x v ≡ false). rw e (ap (λ (l : List ℕ). x ∷ l) h))
    (bool_cases (eqb x v))

take-map : (f : ℕ → ℕ) (n : ℕ) (xs : List ℕ) → take n (map f xs) ≡ map f (take n xs)
take-map f zero xs = refl
take-map f (suc n) [] = refl
take-map f (suc n) (x ∷ xs) = ap (λ (l : List ℕ). f x ∷ l) (take-map f n xs)

drop-map : (f : ℕ → ℕ) (n : ℕ) (xs : List ℕ) → drop n (map f xs) ≡ map f (drop n xs)
drop-map f zero xs = refl
drop-map f (suc n) [] = refl
drop-map f (suc n) (x ∷ xs) = drop-map f n xs

-- cell by cell
module _ (cells₀ cells : List ℕ) (v c i : ℕ) (h : i < length cells₀) (w : Swapped cells₀ cells v c i) where
  abbrev f : ℕ → ℕ
  f = instead v c

  abbrev before : List ℕ
  before = map f (take i cells₀)

  abbrev after : List ℕ
  after = drop (suc i) cells₀

  before-long : length before ≡ i
  before-long = length-map (take i cells₀) f ∙ length-take-le i cells₀ (omega arith)

  split : cells ≡ before ++ (get_or cells₀ i 0 ∷ after)
  split = w ∙ ap (λ (l : List ℕ). before ++ l) (drop-cons cells₀ i 0 h)

  pub swap-next : Swapped cells₀ (set cells i (f (get_or cells i 0))) v c (i + 1)
  swap-next =
      let x = get_or cells₀ i 0 in
      let y : get_or cells i 0 ≡ x = ap (λ (l : List ℕ). get_or l i 0) split ∙ get_or_at before x after 0 i before-long in
      let z : set cells i (f x) ≡ before ++ (f x ∷ after) = ap (λ (l : List ℕ). set l i (f x)) split ∙ set_at before x after (f x) i before-long in
      let t : take (i + 1) cells₀ ≡ take i cells₀ ++ (x ∷ []) = ap (λ (n : ℕ). take n cells₀) (add-one i) ∙ take-suc cells₀ i 0 h in
      let m : map f (take (i + 1) cells₀) ≡ before ++ (f x ∷ []) = ap (map f) t ∙ map-append f (take i cells₀) (x ∷ []) in
      let d : drop (i + 1) cells₀ ≡ after = ap (λ (n : ℕ). drop n cells₀) (add-one i) in
      ap (λ (n : ℕ). set cells i (f n)) y ∙ z ∙ sym (ap₂ ◌++◌ m d ∙ append_assoc before (f x ∷ []) after)

-- what is left stays what it was
pub swapped-there : {row goal cells cells' : List ℕ} {v c : ℕ} (k : Stand) → Sound (length cells) k → Swapped cells cells' v c k.n
    → Turning row goal cells v (c ∷ []) k → MeetingAt row goal cells' (turned k)
swapped-there {cells = cells} {cells'} {v} {c} k s w t =
    let f = instead v c in
    let L = take k.n cells in
    let G = take k.len cells in
    let g : k.len ≤ k.n = omega (arith, s.apart, s.started) in
    let l : length (map f L) ≡ k.n = length-map L f ∙ length-take-le k.n cells s.held in
    let N : take k.n cells' ≡ map f L = ap (take k.n) w ∙ take_at (map f L) (drop k.n cells) k.n l in
    let M : take k.len cells' ≡ map f G =
    sym (take-take k.len k.n cells' g) ∙ ap (take k.len) N ∙ take-map f k.len L ∙ ap (map f) (take-take k.len k.n cells g) in
    let x : drop k.i (take k.n cells') ≡ put v (c ∷ []) (drop k.i L) =
    ap (drop k.i) N ∙ drop-map f k.i L ∙ sym (put_map v c (drop k.i L)) in
    let y : take k.at (take k.len cells') ≡ put v (c ∷ []) (take k.at G) =
    ap (take k.at) M ∙ take-map f k.at G ∙ sym (put_map v c (take k.at G)) in
    let z : drop k.at (take k.len cells') ≡ put v (c ∷ []) (drop k.at G) =
    ap (drop k.at) M ∙ drop-map f k.at G ∙ sym (put_map v c (drop k.at G)) in
    let r : length cells' ≡ length cells =
    omega (arith, ap length w, length-append (map f L) (drop k.n cells), l, length-drop k.n cells, s.held) in
    record {
      inside = s.inside;
      apart = s.apart;
      started = s.started;
      goal-short = t.goal-short;
      row-short = t.row-short;
      held = omega (arith, s.held, r);
      left = rw (x, y, z) t.after.left;
    }
