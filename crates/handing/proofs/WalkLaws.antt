-- A program's numbers, walked from clause to clause.
use Prim.Native.Nat.{ℕ, ◌+◌, ◌-◌, ◌≤◌, ◌<◌}
use mathlib.Core.Path.{◌≡◌, refl, sym, ◌∙◌, ap, subst}
use mathlib.Core.List.{List, [], ◌∷◌}
use native.Mathlib.Omega.{arith}
use lib.ListN.{length, get_or, take, drop, length-append, length-drop}
use lib.Seq.{take_at, drop_at, drop-drop, get_or-drop}
use Rattle.octets.specs.Octets.{Put}
use Rattle.octets.proofs.PutLaws.{Putting, put-begins, put-part, put-ends}
use Rattle.termtext.specs.Saying.{words_in}
use Rattle.clauses.specs.Clauses.{Clause}
use Rattle.clauses.specs.Text.{line_text, program_text}
use Rattle.clauses.specs.Handed.{text_for}
use Rattle.clauses.specs.code.Size.{line_bytes, program_bytes}
use Rattle.unfolding.specs.Flat.{flat_one, flat}
use Rattle.handing.specs.code.Lines.{blanks, One, ProgramWritten, Left, Begins}

-- the clause at a place, and those after it
pub record Here (xs : List ℕ) (at end : ℕ) (cs : List Clause) : Type 0 where
  pub one : One (take (end - at) (drop at xs))
  pub more : List Clause
  pub both : cs ≡ one.it ∷ more
  pub left : Left xs end more
  pub inside : end ≤ length xs
  pub on : at + 4 ≤ end

-- where the program is not at its end there is one
pub here : (xs : List ℕ) (at end : ℕ) (cs : List Clause) → Left xs at cs → at < length xs → end ≡ at + 4 + get_or xs (at + 3) 0
    → Here xs at end cs
unfolding flat
here xs at end [] l h e = absurd (let z : ⊥ = omega (arith, ap length l.is, length-drop at xs) in z)
here xs at end (c ∷ cs) l h e =
    let n : get_or xs (at + 3) 0 ≡ length c.head = sym (get_or-drop at xs 3 0) ∙ ap (λ (q : List ℕ). get_or q 3 0) l.is in
    let f : length (flat_one c) ≡ end - at = omega (arith, n) in
    let t : take (end - at) (drop at xs) ≡ flat_one c = ap (take (end - at)) l.is ∙ take_at (flat_one c) (flat cs) (end - at) f in
    let g : at + (end - at) ≡ end = omega (arith, n) in
    let b : drop end xs ≡ drop (end - at) (drop at xs) = ap (λ (q : ℕ). drop q xs) (sym g) ∙ sym (drop-drop (end - at) at xs) in
    let d : drop end xs ≡ flat cs = b ∙ ap (drop (end - at)) l.is ∙ drop_at (flat_one c) (flat cs) (end - at) f in
    record {
      one = record { it = c; is = t; plain = l.plain.0 };
      more = cs;
      both = refl;
      left = record { is = d; plain = l.plain.1 };
      inside = omega (arith, n, ap length l.is, length-drop at xs, length-append (flat_one c) (flat cs));
      on = omega (arith, n);
    }

pub room-here : (xs : List ℕ) (at : ℕ) → Begins xs at → at + 4 + get_or xs (at + 3) 0 ≤ length xs
room-here xs at b = (here xs at (at + 4 + get_or xs (at + 3) 0) b.clauses b.left b.inside refl).inside

none_here : (xs : List ℕ) (at : ℕ) (cs : List Clause) → Left xs at cs → length xs ≤ at → cs ≡ []
unfolding flat
none_here xs at [] l h = refl
none_here xs at (c ∷ cs) l h =
    absurd (let z : ⊥ = omega (arith, ap length l.is, length-drop at xs, length-append (flat_one c) (flat cs)) in z)

all_left : {xs : List ℕ} (w : ProgramWritten xs) → Left xs 0 w.clauses
all_left w = record { is = w.is; plain = w.plain }

-- MEASURED: so many clauses and bytes, and those that are left
pub record Rest (names xs : List ℕ) (all : List Clause) (at clauses bytes : ℕ) : Type 0 where
  pub left : List Clause
  pub here : Left xs at left
  pub count : clauses + length left ≡ length all
  pub sum : bytes + program_bytes (blanks names) left ≡ program_bytes (blanks names) all

pub rest-begins : (names : List ℕ) {xs : List ℕ} (w : ProgramWritten xs) → Rest names xs w.clauses 0 0 0
rest-begins names w = record { left = w.clauses; here = all_left w; count = omega arith; sum = omega arith }

pub rest-on : {names xs : List ℕ} {all : List Clause} (at end n b r : ℕ) → at < length xs → end ≡ at + 4 + get_or xs (at + 3) 0
    → ((o : One (take (end - at) (drop at xs))) → r ≡ line_bytes (blanks names) o.it) → Rest names xs all at n b
    → Rest names xs all end (n + 1) (b + r)
unfolding program_bytes
rest-on {names} {xs} {all} at end n b r h e f s =
    let z = here xs at end s.left s.here h e in
    record {
      left = z.more;
      here = z.left;
      count = omega (arith, s.count, ap length z.both);
      sum = omega (arith, s.sum, f z.one, ap (program_bytes (blanks names)) z.both);
    }

pub rest-ends : {names xs : List ℕ} {all : List Clause} (at n b : ℕ) → length xs ≤ at → Rest names xs all at n b
    → (n ≡ length all) × (b ≡ program_bytes (blanks names) all)
unfolding program_bytes
rest-ends {names} {xs} at n b h s =
    let z = none_here xs at s.left s.here h in
    (omega (arith, s.count, ap length z), omega (arith, s.sum, ap (program_bytes (blanks names)) z))

-- PUT
pub record Puts (text names xs : List ℕ) (all : List Clause) (at : ℕ) (old new : List ℕ) (on : ℕ) : Type 0 where
  pub left : List Clause
  pub here : Left xs at left
  pub putting : Putting old new 0 on (text_for text names left) (text_for text names all)

pub puts-begins : (text names : List ℕ) {xs out : List ℕ} (w : ProgramWritten xs) → Puts text names xs w.clauses 0 out out 0
puts-begins text names w = record { left = w.clauses; here = all_left w; putting = put-begins }

pub puts-on : {text names xs old new newer : List ℕ} {all : List Clause} (at end on r : ℕ) → at < length xs
    → end ≡ at + 4 + get_or xs (at + 3) 0
    → ((o : One (take (end - at) (drop at xs))) → Put new newer on (line_text (words_in text names) o.it) r)
    → Puts text names xs all at old new on → Puts text names xs all end old newer r
unfolding program_text
puts-on {text} {names} {xs} {old} {new} {newer} {all} at end on r h e f s =
    let z = here xs at end s.left s.here h e in
    let p : Putting old new 0 on (text_for text names (z.one.it ∷ z.more)) (text_for text names all)
    = subst (λ (cs : List Clause). Putting old new 0 on (text_for text names cs) (text_for text names all)) z.both s.putting in
    record { left = z.more; here = z.left; putting = put-part p (f z.one) }

pub puts-end : {text names xs old new : List ℕ} {all : List Clause} (at on : ℕ) → length xs ≤ at → Puts text names xs all at old new on
    → Put old new 0 (text_for text names all) on
unfolding program_text
puts-end {text} {names} {xs} {old} {new} {all} at on h s =
    let z = none_here xs at s.left s.here h in
    put-ends (subst (λ (cs : List Clause). Putting old new 0 on (text_for text names cs) (text_for text names all)) z s.putting)
