-- The look at the first bytes of a text, byte by byte.
use Prim.Native.Nat.{ℕ, ◌+◌, ◌-◌, ◌≤◌, ◌<◌}
use mathlib.Core.Path.{◌≡◌, refl, ap, ◌∙◌}
use mathlib.Core.Bool.{Bool, true, false, cond}
use mathlib.Core.List.{List, [], ◌∷◌, ◌++◌}
use native.Mathlib.Numerals.{add-one}
use native.Mathlib.Omega.{arith}
use native.Mathlib.Decide.{dec_le}
use mathlib.Core.Logic.{by_cases}
use Rattle.std.specs.Prelude.{min}
use lib.Dec.{eqb}
use lib.ListN.{length, get_or, take}
use lib.Seq.{take_all, take-suc}
use Rattle.grammar.specs.Reader.{is_blank}
use Rattle.expecting.specs.declared.Stand.{Stand}
use Rattle.expecting.specs.declared.Stand.TheVariants as stand
use Rattle.expecting.specs.declared.Sight.{Sight}
use Rattle.expecting.specs.Looking.{sight, is_head, opened, closed, seen, glance, look_from, look_at}

-- one byte opens at most one name and is at most one comma
record Few (d n : ℕ) (s : Sight) : Type 0 where
  deep : s.depth ≤ d + 1
  few : s.commas ≤ n + 1

either : {d n : ℕ} {x y : Sight} (t : Bool) → Few d n x → Few d n y → Few d n (cond t x y)
either true f g = f
either false f g = g

few-of : (d n : ℕ) (s : Stand) (c : Bool) (d' n' : ℕ) → d' ≤ d + 1 → n' ≤ n + 1 → Few d n (sight s c d' n')
few-of d n s c d' n' h k = record { deep = h; few = k }

either_number : (t : Bool) (x y m : ℕ) → x ≤ m → y ≤ m → cond t x y ≤ m
either_number true x y m h k = h
either_number false x y m h k = k

seen_few : (level : ℕ) (s : Stand) (d n b : ℕ) → Few d n (seen level s d n b)
unfolding seen opened closed
seen_few level s d n b =
    either (eqb b 37) (few-of d n _ _ d n (omega arith) (omega arith))
    (either (is_blank b) (few-of d n _ _ d n (omega arith) (omega arith))
    (either (eqb b 40)
    (either (is_head s) (few-of d n _ _ 0 n (omega arith) (omega arith))
    (few-of d n _ _ (d + 1) _ (omega arith) (either_number (eqb (d + 1) level) 0 n (n + 1) (omega arith) (omega arith))))
    (either (eqb b 41) (either (eqb d 0) (few-of d n _ _ 0 n (omega arith) (omega arith)) (few-of d n _ _ (d - 1) n (omega arith) (omega arith)))
    (either (eqb b 44) (few-of d n _ _ d _ (omega arith) (either_number (eqb d level) (n + 1) n (n + 1) (omega arith) (omega arith)))
    (either (eqb b 45) (few-of d n _ _ d n (omega arith) (omega arith))
    (either (eqb b 46) (few-of d n _ _ 0 n (omega arith) (omega arith)) (few-of d n _ _ d n (omega arith) (omega arith))))))))

glance-few : (level : ℕ) (s : Sight) (b : ℕ) → Few s.depth s.commas (glance level s b)
unfolding glance
glance-few level s b =
    either s.comment (few-of s.depth s.commas _ _ s.depth s.commas (omega arith) (omega arith))
    (seen_few level s.stand s.depth s.commas b)

look-more : (level : ℕ) (s : Sight) (xs : List ℕ) (b : ℕ) → look_from level s (xs ++ (b ∷ [])) ≡ glance level (look_from level s xs) b
unfolding look_from
look-more level s [] b = refl
look-more level s (x ∷ xs) b = look-more level (glance level s x) xs b

-- the first i bytes are looked at
pub record Looked (level : ℕ) (t : List ℕ) (at i : ℕ) (s : Sight) : Type 0 where
  pub is : s ≡ look_at level (take i t)
  pub within : i ≤ length t
  pub before : i ≤ at
  pub deep : s.depth ≤ i
  pub few : s.commas ≤ i

module _ {level : ℕ} {t : List ℕ} {at : ℕ} where
  pub looked-none : {s : Sight} → s ≡ sight stand.First false 0 0 → Looked level t at 0 s
  unfolding look_from
  looked-none e = rw e (record { is = refl; within = omega arith; before = omega arith; deep = omega arith; few = omega arith })

  pub looked-next : {i : ℕ} {s s' : Sight} → Looked level t at i s → i < length t → i < at → s' ≡ glance level s (get_or t i 0) → Looked level t at (i + 1) s'
  looked-next {i} {s} l h k e =
      let f = glance-few level s (get_or t i 0) in
      rw e
      (record {
        is = rw (add-one i, take-suc t i 0 h, look-more level (sight stand.First false 0 0) (take i t) (get_or t i 0), ← l.is);
        within = omega arith;
        before = omega arith;
        deep = omega (arith, f.deep, l.deep);
        few = omega (arith, f.few, l.few);
      })

-- the bytes before a place are as many as it says, or all
before-place : (t : List ℕ) (at n : ℕ) → n ≡ min at (length t) → take n t ≡ take at t
before-place t at n e =
    by_cases (dec_le at (length t)) (λ h. let q : n ≡ at = omega arith in rw q)
    (λ h. rw (take_all n t (omega arith), take_all at t (omega arith)))

-- all before the place
pub looked-end : (level : ℕ) (t : List ℕ) (at n : ℕ) {i : ℕ} {s : Sight} → n ≡ min at (length t)
    → Looked level (take n t) (length (take n t)) i s → length (take n t) ≤ i → s ≡ look_at level (take at t)
looked-end level t at n {i} e l h = l.is ∙ ap (look_at level) (take_all i (take n t) h ∙ before-place t at n e)
