-- The steps of reading a file of whole blocks, as the code takes them.
use Prim.Native.Nat.{ℕ, ◌+◌, ◌-◌, ◌*◌, ◌/◌, ◌%◌, ◌≤◌, ◌<◌}
use mathlib.Core.Path.{◌≡◌, refl, sym, ◌∙◌, ap}
use mathlib.Core.Bool.{true, false}
use mathlib.Core.List.{List, [], ◌++◌, append-nil}
use native.Mathlib.Omega.{arith}
use lib.ListN.{length, get_or, take, drop, length-drop}
use lib.Seq.{sets, sets-eq, take_all}
use Rattle.term.proofs.Lists.{nil-of-length}
use Rattle.refusal.specs.Refusal.{refused, Answer, turned}
use Rattle.refusal.specs.declared.Reason.TheVariants as reason
use Rattle.refusal.specs.declared.Input.TheVariants as input
use Rattle.octets.specs.Octets.{cells_of, fitting}
use Rattle.blocks.specs.Blocks.{whole, good, good_cells, Found}
use Rattle.blocks.proofs.BlockLaws.{cells-size, sound-most}
use Rattle.filing.specs.Files.{needed, zeros, table_size, plan_size, sizes, FileLoaded, not-read}
use Rattle.filing.specs.code.Front.{Front, Sized}
use Rattle.filing.proofs.ReadingLaws.{front-found, front_at, rest-in-last, damaged, other-sizes, not_zeros, all-tests}

-- a room that is just filled
last-is : (old new all : List ℕ) → length old ≡ 125 → length all ≡ 125 → new ≡ sets old 0 (fitting old 0 all) → new ≡ all
last-is old new all h g e =
    let f : fitting old 0 all ≡ all = take_all (length old - 0) all (omega arith) in
    let d : drop (0 + length all) old ≡ [] = nil-of-length (drop (0 + length all) old) (omega (arith, length-drop (0 + length all) old)) in
    e ∙ ap (sets old 0) f ∙ sets-eq all old 0 (omega arith) ∙ ap (λ (l : List ℕ). all ++ l) d ∙ append-nil all

-- the cells after the sizes, from the last block
pub padding-seen : (f : List ℕ) (count n : ℕ) → count ≡ whole f → 1 ≤ count → count ≤ good f 0 → 125 * (count - 1) ≤ n
    → {old new : List ℕ} {k : ℕ} → length old ≡ 125 → Found f (count - 1) old new k
    → take (length new - (n - 125 * (count - 1))) (drop (n - 125 * (count - 1)) new) ≡ drop n (good_cells f 0)
padding-seen f count n e h g l {old} {new} s r =
    let x = rest-in-last f count n e h g l in
    let k = n - 125 * (count - 1) in
    take_all (length new - k) (drop k new) (omega (arith, length-drop k new))
    ∙ ap (drop (n - 125 * (count - 1))) (last-is old new (good_cells f (count - 1)) s x.1 r.put) ∙ sym x.0

module _ (f : List ℕ) (some : 1 ≤ length f) (blocks : length f % 512 ≡ 0) where
  abbrev cells : List ℕ
  cells = good_cells f 0

  some' : length f ≡ 0 → ⊥
  some' e = omega arith

  pub told-damage : {table plan : List ℕ} {k : ℕ} → k ≡ good f 0 → k < whole f → {a : Answer} → a ≡ turned (refused reason.Damage input.File k)
      → FileLoaded f table plan table plan a
  told-damage e h r =
      not-read _ (damaged f some' blocks (omega (arith, e))) (r ∙ ap (λ (n : ℕ). turned (refused reason.Damage input.File n)) e) refl refl

  module _ {old new : List ℕ} {k : ℕ} (size : length old ≡ 8250) (found : Found f 0 old new k) (all : whole f ≤ k)
      {tables plans : ℕ} (et : tables ≡ get_or new 0 0) (ep : plans ≡ get_or new 1 0) where
    every : whole f ≤ good f 0
    every = omega (arith, found.many)

    many : length cells ≡ 125 * whole f
    many =
        omega (arith, cells-size (whole f - 0) 0 (drop (128 * 0) (cells_of f)), sound-most (whole f - 0) 0 (drop (128 * 0) (cells_of f)), every)

    front : Front 8250 new cells
    front = front-found old new cells size found.put

    table-size : tables ≡ table_size cells
    table-size = et ∙ front_at new cells front 0 (omega arith) (omega (arith, many))

    plan-size : plans ≡ plan_size cells
    plan-size = ep ∙ front_at new cells front 1 (omega arith) (omega (arith, many))

    sizes-is : 2 + tables + plans ≡ sizes cells
    sizes-is = omega (arith, table-size, plan-size)

    pub told-sizes : {table plan : List ℕ} → ((2 + tables + plans + 124) / 125 ≡ whole f → ⊥) → {a : Answer}
        → a ≡ turned (refused reason.Sizes input.File 0) → FileLoaded f table plan table plan a
    told-sizes d r = not-read _ (other-sizes f some' blocks every (λ e. d (ap needed sizes-is ∙ e))) r refl refl

    module _ (count : (2 + tables + plans + 124) / 125 ≡ whole f) where
      count' : needed (sizes cells) ≡ whole f
      count' = ap needed (sym sizes-is) ∙ count

      pub told-padding : {table plan : List ℕ} → zeros (drop (2 + tables + plans) cells) ≡ false → {a : Answer}
          → a ≡ turned (refused reason.Padding input.File 0) → FileLoaded f table plan table plan a
      told-padding e r = not-read _ (not_zeros f some' blocks every count' (ap (λ (n : ℕ). zeros (drop n cells)) (sym sizes-is) ∙ e)) r refl refl

      pub sized : zeros (drop (2 + tables + plans) cells) ≡ true → Sized f new tables plans
      sized e =
          record {
            front = front;
            table = table-size;
            plan = plan-size;
            fits = omega (arith, many, count');
            rest = all-tests f some' blocks every count' (ap (λ (n : ℕ). zeros (drop n cells)) (sym sizes-is) ∙ e);
          }
