-- A hit: an accepted row and goal that unify. What the code starts from, and what it ends with.
use Prim.Native.Nat.{ℕ, ◌+◌, ◌^◌, ◌≤◌}
use mathlib.Core.Path.{◌≡◌, refl, sym, ◌∙◌}
use mathlib.Core.Logic.{⊎_elim}
use mathlib.Core.Bool.{true, false, cond}
use mathlib.Core.List.Memᴰ
use mathlib.Core.List.{List, [], ◌++◌}
use native.Mathlib.Omega.{arith}
use lib.ListN.{length-append, length, take, length-map}
use Rattle.cell.specs.Cell.{arity, is_var}
use Rattle.cell.proofs.CellLaws.{var-arity, var-small}
use Rattle.term.specs.Terms.{Terms, none, more}
use Rattle.term.specs.Unify.{renamed, Matches}
use Rattle.term.proofs.Tests.{bool_cases}
use Rattle.octets.specs.Octets.{Put}
use Rattle.octets.proofs.PutLaws.{put-put, put-length, put-found}
use Rattle.table.specs.Table.{Head}
use Rattle.table.proofs.Accepted.{few-variables}
use Rattle.instance.specs.Instance.{MostGeneral}
use Rattle.instance.specs.Reply.{Reply}
use Rattle.instance.specs.Rewrite.{number_from}
use Rattle.instance.specs.code.Meet.{Meeting, Few, InstanceMet, Hit}
use Rattle.instance.proofs.Instances.{general-variant}
use Rattle.instance.proofs.Numbering.{final, numbers-instance, instance-numbers, numbers-numbered}
use Rattle.instance.proofs.Apart.{Below, matches-common}
use Rattle.instance.proofs.NumberLaws.{unmet-start, final-few}
use Rattle.instance.proofs.General.{unified-general}
use Rattle.instance.proofs.MeetSteps.{both-few, start-there}

-- the goal's variables moved apart
pub renamed-terms : {k : ℕ} {xs : List ℕ} → Terms k xs → Below (2 ^ 16) xs → Terms k (renamed xs)
unfolding renamed
renamed-terms none b = none
renamed-terms (more {c} {k} {xs} t) b =
    let u = renamed-terms t (record { vars = λ x m v. b.vars x (Memᴰ.tail m) v }) in
    ⊎_elim
    (λ (v : is_var c ≡ true).
    let l = b.vars c (Memᴰ.head refl) v in
    let z : arity (2 ^ 16 + c) ≡ arity c = var-arity (2 ^ 16 + c) (var-small (2 ^ 16 + c) (omega arith)) ∙ sym (var-arity c v) in
    let u' : Terms (arity (2 ^ 16 + c) + k) (renamed xs) = rw z u in
    rw v (more u'))
    (λ (v : is_var c ≡ false). rw v (more u))
    (bool_cases (is_var c))

pub head-below : {w : ℕ} {xs : List ℕ} → Head w xs → Below (2 ^ 16) xs
head-below h = record { vars = λ c m v. let l = few-variables h c m v in omega arith }

-- a row and a goal that a run has found to unify
pub hit-there : {w : ℕ} {row goal : List ℕ} → Head w row → Head w goal → Matches row goal → Hit row goal
hit-there {w} r g u =
    let c = matches-common (head-below g) u in
    record { wide = w; row-head = r; goal-head = g; made = c.0; common = c.1 }

-- a most general common instance, renumbered, is the reply
general-reply : {row goal cells : List ℕ} → MostGeneral row goal cells → Few 64 cells → Reply row goal (number_from [] cells)
general-reply {cells = cells} m f =
    let few : length (final [] cells) ≤ 2 ^ 30 = omega (arith, final-few [] cells (unmet-start f)) in
    record { instance = general-variant (numbers-instance cells few) (instance-numbers cells few) m; order = numbers-numbered cells few }

-- so a hit has a reply, however long: it has no variables but the row's and the goal's
pub the-reply : {w : ℕ} {row goal : List ℕ} → Head w row → Head w goal → Matches row goal → (cells : List ℕ) × Reply row goal cells
the-reply {row = row} {goal} r g u =
    let b = head-below g in
    let t = unified-general r.terms (renamed-terms g.terms b) (head-below r) b u in
    let vars = row ++ renamed goal in
    let found = t.2 vars (record { found = λ c m v. Memᴰ.append_left (renamed goal) m }) (record { found = λ c m v. Memᴰ.append_right row m }) in
    (number_from [] t.0, general-reply t.1 (record { vars = vars; found = found; few = both-few r g }))

-- and what the code has made gives it
pub reply-there : {row goal cells : List ℕ} {n : ℕ} → InstanceMet row goal cells n → Reply row goal (number_from [] (take n cells))
reply-there m = general-reply m.general m.few

-- the list filled, the work can start
pub hit-start : {row goal : List ℕ} → Hit row goal → (cells cells₁ cells₂ : List ℕ) (len n : ℕ) → 64 ≤ length cells
    → Put cells cells₁ 0 (renamed goal) len → Put cells₁ cells₂ len row n → Meeting row goal cells₂ len n 0 len 64
unfolding renamed
hit-start {row} {goal} h cells cells₁ cells₂ len n lc p q =
    let l : length (renamed goal) ≡ length goal = length-map goal (λ (c : ℕ). cond (is_var c) (2 ^ 16 + c) c) in
    let a : length (renamed goal) + length row ≤ 64 = omega (arith, l, h.row-head.short, h.goal-head.short) in
    let x = (put-found p (omega (arith, a, lc))).0 in
    let y = put-found (put-put p q) (omega (arith, a, lc, length-append (renamed goal) row)) in
    start-there h.row-head h.goal-head (renamed-terms h.goal-head.terms (head-below h.goal-head)) h.common
    (omega (arith, put-length q, put-length p, lc)) x (omega (arith, x, y.0, length-append (renamed goal) row)) y.1
