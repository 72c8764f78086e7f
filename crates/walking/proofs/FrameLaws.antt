-- Frames: the first branch, what is left after it, and what it does to the frames further out.
use Prim.Native.Nat.{ℕ, suc, ◌+◌, ◌≤◌, ◌<◌}
use mathlib.Core.Path.{◌≡◌, refl, ◌∙◌, ap, ap₂}
use mathlib.Core.List.{List, [], ◌∷◌, ◌++◌}
use native.Mathlib.Nat.{add-zero}
use native.Mathlib.Omega.{arith}
use lib.ListN.{length, get_or, set, length-append}
use lib.Seq.{sets}
use Rattle.cell.specs.Cell.{arity}
use Rattle.term.specs.Terms.{root, close}
use Rattle.table.specs.Table.{up_from}
use Rattle.plan.specs.Runs.{Run}
use Rattle.plan.specs.Plans.{Plan, leaf, node, Branches, end, next, branches, branches_in}
use Rattle.plan.proofs.RunsLaws.{group-rows}
use Rattle.plan.specs.code.Cells.{Sound, Cells, CellsIn}
use Rattle.plan.specs.code.Rows.{row_count}
use Rattle.answer.specs.code.Renamed.{Goal}
use Rattle.answer.specs.code.Tree.{hits, hits_in, tried, tried_in}
use Rattle.plan.specs.Notes.{notes, notes_in}
use Rattle.walking.specs.code.Link.{Tables, Linked}
use Rattle.walking.specs.code.Frames.{Frame, frame, RowCell, SoundOf, notes_of, hits_of, tried_of, rows_of, Stands, nothing, within}
use Rattle.plan.proofs.NotesLaws.{notes_in-count}
use Rattle.walking.proofs.LinkLaws.{refs-past, binding-past}

-- No branch is left in a state.

pub none_in : {k : ℕ} {gs : List Run} (bs : Branches k gs) → branches_in bs ≡ 0 → (i m : ℕ) (R : List ℕ) (f : ℕ)
    → (hits_in bs i m R f ≡ []) × (tried_in bs i m R ≡ 0) × (row_count gs ≡ 0)
unfolding branches hits tried
none_in end z i m R f = (refl, refl, refl)
none_in (next p bs) z i m R f = absurd (let y : ⊥ = omega arith in y)

-- no branch below a branch: a leaf, and its only row
pub leaf-one : {k : ℕ} {rows : List (List ℕ)} (p : Plan k rows) → branches p ≡ 0 → 0 < length rows → (k ≡ 0 → length rows ≡ 1) → (m : ℕ) (R : List ℕ) (f : ℕ)
    → (hits p m R f ≡ f ∷ []) × (tried p m R ≡ 0)
unfolding branches hits tried up_from
leaf-one (leaf {rows}) z some one m R f = let e : length rows ≡ 1 = one refl in (rw e refl, refl)
leaf-one (node {rows = rows} i h bs) z some one m R f =
    let n = none_in bs z i m R f in
    absurd (let y : ⊥ = omega (arith, group-rows (root i) (close i) rows, n.2) in y)

-- no branch is left in any frame
pub none_of : (fs : List Frame) (row : ℕ) → length (notes_of fs row) ≡ 0 → (hits_of fs row ≡ []) × (tried_of fs ≡ 0)
none_of [] row z = (refl, refl)
none_of (f ∷ fs) row z =
    let l = length-append (notes_in f.trees f.place f.slots f.free row) (notes_of fs (row + row_count f.groups)) in
    let c = notes_in-count f.trees f.place f.slots f.free row in
    let h = none_in f.trees (omega arith) f.place f.free f.R row in
    let t = none_of fs (row + row_count f.groups) (omega arith) in
    (ap₂ ◌++◌ h.0 t.0, omega (arith, h.1, t.1))

-- The state below a branch, as a frame.

pub record Below {k : ℕ} {rows : List (List ℕ)} (p : Plan k rows) (m : ℕ) (slots R : List ℕ) : Type 0 where
  pub first : Frame
  pub same-free : first.free ≡ m
  pub same-slots : first.slots ≡ slots
  same-R : first.R ≡ R
  pub width : suc first.k ≡ k
  pub low : first.place ≤ first.k
  pub count : branches_in first.trees ≡ branches p
  pub same-notes : (row : ℕ) → notes_in first.trees first.place first.slots first.free row ≡ notes p slots m row
  pub same-hits : (f : ℕ) → hits_in first.trees first.place first.free first.R f ≡ hits p m R f
  pub same-tried : tried_in first.trees first.place first.free first.R ≡ tried p m R
  pub same_rows : row_count first.groups ≡ length rows
  pub sound : Cells RowCell p → CellsIn RowCell first.trees

pub below-frame : {k : ℕ} {rows : List (List ℕ)} (p : Plan k rows) (m : ℕ) (slots R : List ℕ) → 0 < k → Below p m slots R
unfolding branches notes hits tried Cells
below-frame leaf m slots R z = absurd (let y : ⊥ = omega arith in y)
below-frame (node {rows = rows} i h bs) m slots R z = record {
  first = frame bs i m slots R;
  same-free = refl;
  same-slots = refl;
  same-R = refl;
  width = refl;
  low = h;
  count = refl;
  same-notes = λ row. refl;
  same-hits = λ f. refl;
  same-tried = refl;
  same_rows = group-rows (root i) (close i) rows;
  sound = λ c. c;
}

pub some-open : {k : ℕ} {rows : List (List ℕ)} (p : Plan k rows) → 0 < branches p → 0 < k
unfolding branches
some-open leaf h = absurd (let y : ⊥ = omega arith in y)
some-open (node i l bs) h = omega arith

pub stands-more : {G rep sib bs ns us rs : List ℕ} {fs : List Frame} {n top : ℕ} (more : ℕ) → top ≤ more → Stands G rep sib bs ns us rs fs n top
    → Stands G rep sib bs ns us rs fs n more
stands-more more h nothing = nothing
stands-more {top = top} more h (within {f} x l s) = let l' : f.free ≤ more = omega arith in within x l' s

-- it stands before the others
pub below-stands : {G rep sib bs ns us rs : List ℕ} {k : ℕ} {rows : List (List ℕ)} (p : Plan k rows) (m : ℕ) (slots R : List ℕ)
    (F : Below p m slots R) (others : List Frame) (n : ℕ) {o : ℕ}
    → Linked G rep sib bs ns us rs n (n + branches p) m slots R → length slots ≡ k → o ≤ m → Stands G rep sib bs ns us rs others (n + branches p) o
    → Stands G rep sib bs ns us rs (F.first ∷ others) n m
below-stands {G} {rep} {sib} {bs} {ns} {us} {rs} p m slots R F others n L z h s =
    let q : n + branches p ≡ n + branches_in F.first.trees = omega (arith, F.count) in
    let l : F.first.free ≤ m = omega (arith, F.same-free) in
    let s' : Stands G rep sib bs ns us rs others (n + branches_in F.first.trees) m = rw q at (stands-more m h s) in
    within {f = F.first} {fs = others} {n = n}
    (record {
      linked = rw (F.same-free, F.same-slots, F.same-R, ← q) L;
      width = omega (arith, ap length F.same-slots, F.width);
      low = F.low;
    })
    l (rw F.same-free s')

-- What one branch writes is not seen by the frames further out.

module _ {w : ℕ} {G sib rep : List ℕ} (g : Goal w G) (T : Tables G sib rep) where
  pub stands-refs : {bs ns us rs : List ℕ} {fs : List Frame} {n top : ℕ} (to : ℕ) (ks : List ℕ) → top ≤ to → Stands G rep sib bs ns us rs fs n top
      → Stands G rep sib bs ns us (sets rs to ks) fs n top
  stands-refs to ks h nothing = nothing
  stands-refs to ks h (within x l s) =
      within (record { linked = refs-past g T to ks (omega arith) x.linked; width = x.width; low = x.low }) l (stands-refs to ks (omega arith) s)

  pub stands-binding : {bs ns us rs : List ℕ} {fs : List Frame} (v c x : ℕ) {i sk n top : ℕ} → v < length us → get_or us v 0 ≤ i → i < sk → sk ≤ n
      → Stands G rep sib bs ns us rs fs n top → Stands G rep sib (set bs v c) (set ns v x) (set us v sk) rs fs n top
  stands-binding v c x lv low on past nothing = nothing
  stands-binding v c x lv low on past (within y l s) =
      within (record { linked = binding-past g T v c x lv low on past (omega arith) y.linked; width = y.width; low = y.low }) l
      (stands-binding v c x lv low on (omega arith) s)

-- The first branch of the frames.
pub record Top (G rep sib bs ns us rs : List ℕ) (fs : List Frame) (n top row : ℕ) : Type 0 where
  pub k : ℕ
  pub group : Run
  pub groups : List Run
  pub tree : Plan (arity group.cell + k) group.rows
  pub trees : Branches k groups
  pub place : ℕ
  pub free : ℕ
  pub slots : List ℕ
  pub R : List ℕ
  pub others : List Frame
  pub stands : Stands G rep sib bs ns us rs (frame (next {g = group} tree trees) place free slots R ∷ others) n top
  pub same-notes : notes_of fs row ≡ notes_of (frame (next {g = group} tree trees) place free slots R ∷ others) row
  pub same-hits : hits_of fs row ≡ hits_of (frame (next {g = group} tree trees) place free slots R ∷ others) row
  pub same-tried : tried_of fs ≡ tried_of (frame (next {g = group} tree trees) place free slots R ∷ others)
  pub same_rows : rows_of fs ≡ rows_of (frame (next {g = group} tree trees) place free slots R ∷ others)
  pub sound : SoundOf fs → Sound RowCell k group × Cells RowCell tree × CellsIn RowCell trees × SoundOf others

-- a frame with a branch, or the first one further out
first-in : {G rep sib bs ns us rs : List ℕ} {k : ℕ} {gs : List Run} (ts : Branches k gs) (i m : ℕ) (slots R : List ℕ) (fs : List Frame) (n top row : ℕ)
    → ((top : ℕ) → 0 < length (notes_of fs row) → Stands G rep sib bs ns us rs fs n top → Top G rep sib bs ns us rs fs n top row)
    → 0 < length (notes_of (frame ts i m slots R ∷ fs) row) → Stands G rep sib bs ns us rs (frame ts i m slots R ∷ fs) n top
    → Top G rep sib bs ns us rs (frame ts i m slots R ∷ fs) n top row
unfolding notes hits tried branches Cells
first-in {G} {rep} {sib} {bs} {ns} {us} {rs} end i m slots R fs n top row f h (within x l s) =
    let zn : n + 0 ≡ n = add-zero n in
    let zr : row + 0 ≡ row = add-zero row in
    let s' : Stands G rep sib bs ns us rs fs n m = rw zn at s in
    let t = f top (rw zr at h) (stands-more top l s') in
    record {
      k = t.k;
      group = t.group;
      groups = t.groups;
      tree = t.tree;
      trees = t.trees;
      place = t.place;
      free = t.free;
      slots = t.slots;
      R = t.R;
      others = t.others;
      stands = t.stands;
      same-notes = ap (notes_of fs) zr ∙ t.same-notes;
      same-hits = ap (hits_of fs) zr ∙ t.same-hits;
      same-tried = omega (arith, t.same-tried);
      same_rows = omega (arith, t.same_rows);
      sound = λ a. t.sound a.1;
    }
first-in (next {k} {g} {gs} p ts) i m slots R fs n top row f h s = record {
  k = k;
  group = g;
  groups = gs;
  tree = p;
  trees = ts;
  place = i;
  free = m;
  slots = slots;
  R = R;
  others = fs;
  stands = s;
  same-notes = refl;
  same-hits = refl;
  same-tried = refl;
  same_rows = refl;
  sound = λ a. (a.0.0, a.0.1, a.0.2, a.1);
}

pub top_of : {G rep sib bs ns us rs : List ℕ} (fs : List Frame) (n top row : ℕ) → 0 < length (notes_of fs row) → Stands G rep sib bs ns us rs fs n top
    → Top G rep sib bs ns us rs fs n top row
top_of [] n top row h s = absurd (let z : ⊥ = omega arith in z)
top_of (f ∷ fs) n top row h s = first-in f.trees f.place f.free f.slots f.R fs n top row (λ top. top_of fs n top row) h s
