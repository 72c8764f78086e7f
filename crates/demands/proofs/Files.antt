-- W-211 of what the two entries promise: `FileWriteCoded t p room room' n`, `FileReadCoded f t p t' p' n`. The statements are in specs/Files.
use Prim.Native.Nat.{ℕ, suc, ◌+◌, ◌/◌, ◌%◌, ◌^◌, ◌≤◌, ◌<◌}
use mathlib.Core.Path.{◌≡◌, refl, sym, ◌∙◌, ap, subst}
use mathlib.Core.Logic.{◌⊎◌, inl, inr, by_cases}
use mathlib.Core.List.{List, [], ◌∷◌, ◌++◌}
use native.Mathlib.Decide.{dec_lt}
use native.Mathlib.Omega.{arith}
use lib.ListN.{length, get_or, take, drop, length-append}
use lib.Seq.{take_at}
use Rattle.refusal.specs.Refusal.{Refused, refused, Answer, answered, turned}
use Rattle.refusal.specs.declared.Reason.TheVariants as reason
use Rattle.refusal.specs.declared.Input.TheVariants as input
use Rattle.refusal.specs.Read.{Read, read, refuse}
use Rattle.refusal.specs.Coded.{decoded}
use Rattle.refusal.proofs.CodedLaws.{refused-small}
use Rattle.table.specs.Table.{Table, table_of, IsTable}
use Rattle.table.proofs.ReadLaws.{apart, read_one, refuse-one}
use Rattle.table.proofs.ReadLaws as reading
use Rattle.table.proofs.Accepted.{is-table}
use Rattle.plan.specs.Plans.{Plan, write, branches}
use Rattle.plan.specs.Check.{plan_of, plan_for}
use Rattle.octets.specs.Octets.{Bytes, AreWords}
use Rattle.blocks.specs.Sums.{checks, OneWord, Exchanged}
use Rattle.blocks.proofs.SumsLaws.{one-word-told, exchange-told, blocks-told}
use Rattle.filing.specs.Files.{stream, needed, file_of, no_room, Card, card, file_read, FileWritten, not-accepted, room-short, written}
use Rattle.filing.specs.Files.{FileLoaded, not-read, loaded}
use Rattle.filing.specs.Files as files
use Rattle.filing.proofs.Fixed.{written-fixed, loaded-fixed}
use Rattle.filing.proofs.ReadingLaws as tests
use Rattle.filing.proofs.WriteLaws.{file-size, file-few}
use Rattle.filing.proofs.Undo.{accepted-sizes, read-sizes, there_and_back, back-again}
use Rattle.dudowiej.specs.Coded.{cut, FileWriteCoded, FileReadCoded}
use Rattle.dudowiej.proofs.CutLaws.{cut_small}
use Rattle.dudowiej.proofs.Small.{checked-small}
use Rattle.dudowiej.proofs.Back.{written_back, loaded-back}
use Rattle.demands.specs.Files.{WriteTurned, WriteRefused, Wrote, WritesFile, FirstBad, AllSound, BlockCells, Shape, FileHolds}
use Rattle.demands.specs.Files.{ReadTurned, ReadRefused, ReadsFile}
use Rattle.demands.specs.Files.{no_blocks, damage, bad-sizes, bad-padding, ThereAndBack, BackAgain, ChecksTell}
use Rattle.demands.specs.Files as says
use Rattle.demands.proofs.Cited.{clash, turned-one, answered-one, writes, tree-read}
use Rattle.demands.proofs.FileSteps.{is-damaged, is-other-sizes, is-not-zero, is-refused, is-card, table-first, looked}
use Rattle.demands.proofs.FileSteps.{block-cells, written-cells}
use Rattle.demands.proofs.FileSteps.{Looked, as-blocks, as-damage, as-sizes, as-padding, as-table, as-plan, as-card}
use Rattle.limits.specs.Limits.{most_plan_cells}

-- Writing.

-- what the check refuses is the table's or the plan's
checked-turned : {t p room : List ℕ} {f : Refused} → plan_of t p ≡ refuse f → WriteTurned t p room f
checked-turned {t} {p} {room} {f} e = go (table_of t) refl
  where
    go : (x : Read Table) → table_of t ≡ x → WriteTurned t p room f
    go (read T) q = says.bad-plan (is-table t q) e
    go (refuse g) q = says.bad-table (q ∙ ap refuse (refuse-one (sym (table-first t p q) ∙ e)))

-- and what it accepts is a table, and a plan as a tree
record Tree (t p : List ℕ) : Type 0 where
  width : ℕ
  rows : List (List ℕ)
  table : IsTable t width rows
  tree : Plan width rows
  cells : write tree ≡ p

tree_of : (t p : List ℕ) {n : ℕ} → plan_of t p ≡ read n → Tree t p
tree_of t p {n} e =
    let a = reading.first (table_of t) (λ (T : Table). plan_for T p) e in
    let i = is-table t a.1 in
    let s = writes t p i n e in
    record { width = a.0.width; rows = a.0.rows; table = i; tree = s.tree; cells = s.cells }

module _ {t p room room' : List ℕ} {a : Answer} (x : FileWritten t p room room' a) where
  write-why : (f : Refused) → a ≡ turned f → WriteTurned t p room f
  write-why f q = go x
    where
      go : FileWritten t p room room' a → WriteTurned t p room f
      go (not-accepted g e r s) = checked-turned (e ∙ ap refuse (turned-one (sym r ∙ q)))
      go (room-short n e l r s) = let y = tree_of t p e in says.bad-room y.table y.tree y.cells l (sym (turned-one (sym r ∙ q)))
      go (written n e l r s) = clash (sym r ∙ q)

  write-gets : (f : Refused) → WriteTurned t p room f → a ≡ turned f
  write-gets f (says.bad-table e) = (written-fixed x (not-accepted f (table-first t p e) refl refl)).0
  write-gets f (says.bad-plan i e) = (written-fixed x (not-accepted f e refl refl)).0
  write-gets f (says.bad-room i tree h l q) =
      (written-fixed x (room-short (branches tree) (tree-read i tree h) l refl refl)).0 ∙ ap turned (sym q)

  write_kept : (f : Refused) → a ≡ turned f → room' ≡ room
  write_kept f q = go x
    where
      go : FileWritten t p room room' a → room' ≡ room
      go (not-accepted g e r s) = s
      go (room-short n e l r s) = s
      go (written n e l r s) = clash (sym r ∙ q)

  write-refused : WriteRefused t p room room' a
  write-refused = record { refuses = λ f. (write-why f, write-gets f); untouched = write_kept }

  writes-file : WritesFile t p room room' a
  writes-file w rows tree i h =
      by_cases (dec_lt (length room) (length (file_of t p)))
      (λ (l : length room < length (file_of t p)).
      short l (written-fixed x (room-short (branches tree) ok l refl refl)).0)
      (λ l. (let m : length (file_of t p) ≤ length room = omega arith in all m (written-fixed x (written (branches tree) ok m refl refl))))
    where
      ok : plan_of t p ≡ read (branches tree)
      ok = tree-read i tree h

      short : length room < length (file_of t p) → a ≡ no_room (length (file_of t p)) → Wrote t p room room' a
      short l y =
          record {
            full = (λ e. l, λ k. y);
            told = (λ e. clash (sym e ∙ y), λ k. absurd (let z : ⊥ = omega (arith, l, k) in z));
            wrote = λ k. absurd (let z : ⊥ = omega (arith, l, k) in z);
            bytes = file-size t p (accepted-sizes t p ok);
            few = (file-few t p (accepted-sizes t p ok)).0;
          }

      all : length (file_of t p) ≤ length room → (a ≡ answered (length (file_of t p)) (needed (length (stream t p))))
          × (room' ≡ file_of t p ++ drop (length (file_of t p)) room) → Wrote t p room room' a
      all l y =
          record {
            full = (λ e. clash (sym y.0 ∙ e), λ k. absurd (let z : ⊥ = omega (arith, l, k) in z));
            told = (λ e. l, λ k. y.0);
            wrote = λ k. y.1;
            bytes = file-size t p (accepted-sizes t p ok);
            few = (file-few t p (accepted-sizes t p ok)).0;
          }

-- Reading.

-- a file that is read holds what was read
holds_of : (f : List ℕ) {c : Card} → file_read f ≡ read c → FileHolds f c.table c.plan
holds_of f {c} e = go (looked f)
  where
    go : Looked f → FileHolds f c.table c.plan
    go (as-blocks b q) = apart (sym e ∙ q)
    go (as-damage b q) = apart (sym e ∙ q)
    go (as-sizes b d q) = apart (sym e ∙ q)
    go (as-padding k b d q) = apart (sym e ∙ q)
    go (as-table g b t q) = apart (sym e ∙ q)
    go (as-plan g b i t q) = apart (sym e ∙ q)
    go (as-card y) = subst (λ (d : Card). FileHolds f d.table d.plan) (read_one (sym (is-card f y) ∙ e)) y

-- and writing what it holds gives its bytes again
pub held-again : (f : List ℕ) {t p : List ℕ} → Bytes f → FileHolds f t p → (room after : List ℕ) (a : Answer) → WritesFile t p room after a
    → length f ≤ length room → (a ≡ answered (length f) (length f / 512)) × (after ≡ f ++ drop (length f) room)
held-again f {t} {p} by h room after a w l =
    let again = back-again f (card t p) by (is-card f h) in
    let v = w h.width h.rows h.tree h.accepted h.written in
    let e : length (file_of t p) ≡ length f = ap length again in
    let l' : length (file_of t p) ≤ length room = omega (arith, e) in
    let bl : needed (length (stream t p)) ≡ length f / 512 = (let z = v.bytes in omega (arith, e, z)) in (
      v.told.1 l' ∙ ap (λ (j : ℕ). answered j (needed (length (stream t p)))) e ∙ ap (answered (length f)) bl,
      v.wrote l' ∙ ap (λ (g : List ℕ). g ++ drop (length g) room) again,
    )

pub room_small : (n : ℕ) → n ≤ most_plan_cells → cut (no_room n) ≡ no_room n
room_small n h = cut_small (no_room n) (refused-small reason.Room input.Lent n (omega arith))

-- the check's refusals are not cut
checked-whole : (t p : List ℕ) (g : Refused) → plan_of t p ≡ refuse g → cut (turned g) ≡ turned g
checked-whole t p g e = cut_small (turned g) (checked-small t p g e)

module _ {f table plan table' plan' : List ℕ} {a : Answer} (x : FileLoaded f table plan table' plan' a) where
  -- a refusal of the file, with what of its place fits
  file-why : (g h : Refused) → file_read f ≡ refuse h → cut (turned h) ≡ turned g → ReadTurned f table plan g
  file-why g h e q = go (looked f)
    where
      same : (k : Refused) → file_read f ≡ refuse k → turned g ≡ cut (turned k)
      same k r = sym q ∙ ap (λ (j : Refused). cut (turned j)) (refuse-one (sym e ∙ r))

      go : Looked f → ReadTurned f table plan g
      go (as-blocks b r) = no_blocks b (turned-one (same _ r))
      go (as-damage b r) = damage _ b (turned-one (same _ r))
      go (as-sizes b d r) = bad-sizes b d (turned-one (same _ r))
      go (as-padding k b d r) = bad-padding k b d (turned-one (same _ r))
      go (as-table k b t r) =
          let w = turned-one (same k r ∙ checked-whole _ _ k (table-first _ (says.plan_on f) t)) in says.bad-table b (t ∙ ap refuse (sym w))
      go (as-plan k b i t r) = let w = turned-one (same k r ∙ checked-whole _ _ k t) in says.bad-plan b i (t ∙ ap refuse (sym w))
      go (as-card y) = apart (sym (is-card f y) ∙ e)

  read-why : (g : Refused) → cut a ≡ turned g → ReadTurned f table plan g
  read-why g q = go x
    where
      go : FileLoaded f table plan table' plan' a → ReadTurned f table plan g
      go (not-read h e r s u) = file-why g h e (sym (ap cut r) ∙ q)
      go (files.table-short c e l r s u) =
          let w = room_small (length c.table) (let z = read-sizes f c e in omega (arith, z.0)) in
          says.table-short c.table c.plan (holds_of f e) l (turned-one (sym q ∙ ap cut r ∙ w))
      go (files.plan-short c e k l r s u) =
          let w = room_small (length c.plan) (let z = read-sizes f c e in omega (arith, z.1)) in
          says.plan-short c.table c.plan (holds_of f e) k l (turned-one (sym q ∙ ap cut r ∙ w))
      go (loaded c e k l r s u) = clash (sym (ap cut r) ∙ q)

  -- what the promise says where the file is refused
  file-gets : (h : Refused) → file_read f ≡ refuse h → cut a ≡ cut (turned h)
  file-gets h e = ap cut (loaded-fixed x (not-read h e refl refl refl)).0

  read-gets : (g : Refused) → ReadTurned f table plan g → cut a ≡ turned g
  read-gets g (no_blocks (inl e) q) = file-gets _ (tests.no_byte f e) ∙ ap turned (sym q)
  read-gets g (no_blocks (inr d) q) = file-gets _ (tests.no_blocks f d) ∙ ap turned (sym q)
  read-gets g (damage k b q) = file-gets _ (is-damaged f b) ∙ ap turned (sym q)
  read-gets g (bad-sizes b d q) = file-gets _ (is-other-sizes f b d) ∙ ap turned (sym q)
  read-gets g (bad-padding k b d q) = file-gets _ (is-not-zero f k b d) ∙ ap turned (sym q)
  read-gets g (says.bad-table b t) =
      let e = table-first (says.table_on f) (says.plan_on f) t in file-gets g (is-refused f b e) ∙ checked-whole _ _ g e
  read-gets g (says.bad-plan b i e) = file-gets g (is-refused f b e) ∙ checked-whole _ _ g e
  read-gets g (says.table-short t p y l q) =
      let e = is-card f y in
      ap cut (loaded-fixed x (files.table-short (card t p) e l refl refl refl)).0
      ∙ room_small (length t) (let z = read-sizes f (card t p) e in omega (arith, z.0)) ∙ ap turned (sym q)
  read-gets g (says.plan-short t p y k l q) =
      let e = is-card f y in
      ap cut (loaded-fixed x (files.plan-short (card t p) e k l refl refl refl)).0
      ∙ room_small (length p) (let z = read-sizes f (card t p) e in omega (arith, z.1)) ∙ ap turned (sym q)

  read_kept : (g : Refused) → cut a ≡ turned g → (table' ≡ table) × (plan' ≡ plan)
  read_kept g q = go x
    where
      go : FileLoaded f table plan table' plan' a → (table' ≡ table) × (plan' ≡ plan)
      go (not-read h e r s u) = (s, u)
      go (files.table-short c e l r s u) = (s, u)
      go (files.plan-short c e k l r s u) = (s, u)
      go (loaded c e k l r s u) = clash (sym (ap cut r) ∙ q)

  -- a bad block's place is below the number of blocks
  whole-place : (k : ℕ) → FirstBad f k → length f < 2 ^ 57 → cut a ≡ turned (refused reason.Damage input.File k)
  whole-place k b h =
      let m : k % 2 ^ 48 ≡ k = (let w = b.within in omega arith) in
      read-gets _ (damage k b (ap (refused reason.Damage input.File) (sym m)))

  read-refused : ReadRefused f table plan table' plan' (cut a)
  read-refused = record { refuses = λ g. (read-why g, read-gets g); untouched = read_kept; first-bad = whole-place }

  -- and where it is read
  record Loads (m n : ℕ) : Type 0 where
    c : Card
    reads : file_read f ≡ read c
    table-front : take m table' ≡ c.table
    plan-front : take n plan' ≡ c.plan

  loads-of : (m n : ℕ) → cut a ≡ answered m n → Loads m n
  loads-of m n q = go x
    where
      go : FileLoaded f table plan table' plan' a → Loads m n
      go (not-read h e r s u) = clash (sym q ∙ ap cut r)
      go (files.table-short c e l r s u) = clash (sym q ∙ ap cut r)
      go (files.plan-short c e k l r s u) = clash (sym q ∙ ap cut r)
      go (loaded c e k l r s u) =
          let z = answered-one (sym (ap cut r) ∙ q) in
          record {
            c = c;
            reads = e;
            table-front = ap (take m) s ∙ take_at c.table _ m z.0;
            plan-front = ap (take n) u ∙ take_at c.plan _ n z.1;
          }

  reads-file : ReadsFile f table plan table' plan' (cut a)
  reads-file = record {
    loads = λ t p y k l.
        let z = loaded-fixed x (loaded (card t p) (is-card f y) k l refl refl refl) in
        (ap cut z.0, z.1, z.2);
    only = λ m n q. (let y = loads-of m n q in rw (y.table-front, y.plan-front) (holds_of f y.reads));
  }

  read_again : Bytes f → BackAgain f table' plan' (cut a)
  read_again by m n q room after b w l =
      let y = loads-of m n q in
      held-again f by (holds_of f y.reads) room after b (rw (y.table-front, y.plan-front) at w) l

-- what was written is read back
written-again : {t p room room' : List ℕ} {a : Answer} → AreWords t → AreWords p → FileWritten t p room room' a → ThereAndBack t p room' a
written-again {t} {p} {room} {room'} {a} v w x bytes blocks q t₁ p₁ t₂ p₂ b y k l = go x
  where
    go : FileWritten t p room room' a
        → (b ≡ answered (length t) (length p)) × (t₂ ≡ t ++ drop (length t) t₁) × (p₂ ≡ p ++ drop (length p) p₁)
    go (not-accepted g e r s) = clash (sym q ∙ r)
    go (room-short n e m r s) = clash (sym q ∙ r)
    go (written n e m r s) =
        let z = answered-one (sym r ∙ q) in
        let front : take bytes room' ≡ file_of t p = ap (take bytes) s ∙ take_at (file_of t p) _ bytes z.0 in
        let y' : ReadsFile (file_of t p) t₁ p₁ t₂ p₂ b = rw front at y in
        y'.loads t p (holds_of (file_of t p) (there_and_back t p v w e)) k l

-- The file.
pub request-211-cells : (f : List ℕ) → AllSound f → BlockCells f
request-211-cells = block-cells

pub request-211-shape : (t p : List ℕ) {w : ℕ} {rows : List (List ℕ)} → AreWords t → AreWords p → IsTable t w rows → (tree : Plan w rows)
    → write tree ≡ p → Shape t p
request-211-shape t p v w i tree h =
    let e = tree-read i tree h in
    let c = written-cells t p v w (accepted-sizes t p e) in
    let n : length (stream t p) ≡ 2 + length t + length p = omega (arith, length-append t p) in
    record { holds = holds_of (file_of t p) (there_and_back t p v w e); cells = c.0; blocks = c.1 ∙ ap needed n }

-- The checks.
pub request-211-blocks : ChecksTell
request-211-blocks = record {
  read = λ f g j k s u d e. tells d (sym s.checked ∙ e ∙ u.checked);
  written = blocks-told;
}
  where
    tells : {xs ys : List ℕ} → OneWord xs ys ⊎ Exchanged xs ys → checks xs ≡ checks ys → ⊥
    tells (inl d) e = one-word-told d e
    tells (inr d) e = exchange-told d e

-- The entries.
module _ {t p room room' : List ℕ} {n : ℕ} (x : FileWriteCoded t p room room' n) where
  pub request-211-writes-refuses : WriteRefused t p room room' (decoded n)
  request-211-writes-refuses = subst (WriteRefused t p room room') (sym (written_back x)) (write-refused x.wrote)

  pub request-211-writes : WritesFile t p room room' (decoded n)
  request-211-writes = subst (WritesFile t p room room') (sym (written_back x)) (writes-file x.wrote)

  pub request-211-there : AreWords t → AreWords p → ThereAndBack t p room' (decoded n)
  request-211-there v w = subst (ThereAndBack t p room') (sym (written_back x)) (written-again v w x.wrote)

module _ {f table plan table' plan' : List ℕ} {n : ℕ} (x : FileReadCoded f table plan table' plan' n) where
  pub request-211-reads-refuses : ReadRefused f table plan table' plan' (decoded n)
  request-211-reads-refuses = subst (ReadRefused f table plan table' plan') (sym (loaded-back x)) (read-refused x.loaded)

  pub request-211-reads : ReadsFile f table plan table' plan' (decoded n)
  request-211-reads = subst (ReadsFile f table plan table' plan') (sym (loaded-back x)) (reads-file x.loaded)

  pub request-211-back : Bytes f → BackAgain f table' plan' (decoded n)
  request-211-back by = subst (BackAgain f table' plan') (sym (loaded-back x)) (read_again x.loaded by)

-- the entries' own results, one after the other: what one wrote the other reads, and what one read the other writes
pub request-211-there-and-back : {t p room room' t₁ p₁ t₂ p₂ : List ℕ} {m n bytes blocks : ℕ} → AreWords t → AreWords p
    → FileWriteCoded t p room room' n → decoded n ≡ answered bytes blocks → FileReadCoded (take bytes room') t₁ p₁ t₂ p₂ m
    → length t ≤ length t₁ → length p ≤ length p₁
    → (decoded m ≡ answered (length t) (length p)) × (t₂ ≡ t ++ drop (length t) t₁) × (p₂ ≡ p ++ drop (length p) p₁)
request-211-there-and-back {t₁ = t₁} {p₁ = p₁} {t₂ = t₂} {p₂ = p₂} {m = m} {bytes = bytes} {blocks = blocks} v w x e y =
    request-211-there x v w bytes blocks e t₁ p₁ t₂ p₂ (decoded m) (request-211-reads y)

pub request-211-back-again : {f t₁ p₁ t₂ p₂ room room' : List ℕ} {m n k l : ℕ} → Bytes f → FileReadCoded f t₁ p₁ t₂ p₂ m
    → decoded m ≡ answered k l → FileWriteCoded (take k t₂) (take l p₂) room room' n → length f ≤ length room
    → (decoded n ≡ answered (length f) (length f / 512)) × (room' ≡ f ++ drop (length f) room)
request-211-back-again {room = room} {room' = room'} {n = n} {k = k} {l = l} by x e y =
    request-211-back x by k l e room room' (decoded n) (request-211-writes y)

-- cells and bytes that are lent have their widths
pub words_of : (xs : List ℕ) → ((k : ℕ) → get_or xs k 0 < 2 ^ 32) → AreWords xs
words_of [] h = tt
words_of (x ∷ xs) h = (h 0, words_of xs (λ k. h (suc k)))

pub bytes_of : (xs : List ℕ) → ((k : ℕ) → get_or xs k 0 < 256) → Bytes xs
bytes_of [] h = tt
bytes_of (x ∷ xs) h = (h 0, bytes_of xs (λ k. h (suc k)))
