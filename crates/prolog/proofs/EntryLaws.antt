-- The entry's answers, law by law.
use Prim.Native.Nat.{ℕ, ◌+◌, ◌≤◌, ◌<◌}
use mathlib.Core.Path.{◌≡◌, refl, sym, ap, ap₂, subst, ◌∙◌}
use mathlib.Core.Bool.{Bool, true, false, cond}
use mathlib.Core.List.{List}
use native.Mathlib.Omega.{arith}
use lib.Dec.{ltb}
use lib.ListN.{length, take, drop, length-append, length-map}
use lib.Seq.{length-take-le, take-append_seam}
use borrow.Author.Tests.{lt-ltb, le-ltb, ltb-true, ltb-false}
use Rattle.refusal.specs.Refusal.{Refused, refused, told, Answer, answered, turned}
use Rattle.refusal.specs.Read.{Read, read, refuse}
use Rattle.refusal.specs.declared.Refusal.{Refusal}
use Rattle.refusal.specs.declared.Reason.TheVariants as reason
use Rattle.refusal.specs.declared.Input.TheVariants as input
use Rattle.table.specs.Table.{Table, table_of, table_says, read_told}
use Rattle.table.specs.declared.TableRead.{TableRead}
use Rattle.grammar.specs.Grammar.{Fact}
use Rattle.grammar.specs.Meaning.{names_of, table_cells, entry_of, name_list}
use Rattle.grammar.specs.Taken.{Taken}
use Rattle.loading.specs.Load.{Loaded, loaded, Loads, not_taken, no_cells, no_names, no_table, loads, TextLoads, load_says, cells_after, names_after, put_first}
use Rattle.scan.specs.Scan.{Counts}
use Rattle.scan.specs.declared.Counted.{Counted}
use Rattle.texttable.specs.Words.{with_names, WordsAre, NamesAre}
use Rattle.texttable.specs.Words as words
use Rattle.texttable.specs.declared.NamesRead.{NamesRead}
use Rattle.texttable.specs.declared.TextWords.{TextWords}
use Rattle.texttable.specs.declared.NamesRead.TheVariants as names-read
use Rattle.prolog.specs.Entry.{text_told, sizes, FactsAre, are-made}
use Rattle.prolog.specs.Entry as entry
pub use Rattle.texttable.proofs.TableLaws.{cells-long}
use Rattle.prolog.specs.code.Parts.{over_of, given, Gives}
use Rattle.prolog.specs.declared.FactsMade.TheVariants as made_as
use Rattle.prolog.specs.declared.TextSize.{TextSize}
use Rattle.std.specs.Prelude.{Result, Ok, Err}
use Rattle.limits.specs.Limits.{most_names, most_table_cells}

-- A REFUSAL WRITES NOTHING
turned-away : {t cells names : List ℕ} {a : Answer} {f : Refused} → a ≡ turned f → Loads t (length cells) (length names) (refuse f)
    → TextLoads t cells names cells names a
turned-away {f = f} e l = record { says = refuse f; rule = l; told = e; wrote = refl; listed = refl }

pub turned-loads : (t cells names : List ℕ) (f : Refusal) → Taken t (refuse (told f)) → TextLoads t cells names cells names (turned (told f))
turned-loads t cells names f x = turned-away refl (not_taken x)

-- SIZES
pub names-long : (t : List ℕ) (facts : List Fact) → length (name_list t facts) ≡ length (names_of t facts)
unfolding name_list
names-long t facts = length-map (names_of t facts) entry_of

-- ROOM OF THE CELLS, ROOM OF THE LIST, LENGTH
long-table : (xs : List ℕ) → most_table_cells < length xs → table_of xs ≡ refuse (refused reason.Length input.Table 0)
unfolding table_of
long-table xs h = rw (le-ltb (length xs) 2 (omega arith), lt-ltb most_table_cells (length xs) h)

module _ (t cells names : List ℕ) (c : Counted) (C : Counts t c) where
  needs : c.symbols + 2 ≡ length (table_cells t C.facts)
  needs = omega (arith, cells-long t C.facts, C.symbols)

  pub no-room-cells : {a : Answer} → a ≡ turned (refused reason.Room input.Lent (c.symbols + 2)) → length cells < c.symbols + 2
      → TextLoads t cells names cells names a
  no-room-cells e h =
      turned-away (e ∙ ap (λ (n : ℕ). turned (refused reason.Room input.Lent n)) needs) (no_cells C.taken (omega (arith, needs)))

  pub no-room-names : {a : Answer} (n : ℕ) → a ≡ turned (refused reason.Room input.Lent n) → n ≡ length (name_list t C.facts)
      → c.symbols + 2 ≤ length cells → length names < n
      → TextLoads t cells names cells names a
  no-room-names n e q l h =
      turned-away (e ∙ ap (λ (i : ℕ). turned (refused reason.Room input.Lent i)) q) (no_names C.taken (omega (arith, needs)) (omega (arith, q)))

  -- over 2,048 symbols
  pub over-loads : {a : Answer} (n : ℕ) → a ≡ over_of n (length names) → n ≡ length (name_list t C.facts) → most_names < c.symbols
      → c.symbols + 2 ≤ length cells
      → TextLoads t cells names cells names a
  over-loads {a} n e q h l = by (ltb (length names) n) refl e
    where
      by : (b : Bool) → ltb (length names) n ≡ b → a ≡ turned (cond b (refused reason.Room input.Lent n) (refused reason.Length input.Table 0))
          → TextLoads t cells names cells names a
      by true k f = no-room-names n f q l (ltb-true (length names) n k)
      by false k f =
          turned-away f
          (no_table C.taken (omega (arith, needs)) (omega (arith, q, ltb-false (length names) n k))
          (long-table (table_cells t C.facts) (omega (arith, needs))))

-- GIVEN
gives-loads : (t made list cells names cells' names' : List ℕ) (r : Result TextSize Refusal) (facts : List Fact) → Taken t (read facts)
    → made ≡ table_cells t facts → list ≡ name_list t facts
    → length made ≤ length cells → length list ≤ length names → Gives made list cells names cells' names' r
    → TextLoads t cells names cells' names' (text_told r)
gives-loads t made list cells names cells' names' r facts x e f h k G = by (table_of made) refl G.told G.wrote G.listed
  where
    by : (o : Read Table) → table_of made ≡ o → text_told r ≡ load_says (given made list o) → cells' ≡ cells_after (given made list o) cells
        → names' ≡ names_after (given made list o) names
        → TextLoads t cells names cells' names' (text_told r)
    by (read T) q a b d =
        let s : Read Loaded = read (loaded t facts) in
        let g : given made list (read T) ≡ s = ap₂ (λ (u v : List ℕ). read (record { cells = u; names = v })) e f in
        record {
          says = s;
          rule = loads x (omega (arith, ap length e)) (omega (arith, ap length f)) (ap table_of (sym e) ∙ q);
          told = a ∙ ap load_says g;
          wrote = b ∙ ap (λ (o : Read Loaded). cells_after o cells) g;
          listed = d ∙ ap (λ (o : Read Loaded). names_after o names) g;
        }
    by (refuse y) q a b d =
        record {
          says = refuse y;
          rule = no_table x (omega (arith, ap length e)) (omega (arith, ap length f)) (ap table_of (sym e) ∙ q);
          told = a;
          wrote = b;
          listed = d;
        }

-- what the table's reader answered
pub table-accepted : (made list cells names cells' names' : List ℕ) (r : TableRead) → read_told (Ok r) ≡ table_says (table_of made)
    → cells' ≡ put_first made cells → names' ≡ put_first list names → Gives made list cells names cells' names' (Ok (sizes (length made) (length list)))
table-accepted made list cells names cells' names' r e b d = by (table_of made) refl e
  where
    by : (o : Read Table) → table_of made ≡ o → answered r.width r.rows ≡ table_says o
        → Gives made list cells names cells' names' (Ok (sizes (length made) (length list)))
    by (read T) z y =
        let g = ap (given made list) z in
        record {
          told = ap load_says (sym g);
          wrote = b ∙ ap (λ (o : Read Loaded). cells_after o cells) (sym g);
          listed = d ∙ ap (λ (o : Read Loaded). names_after o names) (sym g);
        }
    by (refuse f) z y = absurd (let u : ◌≡◌ {A = ℕ} 0 1 = cc in omega arith)

pub table-refused : (made list cells names : List ℕ) (f : Refusal) → turned (told f) ≡ table_says (table_of made)
    → Gives made list cells names cells names (Err f)
table-refused made list cells names f e = by (table_of made) refl e
  where
    by : (o : Read Table) → table_of made ≡ o → turned (told f) ≡ table_says o → Gives made list cells names cells names (Err f)
    by (read T) z y = absurd (let u : ◌≡◌ {A = ℕ} 0 1 = cc in omega arith)
    by (refuse g) z y =
        let p = ap (given made list) z in
        record {
          told = y ∙ ap load_says (sym p);
          wrote = ap (λ (o : Read Loaded). cells_after o cells) (sym p);
          listed = ap (λ (o : Read Loaded). names_after o names) (sym p);
        }

-- WHAT IS SAID OF THE WORDS
pub record Listed (t : List ℕ) (room : ℕ) (c : Counted) (list made list' made' : List ℕ) (n : ℕ) : Type 0 where
  pub counts : Counts t c
  pub room' : c.symbols + 2 ≤ room
  pub few : c.symbols ≤ most_names
  pub count : n ≡ length (name_list t counts.facts)
  pub names : list' ≡ put_first (name_list t counts.facts) list
  pub wrote : made' ≡ put_first (table_cells t counts.facts) made

module _ {t list made : List ℕ} {room : ℕ} where
  -- the answer is one of its kinds
  pub words-of : {list' made' : List ℕ} {r k : Result TextWords Refusal} → WordsAre t room list made list' made' r → r ≡ k
      → WordsAre t room list made list' made' k
  words-of {list'} {made'} w e = subst (λ (k : Result TextWords Refusal). WordsAre t room list made list' made' k) e w

  -- and so is what is known of the names
  pub words-known : {list' made' : List ℕ} {c : Counted} {known k : NamesRead} → WordsAre t room list made list' made' (Ok (with_names c known))
      → known ≡ k → WordsAre t room list made list' made' (Ok (with_names c k))
  words-known {list'} {made'} {c} w e = subst (λ (k : NamesRead). WordsAre t room list made list' made' (Ok (with_names c k))) e w

  pub listed-are : {list' made' : List ℕ} {c : Counted} {n : ℕ} → WordsAre t room list made list' made' (Ok (with_names c (names-read.Listed n)))
      → Listed t room c list made list' made' n
  listed-are (words.facts C x) = by C x
    where
      by : {c : Counted} (C : Counts t c) {list' made' : List ℕ} {n : ℕ} → NamesAre t C.facts room list made list' made' (names-read.Listed n)
          → Listed t room c list made list' made' n
      by C (words.few h k) =
          record { counts = C; room' = omega (arith, C.symbols); few = omega (arith, C.symbols); count = refl; names = refl; wrote = refl }

  pub counted-are : {list' made' : List ℕ} {c : Counted} {n : ℕ}
      → WordsAre t room list made list' made' (Ok (with_names c (names-read.Counted n)))
      → (C : Counts t c) × ((c.symbols + 2 ≤ room) × (most_names < c.symbols) × (n ≡ length (name_list t C.facts)))
  counted-are (words.facts C x) = by C x
    where
      by : {c : Counted} (C : Counts t c) {list' made' : List ℕ} {n : ℕ} → NamesAre t C.facts room list made list' made' (names-read.Counted n)
          → (C : Counts t c) × ((c.symbols + 2 ≤ room) × (most_names < c.symbols) × (n ≡ length (name_list t C.facts)))
      by C (words.many h k) = (C, (omega (arith, C.symbols), omega (arith, C.symbols), refl))

  pub passed-are : {list' made' : List ℕ} {c : Counted} → WordsAre t room list made list' made' (Ok (with_names c names-read.Passed))
      → Counts t c × (room < c.symbols + 2)
  passed-are (words.facts C x) = by C x
    where
      by : {c : Counted} (C : Counts t c) {list' made' : List ℕ} → NamesAre t C.facts room list made list' made' names-read.Passed
          → Counts t c × (room < c.symbols + 2)
      by C (words.no_room h) = (C, omega (arith, C.symbols))

  pub turned-are : {list' made' : List ℕ} (f : Refusal) → WordsAre t room list made list' made' (Err f)
      → Taken t (refuse (told f))
  turned-are f (words.refused x) = x

-- the list and the cells are there
module _ {t list made list' made' : List ℕ} {room n : ℕ} {c : Counted} (L : Listed t room c list made list' made' n) where
  pub names-within : n ≤ length list'
  names-within =
      let ns = name_list t L.counts.facts in
      omega (arith, L.count, ap length L.names, length-append ns (drop (length ns) list))

  pub names-are : take n list' ≡ name_list t L.counts.facts
  names-are =
      let ns = name_list t L.counts.facts in
      ap₂ take L.count L.names ∙ take-append_seam ns (drop (length ns) list)

  cells_count : c.symbols + 2 ≡ length (table_cells t L.counts.facts)
  cells_count = omega (arith, cells-long t L.counts.facts, L.counts.symbols)

  pub cells-within : c.symbols + 2 ≤ length made'
  cells-within =
      let cs = table_cells t L.counts.facts in
      omega (arith, cells_count, ap length L.wrote, length-append cs (drop (length cs) made))

  pub cells_are : take (c.symbols + 2) made' ≡ table_cells t L.counts.facts
  cells_are =
      let cs = table_cells t L.counts.facts in
      ap₂ take cells_count L.wrote ∙ take-append_seam cs (drop (length cs) made)

  pub cells_fit : length (take (c.symbols + 2) made') ≤ room
  cells_fit = omega (arith, length-take-le (c.symbols + 2) made' cells-within, L.room')

  pub names-fit : {r : ℕ} → n ≤ r → length (take n list') ≤ r
  names-fit h = omega (arith, h, length-take-le n list' names-within)

pub listed-loads : {t list made list' made' : List ℕ} {n : ℕ} {c : Counted} (cells names cells' names' : List ℕ) (r : Result TextSize Refusal)
    → Listed t (length cells) c list made list' made' n → n ≤ length names
    → Gives (take (c.symbols + 2) made') (take n list') cells names cells' names' r → TextLoads t cells names cells' names' (text_told r)
listed-loads {t} {list' = list'} {made' = made'} {n = n} {c = c} cells names cells' names' r L h G =
    gives-loads t (take (c.symbols + 2) made') (take n list') cells names cells' names' r L.counts.facts L.counts.taken (cells_are L)
    (names-are L) (cells_fit L) (names-fit L h) G

-- made, and read as no table
module _ {t made list : List ℕ} where
  pub facts-made : {list' made' : List ℕ} {c : Counted} {n : ℕ} (L : Listed t most_table_cells c list made list' made' n)
      → FactsAre t made list made' list' (Ok (made_as.Made c (sizes (c.symbols + 2) n)))
  facts-made L = rw (cells_count L, L.wrote, L.names, L.count) (are-made L.counts L.few)

  pub facts-many : {list' made' : List ℕ} {c : Counted} {n : ℕ}
      → WordsAre t most_table_cells list made list' made' (Ok (with_names c (names-read.Counted n)))
      → FactsAre t made list made' list' (Ok (made_as.Long c))
  facts-many (words.facts C x) = by C x
    where
      by : {c : Counted} (C : Counts t c) {list' made' : List ℕ} {n : ℕ}
          → NamesAre t C.facts most_table_cells list made list' made' (names-read.Counted n)
          → FactsAre t made list made' list' (Ok (made_as.Long c))
      by C (words.many h k) = entry.too_long C (omega (arith, C.symbols))

  pub facts-passed : {list' made' : List ℕ} {c : Counted} → WordsAre t most_table_cells list made list' made' (Ok (with_names c names-read.Passed))
      → FactsAre t made list made' list' (Ok (made_as.Long c))
  facts-passed (words.facts C x) = by C x
    where
      by : {c : Counted} (C : Counts t c) {list' made' : List ℕ} → NamesAre t C.facts most_table_cells list made list' made' names-read.Passed
          → FactsAre t made list made' list' (Ok (made_as.Long c))
      by C (words.no_room h) = entry.too_long C (omega (arith, C.symbols))

  pub facts-turned : {list' made' : List ℕ} {f : Refusal} → WordsAre t most_table_cells list made list' made' (Err f)
      → FactsAre t made list made' list' (Err f)
  facts-turned (words.refused x) = entry.not_taken x
