-- The three tests together say whether the names are listed.
use Prim.Native.Nat.{ℕ, zero, suc, ◌+◌, ◌/◌, ◌%◌, ◌≤◌, ◌<◌}
use mathlib.Core.Path.{◌≡◌, refl, sym, ◌∙◌, ap, subst}
use mathlib.Core.Logic.{⊎_elim}
use mathlib.Core.Bool.{Bool, true, false, true≢false}
use mathlib.Core.List.Memᴰ
use mathlib.Core.List.{List, [], ◌∷◌, flatten, Memᴰ}
use native.Mathlib.Omega.{arith}
use native.Mathlib.Decide.{dec_lt}
use lib.ListN.{length, get_or, drop}
use Rattle.cell.specs.Cell.{kind_of, number_of}
use Rattle.refusal.specs.Read.{read}
use Rattle.table.specs.All.{All}
use Rattle.table.proofs.AllLaws.{all-++, all-front, all_back}
use Rattle.table.specs.Table.{Table, table_of}
use Rattle.table.proofs.Accepted.{is-table}
use Rattle.grammar.specs.Numbering.{Nth, here, later}
use Rattle.termtext.specs.Saying.{word_in, words_in}
use Rattle.clauses.specs.Handed.{Listed}
use Rattle.naming.specs.Says.{Says}
use Rattle.naming.specs.code.Names.{Entry, Entries, Known, AllKnown, ApartTo}

nth-all : (P : ℕ → Type 0) (xs : List ℕ) {k n : ℕ} → All P xs → Nth xs k n → P n
nth-all P (x ∷ xs) a here = a.0
nth-all P (x ∷ xs) a (later h) = nth-all P xs a.1 h
nth-all P [] {k = k} {n = n} a x'' = elim x'' [ ]

all-nth : (P : ℕ → Type 0) (xs : List ℕ) → ((k n : ℕ) → Nth xs k n → P n) → All P xs
all-nth P [] h = tt
all-nth P (x ∷ xs) h = (h 0 x here, all-nth P xs (λ k n i. h (suc k) n (later i)))

word-nth : (text names : List ℕ) (k : ℕ) → k < length names → Nth (words_in text names) k (word_in text (get_or names k 0))
word-nth text [] k h = absurd (omega arith)
word-nth text (n ∷ names) zero h = here
word-nth text (n ∷ names) (suc k) h = later (word-nth text names k (omega arith))

nth-word : (text names : List ℕ) {k : ℕ} {w : List ℕ} → Nth (words_in text names) k w
    → (w ≡ word_in text (get_or names k 0)) × (k < length names)
nth-word text (n ∷ names) here = (refl, omega arith)
nth-word text (n ∷ names) (later h) = let z = nth-word text names h in (z.0, omega (arith, z.1))
nth-word text [] {k = k} {w = w} x' = elim x' [ ]

module _ (text names : List ℕ) where
  entries-places : Entries text names → (k n : ℕ) → Nth names k n
      → (n % 65536 + n / 65536 ≤ length text) × Rattle.lex.specs.Names.IsName (word_in text n)
  entries-places e k n h = nth-all (Entry text) names e h

  one-before : ApartTo text names (length names) → (j k : ℕ) (w : List ℕ) → j < k → Nth (words_in text names) j w
      → Nth (words_in text names) k w → ⊥
  one-before a j k w l x y =
      let p = nth-word text names x in
      let q = nth-word text names y in
      (a.each k q.1).apart j l (sym p.0 ∙ q.0)

  apart_words : ApartTo text names (length names) → (j k : ℕ) (w : List ℕ) → Nth (words_in text names) j w → Nth (words_in text names) k w
      → j ≡ k
  apart_words a j k w x y = go (dec_lt j k) (dec_lt k j)
    where
      go : Dec (j < k) → Dec (k < j) → j ≡ k
      go (yes l) m = absurd (one-before a j k w l x y)
      go (no l) (yes m) = absurd (one-before a k j w m y x)
      go (no l) (no m) = omega arith

  words-apart : ((j k : ℕ) (w : List ℕ) → Nth (words_in text names) j w → Nth (words_in text names) k w → j ≡ k)
      → ApartTo text names (length names)
  words-apart h = record {
    each = λ k l. record {
      apart = λ j m e. (let x = word-nth text names j (omega arith) in
          let z = h j k (word_in text (get_or names k 0)) (subst (Nth (words_in text names) j) e x) (word-nth text names k l) in
          let y : ⊥ = omega arith in
          y);
    };
  }

  abbrev RowKnown : List ℕ → Type 0
  RowKnown row = (c : ℕ) → Memᴰ c row → kind_of c ≡ 1 → number_of c < length names

  row-known : (row : List ℕ) → AllKnown (length names) row → RowKnown row
  row-known [] a c m = absurd (Memᴰ.not-nil m)
  row-known (x ∷ row) a c m = ⊎_elim (λ e. rw e a.0) (λ q. row-known row a.1 c q) (Memᴰ.cases_cons m)

  known-row : (row : List ℕ) → RowKnown row → AllKnown (length names) row
  known-row [] h = tt
  known-row (x ∷ row) h = (h x (Memᴰ.head refl), known-row row (λ c m. h c (Memᴰ.tail m)))

  rows-known : (rows : List (List ℕ)) → AllKnown (length names) (flatten rows) → All RowKnown rows
  unfolding flatten
  rows-known [] a = tt
  rows-known (r ∷ rows) a =
      (row-known r (all-front (Known (length names)) r (flatten rows) a), rows-known rows (all_back (Known (length names)) r (flatten rows) a))

  known-rows : (rows : List (List ℕ)) → All RowKnown rows → AllKnown (length names) (flatten rows)
  unfolding flatten
  known-rows [] a = tt
  known-rows (r ∷ rows) a = all-++ (Known (length names)) r (flatten rows) (known-row r a.0) (known-rows rows a.1)

  pub listed-last : (cells : List ℕ) (b : Bool) → Entries text names → ApartTo text names (length names)
      → Says (AllKnown (length names) cells) b → Says (Listed text names (cells ∷ [])) b
  listed-last cells true e a k = record { places = entries-places e; apart = apart_words a; known = (row-known cells k, tt) }
  listed-last cells false e a k = λ l. k (known-row cells l.known.0)

  -- of an accepted table these are the names of its rows
  pub listed-rows : (t : List ℕ) {T : Table} (b : Bool) → table_of t ≡ read T → Says (Listed text names (drop 2 t ∷ [])) b
      → Says (Listed text names T.rows) b
  listed-rows t {T} true r l =
      let cells : drop 2 t ≡ flatten T.rows = ap (drop 2) (is-table t r).cells in
      record { places = l.places; apart = l.apart; known = rows-known T.rows (rw cells at (known-row (drop 2 t) l.known.0)) }
  listed-rows t {T} false r n =
      let cells : drop 2 t ≡ flatten T.rows = ap (drop 2) (is-table t r).cells in
      λ l. n (record { places = l.places; apart = l.apart; known = (row-known (drop 2 t) (rw cells (known-rows T.rows l.known)), tt) })

  pub unlisted-entry : (b : Bool) {rows : List (List ℕ)} → Says (Entries text names) b → b ≡ false → Listed text names rows → ⊥
  unlisted-entry true s e l = true≢false e
  unlisted-entry false s e l = s (all-nth (Entry text) names l.places)

  pub unlisted-twice : (b : Bool) {rows : List (List ℕ)} → Says (ApartTo text names (length names)) b → b ≡ false
      → Listed text names rows → ⊥
  unlisted-twice true s e l = true≢false e
  unlisted-twice false s e l = s (words-apart l.apart)

  pub says-yes : (P : Type 0) (b : Bool) → Says P b → b ≡ true → P
  says-yes P true s e = s
  says-yes P false s e = absurd (true≢false (sym e))
