-- The names are listed, or one of the three that NAMES is given for holds.
use Prim.Native.Nat.{ℕ, suc, ◌+◌, ◌/◌, ◌%◌, ◌≤◌, ◌<◌}
use mathlib.Core.Path.{◌≡◌, refl, sym, ap, subst}
use mathlib.Core.Logic.{◌↔◌, ◌⊎◌, inl, inr, ⊎_elim}
use mathlib.Core.Bool.{Bool, true, false}
use mathlib.Core.List.Memᴰ
use mathlib.Core.List.{List, [], ◌∷◌, Memᴰ}
use native.Mathlib.Decide.{dec_le, dec_lt}
use native.Mathlib.Omega.{arith}
use lib.Dec.{eqb}
use lib.ListN.{length}
use borrow.Author.Tests.{eqb-true, eqb-false}
use Rattle.cell.specs.Cell.{kind_of, number_of}
use Rattle.cell.specs.Same.{same}
use Rattle.cell.proofs.SameLaws.{same_refl, same-eq}
use Rattle.table.specs.All.{All}
use Rattle.table.proofs.ReadLaws.{not-both}
use Rattle.grammar.specs.Grammar.{is_lower, is_word}
use Rattle.grammar.specs.Numbering.{Words, Nth, here, later}
use Rattle.grammar.proofs.NthLaws.{nth-below}
use Rattle.lex.specs.Names.{IsName}
use Rattle.lex.proofs.NameLaws.{no_bytes, no_lower}
use Rattle.termtext.specs.Saying.{word_in, words_in}
use Rattle.termtext.proofs.SpellLaws.{Going, Lower, lower, name-lower, lower-name}
use Rattle.clauses.specs.Handed.{Listed}
use Rattle.clauses.specs.Unlisted.{Unlisted, no_name, the_same, no_number}

-- A NAME, or none
going : (xs : List ℕ) → Going xs ⊎ (Going xs → ⊥)
going [] = inl tt
going (b ∷ xs) = by (is_word b) refl (going xs)
  where
    by : (x : Bool) → is_word b ≡ x → Going xs ⊎ (Going xs → ⊥) → Going (b ∷ xs) ⊎ (Going (b ∷ xs) → ⊥)
    by true e (inl g) = inl (e, g)
    by true e (inr n) = inr (λ g. n g.1)
    by false e s = inr (λ g. not-both g.0 e)

name-or : (w : List ℕ) → IsName w ⊎ (IsName w → ⊥)
name-or [] = inr (no_bytes [] refl)
name-or (b ∷ xs) = by (is_lower b) refl (going xs)
  where
    after : Lower (b ∷ xs) → Going xs
    after (lower e g) = g

    by : (x : Bool) → is_lower b ≡ x → Going xs ⊎ (Going xs → ⊥) → IsName (b ∷ xs) ⊎ (IsName (b ∷ xs) → ⊥)
    by true e (inl g) = inl (lower-name (lower e g))
    by true e (inr n) = inr (λ m. n (after (name-lower m)))
    by false e s = inr (no_lower (b ∷ xs) e)

abbrev Place : List ℕ → ℕ → Type 0
Place text n = (n % 65536 + n / 65536 ≤ length text) × IsName (word_in text n)

place-or : (text : List ℕ) (n : ℕ) → Place text n ⊎ (Place text n → ⊥)
place-or text n = by (dec_le (n % 65536 + n / 65536) (length text)) (name-or (word_in text n))
  where
    by : Dec (n % 65536 + n / 65536 ≤ length text) → IsName (word_in text n) ⊎ (IsName (word_in text n) → ⊥)
        → Place text n ⊎ (Place text n → ⊥)
    by (yes l) (inl m) = inl (l, m)
    by (yes l) (inr m) = inr (λ p. m p.1)
    by (no l) s = inr (λ p. l p.0)

places-or : (text names : List ℕ) → ((k n : ℕ) → Nth names k n → Place text n)
    ⊎ ((k : ℕ) × (n : ℕ) × Nth names k n × (Place text n → ⊥))
places-or text [] = inl (λ k n h. absurd (omega (arith, nth-below h)))
places-or text (x ∷ names) = by (place-or text x) (places-or text names)
  where
    each : Place text x → ((k n : ℕ) → Nth names k n → Place text n) → (k n : ℕ) → Nth (x ∷ names) k n → Place text n
    each p h k n here = p
    each p h (suc k) n (later m) = h k n m

    by : Place text x ⊎ (Place text x → ⊥)
        → ((k n : ℕ) → Nth names k n → Place text n) ⊎ ((k : ℕ) × (n : ℕ) × Nth names k n × (Place text n → ⊥))
        → ((k n : ℕ) → Nth (x ∷ names) k n → Place text n) ⊎ ((k : ℕ) × (n : ℕ) × Nth (x ∷ names) k n × (Place text n → ⊥))
    by (inl p) (inl h) = inl (each p h)
    by (inl p) (inr e) = inr (suc e.0, e.1, later e.2, e.3)
    by (inr q) s = inr (0, x, here, q)

-- TWO THE SAME, or none
find : (w : List ℕ) (ws : Words) → ((k : ℕ) × Nth ws k w) ⊎ ((k : ℕ) → Nth ws k w → ⊥)
find w [] = inr (λ k h. omega (arith, nth-below h))
find w (x ∷ ws) = by (same w x) refl (find w ws)
  where
    none : (v : List ℕ) → same v x ≡ false → ((k : ℕ) → Nth ws k v → ⊥) → (k : ℕ) → Nth (x ∷ ws) k v → ⊥
    none v e n k here = not-both (same_refl x) e
    none v e n (suc k) (later h) = n k h

    by : (b : Bool) → same w x ≡ b → ((k : ℕ) × Nth ws k w) ⊎ ((k : ℕ) → Nth ws k w → ⊥)
        → ((k : ℕ) × Nth (x ∷ ws) k w) ⊎ ((k : ℕ) → Nth (x ∷ ws) k w → ⊥)
    by true e s = inl (0, subst (λ (v : List ℕ). Nth (v ∷ ws) 0 w) (same-eq w x e) here)
    by false e (inl f) = inl (suc f.0, later f.1)
    by false e (inr n) = inr (none w e n)

abbrev Apart : Words → Type 0
Apart ws = (j k : ℕ) (w : List ℕ) → Nth ws j w → Nth ws k w → j ≡ k

abbrev Twice : Words → Type 0
Twice ws = (j : ℕ) × (k : ℕ) × (w : List ℕ) × Nth ws j w × Nth ws k w × (j < k)

apart-or : (ws : Words) → Apart ws ⊎ Twice ws
apart-or [] = inl (λ j k w h g. absurd (omega (arith, nth-below h)))
apart-or (x ∷ ws) = by (find x ws) (apart-or ws)
  where
    each : ((k : ℕ) → Nth ws k x → ⊥) → Apart ws → (j k : ℕ) (w v : List ℕ) → w ≡ v → Nth (x ∷ ws) j w → Nth (x ∷ ws) k v → j ≡ k
    each n h j k w v e here here = refl
    each n h j (suc k) w v e here (later g) = absurd (n k (subst (λ (u : List ℕ). Nth ws k u) (sym e) g))
    each n h (suc j) k w v e (later f) here = absurd (n j (subst (λ (u : List ℕ). Nth ws j u) e f))
    each n h (suc j) (suc k) w v e (later f) (later g) = ap suc (h j k w f (subst (λ (u : List ℕ). Nth ws k u) (sym e) g))

    by : ((k : ℕ) × Nth ws k x) ⊎ ((k : ℕ) → Nth ws k x → ⊥) → Apart ws ⊎ Twice ws → Apart (x ∷ ws) ⊎ Twice (x ∷ ws)
    by (inl f) s = inr (0, suc f.0, x, here, later f.1, omega arith)
    by (inr n) (inl h) = inl (λ j k w f g. each n h j k w w refl f g)
    by (inr n) (inr e) = inr (suc e.0, suc e.1, e.2, later e.3, later e.4, omega (arith, e.5))

-- A NUMBER NOT LISTED, or none
abbrev Known : ℕ → List ℕ → Type 0
Known m row = (c : ℕ) → Memᴰ c row → kind_of c ≡ 1 → number_of c < m

abbrev Beyond : ℕ → List ℕ → Type 0
Beyond m row = (c : ℕ) × Memᴰ c row × (kind_of c ≡ 1) × (m ≤ number_of c)

row-or : (m : ℕ) (row : List ℕ) → Known m row ⊎ Beyond m row
row-or m [] = inl (λ c h. absurd (Memᴰ.not-nil h))
row-or m (x ∷ row) = by (eqb (kind_of x) 1) refl (dec_lt (number_of x) m) (row-or m row)
  where
    each : (kind_of x ≡ 1 → number_of x < m) → Known m row → Known m (x ∷ row)
    each p h c n e =
        ⊎_elim (λ z. subst (λ (y : ℕ). number_of y < m) (sym z) (p (subst (λ (y : ℕ). kind_of y ≡ 1) z e))) (λ q. h c q e) (Memᴰ.cases_cons n)

    by : (b : Bool) → eqb (kind_of x) 1 ≡ b → Dec (number_of x < m) → Known m row ⊎ Beyond m row → Known m (x ∷ row) ⊎ Beyond m (x ∷ row)
    by true e (no l) s = inr (x, Memᴰ.head refl, eqb-true (kind_of x) 1 e, omega arith)
    by true e (yes l) (inl h) = inl (each (λ z. l) h)
    by true e (yes l) (inr f) = inr (f.0, Memᴰ.tail f.1, f.2, f.3)
    by false e l (inl h) = inl (each (λ z. absurd (eqb-false (kind_of x) 1 e z)) h)
    by false e l (inr f) = inr (f.0, Memᴰ.tail f.1, f.2, f.3)

rows-or : (m : ℕ) (rows : List (List ℕ)) → All (Known m) rows ⊎ ((row : List ℕ) × Memᴰ row rows × Beyond m row)
rows-or m [] = inl tt
rows-or m (r ∷ rows) = by (row-or m r) (rows-or m rows)
  where
    by : Known m r ⊎ Beyond m r → All (Known m) rows ⊎ ((row : List ℕ) × Memᴰ row rows × Beyond m row)
        → All (Known m) (r ∷ rows) ⊎ ((row : List ℕ) × Memᴰ row (r ∷ rows) × Beyond m row)
    by (inl k) (inl h) = inl (k, h)
    by (inl k) (inr e) = inr (e.0, Memᴰ.tail e.1, e.2)
    by (inr b) s = inr (r, Memᴰ.head refl, b)

known_at : {m : ℕ} {row : List ℕ} (rows : List (List ℕ)) → All (Known m) rows → Memᴰ row rows → Known m row
known_at [] a h = absurd (Memᴰ.not-nil h)
known_at {m} (r ∷ rows) a h = ⊎_elim (λ e. subst (Known m) (sym e) a.0) (λ q. known_at rows a.1 q) (Memᴰ.cases_cons h)

module _ (text names : List ℕ) (rows : List (List ℕ)) where
  listed-or : Listed text names rows ⊎ Unlisted text names rows
  listed-or = by (places-or text names) (apart-or (words_in text names)) (rows-or (length names) rows)
    where
      by : ((k n : ℕ) → Nth names k n → Place text n) ⊎ ((k : ℕ) × (n : ℕ) × Nth names k n × (Place text n → ⊥))
          → Apart (words_in text names) ⊎ Twice (words_in text names)
          → All (Known (length names)) rows ⊎ ((row : List ℕ) × Memᴰ row rows × Beyond (length names) row)
          → Listed text names rows ⊎ Unlisted text names rows
      by (inl p) (inl a) (inl k) = inl (record { places = p; apart = a; known = k })
      by (inr e) a k = inr (no_name e.0 e.1 e.2 e.3)
      by (inl p) (inr e) k = inr (the_same e.0 e.1 e.2 e.3 e.4 e.5)
      by (inl p) (inl a) (inr e) = inr (no_number e.0 e.2.0 e.1 e.2.1 e.2.2 e.2.3)

  not_listed : Unlisted text names rows → Listed text names rows → ⊥
  not_listed (no_name k n h q) l = q (l.places k n h)
  not_listed (the_same j k w f g m) l = omega (arith, l.apart j k w f g)
  not_listed (no_number row c h m e n) l = omega (arith, known_at rows l.known h c m e)

  -- what is not listed is so for one of the three
  pub unlisted : (Listed text names rows → ⊥) ↔ Unlisted text names rows
  unlisted = (λ n. ⊎_elim (λ l. absurd (n l)) (λ u. u) listed-or, not_listed)
