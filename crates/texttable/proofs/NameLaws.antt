-- Names listed, struck out and counted, law by law.
use Prim.Native.Nat.{ℕ, zero, suc, ◌+◌, ◌≤◌, ◌<◌}
use mathlib.Core.Path.{◌≡◌, refl, sym, ap, ap₂, subst, ◌∙◌}
use mathlib.Core.Bool.{Bool, true, false, not, cond, ◌||◌}
use mathlib.Core.List.{List, [], ◌∷◌, ◌++◌}
use native.Mathlib.Omega.{arith}
use native.Mathlib.Nat.{le_of_eq}
use native.Mathlib.Decide.{ℕ_discrete}
use lib.Dec.{eqb}
use lib.ListN.{length, get_or, set, replicate, get_or-replicate, length-set, length-append, get_or-append}
use lib.Seq.{slice, get_or-append_seam, get_or-set_same, get_or-set_other}
use Rattle.grammar.specs.Grammar.{Fact}
use Rattle.grammar.specs.Reader.{reads, text_of}
use Rattle.cell.specs.Same.{same}
use Rattle.grammar.specs.Meaning.{Place, place, bytes_at, position, meet, names_of}
use Rattle.cell.proofs.SameLaws.{same_refl, same-no}
use Rattle.grammar.proofs.NumberLaws.{position-is, position-none, position-added, meet-old, meet-new}
use Rattle.loading.specs.Items.{Item, of-variable, of_number, next_row, items_of, names_met, met_in, unmet}
use Rattle.loading.proofs.ItemLaws.{names-items}
use Rattle.loading.proofs.CountLaws.{Apart, batch}
use Rattle.symbols.specs.Next.{NextIs}
use Rattle.symbols.specs.code.Left.{Left, Meets, AheadLeft, StartLeft}
use Rattle.symbols.specs.declared.Spot.{Spot}
use Rattle.symbols.specs.declared.Ahead.{Ahead}
use Rattle.symbols.specs.declared.Ahead.TheVariants as ahead
use Rattle.symbols.proofs.LeftLaws.{next-reads}
use Rattle.texttable.specs.code.Tree.{word_listed, Tree, listed, WordMet, old, new}
use Rattle.texttable.specs.code.Names.{at, NoName, Passed, NameMet, name_at, NextNameIs, Shown, Filling, FilledTo, lost, Struck, Strikes, blank_of}
use Rattle.texttable.specs.code.Names.{zeros, Batched, Counting}
use Rattle.texttable.specs.declared.names.Name.{Name}
use Rattle.std.specs.Prelude.{Option, Some, None, count_by}
use lib.ListN.{take}
use Rattle.std.proofs.lemmas.List.Sums.{sum_by-cons}
use Rattle.texttable.specs.declared.names.Filled.{Filled}
use Rattle.texttable.specs.declared.names.Batch.{Batch}
use Rattle.texttable.proofs.TreeLaws.{word-says}
use Rattle.limits.specs.Limits.{most_text_bytes}

pub ahead-is : (t : List ℕ) (sp : Spot) {r x : Ahead} → NextIs t sp r → r ≡ x → AheadLeft t sp x
ahead-is t sp c e = next-reads (subst (NextIs t sp) e c)

pub name-is : (t : List ℕ) (sp : Spot) {r x : Option Name} → NextNameIs t sp r → r ≡ x → NextNameIs t sp x
name-is t sp c e = subst (NextNameIs t sp) e c

-- THE NEXT NAME: from a place that has been reached with no name between
pub none_passed : (t : List ℕ) (from : Spot) (rest : List Item) → Left t from rest → Passed t from rest
none_passed t from rest L = record { rest = rest; left = L; names = λ ns. refl; met = λ v. refl }

module _ (t : List ℕ) (from at : Spot) (here : (rest : List Item) → Left t from rest → Passed t at rest) (low : from.at ≤ at.at) where
  other-passed : (x : Item) (to : Spot) → Meets t at x to → ((ns : List Place) (rest : List Item) → names_met t ns (x ∷ rest) ≡ names_met t ns rest)
      → ((v : List ℕ) (rest : List Item) → met_in t v (x ∷ rest) ≡ met_in t v rest) → (rest : List Item) → Left t from rest → Passed t to rest
  other-passed x to M f g rest₀ L =
      let P = here rest₀ L in
      let A = M.left P.rest P.left in
      record {
        rest = A.after;
        left = A.left;
        names = λ ns. P.names ns ∙ ap (names_met t ns) A.is ∙ f ns A.after;
        met = λ v. P.met v ∙ ap (met_in t v) A.is ∙ g v A.after;
      }

  pub variable-passed : (s e : ℕ) (to : Spot) → AheadLeft t at (ahead.Variable s e to) → (rest : List Item) → Left t from rest → Passed t to rest
  unfolding names_met met_in
  variable-passed s e to a = other-passed (of-variable (place s e)) to a.3 (λ ns rest. refl) (λ v rest. refl)

  pub number_passed : (n : ℕ) (to : Spot) → AheadLeft t at (ahead.Number n to) → (rest : List Item) → Left t from rest → Passed t to rest
  unfolding names_met met_in
  number_passed n to a = other-passed (of_number n) to a.1 (λ ns rest. refl) (λ v rest. refl)

  pub row-passed : (to : Spot) → AheadLeft t at (ahead.Row to) → (rest : List Item) → Left t from rest → Passed t to rest
  unfolding names_met met_in
  row-passed to a = other-passed next_row to a (λ ns rest. refl) (λ v rest. refl)

  pub name-met : (s e : ℕ) (to : Spot) → AheadLeft t at (ahead.Name s e to) → NextNameIs t from (Some (name_at s e to))
  unfolding names_met met_in
  name-met s e to a = (
    omega (arith, a.0),
    a.1,
    a.2,
    a.3.within,
    λ rest₀ L. (
        let P = here rest₀ L in
        let A = a.3.left P.rest P.left in
        record { rest = A.after; left = A.left; names = λ ns. P.names ns ∙ ap (names_met t ns) A.is; met = λ v. P.met v ∙ ap (met_in t v) A.is }),
  )

  pub no_name : AheadLeft t at ahead.End → NextNameIs t from None
  unfolding names_met met_in
  no_name a rest₀ L =
      let P = here rest₀ L in
      let e = a P.rest P.left in
      record { names = λ ns. P.names ns ∙ ap (names_met t ns) e; met = λ v. P.met v ∙ ap (met_in t v) e }

-- A NAME IS MET: its number, and the list with it
pub record MetIs (t list links : List ℕ) (ns : List Place) (w : Place) (list' links' : List ℕ) (r : ℕ) : Type 0 where
  pub number : r ≡ position t (bytes_at t w) (meet t ns w)
  pub grew : r ≡ length ns → meet t ns w ≡ ns ++ (w ∷ [])
  pub stayed : (r ≡ length ns → ⊥) → (meet t ns w ≡ ns) × (list' ≡ list)
  pub entry : r ≡ length ns → list' ≡ set list (length ns) (listed w.start w.end)
  pub shown : Shown t list' links' (meet t ns w)

module _ (t list links : List ℕ) (ns : List Place) (s e : ℕ) (S : Shown t list links ns) where
  old-position : (r : ℕ) → r < length ns → word_listed t (get_or list r 0) ≡ slice s e t → position t (slice s e t) ns ≡ r
  old-position r h q =
      position-is t (slice s e t) ns r h (sym (S.says r h) ∙ q)
      (λ i l z. (let y = S.tree.apart i r (omega arith) h (S.says i (omega arith) ∙ z ∙ sym q) in omega arith))

  new-position : ((i : ℕ) → i < length ns → word_listed t (get_or list i 0) ≡ slice s e t → ⊥) → position t (slice s e t) ns ≡ length ns
  new-position n = position-none t (slice s e t) ns (λ i h z. n i h (S.says i h ∙ z))

  shown-new : (links' : List ℕ) → s ≤ e → s < 65536 → Tree t (set list (length ns) (listed s e)) links' (suc (length ns))
      → Shown t (set list (length ns) (listed s e)) links' (ns ++ (place s e ∷ []))
  shown-new links' l k T =
      let f : length (ns ++ (place s e ∷ [])) ≡ suc (length ns) = length-append ns (place s e ∷ []) ∙ omega arith in
      record { tree = rw f T; says = λ i h. by i (omega (arith, f)) (ℕ_discrete i (length ns)) }
    where
      room : length ns < length list
      room = omega (arith, T.room, length-set list (length ns) (listed s e))

      by : (i : ℕ) → i < suc (length ns) → Dec (i ≡ length ns)
          → word_listed t (get_or (set list (length ns) (listed s e)) i 0) ≡ bytes_at t (at (ns ++ (place s e ∷ [])) i)
      by i h (yes y) =
          ap (λ (j : ℕ). word_listed t (get_or (set list (length ns) (listed s e)) j 0)) y
          ∙ ap (word_listed t) (get_or-set_same list (length ns) (listed s e) 0 room)
          ∙ word-says t s e l k
          ∙ ap (bytes_at t) (sym (get_or-append_seam ns (place s e) [] (place 0 0)))
          ∙ ap (λ (j : ℕ). bytes_at t (at (ns ++ (place s e ∷ [])) j)) (sym y)
      by i h (no y) =
          ap (word_listed t) (get_or-set_other list (length ns) i (listed s e) 0 y)
          ∙ S.says i (omega arith)
          ∙ ap (bytes_at t) (sym (get_or-append ns (place s e ∷ []) (place 0 0) i (omega arith)))

  pub met-is : {list' links' : List ℕ} {r : ℕ} → s ≤ e → s < 65536 → WordMet t list links (length ns) s e list' links' r
      → MetIs t list links ns (place s e) list' links' r
  met-is l k (old {r = r} h q a b) =
      let p = old-position r h q in
      let m : meet t ns (place s e) ≡ ns = meet-old t ns (place s e) (omega (arith, p)) in
      record {
        number = sym p ∙ ap (position t (slice s e t)) (sym m);
        grew = λ z. absurd (omega arith);
        stayed = λ z. (m, a);
        entry = λ z. absurd (omega arith);
        shown = rw (m, a, b) S;
      }
  met-is {links' = links'} l k (new n a T) =
      let p = new-position n in
      let m : meet t ns (place s e) ≡ ns ++ (place s e ∷ []) = meet-new t ns (place s e) (omega (arith, p)) in
      record {
        number = sym (ap (position t (slice s e t)) m ∙ position-added t (place s e) ns (omega (arith, p)));
        grew = λ z. m;
        stayed = λ z. absurd (z refl);
        entry = λ z. a;
        shown = rw (m, a) (shown-new links' l k (rw a at T));
      }

-- LISTED FROM A PLACE ON: none yet, a name more, another symbol
pub none-listed : (t : List ℕ) (from : Spot) (list links : List ℕ) → Tree t list links 0 → Filling t from list links 0 from
none-listed t from list links T =
    record {
      names = [];
      number = refl;
      shown = record { tree = T; says = λ i h. absurd (omega arith) };
      on = omega arith;
      within = λ h. h;
      still = λ rest L. record { rest = rest; left = L; same = refl };
    }

name-listed : (t : List ℕ) (from : Spot) (list links : List ℕ) (count : ℕ) (to next : Spot) (F : Filling t from list links count to) {s e : ℕ}
    {list' links' : List ℕ} {r : ℕ} (n : ℕ)
    → NextNameIs t to (Some (name_at s e next)) → MetIs t list links F.names (place s e) list' links' r
    → length (meet t F.names (place s e)) ≡ n → n ≤ count + 1 → Filling t from list' links' n next
name-listed t from list links count to next F {s} {e} n A I q h =
    record {
      names = meet t F.names (place s e);
      number = q;
      shown = I.shown;
      on = omega (arith, F.on, A.0, A.1, A.2);
      within = λ l. A.3;
      still = λ rest L. (
          let S = F.still rest L in
          let M = A.4 S.rest S.left in
          record { rest = M.rest; left = M.left; same = sym (M.names F.names) ∙ S.same });
    }

pub filling-tree : {t list links : List ℕ} {count : ℕ} {from to : Spot} → Filling t from list links count to → Tree t list links count
filling-tree {t} {list} {links} F = subst (Tree t list links) F.number F.shown.tree

-- a name that is new, and one that is listed
module _ (t : List ℕ) (from : Spot) (list links list' links' : List ℕ) (count : ℕ) (to next : Spot) (s e r : ℕ) (F : Filling t from list links count to)
    (A : NextNameIs t to (Some (name_at s e next))) (h : length t ≤ most_text_bytes) (m : WordMet t list links count s e list' links' r) where
  met : MetIs t list links F.names (place s e) list' links' r
  met =
      met-is t list links F.names s e F.shown (omega (arith, A.1)) (omega (arith, A.1, A.2, A.3))
      (subst (λ (n : ℕ). WordMet t list links n s e list' links' r) (sym F.number) m)

  pub name-grown : r ≡ count → Filling t from list' links' (count + 1) next
  name-grown z =
      let q = ap length (met.grew (z ∙ sym F.number)) ∙ length-append F.names (place s e ∷ []) in
      name-listed t from list links count to next F (count + 1) A met (omega (arith, q, F.number)) (omega arith)

  pub name-stayed : (r ≡ count → ⊥) → Filling t from list' links' count next
  name-stayed z =
      let q = ap length (met.stayed (λ y. z (y ∙ F.number))).0 in
      name-listed t from list links count to next F count A met (omega (arith, q, F.number)) (omega arith)

-- STRUCK OUT
or-true : (b : Bool) → (b || true) ≡ true
or-true true = refl
or-true false = refl

module _ (t list links : List ℕ) (ns : List Place) (S : Shown t list links ns) (marks : List ℕ) (w : Place) (sp : Spot) (rest rest₀ : List Item)
    (M : NameMet t w sp rest) (k : Struck t ns marks rest rest₀) where
  -- as it is marked before the name is met
  was : (i : ℕ) → i < length ns → (b : Bool) → same (bytes_at t w) (bytes_at t (at ns i)) ≡ b
      → (not (eqb (get_or marks i 0) 0) || (b || met_in t (bytes_at t (at ns i)) M.rest)) ≡ met_in t (bytes_at t (at ns i)) rest₀
  was i l b e =
      ap (λ (x : Bool). not (eqb (get_or marks i 0) 0) || (x || met_in t (bytes_at t (at ns i)) M.rest)) (sym e)
      ∙ ap (λ (x : Bool). not (eqb (get_or marks i 0) 0) || x) (sym (M.met (bytes_at t (at ns i))))
      ∙ k.word i l

  -- a name that is listed
  pub strikes-listed : (j : ℕ) → length ns ≤ length marks → j < length ns → word_listed t (get_or list j 0) ≡ bytes_at t w
      → Struck t ns (set marks j 1) M.rest rest₀
  strikes-listed j room h e = record { word = λ i l. by i l (ℕ_discrete i j) }
    where
      by : (i : ℕ) → i < length ns → Dec (i ≡ j) → lost t (bytes_at t (at ns i)) (get_or (set marks j 1) i 0) M.rest ≡ met_in t (bytes_at t (at ns i)) rest₀
      by i l (yes q) =
          let g : bytes_at t (at ns i) ≡ bytes_at t w = ap (λ (x : ℕ). bytes_at t (at ns x)) q ∙ sym (S.says j h) ∙ e in
          let a : get_or (set marks j 1) i 0 ≡ 1 = ap (λ (x : ℕ). get_or (set marks j 1) x 0) q ∙ get_or-set_same marks j 1 0 (omega arith) in
          ap (λ (m : ℕ). lost t (bytes_at t (at ns i)) m M.rest) a
          ∙ sym (or-true (not (eqb (get_or marks i 0) 0)))
          ∙ was i l true (ap (same (bytes_at t w)) g ∙ same_refl (bytes_at t w))
      by i l (no q) =
          ap (λ (m : ℕ). lost t (bytes_at t (at ns i)) m M.rest) (get_or-set_other marks j i 1 0 q)
          ∙ was i l false (same-no (bytes_at t w) (bytes_at t (at ns i)) (λ z. q (S.tree.apart i j l h (S.says i l ∙ sym z ∙ sym e))))

  -- a name that is not
  pub strikes-other : ((i : ℕ) → i < length ns → word_listed t (get_or list i 0) ≡ bytes_at t w → ⊥) → Struck t ns marks M.rest rest₀
  strikes-other n = record { word = λ i l. was i l false (same-no (bytes_at t w) (bytes_at t (at ns i)) (λ z. n i l (S.says i l ∙ sym z))) }

-- no name is left
pub all-struck : (t : List ℕ) (ns : List Place) (marks : List ℕ) (rest rest₀ : List Item) → NoName t rest → Struck t ns marks rest rest₀
    → Struck t ns marks [] rest₀
unfolding met_in
all-struck t ns marks rest rest₀ n k =
    record { word = λ i l. ap (λ (x : Bool). not (eqb (get_or marks i 0) 0) || x) (sym (n.met (bytes_at t (at ns i)))) ∙ k.word i l }

-- none yet
none-struck : (t : List ℕ) (ns : List Place) (marks : List ℕ) (rest : List Item) → ((i : ℕ) → i < length ns → get_or marks i 0 ≡ 0)
    → Struck t ns marks rest rest
none-struck t ns marks rest z = record { word = λ i l. ap (λ (m : ℕ). lost t (bytes_at t (at ns i)) m rest) (z i l) }

-- COUNTED
pub zeros-counted : (count : ℕ) (marks : List ℕ) → count_by (λ (m : ℕ). eqb m 0) (take count marks) ≡ zeros count marks
unfolding zeros blank_of
zeros-counted zero marks = refl
zeros-counted (suc n) [] = refl
zeros-counted (suc n) (m ∷ ms) =
    sum_by-cons (λ (k : ℕ). cond (eqb k 0) 1 0) m (take n ms) ∙ ap (λ (k : ℕ). blank_of m + k) (zeros-counted n ms)

pub zeros-few : (count : ℕ) (marks : List ℕ) → zeros count marks ≤ count
unfolding zeros blank_of
zeros-few zero marks = omega arith
zeros-few (suc n) [] = omega arith
zeros-few (suc n) (m ∷ ms) = by (eqb m 0) (zeros-few n ms)
  where
    by : (b : Bool) → zeros n ms ≤ n → cond b 1 0 + zeros n ms ≤ suc n
    by true h = omega arith
    by false h = omega arith

zeros-unmet : (t : List ℕ) (ns : List Place) (marks : List ℕ) (rest : List Item) → length ns ≤ length marks
    → ((i : ℕ) → i < length ns → lost t (bytes_at t (at ns i)) (get_or marks i 0) [] ≡ met_in t (bytes_at t (at ns i)) rest)
    → zeros (length ns) marks ≡ unmet t rest ns
unfolding zeros blank_of unmet met_in
zeros-unmet t [] marks rest h f = refl
zeros-unmet t (b ∷ bs) [] rest h f = absurd (omega arith)
zeros-unmet t (b ∷ bs) (m ∷ marks) rest h f =
    ap₂ ◌+◌ (turn (eqb m 0) (met_in t (bytes_at t b) rest) (f 0 (omega arith))) (zeros-unmet t bs marks rest (omega arith) (λ i l. f (suc i) (omega arith)))
  where
    turn : (x y : Bool) → (not x || false) ≡ y → ◌≡◌ {A = ℕ} (cond x 1 0) (cond y 0 1)
    turn true true e = absurd (let z : ◌≡◌ {A = ℕ} 0 1 = cc in omega arith)
    turn true false e = refl
    turn false true e = refl
    turn false false e = absurd (let z : ◌≡◌ {A = ℕ} 0 1 = cc in omega arith)

shown-apart : (t : List ℕ) (ns : List Place) → ((i j : ℕ) → i < length ns → j < length ns → bytes_at t (at ns i) ≡ bytes_at t (at ns j) → i ≡ j) → Apart t ns
unfolding Apart
shown-apart t [] f = tt
shown-apart t (b ∷ bs) f = (
  le_of_eq (sym (position-none t (bytes_at t b) bs (λ i l e. (let z = f (suc i) 0 (omega arith) (omega arith) e in omega arith)))),
  shown-apart t bs (λ i j l k e. (let z = f (suc i) (suc j) (omega arith) (omega arith) e in omega arith)),
)

-- a batch
module _ (t : List ℕ) (from : Spot) (list links : List ℕ) (r : Filled) (marks : List ℕ) (names : ℕ) (F : FilledTo t from list links r)
    (K : Strikes t r.to list links r.count (replicate 3500 0) marks) (e : names ≡ zeros r.count marks) (few : names ≤ r.count)
    (size : length list ≡ 3500)
    (size' : length marks ≡ 3500) where
  none-marked : (i : ℕ) → i < r.count → ◌≡◌ {A = ℕ} (get_or (replicate 3500 0) i 0) 0
  none-marked i l = get_or-replicate 3500 i 0 0 (omega (arith, F.few))

  not-again : (rest : List Item) → Left t r.to rest → names ≡ unmet t rest F.filling.names
  not-again rest L =
      let G = F.filling in
      let ns = G.names in
      let k = K ns rest rest G.number G.shown L (none-struck t ns (replicate 3500 0) rest (λ i l. none-marked i (omega (arith, G.number)))) in
      e ∙ ap (λ (n : ℕ). zeros n marks) (sym G.number) ∙ zeros-unmet t ns marks rest (omega (arith, G.number, F.few)) k.word

  apart : Apart t F.filling.names
  apart =
      let S = F.filling.shown in
      shown-apart t F.filling.names (λ i j l h q. S.tree.apart i j l h (S.says i l ∙ q ∙ sym (S.says j h)))

  pub batched : Batched t from (record { names = names; to = r.to; more = r.more })
  batched =
      let G = F.filling in
      record {
        on = omega (arith, G.on);
        further = λ q. omega (arith, G.on, F.full q);
        within = G.within;
        batch = λ rest L. (
            let S = G.still rest L in
            record {
              rest = S.rest;
              left = S.left;
              count =
                  ap (λ (n : ℕ). n + length (names_met t [] S.rest)) (not-again S.rest S.left) ∙ sym (batch t G.names S.rest apart)
                  ∙ ap length S.same;
              ended = λ q. ap length ((F.ended q S.rest S.left).names []);
            });
      }

-- ALL THE BATCHES
pub none-counted : (t : List ℕ) (sp : Spot) → StartLeft t sp → (facts : List Fact) → text_of t ≡ reads facts → Counting t sp 0 facts
none-counted t sp b facts e = record { rest = items_of facts; left = b.left facts e; count = omega arith }

pub batch-counted : (t : List ℕ) (sp : Spot) (total : ℕ) (r : Batch) (facts : List Fact) → Batched t sp r → Counting t sp total facts
    → Counting t r.to (total + r.names) facts
batch-counted t sp total r facts b c =
    let B = b.batch c.rest c.left in
    record { rest = B.rest; left = B.left; count = omega (arith, B.count, c.count) }

pub all-counted : (t : List ℕ) (sp : Spot) (total : ℕ) (r : Batch) (facts : List Fact) → Batched t sp r → r.more ≡ false → Counting t sp total facts
    → total + r.names ≡ length (names_of t facts)
all-counted t sp total r facts b e c =
    let B = b.batch c.rest c.left in
    omega (arith, B.count, c.count, B.ended e, ap length (names-items t [] facts))
