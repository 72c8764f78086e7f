-- The open places: where the links lead, and a place that is closed.
use Prim.Native.Nat.{ℕ, zero, suc, ◌+◌, ◌-◌, ◌≤◌, ◌<◌}
use mathlib.Core.Path.{◌≡◌, refl, sym, ◌∙◌, ap}
use mathlib.Core.Logic.{◌≢◌, ◌⊎◌, inl, inr, ⊎_elim}
use mathlib.Core.List.{List, [], ◌∷◌, ◌++◌}
use native.Mathlib.Omega.{arith}
use borrow.Author.Tests.{eq-eqb, ne_eqb}
use lib.ListN.{length, get_or, take, drop, set, length-set}
use lib.Seq.{sets, split_at, length-take-le, get_or-set_same, get_or-set_other}
use Rattle.table.specs.All.{All}
use Rattle.table.proofs.AllLaws.{all-each, all_both, all-front, all_back, all-++}
use Rattle.table.specs.Table.{up_from}
use Rattle.table.proofs.HeadLaws.{up-length}
use Rattle.plan.specs.Notes.{below}
use Rattle.plannotes.specs.code.Places.{steps, hop_of, Path, last_of, NoSlotTwice, last_new, Open, Spot, Closed}

-- Along the links, one at a time.

pub steps_all : (links : List ℕ) (a s : ℕ) → 0 < a → All (λ (x : ℕ). x < 64) (steps links a s)
    → (s < 64) × All (λ (x : ℕ). x < 64) (steps links (a - 1) (get_or links s 0))
unfolding steps
steps_all links zero s h l = absurd (omega arith)
steps_all links (suc a) s h l = let e : suc a - 1 ≡ a = omega arith in rw e l

pub hop-none : (links : List ℕ) (a s : ℕ) → a ≡ 0 → hop_of links a s ≡ s
unfolding hop_of
hop-none links zero s h = refl
hop-none links (suc a) s h = absurd (omega arith)

pub hop-more : (links : List ℕ) (a s : ℕ) → 0 < a → hop_of links a s ≡ hop_of links (a - 1) (get_or links s 0)
unfolding hop_of
hop-more links zero s h = absurd (omega arith)
hop-more links (suc a) s h = let e : suc a - 1 ≡ a = omega arith in rw e

-- Numbers one after another.

pub up_none : (n a : ℕ) → a ≡ 0 → up_from n a ≡ []
unfolding up_from
up_none n zero h = refl
up_none n (suc a) h = absurd (omega arith)

pub up_more : (n a : ℕ) → 0 < a → up_from n a ≡ n ∷ up_from (n + 1) (a - 1)
unfolding up_from
up_more n zero h = absurd (omega arith)
up_more n (suc a) h = let e : suc a - 1 ≡ a = omega arith in let f : n + 1 ≡ suc n = omega arith in rw (e, f)

pub up_at : (m a j : ℕ) → j < a → get_or (up_from m a) j 0 ≡ m + j
unfolding up_from
up_at m zero j h = absurd (omega arith)
up_at m (suc a) zero h = omega arith
up_at m (suc a) (suc j) h = up_at (suc m) a j (omega arith) ∙ omega arith

-- what holds from m to before m + a holds of them
pub up-all : (P : ℕ → Type 0) (m a : ℕ) → ((x : ℕ) → m ≤ x → x < m + a → P x) → All P (up_from m a)
unfolding up_from
up-all P m zero f = tt
up-all P m (suc a) f = (f m (omega arith) (omega arith), up-all P (suc m) a (λ x h k. f x (omega arith) (omega arith)))

-- No slot twice.

-- a slot is none of these
abbrev pub Off : ℕ → List ℕ → Type 0
Off x ys = All (λ (y : ℕ). x ≢ y) ys

unequal : (x y : ℕ) → x < y → x ≢ y
unequal x y h e = omega arith

pub up_apart : (m a : ℕ) → NoSlotTwice (up_from m a)
unfolding up_from NoSlotTwice
up_apart m zero = tt
up_apart m (suc a) = (up-all (λ (x : ℕ). m ≢ x) (suc m) a (λ x h k. unequal m x (omega arith)), up_apart (suc m) a)

apart-split : (xs ys : List ℕ) → NoSlotTwice (xs ++ ys) → NoSlotTwice xs × NoSlotTwice ys × All (λ (x : ℕ). Off x ys) xs
unfolding NoSlotTwice
apart-split [] ys a = (tt, a, tt)
apart-split (x ∷ xs) ys a =
    let r = apart-split xs ys a.1 in
    let P : ℕ → Type 0 = λ (y : ℕ). x ≢ y in
    ((all-front P xs ys a.0, r.0), r.1, (all_back P xs ys a.0, r.2))

apart-join : (xs ys : List ℕ) → NoSlotTwice xs → NoSlotTwice ys → All (λ (x : ℕ). Off x ys) xs → NoSlotTwice (xs ++ ys)
unfolding NoSlotTwice
apart-join [] ys a b c = b
apart-join (x ∷ xs) ys a b c = (all-++ (λ (y : ℕ). x ≢ y) xs ys a.0 c.0, apart-join xs ys a.1 b c.1)

-- Where the links lead.

all-last : (P : ℕ → Type 0) (h : ℕ) (xs : List ℕ) → All P (h ∷ xs) → P (last_of h xs)
unfolding last_of
all-last P h [] a = a.0
all-last P h (x ∷ xs) a = all-last P x xs a.1

path-split : (l : List ℕ) (h : ℕ) (xs ys : List ℕ) → Path l h (xs ++ ys) → Path l h xs × Path l (last_of h xs) ys
unfolding Path last_of
path-split l h [] ys p = (tt, p)
path-split l h (x ∷ xs) ys p = let r = path-split l x xs ys p.1 in ((p.0, r.0), r.1)

path_join : (l : List ℕ) (h : ℕ) (xs ys : List ℕ) → Path l h xs → Path l (last_of h xs) ys → Path l h (xs ++ ys)
unfolding Path last_of
path_join l h [] ys p q = q
path_join l h (x ∷ xs) ys p q = (p.0, path_join l x xs ys p.1 q)

-- numbers that lead to one another
pub up-path : (l : List ℕ) (m a : ℕ) → ((j : ℕ) → m ≤ j → j < m + a → get_or l j 0 ≡ j + 1) → Path l m (up_from (suc m) a)
unfolding up_from Path
up-path l m zero f = tt
up-path l m (suc a) f =
    let e : m + 1 ≡ suc m = omega arith in
    (f m (omega arith) (omega arith) ∙ e, up-path l (suc m) a (λ j h k. f j (omega arith) (omega arith)))

up-last : (m a : ℕ) → last_of m (up_from (suc m) a) ≡ m + a
unfolding up_from last_of
up-last m zero = omega arith
up-last m (suc a) = up-last (suc m) a ∙ omega arith

-- what is read on the way
unfoldable reads : ℕ → List ℕ → List ℕ
reads h [] = []
reads h (x ∷ xs) = h ∷ reads x xs

path-same : (l l' : List ℕ) (h : ℕ) (xs : List ℕ) → Path l h xs → All (λ (j : ℕ). get_or l' j 0 ≡ get_or l j 0) (reads h xs) → Path l' h xs
unfolding Path reads
path-same l l' h [] p a = tt
path-same l l' h (x ∷ xs) p a = (a.0 ∙ p.0, path-same l l' x xs p.1 a.1)

reads_all : (P : ℕ → Type 0) (h : ℕ) (xs : List ℕ) → All P (h ∷ xs) → All P (reads h xs)
unfolding reads
reads_all P h [] a = tt
reads_all P h (x ∷ xs) a = (a.0, reads_all P x xs a.1)

-- the last slot is not read
reads-apart : (h : ℕ) (xs : List ℕ) → NoSlotTwice (h ∷ xs) → All (λ (j : ℕ). j ≢ last_of h xs) (reads h xs)
unfolding reads last_of NoSlotTwice
reads-apart h [] a = tt
reads-apart h (x ∷ xs) a = (all-last (λ (y : ℕ). h ≢ y) x xs a.0, reads-apart x xs a.1)

-- the slot that so many links lead to, and what is read on the way to it
hop-path : (l : List ℕ) (h : ℕ) (xs ys : List ℕ) → Path l h (xs ++ ys) → hop_of l (length xs) h ≡ last_of h xs
unfolding Path last_of hop_of
hop-path l h [] ys p = refl
hop-path l h (x ∷ xs) ys p = ap (hop_of l (length xs)) p.0 ∙ hop-path l x xs ys p.1

hop-safe : (P : ℕ → Type 0) (l : List ℕ) (h : ℕ) (xs ys : List ℕ) → Path l h (xs ++ ys) → All P (h ∷ (xs ++ ys))
    → All P (steps l (length xs) h)
unfolding Path steps
hop-safe P l h [] ys p a = tt
hop-safe P l h (x ∷ xs) ys p a = (a.0, rw p.0 (hop-safe P l x xs ys p.1 a.1))

-- A place is closed: new slots stand where its slot did.

pub last_none : (b m a : ℕ) → a ≡ 0 → last_new b m a ≡ b
unfolding last_new
last_none b m a h = rw (eq-eqb a 0 h)

pub last_some : (b m a : ℕ) → (a ≡ 0 → ⊥) → last_new b m a ≡ m + (a - 1)
unfolding last_new
last_some b m a h = rw (ne_eqb a 0 h)

-- there is no new slot, or the last of them
last-cases : (P : ℕ → Type 0) (b m a : ℕ) → (a ≡ 0 → P b) → (0 < a → P (m + (a - 1))) → P (last_new b m a)
last-cases P b m zero f g = rw (last_none b m 0 refl) (f refl)
last-cases P b m (suc a) f g = rw (last_some b m (suc a) (λ z. omega arith)) (g (omega arith))

module _ {links : List ℕ} {m : ℕ} (A : List ℕ) (s : ℕ) (B : List ℕ) (o : Open links m (A ++ (s ∷ B))) where
  -- the slot before it
  abbrev b : ℕ
  b = last_of 0 A

  abbrev Made : List ℕ → Type 0
  Made xs = All (λ (x : ℕ). x < m) xs

  made-before : Made (0 ∷ A)
  made-before = all-front (λ (x : ℕ). x < m) (0 ∷ A) (s ∷ B) o.made

  made_after : Made (s ∷ B)
  made_after = all_back (λ (x : ℕ). x < m) (0 ∷ A) (s ∷ B) o.made

  slots_apart : NoSlotTwice (0 ∷ A) × NoSlotTwice (s ∷ B) × All (λ (x : ℕ). Off x (s ∷ B)) (0 ∷ A)
  slots_apart = apart-split (0 ∷ A) (s ∷ B) o.apart

  paths : Path links 0 A × Path links b (s ∷ B)
  paths = path-split links 0 A (s ∷ B) o.path

  before-made : b < m
  before-made = all-last (λ (x : ℕ). x < m) 0 A made-before

  before-leads : get_or links b 0 ≡ s
  unfolding Path
  before-leads = paths.1.0

  -- the links past it: from the slot before it to the new ones, and from the last of them to what follows
  module _ (a : ℕ) (fits : m + a ≤ 63) where
    abbrev e : ℕ
    e = last_new b m a

    abbrev past : List ℕ
    past = set (set links b m) e (get_or links s 0)

    last-small : e < 64
    last-small = last-cases (λ (x : ℕ). x < 64) b m a (λ z. omega (arith, before-made)) (λ z. omega arith)

    -- the second link is at a new slot, or it is the first one again
    off-last : (j : ℕ) → j ≢ b → (j < m) ⊎ (m + a ≤ j) → j ≢ e
    off-last j n r = last-cases (λ (x : ℕ). j ≢ x) b m a (λ z. n) (λ z q. ⊎_elim (λ l. omega arith) (λ l. omega arith) r)

    elsewhere : (j : ℕ) → j ≢ b → (j < m) ⊎ (m + a ≤ j) → get_or past j 0 ≡ get_or links j 0
    elsewhere j n r = get_or-set_other (set links b m) e j (get_or links s 0) 0 (off-last j n r) ∙ get_or-set_other links b j m 0 n

    at_last : get_or past e 0 ≡ get_or links s 0
    at_last = get_or-set_same (set links b m) e (get_or links s 0) 0 (omega (arith, last-small, length-set links b m, o.size))

    -- slots that are made are left alone, but for the one before
    made-same : (xs : List ℕ) → All (λ (j : ℕ). j ≢ b) xs → Made xs → All (λ (j : ℕ). get_or past j 0 ≡ get_or links j 0) xs
    made-same xs p q =
        all-each (λ (j : ℕ). (j ≢ b) × (j < m)) (λ (j : ℕ). get_or past j 0 ≡ get_or links j 0) (λ j r. elsewhere j r.0 (inl r.1)) xs
        (all_both (λ (j : ℕ). j ≢ b) (λ (j : ℕ). j < m) xs p q)

    path-before : Path past 0 A
    path-before =
        path-same links past 0 A paths.0
        (made-same (reads 0 A) (reads-apart 0 A slots_apart.0) (reads_all (λ (j : ℕ). j < m) 0 A made-before))

    off-before : All (λ (j : ℕ). j ≢ b) B
    off-before =
        all-each (λ (j : ℕ). b ≢ j) (λ (j : ℕ). j ≢ b) (λ j n q. n (sym q)) B (all-last (λ (x : ℕ). Off x (s ∷ B)) 0 A slots_apart.2).1

    path-after : Path past e B
    unfolding Path
    path-after = go B paths.1.1 off-before made_after.1
      where
        go : (B : List ℕ) → Path links s B → All (λ (j : ℕ). j ≢ b) B → Made B → Path past e B
        go [] p n q = tt
        go (x ∷ B) p n q = (
          at_last ∙ p.0,
          path-same links past x B p.1 (made-same (reads x B) (reads_all (λ (j : ℕ). j ≢ b) x B n) (reads_all (λ (j : ℕ). j < m) x B q)),
        )

    -- the new slots lead to one another
    news-lead : 0 < a → (j : ℕ) → m ≤ j → j < m + (a - 1) → get_or past j 0 ≡ j + 1
    news-lead z j h k =
        let n : j ≢ b = λ q. omega (arith, before-made) in
        let n' : j ≢ e = last-cases (λ (x : ℕ). j ≢ x) b m a (λ y. n) (λ y q. omega arith) in
        get_or-set_other (set links b m) e j (get_or links s 0) 0 n' ∙ get_or-set_other links b j m 0 n ∙ o.free j h (omega arith)

    first-leads : 0 < a → get_or past b 0 ≡ m
    first-leads z =
        let n : b ≢ e = λ q. omega (arith, q ∙ last_some b m a (λ y. omega arith), before-made) in
        get_or-set_other (set links b m) e b (get_or links s 0) 0 n ∙ get_or-set_same links b m 0 (omega (arith, before-made, o.size))

    path-new : Path past b (up_from m a ++ B)
    unfolding Path
    path-new = last-cases (λ (x : ℕ). Path past x B → Path past b (up_from m a ++ B)) b m a none some path-after
      where
        none : a ≡ 0 → Path past b B → Path past b (up_from m a ++ B)
        none z p = rw (up_none m a z) p

        some : 0 < a → Path past (m + (a - 1)) B → Path past b (up_from m a ++ B)
        some z p =
            let q : m + 1 ≡ suc m = omega arith in
            rw (up_more m a z, q)
            (first-leads z, path_join past m (up_from (suc m) (a - 1)) B (up-path past m (a - 1) (news-lead z)) (rw (up-last m (a - 1)) p))

    -- no slot that is made is a new one
    off-new : (x : ℕ) → x < m → Off x (up_from m a)
    off-new x h = up-all (λ (y : ℕ). x ≢ y) m a (λ y k l. unequal x y (omega arith))

    news-apart : NoSlotTwice (up_from m a ++ B)
    unfolding NoSlotTwice
    news-apart =
        apart-join (up_from m a) B (up_apart m a) slots_apart.1.1
        (up-all (λ (x : ℕ). Off x B) m a
        (λ x k l. all-each (λ (y : ℕ). y < m) (λ (y : ℕ). x ≢ y) (λ y h q. unequal y x (omega arith) (sym q)) B made_after.1))

    old-new : All (λ (x : ℕ). Off x (up_from m a ++ B)) (0 ∷ A)
    old-new =
        all-each (λ (x : ℕ). (x < m) × Off x (s ∷ B)) (λ (x : ℕ). Off x (up_from m a ++ B))
        (λ x r. all-++ (λ (y : ℕ). x ≢ y) (up_from m a) B (off-new x r.0) r.1.1)
        (0 ∷ A) (all_both (λ (x : ℕ). x < m) (λ (x : ℕ). Off x (s ∷ B)) (0 ∷ A) made-before slots_apart.2)

    more : (xs : List ℕ) → Made xs → All (λ (x : ℕ). x < m + a) xs
    more xs p = all-each (λ (x : ℕ). x < m) (λ (x : ℕ). x < m + a) (λ x h. omega arith) xs p

    -- what is open then
    opened : Open past (m + a) (A ++ (up_from m a ++ B))
    opened =
        let P : ℕ → Type 0 = λ (x : ℕ). x < m + a in
        record {
          path = path_join past 0 A (up_from m a ++ B) path-before path-new;
          made = all-++ P (0 ∷ A) (up_from m a ++ B) (more (0 ∷ A) made-before) (all-++ P (up_from m a) B (up-all P m a (λ x k l. l)) (more B made_after.1));
          apart = apart-join (0 ∷ A) (up_from m a ++ B) slots_apart.0 news-apart old-new;
          free = λ j h k. elsewhere j (λ q. omega (arith, before-made)) (inr h) ∙ o.free j (omega arith) k;
          size = length-set (set links b m) e (get_or links s 0) ∙ length-set links b m ∙ o.size;
        }

-- What the code reads and writes to close a place.
module _ {links : List ℕ} {i a m : ℕ} (w : Spot links i a m) where
  abbrev front : List ℕ
  front = take i w.slots

  abbrev slot : ℕ
  slot = get_or w.slots i 0

  abbrev after : List ℕ
  after = drop (suc i) w.slots

  open-parts : Open links m (front ++ (slot ∷ after))
  open-parts = rw (split_at w.slots i 0 w.here) at w.opens

  pub spot-small : slot < 64
  spot-small = omega (arith, w.room, (made_after front slot after open-parts).0)

  front_long : length front ≡ i
  front_long = length-take-le i w.slots (omega (arith, w.here))

  pub hops-small : All (λ (x : ℕ). x < 64) (steps links i 0)
  hops-small =
      let r = w.room in
      rw front_long at
      (hop-safe (λ (x : ℕ). x < 64) links 0 front (slot ∷ after) open-parts.path
      (all-each (λ (x : ℕ). x < m) (λ (x : ℕ). x < 64) (λ x h. omega arith) (0 ∷ (front ++ (slot ∷ after))) open-parts.made))

  before-is : hop_of links i 0 ≡ last_of 0 front
  before-is = rw front_long at (hop-path links 0 front (slot ∷ after) open-parts.path)

  module _ (before : ℕ) (e : before ≡ hop_of links i 0) where
    here-is : before ≡ last_of 0 front
    here-is = e ∙ before-is

    pub before_small : before < 64
    before_small = rw here-is (omega (arith, w.room, before-made front slot after open-parts))

    pub slot_is : get_or links before 0 ≡ slot
    slot_is = rw here-is (before-leads front slot after open-parts)

    pub slot_small : get_or links before 0 < 64
    slot_small = rw slot_is spot-small

    module _ (last : ℕ) (q : last ≡ last_new before m a) where
      last-is : last ≡ last_new (last_of 0 front) m a
      last-is = q ∙ ap (λ (b : ℕ). last_new b m a) here-is

      pub last_fits : last < 64
      last_fits = rw last-is (last-small front slot after open-parts a w.room)

      pub closed : (here : ℕ) → here ≡ get_or links before 0 → Closed w (set (set links before m) last (get_or links here 0)) here
      closed here z = record {
        found = z ∙ slot_is;
        opens = rw (last-is, here-is, z ∙ slot_is) (opened front slot after open-parts a w.room);
      }
