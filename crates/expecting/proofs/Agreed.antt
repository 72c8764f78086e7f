-- The look at a text agrees with the grammar's reader, as far as a text begins so: the same mode, without its numbers, as many open names,
-- and of the open name on the level that is asked for as many commas.
use Prim.Native.Nat.{ℕ, suc, ◌+◌, ◌-◌, ◌*◌, ◌≤◌, ◌<◌}
use mathlib.Core.Path.{◌≡◌, refl, sym, ◌∙◌}
use mathlib.Core.Bool.{Bool, true, false, cond, ◌&&◌, ◌||◌, and-false, true≢false}
use mathlib.Core.List.{List, [], ◌∷◌}
use mathlib.Core.Logic.{⊎_elim}
use native.Mathlib.Numerals.{add-one}
use native.Mathlib.Omega.{arith}
use lib.Dec.{eqb, leb, ltb}
use lib.ListN.{length}
use borrow.Author.Tests.{leb-true, eqb-true, eqb-false, ne_eqb, lt-leb}
use Rattle.grammar.specs.Grammar.{is_lower, is_upper, is_digit, is_word, Blank, space, feed, return, name, variable, number, Fact}
use Rattle.grammar.specs.Reader.{Mode, first, head, arg, word, minus, digits, after, closed, stop, between, remark, Frame, frame, Work, Next, dead}
use Rattle.grammar.specs.Reader.{go, says, is_blank, layout, push, put, one_more, limit, bits_after, step}
use Rattle.grammar.specs.Reader as R
use Rattle.grammar.proofs.Complete.{or-true, and-true, upper-below, digit-below, not_lower, not-upper}
use Rattle.grammar.proofs.Sound.{is-blank}
use Rattle.expecting.specs.declared.Stand.{Stand}
use Rattle.expecting.specs.declared.Stand.TheVariants as stand
use Rattle.expecting.specs.declared.Sight.{Sight}
use Rattle.expecting.specs.Looking.{sight, rested, termed, worded, opened, seen, glance, look_from}
use Rattle.expecting.specs.Looking as L
use Rattle.expecting.specs.Expected.{here, onward, reach}

-- a mode without its numbers, a comment left out
abbrev pub stand_of : Mode → Stand
stand_of first = stand.First
stand_of (head s) = stand.Head
stand_of arg = stand.Arg
stand_of (word true s) = stand.Name
stand_of (word false s) = stand.Variable
stand_of minus = stand.Minus
stand_of (digits sign v) = stand.Number
stand_of after = stand.After
stand_of closed = stand.Closed
stand_of stop = stand.Stop
stand_of between = stand.Between
stand_of (remark m) = stand_of m

abbrev pub remarks : Mode → Bool
remarks first = false
remarks (head s) = false
remarks arg = false
remarks (word n s) = false
remarks minus = false
remarks (digits sign v) = false
remarks after = false
remarks closed = false
remarks stop = false
remarks between = false
remarks (remark m) = true

-- a comment stands in no comment
pub data View : Mode → Type 0 where
  plain : {m : Mode} → remarks m ≡ false → View m
  noted : {m : Mode} → remarks m ≡ false → View (remark m)

-- the commas of the open name on a level, the outermost being 1
abbrev pub Kept : ℕ → List Frame → ℕ → Type 0
Kept level [] n = Unit {0}
Kept level (f ∷ fs) n = (suc (length fs) ≡ level → n ≡ f.done) × Kept level fs n

pub record Agrees (level : ℕ) (m : Mode) (w : Work) (s : Sight) : Type 0 where
  pub same : s.stand ≡ stand_of m
  pub comment : s.comment ≡ remarks m
  pub depth : s.depth ≡ length w.opened
  pub kept : Kept level w.opened s.commas
  pub view : View m

-- after a step, where the reader makes one
pub data Steps (level : ℕ) (s : Sight) : Next → Type 0 where
  none : Steps level s dead
  on : {m : Mode} {w : Work} → Agrees level m w s → Steps level s (go m w)
  told : {f : Fact} {m : Mode} {w : Work} → Agrees level m w s → Steps level s (says f m w)

by_cond : {level : ℕ} {s : Sight} {n n' : Next} (t : Bool) → (t ≡ true → Steps level s n) → (t ≡ false → Steps level s n') → Steps level s (cond t n n')
by_cond true f g = f refl
by_cond false f g = g refl

-- levels above all open names
kept-over : (level : ℕ) (fs : List Frame) (n : ℕ) → length fs < level → Kept level fs n
kept-over level [] n h = tt
kept-over level (f ∷ fs) n h = (λ e. absurd (omega arith), kept-over level fs n (omega arith))

kept_push : (level : ℕ) (f : Frame) (fs : List Frame) (n : ℕ) → f.done ≡ 0 → Kept level fs n → Kept level (f ∷ fs) (cond (eqb (length fs + 1) level) 0 n)
kept_push level f fs n z h = by (eqb (length fs + 1) level) refl
  where
    by : (t : Bool) → eqb (length fs + 1) level ≡ t → Kept level (f ∷ fs) (cond t 0 n)
    by true e = (λ q. sym z, kept-over level fs 0 (omega (arith, eqb-true (length fs + 1) level e)))
    by false e = (λ q. absurd (eqb-false (length fs + 1) level e (omega arith)), h)

kept-comma : (level : ℕ) (f : Frame) (fs : List Frame) (n : ℕ) → Kept level (f ∷ fs) n
    → Kept level (one_more f ∷ fs) (cond (eqb (suc (length fs)) level) (n + 1) n)
kept-comma level f fs n h = by (eqb (suc (length fs)) level) refl
  where
    by : (t : Bool) → eqb (suc (length fs)) level ≡ t → Kept level (one_more f ∷ fs) (cond t (n + 1) n)
    by true e =
        let q = eqb-true (suc (length fs)) level e in
        (λ _. omega (arith, h.0 q), kept-over level fs (n + 1) (omega arith))
    by false e = (λ q. absurd (eqb-false (suc (length fs)) level e q), h.1)

-- the classes of bytes are apart
between_is : (low b high : ℕ) → (leb low b && leb b high) ≡ true → (low ≤ b) × (b ≤ high)
between_is low b high e = let a = and-true (leb low b) (leb b high) e in (leb-true low b a.0, leb-true b high a.1)

-- a letter, a digit or an underscore is none of the marks
word_over : (b : ℕ) → is_word b ≡ true → 46 < b
unfolding is_word is_lower is_upper is_digit
word_over b e =
    ⊎_elim (λ l. omega (arith, between_is 97 b 122 l))
    (λ h. ⊎_elim (λ u. ⊎_elim (λ l. omega (arith, eqb-true b 95 l)) (λ l. omega (arith, between_is 65 b 90 l)) (or-true (eqb b 95) (leb 65 b && leb b 90) u))
    (λ d. omega (arith, between_is 48 b 57 d)) (or-true (is_upper b) (is_digit b) h))
    (or-true (is_lower b) (is_upper b || is_digit b) e)

pub not-mark : (b c : ℕ) → is_word b ≡ true → c ≤ 46 → eqb b c ≡ false
not-mark b c e h = ne_eqb b c (λ q. absurd (omega (arith, word_over b e)))

pub not-blank : (b : ℕ) → is_word b ≡ true → is_blank b ≡ false
unfolding is_blank
not-blank b e = rw (not-mark b 32 e (omega arith), not-mark b 10 e (omega arith), not-mark b 13 e (omega arith))

lower_word : (b : ℕ) → is_lower b ≡ true → is_word b ≡ true
unfolding is_word
lower_word b e = rw e

upper-word : (b : ℕ) → is_upper b ≡ true → is_word b ≡ true
unfolding is_word
upper-word b e = rw (not_lower b (upper-below b e), e)

pub digit-word : (b : ℕ) → is_digit b ≡ true → is_word b ≡ true
unfolding is_word
digit-word b e = let h = digit-below b e in rw (not_lower b (omega arith), not-upper b h, e)

upper-digit : (b : ℕ) → is_upper b ≡ true → is_digit b ≡ false
unfolding is_upper is_digit
upper-digit b e =
    ⊎_elim (λ l. rw (lt-leb b 57 (omega (arith, eqb-true b 95 l)), and-false (leb 48 b)))
    (λ l. rw (lt-leb b 57 (omega (arith, between_is 65 b 90 l)), and-false (leb 48 b))) (or-true (eqb b 95) (leb 65 b && leb b 90) e)

-- what is seen of each class
seen-word : (level : ℕ) (s : Stand) (d n b : ℕ) → is_word b ≡ true → seen level s d n b ≡ sight (worded s (termed b)) false d n
unfolding seen
seen-word level s d n b e =
    rw (
      not-mark b 37 e (omega arith),
      not-blank b e,
      not-mark b 40 e (omega arith),
      not-mark b 41 e (omega arith),
      not-mark b 44 e (omega arith),
      not-mark b 45 e (omega arith),
      not-mark b 46 e (omega arith),
    )

seen-blank : (level : ℕ) (s : Stand) (d n : ℕ) {b : ℕ} → Blank b → seen level s d n b ≡ sight (rested s) false d n
unfolding seen is_blank
seen-blank level s d n space = refl
seen-blank level s d n feed = refl
seen-blank level s d n return = refl

module _ (level : ℕ) where
  -- a word byte, layout, and what follows a term, in any mode that takes them
  on_word : (m : Mode) (w : Work) (s : Stand) (n b : ℕ) → is_word b ≡ true → worded s (termed b) ≡ stand_of m → remarks m ≡ false
      → Kept level w.opened n → Steps level (seen level s (length w.opened) n b) (go m w)
  on_word m w s n b e h r k =
      rw (seen-word level s (length w.opened) n b e)
      (on (record { same = h; comment = sym r; depth = refl; kept = k; view = plain r }))

  on-layout : (m : Mode) (w : Work) (s : Stand) (n b : ℕ) → rested s ≡ stand_of m → remarks m ≡ false → Kept level w.opened n
      → Steps level (seen level s (length w.opened) n b) (layout m w b)
  unfolding layout seen
  on-layout m w s n b h r k =
      by_cond (is_blank b)
      (λ e. rw (seen-blank level s (length w.opened) n (is-blank b e)) (on (record { same = h; comment = sym r; depth = refl; kept = k; view = plain r })))
      (λ e. by_cond (eqb b 37) (λ q. rw q (on (record { same = h; comment = refl; depth = refl; kept = k; view = noted r }))) (λ q. none))

  on-comma : (w : Work) (s : Stand) (n : ℕ) (fs : List Frame) → Kept level fs n
      → Steps level (seen level s (length fs) n 44) (R.on_comma w.start w.end w.done fs w.out)
  unfolding R.on_comma seen is_blank
  on-comma w s n [] k = on (record { same = refl; comment = refl; depth = refl; kept = tt; view = plain refl })
  on-comma w s n (f ∷ fs) k =
      by_cond (ltb f.done 3) (λ e. on (record { same = refl; comment = refl; depth = refl; kept = kept-comma level f fs n k; view = plain refl }))
      (λ e. none)

  on-close : (w : Work) (s : Stand) (n : ℕ) (fs : List Frame) → Kept level fs n
      → Steps level (seen level s (length fs) n 41) (R.on_close w.start w.end w.done fs w.out)
  unfolding R.on_close seen is_blank L.closed
  on-close w s n [] k = on (record { same = refl; comment = refl; depth = refl; kept = tt; view = plain refl })
  on-close w s n (f ∷ fs) k =
      let less : suc (length fs) - 1 ≡ length fs = omega arith in
      rw (ne_eqb (suc (length fs)) 0 (λ e. absurd (omega arith)))
      (on (record { same = refl; comment = refl; depth = less; kept = k.1; view = plain refl }))

  on-past : (w : Work) (s : Stand) (n b : ℕ) → rested s ≡ stand.After → Kept level w.opened n
      → Steps level (seen level s (length w.opened) n b) (R.past w b)
  unfolding R.past
  on-past w s n b h k =
      by_cond (eqb b 44) (λ e. rw (eqb-true b 44 e) (on-comma w s n w.opened k))
      (λ e. by_cond (eqb b 41) (λ q. rw (eqb-true b 41 q) (on-close w s n w.opened k)) (λ q. on-layout after w s n b h refl k))

  -- one byte outside a comment
  steps-in : (m : Mode) (w : Work) (p n b : ℕ) → remarks m ≡ false → Kept level w.opened n
      → Steps level (seen level (stand_of m) (length w.opened) n b) (step m w p b)
  unfolding step seen opened is_blank put push termed
  steps-in first w p n b r k =
      by_cond (is_lower b) (λ e. on_word (head p) w stand.First n b (lower_word b e) refl refl k) (λ e. on-layout first w stand.First n b refl refl k)
  steps-in (head s) w p n b r k =
      by_cond (is_word b) (λ e. on_word (head s) w stand.Head n b e refl refl k)
      (λ e. by_cond (eqb b 40) (λ q. rw (eqb-true b 40 q) (on (record { same = refl; comment = refl; depth = refl; kept = tt; view = plain refl })))
      (λ q. none))
  steps-in arg w p n b r k =
      by_cond (is_lower b) (λ e. on_word (word true p) w stand.Arg n b (lower_word b e) (rw e) refl k)
      (λ e. by_cond (is_upper b) (λ u. on_word (word false p) w stand.Arg n b (upper-word b u) (rw (e, upper-digit b u)) refl k)
      (λ u. by_cond (is_digit b) (λ d. on_word (digits false (b - 48)) w stand.Arg n b (digit-word b d) (rw (e, d)) refl k)
      (λ d. by_cond (eqb b 45) (λ q. rw (eqb-true b 45 q) (on (record { same = refl; comment = refl; depth = refl; kept = k; view = plain refl })))
      (λ q. on-layout arg w stand.Arg n b refl refl k))))
  steps-in (word true s) w p n b r k =
      by_cond (is_word b) (λ e. on_word (word true s) w stand.Name n b e refl refl k)
      (λ e. by_cond (eqb b 40)
      (λ q. rw (eqb-true b 40 q) (on (record {
        same = refl;
        comment = refl;
        depth = add-one (length w.opened);
        kept =
            kept_push level (frame (length w.out) s p 0) w.opened n refl k;
        view = plain refl;
      })))
      (λ q. on-past (put (name s p 0) w) stand.Name n b refl k))
  steps-in (word false s) w p n b r k =
      by_cond (is_word b) (λ e. on_word (word false s) w stand.Variable n b e refl refl k) (λ e. on-past (put (variable s p) w) stand.Variable n b refl k)
  steps-in minus w p n b r k = by_cond (is_digit b) (λ e. on_word (digits true (b - 48)) w stand.Minus n b (digit-word b e) refl refl k) (λ e. none)
  steps-in (digits sign v) w p n b r k =
      by_cond (is_digit b)
      (λ e. by_cond (leb (10 * v + (b - 48)) (limit sign))
      (λ q. on_word (digits sign (10 * v + (b - 48))) w stand.Number n b (digit-word b e) refl refl k) (λ q. none))
      (λ e. on-past (put (number (bits_after sign v)) w) stand.Number n b refl k)
  steps-in after w p n b r k = on-past w stand.After n b refl k
  steps-in closed w p n b r k =
      by_cond (eqb b 46) (λ q. rw (eqb-true b 46 q) (told (record { same = refl; comment = refl; depth = refl; kept = tt; view = plain refl })))
      (λ q. on-layout closed w stand.Closed n b refl refl k)
  steps-in stop w p n b r k = on-layout between w stand.Stop n b refl refl k
  steps-in between w p n b r k =
      by_cond (is_lower b) (λ e. on_word (head p) w stand.Between n b (lower_word b e) refl refl k) (λ e. on-layout between w stand.Between n b refl refl k)
  steps-in (remark m) w p n b r k = absurd (true≢false r)

  -- one byte, in a comment or not
  outside : (m : Mode) (w : Work) (p b : ℕ) (s : Sight) → remarks m ≡ false → Agrees level m w s → Steps level (glance level s b) (step m w p b)
  unfolding glance
  outside m w p b s r a =
      let e : glance level s b ≡ seen level (stand_of m) (length w.opened) s.commas b = rw (a.comment ∙ r, a.same, a.depth) in
      rw e (steps-in m w p s.commas b r a.kept)

  inside : (m : Mode) (w : Work) (p b : ℕ) (s : Sight) → remarks m ≡ false → Agrees level (remark m) w s
      → Steps level (glance level s b) (step (remark m) w p b)
  unfolding glance step
  inside m w p b s r a =
      rw a.comment
      (by_cond (eqb b 10) (λ e. on (record { same = a.same; comment = rw e (sym r); depth = a.depth; kept = a.kept; view = plain r }))
      (λ e. on (record { same = a.same; comment = rw e; depth = a.depth; kept = a.kept; view = noted r })))

  steps : (m : Mode) (w : Work) (p b : ℕ) (s : Sight) → Agrees level m w s → Steps level (glance level s b) (step m w p b)
  steps m w p b s a = by a.view a
    where
      by : {m : Mode} → View m → Agrees level m w s → Steps level (glance level s b) (step m w p b)
      by {m} (plain r) a = outside m w p b s r a
      by (noted {m = m} r) a = inside m w p b s r a

  -- all bytes, as far as a text begins with them
  pub look-agrees : (xs : List ℕ) (m : Mode) (w : Work) (p : ℕ) (s : Sight) {m' : Mode} {w' : Work} → reach xs m w p ≡ here m' w' → Agrees level m w s
      → Agrees level m' w' (look_from level s xs)
  unfolding reach look_from
  look-agrees [] m w p s {m'} {w'} e a = let h : m ≡ m' = cc in let k : w ≡ w' = cc in rw (← h, ← k) a
  look-agrees (b ∷ xs) m w p s {m'} {w'} e a =
      on-next (step m w p b) (steps m w p b s a) e (λ m'' w'' e' a'. look-agrees xs m'' w'' (suc p) (glance level s b) e' a')
    where
      on-next : (n : Next) → Steps level (glance level s b) n → onward n (λ (m'' : Mode) (w'' : Work). reach xs m'' w'' (suc p)) ≡ here m' w'
          → ((m'' : Mode) (w'' : Work) → reach xs m'' w'' (suc p) ≡ here m' w' → Agrees level m'' w'' (glance level s b)
          → Agrees level m' w' (look_from level (glance level s b) xs))
          → Agrees level m' w' (look_from level (glance level s b) xs)
      on-next dead z q f = absurd (let o : ◌≡◌ {A = ℕ} 0 1 = cc in omega arith)
      on-next (go m'' w'') (on z) q f = f m'' w'' q z
      on-next (says g m'' w'') (told z) q f = f m'' w'' q z
