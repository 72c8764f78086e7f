-- WHAT IS SAID TO BE EXPECTED IS WHAT THE GRAMMAR TAKES: for every text, at every place up to which some accepted text begins so, and with
-- that wherever a text is refused with TEXT.
use Prim.Native.Nat.{ℕ, ◌+◌}
use mathlib.Core.Path.{◌≡◌, refl, sym, ◌∙◌}
use mathlib.Core.Bool.{Bool, true, false, cond, ◌&&◌, ◌||◌, true≢false, false≢true}
use mathlib.Core.List.{List, [], ◌∷◌, ◌++◌, append-nil, append_assoc}
use mathlib.Core.Logic.{◌↔◌}
use lib.Dec.{eqb, leb, ltb}
use lib.ListN.{length, take, drop}
use Rattle.grammar.specs.Grammar.{Fact, Text}
use Rattle.grammar.specs.Reader.{Mode, first, head, arg, word, minus, digits, after, closed, stop, between, remark, Work, nothing, is_blank, step}
use Rattle.grammar.specs.Reader.{stops, reads, finish, run, text_of}
use Rattle.grammar.specs.Stops.{Begins}
use Rattle.grammar.proofs.Sound.{clash}
use Rattle.grammar.proofs.Accepted.{accepted}
use Rattle.expecting.specs.declared.What.TheVariants as what
use Rattle.expecting.specs.declared.Stand.{Stand}
use Rattle.expecting.specs.declared.Stand.TheVariants as stand
use Rattle.expecting.specs.declared.Sight.{Sight}
use Rattle.expecting.specs.Looking.{sight, is_head, opened, seen, glance, look_from, look_at, marks, what_of, found_at, wanted_at}
use Rattle.expecting.specs.Looking as L
use Rattle.expecting.specs.Expected.{takes, may_end, here, reach, goes_on, in_comment, ahead, Right}
use Rattle.expecting.proofs.Agreed.{stand_of, remarks, Kept, View, plain, noted, Agrees, look-agrees}
use Rattle.expecting.proofs.Alive.{alive, test, mode-alive}
use Rattle.expecting.proofs.Reaching.{Reads, reads_on, reads_all, reach-more, alive-reads, reads-alive}

-- no text ends after a term
marks-no-end : (d n : ℕ) → may_end (marks d n) ≡ false
marks-no-end d n = by (ltb 0 d && leb 3 n)
  where
    by : (t : Bool) → may_end (cond t what.Close what.Mark) ≡ false
    by true = refl
    by false = refl

no_end : {b : Bool} {k : ℕ} → b ≡ false → (Reads (stops k) ↔ (b ≡ true))
no_end h = (λ r. clash r.is, λ e. absurd (false≢true (sym h ∙ e)))

an-end : Reads (reads []) ↔ (true ≡ true)
an-end = (λ r. refl, λ e. record { facts = []; is = refl })

mode-ends : (m : Mode) (p d n : ℕ) → remarks m ≡ false → Reads (finish m p) ↔ (may_end (what_of (stand_of m) d n) ≡ true)
unfolding finish
mode-ends first p d n r = no_end refl
mode-ends (head s) p d n r = no_end refl
mode-ends arg p d n r = no_end refl
mode-ends (word true s) p d n r = no_end (marks-no-end d n)
mode-ends (word false s) p d n r = no_end (marks-no-end d n)
mode-ends minus p d n r = no_end refl
mode-ends (digits sign v) p d n r = no_end (marks-no-end d n)
mode-ends after p d n r = no_end (marks-no-end d n)
mode-ends closed p d n r = no_end refl
mode-ends stop p d n r = an-end
mode-ends between p d n r = an-end
mode-ends (remark m) p d n r = absurd (true≢false r)

-- bytes that end inside a comment are seen to
seen-comment : (level : ℕ) (s : Stand) (d n b : ℕ) → (seen level s d n b).comment ≡ eqb b 37
unfolding seen opened L.closed
seen-comment level s d n b =
    test (eqb b 37) (λ e. rw e)
    (λ e. rw e
    (test (is_blank b) (λ q. rw q)
    (λ q. rw q
    (test (eqb b 40) (λ h. rw h (test (is_head s) (λ x. rw x) (λ x. rw x)))
    (λ h. rw h
    (test (eqb b 41) (λ k. rw k (test (eqb d 0) (λ x. rw x) (λ x. rw x)))
    (λ k. rw k (test (eqb b 44) (λ x. rw x) (λ x. rw x (test (eqb b 45) (λ y. rw y) (λ y. rw y (test (eqb b 46) (λ z. rw z) (λ z. rw z)))))))))))))

look-comment : (level : ℕ) (s : Sight) (xs : List ℕ) → (look_from level s xs).comment ≡ in_comment s.comment xs
unfolding look_from in_comment glance
look-comment level s [] = refl
look-comment level s (b ∷ xs) = look-comment level (glance level s b) xs ∙ by s.comment refl
  where
    by : (t : Bool) → s.comment ≡ t → in_comment (glance level s b).comment xs ≡ in_comment s.comment (b ∷ xs)
    by true e = rw e
    by false e = rw (e, seen-comment level s.stand s.depth s.commas b)

-- Some bytes that lead to a mode outside a comment, and the commas of its innermost open name.
module _ (u : List ℕ) (m : Mode) (w : Work) (e : reach u first nothing 0 ≡ here m w) where
  text-of : {fs : List Fact} (v : List ℕ) → Text (u ++ v) fs → Reads (run (u ++ v) first nothing 0)
  unfolding text_of
  text-of {fs} v x = record { facts = fs; is = (accepted (u ++ v) fs).1 x }

  -- the mode is the one that a text goes on from
  from-here : (v : List ℕ) → Reads (run (u ++ v) first nothing 0) → Reads (run v m w (0 + length u))
  from-here v r =
      let g = reads_on u v first nothing 0 r in
      let h : m ≡ g.0 = cc g.2 in
      let k : w ≡ g.1 = cc g.2 in
      rw (h, k) g.3

  -- some accepted text goes on with a byte exactly when the reader does
  pub bytes-are : (b : ℕ) → Begins (u ++ (b ∷ [])) ↔ (alive (step m w (0 + length u) b) ≡ true)
  unfolding text_of
  bytes-are b = (to, back)
    where
      to : Begins (u ++ (b ∷ [])) → alive (step m w (0 + length u) b) ≡ true
      to g =
          let x : Text (u ++ (b ∷ g.rest)) g.facts = rw append_assoc at g.text in
          reads-alive m w (0 + length u) b g.rest (from-here (b ∷ g.rest) (text-of (b ∷ g.rest) x))

      back : alive (step m w (0 + length u) b) ≡ true → Begins (u ++ (b ∷ []))
      back h =
          let g = alive-reads m w (0 + length u) b h in
          let r = reads_all u (b ∷ g.0) first nothing 0 e g.1 in
          let x : Text (u ++ (b ∷ g.0)) r.facts = (accepted (u ++ (b ∷ g.0)) r.facts).0 r.is in
          record { rest = g.0; facts = r.facts; text = rw append_assoc x }

  -- and the text could end here exactly when the reader may
  ends-are : ((fs : List Fact) × Text u fs) ↔ Reads (finish m (0 + length u))
  unfolding text_of run
  ends-are = (to, back)
    where
      to : ((fs : List Fact) × Text u fs) → Reads (finish m (0 + length u))
      to x = from-here [] (text-of [] (rw (sym (append-nil u)) at x.1))

      back : Reads (finish m (0 + length u)) → (fs : List Fact) × Text u fs
      back h =
          let r = reads_all u [] first nothing 0 e h in
          let x : Text (u ++ []) r.facts = (accepted (u ++ []) r.facts).0 r.is in
          (r.facts, rw append-nil at x)

  -- of bytes that lead to a mode outside a comment, with the commas of its innermost open name
  right_of : (n : ℕ) → remarks m ≡ false → Kept (length w.opened) w.opened n → Right u (what_of (stand_of m) (length w.opened) n)
  right_of n r k = record {
    bytes = λ b. (
      λ g. goes_on_lem b ∙ (bytes-are b).0 g,
      λ h. (bytes-are b).1 (sym (goes_on_lem b) ∙ h),
    );
    ends = let x = mode-ends m (0 + length u) (length w.opened) n r in (λ t. x.0 (ends-are.0 t), λ h. ends-are.1 (x.1 h));
  }
    where
      goes_on_lem : (b : ℕ) → (goes_on u b || takes (what_of (stand_of m) (length w.opened) n) b) ≡ alive (step m w (0 + length u) b)
      goes_on_lem b = rw e (sym (mode-alive w (0 + length u) n b k m r))

-- the same of the bytes before a place, a line feed after them where they end inside a comment
module _ (t : List ℕ) (k : ℕ) {m : Mode} {w : Work} (e : reach (take k t) first nothing 0 ≡ here m w) where
  pub begins-agrees : (level : ℕ) → Agrees level m w (look_at level (take k t))
  begins-agrees level =
      look-agrees level (take k t) first nothing 0 (sight stand.First false 0 0) e
      (record { same = refl; comment = refl; depth = refl; kept = tt; view = plain refl })

  pub ahead-plain : remarks m ≡ false → ahead t k ≡ take k t
  unfolding ahead
  ahead-plain r =
      let h : in_comment false (take k t) ≡ false = sym (look-comment 0 (sight stand.First false 0 0) (take k t)) ∙ (begins-agrees 0).comment ∙ r in
      rw h

  ahead-noted : remarks m ≡ true → ahead t k ≡ take k t ++ (10 ∷ [])
  unfolding ahead
  ahead-noted r =
      let h : in_comment false (take k t) ≡ true = sym (look-comment 0 (sight stand.First false 0 0) (take k t)) ∙ (begins-agrees 0).comment ∙ r in
      rw h

  -- the look on the level of the innermost open name
  look-here : Sight
  look-here = look_at (length w.opened) (take k t)

  kept_here : Kept (length w.opened) w.opened look-here.commas
  unfolding look-here
  kept_here = (begins-agrees (length w.opened)).kept

  what-here : (wanted_at t k).what ≡ what_of (stand_of m) (length w.opened) look-here.commas
  unfolding wanted_at look-here
  what-here = let a = begins-agrees (length w.opened) in rw ((begins-agrees 0).depth, a.same, a.depth)

  pub found_here : (wanted_at t k).found ≡ found_at (stand_of m) (wanted_at t k).what (drop k t)
  unfolding wanted_at
  found_here = let a = begins-agrees (look_at 0 (take k t)).depth in rw a.same

right-in : (t : List ℕ) (k : ℕ) {m : Mode} {w : Work} → reach (take k t) first nothing 0 ≡ here m w → View m → Right (ahead t k) (wanted_at t k).what
unfolding step
right-in t k {m} {w} e (plain r) =
    rw (ahead-plain t k e r, what-here t k e) (right_of (take k t) m w e (look-here t k e).commas r (kept_here t k e))
right-in t k {w = w} e (noted {m = m} r) =
    let h : reach (take k t ++ (10 ∷ [])) first nothing 0 ≡ here m w = reach-more (take k t) first nothing 0 10 e in
    rw (ahead-noted t k e refl, what-here t k e) (right_of (take k t ++ (10 ∷ [])) m w h (look-here t k e).commas r (kept_here t k e))

-- up to a place where some accepted text begins so the reader reaches a mode
pub begins-reach : (t : List ℕ) (k : ℕ) → Begins (take k t) → (m : Mode) × (w : Work) × (reach (take k t) first nothing 0 ≡ here m w)
unfolding text_of
begins-reach t k g =
    let r : Reads (run (take k t ++ g.rest) first nothing 0) = record { facts = g.facts; is = (accepted (take k t ++ g.rest) g.facts).1 g.text } in
    let o = reads_on (take k t) g.rest first nothing 0 r in
    (o.0, o.1, o.2)

-- AT EVERY PLACE UP TO WHICH SOME ACCEPTED TEXT BEGINS SO
pub begins-right : (t : List ℕ) (k : ℕ) → Begins (take k t) → Right (ahead t k) (wanted_at t k).what
begins-right t k g = let o = begins-reach t k g in right-in t k o.2 (begins-agrees t k o.2 0).view
