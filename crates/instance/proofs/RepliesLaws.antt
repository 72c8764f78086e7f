-- What a run has found gives the replies (02, W-203): one for each row that unifies with the goal, in row order.
use Prim.Native.Nat.{ℕ, suc, ◌+◌, ◌*◌, ◌≤◌, ◌<◌}
use mathlib.Core.Path.{◌≡◌, refl, sym, ◌∙◌, ap, subst}
use mathlib.Core.List.{List, [], ◌∷◌, flatten}
use native.Mathlib.Omega.{arith}
use native.Mathlib.Numerals.{add-one}
use lib.ListN.{length, get_or, drop, length-append}
use lib.Seq.{drop-cons}
use Rattle.term.specs.Unify.{Matches}
use Rattle.refusal.specs.Read.{read}
use Rattle.table.specs.All.{All}
use Rattle.table.specs.Table.{Table, table_of, goal_of, Row, IsGoal}
use Rattle.table.proofs.AllLaws.{all-member}
use Rattle.table.proofs.ReadLaws.{read_one, first}
use Rattle.table.proofs.Accepted.{is-table, is-goal}
use Rattle.plan.specs.Check.{plan_of}
use Rattle.answer.specs.Run.{Picks, none, hit, miss}
use Rattle.instance.specs.Reply.{Reply, Replies, Short, Large}
use Rattle.instance.specs.Replied.{replies_of}
use Rattle.instance.specs.Reply as replies
use Rattle.instance.specs.code.Meet.{Hit}
use Rattle.instance.specs.code.Passes.{RepliesAt, done, next}
use Rattle.instance.proofs.StartLaws.{hit-there, the-reply}
use Rattle.instance.proofs.Variants.{reply-one}
use Rattle.limits.specs.Limits.{most_reply_cells}

-- what an accepted table, plan and goal are
pub replies-take : (t p g : List ℕ) {T : Table} → replies_of t p g ≡ read T → (table_of t ≡ read T) × IsGoal T.width g
unfolding replies_of
replies-take t p g e =
    let x = first (table_of t) _ e in
    let y = first (plan_of t p) _ x.2 in
    let z = first (goal_of x.0.width g) _ y.2 in
    let q = read_one z.2 in
    (x.1 ∙ ap read q, rw q at (is-goal x.0.width g z.1).0)

-- how many they are, and how many cells they have where none has over 1,024
pub replies-few : {goal : List ℕ} {rows all : List (List ℕ)} → Replies goal rows all → length all ≤ length rows
replies-few replies.none = omega arith
replies-few (replies.hit m r x) = omega (arith, replies-few x)
replies-few (replies.miss n x) = omega (arith, replies-few x)

pub short-flat : (all : List (List ℕ)) → All Short all → length (flatten all) ≤ length all * most_reply_cells
unfolding flatten
short-flat [] s = omega arith
short-flat (cells ∷ all) s = omega (arith, s.0, short-flat all s.1, length-append cells (flatten all))

pub not-large : {all : List (List ℕ)} → All Short all → Large all → ⊥
not-large {all} s l = omega (arith, l.over, all-member Short all s l.one)

-- so that 64 · 1,024 are enough
pub replies-room : (t p g : List ℕ) {T : Table} {all : List (List ℕ)} → replies_of t p g ≡ read T → Replies g T.rows all → All Short all
    → (length all ≤ 64) × (length (flatten all) ≤ 64 * most_reply_cells)
replies-room t p g {all = all} e a s =
    let i = is-table t (replies-take t p g e).0 in
    let n = replies-few a in
    (omega (arith, n, i.count), omega (arith, n, i.count, short-flat all s))

-- the replies to what is found, by row and by number
pub record Given (row : ℕ → List ℕ) (goal : List ℕ) (rows : List (List ℕ)) (last : ℕ) (found : List ℕ) : Type 0 where
  pub all : List (List ℕ)
  pub replies : Replies goal rows all
  pub at : RepliesAt row goal found all
  pub below : All (λ (r : ℕ). r < last) found
  pub many : length all ≡ length found
  pub few : length found ≤ length rows

module _ (row : ℕ → List ℕ) {w : ℕ} {goal : List ℕ} (g : IsGoal w goal) (last : ℕ) where
  pub picks-given : {rows : List (List ℕ)} {f : ℕ} {found : List ℕ} → All (Row w) rows → f + length rows ≡ last
      → ((j : ℕ) → row (f + j) ≡ get_or rows j []) → Picks (λ (r : List ℕ). Matches r goal) rows f found → Given row goal rows last found
  picks-given a l e none = record { all = []; replies = replies.none; at = done; below = tt; many = refl; few = omega arith }
  picks-given {f = f} a l e (hit {r} {rs} {hs = hs} m p) =
      let rest = picks-given {rows = rs} {f = suc f} a.1 (omega arith) (λ j. ap row (suc-in f j) ∙ e (suc j)) p in
      let t = the-reply a.0 g.head m in
      let cells = t.0 in
      let is : row f ≡ r = ap row (zero_in f) ∙ e 0 in
      record {
        all = cells ∷ rest.all;
        replies = replies.hit m t.1 rest.replies;
        at =
            next (subst (λ (x : List ℕ). Hit x goal) (sym is) (hit-there a.0 g.head m))
            (subst (λ (x : List ℕ). Reply x goal cells) (sym is) t.1) rest.at;
        below = (omega arith, rest.below);
        many = ap suc rest.many;
        few = omega (arith, rest.few);
      }
    where
      suc-in : (f j : ℕ) → suc f + j ≡ f + suc j
      suc-in f j = omega arith

      zero_in : (f : ℕ) → f ≡ f + 0
      zero_in f = omega arith
  picks-given {f = f} a l e (miss {r} {rs} n p) =
      let rest = picks-given {rows = rs} {f = suc f} a.1 (omega arith) (λ j. ap row (suc-in f j) ∙ e (suc j)) p in
      record {
        all = rest.all;
        replies = replies.miss n rest.replies;
        at = rest.at;
        below = rest.below;
        many = rest.many;
        few = omega (arith, rest.few);
      }
    where
      suc-in : (f j : ℕ) → suc f + j ≡ f + suc j
      suc-in f j = omega arith

-- the replies by number are one list
pub at_one : {row : ℕ → List ℕ} {goal hits : List ℕ} {xs ys : List (List ℕ)} → RepliesAt row goal hits xs → RepliesAt row goal hits ys → xs ≡ ys
at_one done done = refl
at_one (next {cells = c} {all = xs} h r a) (next {cells = d} {all = ys} k s b) =
    ap (λ (l : List (List ℕ)). c ∷ l) (at_one a b) ∙ ap (λ (x : List ℕ). x ∷ ys) (reply-one r s)

-- one after another: what the next number gives, and what is left
pub record Next (row : ℕ → List ℕ) (goal hits : List ℕ) (i : ℕ) (all : List (List ℕ)) : Type 0 where
  pub hit : Hit (row (get_or hits i 0)) goal
  pub cells : List ℕ
  pub reply : Reply (row (get_or hits i 0)) goal cells
  pub rest : List (List ℕ)
  pub at : RepliesAt row goal (drop (i + 1) hits) rest
  pub is : all ≡ cells ∷ rest

pub at_next : {row : ℕ → List ℕ} {goal : List ℕ} (hits : List ℕ) (i : ℕ) {all : List (List ℕ)} → i < length hits
    → RepliesAt row goal (drop i hits) all → Next row goal hits i all
at_next {row} {goal} hits i {all} h a =
    go (subst (λ (l : List ℕ). RepliesAt row goal l all) (drop-cons hits i 0 h ∙ ap (λ (n : ℕ). get_or hits i 0 ∷ drop n hits) (sym (add-one i))) a)
  where
    go : {zs : List (List ℕ)} → RepliesAt row goal (get_or hits i 0 ∷ drop (i + 1) hits) zs → Next row goal hits i zs
    go (next {cells = c} {all = xs} k r b) = record { hit = k; cells = c; reply = r; rest = xs; at = b; is = refl }
