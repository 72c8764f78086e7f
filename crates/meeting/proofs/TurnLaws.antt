-- What a replacement makes of the two lists, a step, and all steps: by the case of what the function answers.
use Rattle.std.specs.Prelude.{Option, Some, None}
use Prim.Native.Nat.{ℕ, ◌+◌, ◌-◌, ◌≤◌, ◌<◌}
use mathlib.Core.Path.{◌≡◌, ◌∙◌, subst}
use mathlib.Core.List.{List}
use native.Mathlib.Omega.{arith}
use lib.ListN.{length}
use Rattle.instance.specs.code.Meet.{Hit, InstanceMet, Over}
use Rattle.meeting.specs.declared.Stand.{Stand}
use Rattle.meeting.specs.Ended.{Ended, ended, ended-over}
use Rattle.meeting.specs.code.Turns.{MeetingAt, Turning, turned, Sound, Bound, bound, bound-over, Went, Stepped, stepped, stepped-over}
use Rattle.meeting.specs.code.Turns.{at_start, Starting, Finished, finished, finished-over}
use Rattle.octets.specs.Octets.{Put}
use Rattle.octets.proofs.PutLaws.{put-length}
use Rattle.meeting.proofs.PartLaws.{put_in}
use Rattle.limits.specs.Limits.{most_meeting_cells}

-- a variable is replaced: one less
pub bound-stepped : {cells cells' : List ℕ} {v : ℕ} {t : List ℕ} {k next : Stand} {r : Option Stand} → length cells ≤ most_meeting_cells → next.turns ≡ k.turns
    → ((row goal : List ℕ) → MeetingAt row goal cells k → (0 < k.turns) × Turning row goal cells v t next)
    → Bound cells v t cells' next r → Stepped cells cells' k r
bound-stepped h e f (bound g l m) =
    stepped (record {
      sound = g;
      less = omega (arith, h, e, l, g.held);
      turn = omega (arith, e, l);
      meeting = λ row goal w. m row goal (f row goal w).1;
    })
bound-stepped h e f (bound-over o) = stepped-over (λ y row goal w. let x = f row goal w in o y row goal (omega (arith, e, x.0)) x.1)

-- the three parts stand one after the other
pub bound-fits : {cells cells' t : List ℕ} {v q l m : ℕ} {k : Stand} → q ≤ l → l ≤ m → m ≤ length cells → 0 < k.turns
    → ((row goal : List ℕ) → Turning row goal cells v t k
    → MeetingAt row goal cells' (record { i = l; n = m; at = q; len = l; turns = k.turns - 1 }))
    → Bound cells v t cells' k (Some (record { i = l; n = m; at = q; len = l; turns = k.turns - 1 }))
bound-fits {cells = cells} {q = q} {l} {m} {k = k} i a h p f =
    let s : Sound (length cells) (record { i = l; n = m; at = q; len = l; turns = k.turns - 1 }) =
    record { inside = i; apart = omega arith; started = a; held = h } in
    let t : k.turns - 1 < k.turns = omega (arith, p) in
    bound s t f

-- nothing moves
pub bound-still : {cells cells' t : List ℕ} {v : ℕ} {k : Stand} → Sound (length cells) k → 0 < k.turns
    → ((row goal : List ℕ) → Turning row goal cells v t k → MeetingAt row goal cells' (turned k))
    → Bound cells v t cells' k (Some (turned k))
bound-still {cells = cells} {k = k} s p f =
    let g : Sound (length cells) (turned k) = record { inside = s.inside; apart = s.apart; started = s.started; held = s.held } in
    let t : k.turns - 1 < k.turns = omega (arith, p) in
    bound g t f

-- in a list of the same length
pub sound-by : {a b : ℕ} {k : Stand} → a ≡ b → Sound a k → Sound b k
sound-by {k = k} e = subst (λ (n : ℕ). Sound n k) e

-- where they stand after a variable of the row, and of the goal
pub row-sound : {size : ℕ} {k : Stand} {e : ℕ} → Sound size k → k.i < k.n → e ≤ k.len
    → Sound size (record { i = k.i + 1; n = k.n; at = e; len = k.len; turns = k.turns })
row-sound s m h = record { inside = h; apart = omega (arith, s.apart); started = omega (arith, m); held = s.held }

pub goal-sound : {size : ℕ} {k : Stand} {e : ℕ} → Sound size k → k.at < k.len → k.i ≤ e → e ≤ k.n
    → Sound size (record { i = e; n = k.n; at = k.at + 1; len = k.len; turns = k.turns })
goal-sound s m a h = record { inside = omega (arith, m); apart = omega (arith, s.apart, a); started = h; held = s.held }

-- the same cell
abbrev onward : Stand → Stand
onward k = record { i = k.i + 1; n = k.n; at = k.at + 1; len = k.len; turns = k.turns }

pub stepped_same : {cells : List ℕ} {k : Stand} → Sound (length cells) k → k.i < k.n → k.at < k.len
    → ((row goal : List ℕ) → MeetingAt row goal cells k → MeetingAt row goal cells (onward k)) → Stepped cells cells k (Some (onward k))
stepped_same {cells} {k} s m g f =
    let w : Went cells cells k (onward k) =
    record {
      sound = record { inside = omega (arith, g); apart = omega (arith, s.apart); started = omega (arith, m); held = s.held };
      less = omega (arith, m);
      turn = omega arith;
      meeting = f;
    } in
    stepped w

-- a step
module _ {cells cells' : List ℕ} {k : Stand} where
  pub step_fits : {r : Option Stand} {s : Stand} → r ≡ Some s → Stepped cells cells' k r → Went cells cells' k s
  step_fits {s = s} e x = go (subst (Stepped cells cells' k) e x)
    where
      go : Stepped cells cells' k (Some s) → Went cells cells' k s
      go (stepped w) = w

  pub step-over : {r : Option Stand} → r ≡ None → Stepped cells cells' k r → length cells ≡ most_meeting_cells → (row goal : List ℕ) → MeetingAt row goal cells k
      → Over row goal
  step-over e x = go (subst (Stepped cells cells' k) e x)
    where
      go : Stepped cells cells' k None → length cells ≡ most_meeting_cells → (row goal : List ℕ) → MeetingAt row goal cells k → Over row goal
      go (stepped-over o) = o

-- the goal's cells and the row's are in the list
pub starting : {cells₀ cells₁ cells other xs ys : List ℕ} {len n : ℕ} → length cells₀ ≤ most_meeting_cells → length cells₀ < length other
    → Put cells₀ cells₁ 0 xs len → Put cells₁ cells len ys n → Starting cells other len n
starting l o p q =
    let a = put_in p (omega arith) in
    let b = put_in q (omega (arith, a.1, put-length p)) in
    let e = put-length q ∙ put-length p in
    record {
      lists = record { most = omega (arith, e, l); beside = omega (arith, e, o) };
      sound = record { inside = omega arith; apart = omega arith; started = b.0; held = omega (arith, b.1, put-length q) };
    }

-- the row is at its end
pub finished-at : {cells cells' : List ℕ} {len n : ℕ} {k : Stand} → Sound (length cells) k
    → ((row goal : List ℕ) → MeetingAt row goal cells (at_start len n) → InstanceMet row goal cells' k.len)
    → Finished cells cells' len n (Some k.len)
finished-at {cells} {k = k} s f = let h : k.len ≤ length cells = omega (arith, s.apart, s.started, s.held) in finished h f

-- all steps, from where the work starts for a hit
pub finished-ended : {row goal lent other cells cells' : List ℕ} {len n : ℕ} {r : Option ℕ} → length cells ≡ length lent → length cells' ≡ length cells
    → (Hit row goal → MeetingAt row goal cells (at_start len n)) → Finished cells cells' len n r → Ended row goal lent other cells' r
finished-ended {row} {goal} {cells' = cells'} e l f (finished {m} h w) =
    let i : m ≤ length cells' = omega (arith, l, h) in
    ended i (λ x. w row goal (f x))
finished-ended {row} {goal} e l f (finished-over o) = ended-over (λ x y. o (e ∙ y.long) row goal (f x))
