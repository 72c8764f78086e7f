-- Where the rest of a row begins: at the walk's branch number n, with nothing met.
use Prim.Native.Nat.{ℕ, ◌+◌, ◌≤◌, ◌<◌}
use mathlib.Core.Path.{◌≡◌}
use mathlib.Core.List.Memᴰ
use mathlib.Core.List.{List, [], ◌∷◌}
use native.Mathlib.Nat.{zero-add}
use native.Mathlib.Omega.{arith}
use lib.ListN.{length, replicate, get_or-replicate, length-replicate}
use Rattle.term.specs.code.Fresh.{nil}
use Rattle.table.specs.All.{All}
use Rattle.answer.specs.Skeleton.{hole}
use Rattle.answer.specs.code.Renamed.{Goal}
use Rattle.answer.specs.code.Loose.{RowLike}
use Rattle.answer.specs.code.Loose.{Loose}
use Rattle.answer.proofs.SkeletonLaws.{fill-all, count-all}
use Rattle.walking.specs.code.Link.{entries, Tables, Linked}
use Rattle.walking.specs.code.Link as link
use Rattle.alone.specs.code.Alone.{Symbols, Standing, Chain, skeletons_of}
use Rattle.alone.specs.code.Rest.{length_of, Noted, Under, Begins}
use Rattle.alone.proofs.StartLaws.{steady, means-to, means-from, node-m}

module _ {w : ℕ} {G sib rep : List ℕ} (g : Goal w G) (T : Tables G sib rep) {bs ns us rs bs' keep slots R : List ℕ} {n e m k : ℕ}
    (L : Linked G rep sib bs ns us rs n e m slots R)
    (ne : n < e) (Y : Symbols n bs us bs') (sn : length ns ≡ 64) (ek : keep ≡ replicate 32 64) (wd : length slots ≡ k) where
  few : m ≤ 64
  few = omega (arith, L.few)

  stand-low : (rs : List ℕ) → link.GoalNodes G rep m rs → All (λ (r : ℕ). r < m) rs
  stand-low [] link.nil = tt
  stand-low (r ∷ rs) (link.cons o os) = (node-m g T L.binds ne L.some few Y sn r o, stand-low rs os)

  first-standing : Standing R sib bs' ns rep rs keep slots (replicate k hole) m k
  first-standing = record {
    steady = steady g T L.binds ne L.some few Y sn;
    vs = [];
    us = [];
    keeps = record {
      none = λ v l q. λ o. Memᴰ.not-nil o;
      some = λ v l q. absurd (q (rw ek (get_or-replicate 32 v 64 0 l)));
      size = rw ek (length-replicate {A = ℕ} 32 64);
    };
    distinct = nil;
    low = tt;
    met = tt;
    made = L.slots-made;
    stand = stand-low (entries rs slots) L.stand;
    width = wd;
    holes = count-all k;
    means = λ X t r.
        let f = fill-all k t in
        let r' : RowLike X = rw f at r in
        rw (f, L.same) (
          means-to g T L.binds ne L.some few Y sn X (entries rs slots) r' L.stand,
          means-from g T L.binds ne L.some few Y sn X (entries rs slots) r' L.stand,
        );
  }

  -- the loop's first turn
  first_under : {x words : List ℕ} {from to : ℕ} (q : Chain k x) → Loose (replicate k hole) x → Noted q words from slots m → from + length_of q ≡ to
      → length rs ≡ 64
      → Under R x (skeletons_of q (replicate k hole)) words sib bs' ns rep rs keep from from to
  first_under {x} q F N l z = record {
    k = k;
    x = x;
    K = replicate k hole;
    slots = slots;
    m = m;
    chain = q;
    done = 0;
    going = record { standing = first-standing; loose = F; same = fill-all k (rw (count-all k) at F.terms); rest = λ n c. rw zero-add c };
    noted = N;
    left = l;
    so_far = omega arith;
    size-refs = z;
  }

-- what the code has, and the loop's first turn
pub begins-under : {words rep sib bs ns us rs bs' keep : List ℕ} {from to : ℕ} (b : Begins words rep sib bs ns us rs from to) → Symbols from bs us bs'
    → keep ≡ replicate 32 64
    → Under b.R b.x (skeletons_of b.chain (replicate b.k hole)) words sib bs' ns rep rs keep from from to
begins-under b Y ek =
    first_under b.goal b.tables b.linked b.on Y b.size-args ek b.wide b.chain b.loose b.noted b.count b.size-refs
