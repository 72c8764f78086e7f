-- The plan that a list of goals likes best (specs/Liked), of what the entry promises, `LikedCoded rec goals list room liked room' liked' n`.
--
-- How it is carried: a set of columns tries one number (`tries-for-one`, liked/proofs/SearchLaws), for the plan that is built for it is one
-- (`same-built`, builder/proofs/Fixed); every list of columns has a mask (`mask-of`, liked/proofs/MaskLaws); so what is least of all masks is least
-- of all lists. That totals are sums of single runs is W-214's (`sums`, knowing/proofs/SumLaws).
use Rattle.std.specs.Prelude.{Result, Ok}
use Rattle.builder.specs.declared.BuiltPlan.{BuiltPlan}
use Rattle.refusal.specs.declared.Refusal.{Refusal}
use Prim.Native.Nat.{ℕ, zero, suc, ◌+◌, ◌^◌, ◌≤◌, ◌<◌}
use mathlib.Core.Path.{◌≡◌, refl, sym, ◌∙◌, ap, subst}
use mathlib.Core.Logic.{◌↔◌}
use mathlib.Core.Bool.{Bool, true, false}
use mathlib.Core.List.Memᴰ
use mathlib.Core.List.{List, [], ◌∷◌, ◌++◌, Memᴰ}
use native.Mathlib.Omega.{arith}
use native.Mathlib.Decide.{dec_lt}
use lib.ListN.{length, get_or, take, drop}
use lib.Seq.{take_at}
use Rattle.refusal.specs.Refusal.{Refused, refused, Answer, answered, turned}
use Rattle.refusal.specs.declared.Reason.TheVariants as reason
use Rattle.refusal.specs.declared.Input.TheVariants as input
use Rattle.refusal.specs.Read.{Read, read, refuse}
use Rattle.refusal.specs.Coded.{decoded}
use Rattle.table.specs.Table.{Table, table, table_of, IsTable, Row}
use Rattle.table.proofs.Accepted.{is-table}
use Rattle.table.proofs.AllLaws.{all-each}
use Rattle.table.proofs.ReadLaws.{apart, read_one, refuse-one}
use Rattle.term.specs.Terms.{Terms}
use Rattle.plan.specs.Plans.{Plan, write}
use Rattle.plan.specs.Named.{flags_of, occurs}
use Rattle.plan.proofs.ColumnsLaws.{same_flags}
use Rattle.least.specs.Measures.{measure_of, cost_by, table_by}
use Rattle.least.specs.declared.By.{By}
use Rattle.least.specs.declared.By.TheVariants.{Work}
use Rattle.least.specs.Least.{Built}
use Rattle.least.proofs.Measured.{by-table, by-figure, by_read}
use Rattle.least.proofs.Weighed.{by-light}
use Rattle.least.proofs.Building.{built-least}
use Rattle.record.specs.Record.{table_in}
use Rattle.builder.specs.Build.{table_for, BuiltInto, table-refused, room-refused, built, build_told}
use Rattle.builder.proofs.AskedLaws.{for-read, read-for}
use Rattle.builder.proofs.Fixed.{same-built}
use Rattle.answer.specs.Jobs.{bit, Asked, Each, nil, cons}
use Rattle.answer.specs.declared.Job.{Job}
use Rattle.shift.specs.Totals.{goals_in, Tries, none, more, TriesInAll}
use Rattle.shift.proofs.TotalLaws.{tries-one}
use Rattle.knowing.specs.Knowing.{total_tried}
use Rattle.knowing.proofs.SumLaws.{sums, singles-there}
use Rattle.sums.specs.Sums.{held}
use Rattle.liked.specs.Liked.{columns_of, TriesFor, LikesBest, LikedInto, liked_after}
use Rattle.liked.specs.Liked as likes
use Rattle.liked.proofs.ColumnLaws.{columns-named, columns-none, columns-there}
use Rattle.liked.proofs.MaskLaws.{mask-of}
use Rattle.liked.proofs.SearchLaws.{Written, written, tries-for-one}
use Rattle.dudowiej.specs.Coded.{LikedCoded}
use Rattle.dudowiej.proofs.Back.{liked-back}
use Rattle.demands.specs.Kind.{There, none_named}
use Rattle.demands.specs.Demands.{LeastBy, LeastFor}
use Rattle.demands.specs.Liked.{Total, LikedBest, LikedTurned, no-figure, no_table, no_room, LikesMost, BuildsLiked}
use Rattle.demands.proofs.KindLaws.{there-past, past-there, listed-occurs, occurs-listed}
use Rattle.demands.proofs.Cited.{clash, turned-one, answered-one, reads, TakenBy, too_much, small, taken-by, builds, least-of, plain_of}
use Rattle.demands.proofs.Cited.{build-writes-nothing}
use Rattle.limits.specs.Limits.{most_plan_cells}

-- Totals.

-- the records of the goals, and that what they tried is what was added up
records : {t p cells : List ℕ} {jobs : List Job} {n : ℕ} → Tries t p cells jobs n
    → (after : List Job) × Each (Asked t p cells) jobs after × (total_tried after ≡ n)
unfolding total_tried
records none = ([], nil, refl)
records (more {k = k} {n = n} a v) = let i = records v in (k ∷ i.0, cons a i.1, ap (λ (m : ℕ). k.tried + m) i.2)

total_of : {t p goals list : List ℕ} {w total : ℕ} {rows : List (List ℕ)} → IsTable t w rows → TriesInAll t p goals list total
    → Total t p goals list (length rows) total
total_of {t} {p} {goals} {list} i x =
    let r = records x.tries in
    record {
      sum = x.sum;
      tries = x.tries;
      adds = x.adds;
      single-runs = singles-there t p goals i r.1;
      sums = λ s. sym r.2 ∙ (sums t p goals i r.1 s 0).1;
    }

in_all : {t p goals list : List ℕ} {rows n : ℕ} → Total t p goals list rows n → TriesInAll t p goals list n
in_all x = record { sum = x.sum; tries = x.tries; adds = x.adds }

module _ {by : By} {t goals list : List ℕ} where
  -- What is said to be least for a list of columns is what is built for its mask.
  tries_of : {columns plan : List ℕ} {mask cost rows n : ℕ} {T : Table} → table_by by t ≡ read T → mask < 2 ^ T.width
      → ((c : ℕ) → occurs c columns ≡ occurs c (columns_of mask)) → LeastFor by columns t plan cost → Total t plan goals list rows n
      → TriesFor by t goals list mask n
  tries_of {columns} {plan} {mask} {T = T} d l alike x y =
      let i = x.is-table in
      let a : table_by by t ≡ read (table x.width x.rows) = by-table by t (by_read by t d) ∙ reads i in
      let q : T.width ≡ x.width = ap (λ (T : Table). T.width) (read_one (sym d ∙ a)) in
      let e = same_flags columns (columns_of mask) alike x.width in
      let u : Built (measure_of by) (flags_of x.width (columns_of mask)) x.tree = rw e at x.rule in
      let m = (built-least (measure_of by) (by-light by) (flags_of x.width (columns_of mask)) x.tree
      (all-each (Row x.width) (Terms x.width) (λ r h. h.terms) x.rows i.each) u).0 in
      let n = length (write x.tree) in
      let after = write x.tree ++ drop n (write x.tree) in
      let f : take n after ≡ plan = take_at (write x.tree) (drop n (write x.tree)) n refl ∙ x.written in
      record {
        room = write x.tree;
        after = after;
        answer = Ok (record { cells = n; cost = cost_by by x.tree });
        size = n;
        cost = cost_by by x.tree;
        built = built (table x.width x.rows) x.tree
            (for-read by (columns_of mask) t a (columns-there x.width mask (rw q at l))) u m (omega arith) refl refl;
        told = refl;
        totals = rw f (in_all y);
      }

  -- and what is built for a mask is least
  module _ {T : Table} {mask total plain : ℕ} (d : table_by by t ≡ read T) (x : LikesBest by t goals list T.width mask total plain) where
    is : IsTable t T.width T.rows
    is = is-table t (sym (by-table by t (by_read by t d)) ∙ d)

    -- a set's plan, and what it tries
    set-plan : {m n : ℕ} (y : TriesFor by t goals list m n) → LeastFor by (columns_of m) t (take y.size y.after) y.cost
    set-plan y = (least-of y.size y.cost y.told y.built).0

    empty-zero : goals_in list ≡ [] → {m n : ℕ} → TriesFor by t goals list m n → n ≡ 0
    empty-zero e y =
        let k : Tries t (take y.size y.after) goals [] y.totals.sum = rw e at y.totals.tries in
        let z = tries-one k none in
        y.totals.adds ∙ rw z

    named : (c : ℕ) → Memᴰ c (columns_of mask) ↔ ((c < T.width) × (bit c mask ≡ 1))
    named c = (
      λ m. (
        past-there T.width (columns_of mask) (columns-there T.width mask x.set) c m,
        ((columns-named mask c).0 (listed-occurs c (columns_of mask) m)).1,
      ),
      λ h. occurs-listed c (columns_of mask) ((columns-named mask c).1 (omega (arith, h.0, is.width.1), h.1)),
    )

    best-plan : {plan : List ℕ} {cost : ℕ} → LeastFor by (columns_of mask) t plan cost → take x.tries.size x.tries.after ≡ plan
        → LikedBest by t goals list plan cost mask total plain
    best-plan g same = record {
      width = T.width;
      rows = T.rows;
      is-table = is;
      set = named;
      small = x.set;
      given = g;
      tries = rw same at (total_of is x.tries.totals);
      plainly = (
        take x.plainly.size x.plainly.after,
        x.plainly.cost,
        plain_of is (none_named (λ c m. no_member c m)) (set-plan x.plainly),
        total_of is x.plainly.totals,
      );
      none-less = λ columns other c n h y z.
          (let m = mask-of T.width columns is.width.1 (there-past T.width columns h) in
          x.least m.mask n m.small (tries_of d m.small m.alike y z));
      first = λ smaller c n other h y z.
          x.first smaller n h (tries_of d (omega (arith, h, x.set)) (λ c. refl) y z);
      never-more = x.least 0 plain (omega (arith, x.set)) x.plainly;
      empty = λ e. zero-set e (dec_lt 0 mask);
    }
      where
        no_member : (c : ℕ) → Memᴰ c (columns_of 0) → ⊥
        no_member c m = Memᴰ.not-nil (rw columns-none at m)

        zero-set : goals_in list ≡ [] → Dec (0 < mask) → mask ≡ 0
        zero-set e (no n) = omega (arith, n)
        zero-set e (yes h) = absurd (omega (arith, x.first 0 plain h x.plainly, empty-zero e x.plainly))

    -- the same plan, in whatever room it was built
    built-same : {T' : Table} (p : Plan T'.width T'.rows) → table_for by (columns_of mask) t ≡ read T'
        → Built (measure_of by) (flags_of T'.width (columns_of mask)) p → take x.tries.size x.tries.after ≡ write p
    built-same p a u =
        let k = written x.tries.built x.tries.told in
        k.front ∙ (same-built (measure_of by) (columns_of mask) (read_one (sym k.reads ∙ a)) k.plan p k.rule u).0

    same-plan : {room after : List ℕ} {r : Result BuiltPlan Refusal} {size cost : ℕ} → BuiltInto by (columns_of mask) t room after r → build_told r ≡ answered size cost
        → take x.tries.size x.tries.after ≡ take size after
    same-plan b e = let c = written b e in built-same c.plan c.reads c.rule ∙ sym c.front

    -- and whoever says of a plan that the list likes it best says it of this one
    one-liked : {plan : List ℕ} {cost mask' total' plain' : ℕ} → LikedBest by t goals list plan cost mask' total' plain'
        → take x.tries.size x.tries.after ≡ plan
    one-liked {plan} {mask' = mask'} {total'} o =
        let same : table o.width o.rows ≡ T = read_one (sym (reads o.is-table) ∙ reads is) in
        let w : o.width ≡ T.width = ap (λ (X : Table). X.width) same in
        let l : length T.rows ≡ length o.rows = sym (ap (λ (X : Table). length X.rows) same) in
        let y : TriesFor by t goals list mask' total' = tries_of d (rw w at o.small) (λ c. refl) o.given o.tries in
        let mine : Total t (take x.tries.size x.tries.after) goals list (length o.rows) total = rw l at (total_of is x.tries.totals) in
        let there : There o.width (columns_of mask) =
        past-there o.width (columns_of mask) (columns-there o.width mask (rw (← w) at x.set)) in
        let a = x.least mask' total' (rw w at o.small) y in
        let b = o.none-less (columns_of mask) _ _ total there (set-plan x.tries) mine in
        let not-less : ¬ (mask < mask') = λ h. (let c = o.first mask _ total _ h (set-plan x.tries) mine in absurd (omega (arith, a, c))) in
        let not_more : ¬ (mask' < mask) = λ h. (let c = x.first mask' total' h y in absurd (omega (arith, b, c))) in
        let e : mask' ≡ mask = omega (arith, not-less, not_more) in
        let g : LeastFor by (columns_of mask) t plan _ = rw e at o.given in
        let v = set-plan x.tries in
        let q : table v.width v.rows ≡ table g.width g.rows = read_one (sym (reads v.is-table) ∙ reads g.is-table) in
        sym v.written ∙ (same-built (measure_of by) (columns_of mask) q v.tree g.tree v.rule g.rule).0 ∙ g.written

    here-read : table_for by (columns_of mask) t ≡ read T
    here-read = for-read by (columns_of mask) t d (columns-there T.width mask x.set)

-- The entry.

module _ {by : By} {t goals list room room' liked liked' : List ℕ} {r : Result BuiltPlan Refusal} where
  why : (f : Refused) → LikedInto by t goals list room room' liked liked' r → build_told r ≡ turned f → LikedTurned by t goals list room f
  why f (likes.table-refused g a e c d) q = go (taken-by by t)
    where
      same : g ≡ f
      same = turned-one (sym e ∙ q)

      go : TakenBy by t → LikedTurned by t goals list room f
      go (too_much l k) = no-figure l (sym same ∙ refuse-one (sym a ∙ k))
      go (small l k) = no_table l (sym k ∙ a ∙ ap refuse same)
  why f (likes.found T mask total plain d x b w) q = go b
    where
      go : BuiltInto by (columns_of mask) t room room' r → LikedTurned by t goals list room f
      go (table-refused g a e c) = apart (sym (here-read d x) ∙ a)
      go (room-refused T' p a u l e c) =
          let s = built-same d x p a u in
          no_room (by_read by t d) (best-plan d x (rw s at (set-plan d x x.tries)) s) l (turned-one (sym q ∙ e))
      go (built T' p a u m l e c) = clash (sym e ∙ q)

  refused_as : {f : Refused} → LikedInto by t goals list room room' liked liked' r → table_by by t ≡ refuse f → build_told r ≡ turned f
  refused_as (likes.table-refused g a e c d) k = e ∙ ap turned (refuse-one (sym a ∙ k))
  refused_as (likes.found T mask total plain d x b w) k = apart (sym d ∙ k)

  gets : (f : Refused) → LikedInto by t goals list room room' liked liked' r → LikedTurned by t goals list room f → build_told r ≡ turned f
  gets f x (no-figure l q) = refused_as x (by-figure by t l ∙ ap refuse (sym q))
  gets f x (no_table l a) = refused_as x (by-table by t l ∙ a)
  gets f (likes.table-refused g a e c d) (no_room l o h q) = apart (sym (by-table by t l ∙ reads o.is-table) ∙ a)
  gets f (likes.found T mask total plain d x b w) (no_room l {plan} o h q) = go b
    where
      go : BuiltInto by (columns_of mask) t room room' r → build_told r ≡ turned f
      go (table-refused g a e c) = apart (sym (here-read d x) ∙ a)
      go (room-refused T' p a u k e c) =
          let s : write p ≡ plan = sym (built-same d x p a u) ∙ one-liked d x o in
          e ∙ ap (λ (z : List ℕ). turned (refused reason.Room input.Lent (length z))) s ∙ ap turned (sym q)
      go (built T' p a u m k e c) = absurd (omega (arith, h, k, ap length (sym (built-same d x p a u) ∙ one-liked d x o)))

  kept : (f : Refused) → LikedInto by t goals list room room' liked liked' r → build_told r ≡ turned f → (room' ≡ room) × (liked' ≡ liked)
  kept f (likes.table-refused g a e c d) q = (c, d)
  kept f (likes.found T mask total plain d x b w) q = (build-writes-nothing b f q, w ∙ rw q)

  made : (width : ℕ) (rows : List (List ℕ)) → (measure_of by).figure ≤ 15 → IsTable t width rows → most_plan_cells ≤ length room
      → LikedInto by t goals list room room' liked liked' r
      → (n : ℕ) × (cost : ℕ) × (build_told r ≡ answered n cost)
  made width rows l i h (likes.table-refused g a e c d) = apart (sym (by-table by t l ∙ reads i) ∙ a)
  made width rows l i h (likes.found T mask total plain d x b w) =
      builds T.width T.rows l (is d x) (past-there T.width (columns_of mask) (columns-there T.width mask x.set)) h b

  most : (n cost : ℕ) → LikedInto by t goals list room room' liked liked' r → build_told r ≡ answered n cost
      → (mask : ℕ) × (total : ℕ) × (plain : ℕ) × (liked' ≡ mask ∷ total ∷ plain ∷ [])
      × LikedBest by t goals list (take n room') cost mask total plain
  most n cost (likes.table-refused g a e c d) q = clash (sym q ∙ e)
  most n cost (likes.found T mask total plain d x b w) q =
      (mask, total, plain, w ∙ rw q, best-plan d x (least-of n cost q b).0 (same-plan d x b q))

  others : (n cost : ℕ) → LikedInto by t goals list room room' liked liked' r → build_told r ≡ answered n cost → drop n room' ≡ drop n room
  others n cost (likes.table-refused g a e c d) q = clash (sym q ∙ e)
  others n cost (likes.found T mask total plain d x b w) q = (least-of n cost q b).1

  likes-most : LikedInto by t goals list room room' liked liked' r → LikesMost by t goals list room room' liked liked' (build_told r)
  likes-most x = record {
    refuses = λ f. (why f x, gets f x);
    untouched = λ f e. kept f x e;
    builds = λ width rows l i h. made width rows l i h x;
    best = λ n cost e. most n cost x e;
    rest = λ n cost e. others n cost x e;
  }

pub request-liked : {rec goals list room liked room' liked' : List ℕ} {n : ℕ} → LikedCoded rec goals list room liked room' liked' n
    → BuildsLiked rec goals list room room' liked liked' (decoded n)
request-liked {rec} {goals} {list} {room} {liked} {room'} {liked'} x =
    subst (LikesMost (Work (get_or rec 1 0)) (table_in rec) goals list room room' liked liked') (sym (liked-back x)) (likes-most x.built)
