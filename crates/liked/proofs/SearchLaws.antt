-- The search through the sets of columns: what a set tries is one number, the set of all columns tries what the plain plan does, and what has been
-- seen so far after each set.
use Rattle.std.specs.Prelude.{Result, Ok, Err}
use Rattle.builder.specs.declared.BuiltPlan.{BuiltPlan}
use Prim.Native.Nat.{ℕ, ◌+◌, ◌*◌, ◌^◌, ◌%◌, ◌≤◌, ◌<◌}
use mathlib.Core.Path.{◌≡◌, refl, sym, ◌∙◌, ap, subst}
use mathlib.Core.Logic.{inl}
use mathlib.Core.List.{List, []}
use native.Mathlib.Omega.{arith}
use native.Mathlib.Decide.{dec_lt}
use lib.ListN.{length, get_or, take, drop, length-take}
use lib.Pow.{shl_exact}
use lib.Seq.{take_at}
use Rattle.refusal.specs.Refusal.{Refused, told, answered, turned}
use Rattle.refusal.specs.declared.Refusal.{Refusal}
use Rattle.refusal.specs.Read.{read, refuse}
use Rattle.table.specs.Table.{Table}
use Rattle.table.proofs.Accepted.{is-table}
use Rattle.table.proofs.ReadLaws.{apart, read_one}
use Rattle.plan.specs.Plans.{Plan, write}
use Rattle.plan.specs.Named.{flags_of}
use Rattle.plan.proofs.SizeLaws.{size-bound}
use Rattle.plan.proofs.CheckLaws.{rows_fit}
use Rattle.plan.proofs.ColumnsLaws.{free-columns}
use Rattle.least.specs.Least.{Built}
use Rattle.least.specs.Measures.{measure_of, table_by}
use Rattle.least.specs.declared.By.{By}
use Rattle.least.proofs.Measured.{by-table, by_read}
use Rattle.least.proofs.NoneNamed.{free-built, free-least}
use Rattle.builder.specs.Build.{table_for, BuiltInto, table-refused, room-refused, built, build_told}
use Rattle.builder.proofs.AskedLaws.{read-for, plain-table}
use Rattle.builder.proofs.ColumnsLaws.{no-column-free}
use Rattle.builder.proofs.Fixed.{same-built}
use Rattle.shift.specs.Totals.{TriesInAll}
use Rattle.shift.proofs.TotalLaws.{total-fixed}
use Rattle.liked.specs.Liked.{columns_of, TriesFor, LikesBest, LikedInto, liked_after}
use Rattle.liked.specs.Liked as liked
use Rattle.liked.specs.code.Search.{Totalled, tried, turned-away, Plainly, BestBelow}
use Rattle.liked.proofs.ColumnLaws.{columns-none, columns-all, pow-le}
use Rattle.limits.specs.Limits.{most_plan_cells}

-- an answer is given or a refusal
clash : {A : Type 0} {a b : ℕ} {f : Refused} → answered a b ≡ turned f → A
clash e = absurd (let z : ◌≡◌ {A = ℕ} 0 1 = cc in let y : ⊥ = omega arith in y)

-- A PLAN THAT WAS BUILT, and the cells that were written.
pub record Written (by : By) (columns cells room after : List ℕ) (size : ℕ) : Type 0 where
  pub table : Table
  pub plan : Plan table.width table.rows
  pub reads : table_for by columns cells ≡ read table
  pub rule : Built (measure_of by) (flags_of table.width columns) plan
  pub there : size ≤ length after
  pub front : take size after ≡ write plan

pub written : {by : By} {columns cells room after : List ℕ} {r : Result BuiltPlan Refusal} {size cost : ℕ} → BuiltInto by columns cells room after r
    → build_told r ≡ answered size cost → Written by columns cells room after size
written (table-refused f a b c) e = clash (sym e ∙ b)
written (room-refused T p a u w b c) e = clash (sym e ∙ b)
written {room = room} {after} {size = size} (built T p a u l w b c) e =
    let k : length (write p) ≡ size = cc in
    let f = ap (take size) c ∙ take_at (write p) (drop (length (write p)) room) size k in
    record {
      table = T;
      plan = p;
      reads = a;
      rule = u;
      there = omega (arith, k, ap length f, length-take size after);
      front = f;
    }

-- With all columns named the plan is the plain one (02, W-213).
all_named : (by : By) (cells : List ℕ) {T : Table} (mask : ℕ) → table_by by cells ≡ read T → T.width ≤ 8 → mask + 1 ≡ 2 ^ T.width
    → {room after : List ℕ} {r : Result BuiltPlan Refusal}
    → {size cost : ℕ} → build_told r ≡ answered size cost → BuiltInto by (columns_of mask) cells room after r
    → BuiltInto by (columns_of 0) cells room after r
all_named by cells mask d l e q (table-refused f a b c) = clash (sym q ∙ b)
all_named by cells mask d l e q (room-refused T p a u w b c) = clash (sym q ∙ b)
all_named by cells {T} mask d l e q (built T' p a u m w b c) =
    let k = (read-for by (columns_of mask) cells a).0 in
    let same : T ≡ T' = read_one (sym d ∙ k) in
    let narrow : T'.width ≤ 8 = rw same at l in
    let last : mask + 1 ≡ 2 ^ T'.width = rw same at e in
    let all = free-columns (columns_of mask) T'.width (inl (λ c h. columns-all T'.width mask c narrow last h)) in
    let none = no-column-free T'.width in
    rw columns-none
    (built T' p (plain-table by cells ∙ k)
    (free-built (measure_of by) (flags_of T'.width (columns_of mask)) (flags_of T'.width []) all none p u)
    (free-least (measure_of by) (flags_of T'.width (columns_of mask)) (flags_of T'.width []) all none m) w b c)

-- the width, as the table's first cell says it
pub record Wide (by : By) (cells goals list : List ℕ) (plain : ℕ) : Type 0 where
  pub table : Table
  pub here : table_by by cells ≡ read table
  pub there : 0 < length cells
  pub width : get_or cells 0 0 ≡ table.width
  pub narrow : (1 ≤ table.width) × (table.width ≤ 8)
  pub tries : TriesFor by cells goals list 0 plain

module _ {by : By} {cells goals list : List ℕ} where
  -- A set tries one number, whatever room its plan is built in.
  pub tries-for-one : {mask m n : ℕ} → TriesFor by cells goals list mask m → TriesFor by cells goals list mask n → m ≡ n
  tries-for-one {mask} x y =
      let a = written x.built x.told in
      let b = written y.built y.told in
      let e = (same-built (measure_of by) (columns_of mask) (read_one (sym a.reads ∙ b.reads)) a.plan b.plan a.rule b.rule).0 in
      let q : take x.size x.after ≡ take y.size y.after = a.front ∙ e ∙ sym b.front in
      total-fixed (rw q at x.totals) y.totals

  pub all_plain : {T : Table} {mask n : ℕ} → table_by by cells ≡ read T → T.width ≤ 8 → mask + 1 ≡ 2 ^ T.width → TriesFor by cells goals list mask n
      → TriesFor by cells goals list 0 n
  all_plain {mask = mask} d l e x = record {
    room = x.room;
    after = x.after;
    answer = x.answer;
    size = x.size;
    cost = x.cost;
    built = all_named by cells mask d l e x.told x.built;
    told = x.told;
    totals = x.totals;
  }

  -- WHAT A SET TRIES, from what the code does.
  module _ {mask : ℕ} {room after : List ℕ} {r : Result BuiltPlan Refusal} (b : BuiltInto by (columns_of mask) cells room after r) where
    pub total-tried : {plan : BuiltPlan} {n : ℕ} → r ≡ Ok plan → TriesInAll cells (take plan.cells after) goals list n
        → Totalled by cells goals list mask (Ok n)
    total-tried {plan} {n} e x =
        tried n
        (record { room = room; after = after; answer = r; size = plan.cells; cost = plan.cost; built = b; told = ap build_told e; totals = x }) refl

    pub total-refused : {f : Refusal} → r ≡ Err f → most_plan_cells ≤ length room → Totalled by cells goals list mask (Err f)
    total-refused {f} e l = go b (ap build_told e)
      where
        go : BuiltInto by (columns_of mask) cells room after r → build_told r ≡ turned (told f) → Totalled by cells goals list mask (Err f)
        go (table-refused g a x c) q = let k : g ≡ told f = cc in turned-away f (rw k at a) refl
        go (room-refused T p a u w x c) q =
            let k = (read-for by (columns_of mask) cells a).0 in
            let i = is-table cells (sym (by-table by cells (by_read by cells k)) ∙ k) in
            absurd (omega (arith, size-bound p (rows_fit T.width T.rows i.each) i.count.0 i.count.1))
        go (built T p a u m w x c) q = clash (sym x ∙ q)

  -- THE SEARCH. At first the plain plan alone is seen.
  pub best-plain : {plain : ℕ} → TriesFor by cells goals list 0 plain → BestBelow by cells goals list 1 0 plain
  best-plain {plain} x = record {
    set = omega arith;
    tries = x;
    least = λ other n h y. (let z : other ≡ 0 = omega arith in let e = tries-for-one (rw z at y) x in omega (arith, e));
    first = λ other n h y. absurd (let z : ⊥ = omega arith in z);
  }

  -- a set that tries less than all before it
  pub best-new : {mask best least n : ℕ} → BestBelow by cells goals list mask best least → TriesFor by cells goals list mask n → n < least
      → BestBelow by cells goals list (mask + 1) mask n
  best-new {mask} {best} {least} {n} b x l = record {
    set = omega arith;
    tries = x;
    least = λ other m h y. go other m h y (dec_lt other mask);
    first = λ other m h y. omega (arith, b.least other m h y);
  }
    where
      go : (other m : ℕ) → other < mask + 1 → TriesFor by cells goals list other m → Dec (other < mask) → n ≤ m
      go other m h y (yes k) = omega (arith, b.least other m k y)
      go other m h y (no k) = let z : other ≡ mask = omega (arith, k) in let e = tries-for-one (rw z at y) x in omega (arith, e)

  -- one that does not, because it tries as many or more, or has no plan
  pub best-kept : {mask best least : ℕ} → BestBelow by cells goals list mask best least → ((n : ℕ) → TriesFor by cells goals list mask n → least ≤ n)
      → BestBelow by cells goals list (mask + 1) best least
  best-kept {mask} {best} {least} b f = record {
    set = omega (arith, b.set);
    tries = b.tries;
    least = λ other m h y. go other m h y (dec_lt other mask);
    first = b.first;
  }
    where
      go : (other m : ℕ) → other < mask + 1 → TriesFor by cells goals list other m → Dec (other < mask) → least ≤ m
      go other m h y (yes k) = b.least other m k y
      go other m h y (no k) = let z : other ≡ mask = omega (arith, k) in f m (rw z at y)

  pub no_less : {mask least n : ℕ} {r : Result ℕ Refusal} → Totalled by cells goals list mask r → r ≡ Ok n → least ≤ n → (m : ℕ)
      → TriesFor by cells goals list mask m → least ≤ m
  no_less {n = n} (tried k x e) d l m y = let z : k ≡ n = cc in let w = tries-for-one y x in omega (arith, z, w)
  no_less (turned-away f a e) d l m y = absurd (let z : ◌≡◌ {A = ℕ} 0 1 = cc in let w : ⊥ = omega arith in w)

  pub no-plan : {mask least : ℕ} {r : Result ℕ Refusal} {f : Refusal} → Totalled by cells goals list mask r → r ≡ Err f → (m : ℕ)
      → TriesFor by cells goals list mask m → least ≤ m
  no-plan (tried k x e) d m y = absurd (let z : ◌≡◌ {A = ℕ} 0 1 = cc in let w : ⊥ = omega arith in w)
  no-plan (turned-away f a e) d m y = apart (sym (written y.built y.told).reads ∙ a)

  pub total-is : {mask n : ℕ} {r : Result ℕ Refusal} → Totalled by cells goals list mask r → r ≡ Ok n → TriesFor by cells goals list mask n
  total-is {n = n} (tried k x e) d = let z : k ≡ n = cc in rw z at x
  total-is (turned-away f a e) d = absurd (let z : ◌≡◌ {A = ℕ} 0 1 = cc in let w : ⊥ = omega arith in w)

  -- a table has one column at least and eight at most
  pub sets-few : {sets plain : ℕ} → Plainly by cells goals list sets plain → (2 ≤ sets) × (sets ≤ 256)
  sets-few p = (
    omega (arith, p.count, pow-le 1 p.table.width p.narrow.0),
    omega (arith, p.count, pow-le p.table.width 8 p.narrow.1),
  )

  -- the last set, of all columns, need not be tried
  pub best-all : {sets plain mask best least : ℕ} → Plainly by cells goals list sets plain → mask + 1 ≡ sets → BestBelow by cells goals list mask best least
      → 0 < mask → BestBelow by cells goals list sets best least
  best-all {sets} {mask = mask} {best} {least} p e b h =
      let all : mask + 1 ≡ 2 ^ p.table.width = e ∙ p.count in
      rw (← e) (best-kept b (λ n y. b.least 0 n h (all_plain p.here p.narrow.1 all y)))

  -- THE WHOLE.
  pub plain-refused : {f : Refusal} {r : Result ℕ Refusal} → Totalled by cells goals list 0 r → r ≡ Err f → table_by by cells ≡ refuse (told f)
  plain-refused (tried k x e) d = absurd (let z : ◌≡◌ {A = ℕ} 0 1 = cc in let w : ⊥ = omega arith in w)
  plain-refused {f} (turned-away g a e) d =
      let z : g ≡ f = cc in
      sym (plain-table by cells) ∙ (rw (columns-none, z) at a)

  pub wide : {plain : ℕ} → TriesFor by cells goals list 0 plain → Wide by cells goals list plain
  wide x =
      let w = written x.built x.told in
      let d = (read-for by (columns_of 0) cells w.reads).0 in
      let i = is-table cells (sym (by-table by cells (by_read by cells d)) ∙ d) in
      record {
        table = w.table;
        here = d;
        there = omega (arith, ap length i.cells);
        width = ap (λ (l : List ℕ). get_or l 0 0) i.cells;
        narrow = i.width;
        tries = x;
      }

  pub plainly : {plain : ℕ} (w : Wide by cells goals list plain) → Plainly by cells goals list ((1 * 2 ^ get_or cells 0 0) % 2 ^ 64) plain
  plainly w = record {
    table = w.table;
    here = w.here;
    count = shl_exact {a = 1} 1 (get_or cells 0 0) 64 (omega arith) (omega (arith, w.width, w.narrow.1)) ∙ one w.width;
    narrow = w.narrow;
    tries = w.tries;
  }
    where
      one : {a b : ℕ} → a ≡ b → 1 * 2 ^ a ≡ 2 ^ b
      one {a} e = rw (← e) (omega arith)

  pub likes-best : {sets plain mask least : ℕ} (p : Plainly by cells goals list sets plain) → BestBelow by cells goals list sets mask least
      → LikesBest by cells goals list p.table.width mask least plain
  likes-best p b = record {
    set = rw p.count at b.set;
    tries = b.tries;
    plainly = p.tries;
    least = λ other n h y. b.least other n (rw p.count h) y;
    first = b.first;
  }

  pub liked-found : {sets plain mask least : ℕ} {room room' liked liked' : List ℕ} {a r : Result BuiltPlan Refusal} → Plainly by cells goals list sets plain
      → BestBelow by cells goals list sets mask least → BuiltInto by (columns_of mask) cells room room' a → a ≡ r
      → liked' ≡ liked_after (build_told r) mask least plain liked → LikedInto by cells goals list room room' liked liked' r
  liked-found {plain = plain} {mask} {least} p b x e w =
      liked.found p.table mask least plain p.here (likes-best p b) (subst (BuiltInto by (columns_of mask) cells _ _) e x) w
