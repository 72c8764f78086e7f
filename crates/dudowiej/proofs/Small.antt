-- Every answer of every entry fits the number that it is coded as.
use Rattle.std.specs.Prelude.{Result}
use Rattle.instance.specs.declared.ReplyCounts.{ReplyCounts}
use Rattle.builder.specs.declared.BuiltPlan.{BuiltPlan}
use Rattle.answer.specs.declared.RunCounts.{RunCounts}
use Rattle.refusal.specs.declared.Refusal.{Refusal}
use mathlib.Core.Path.{◌≡◌, refl, sym, ap, ◌∙◌}
use mathlib.Core.List.{List, [], ◌∷◌, ◌++◌, flatten}
use Prim.Native.Nat.{ℕ, zero, suc, ◌+◌, ◌-◌, ◌%◌, ◌^◌, ◌≤◌, ◌<◌}
use native.Mathlib.Omega.{arith}
use mathlib.Core.Bool.{Bool, true, false}
use lib.Dec.{leb}
use borrow.Author.Tests.{leb-true, leb-false}
use lib.ListN.{length, get_or, drop, replicate, length-append}
use Rattle.term.proofs.Lists.{get_d-zeros}
use Rattle.refusal.specs.Coded.{Small}
use Rattle.refusal.specs.declared.Reason.{Reason}
use Rattle.refusal.specs.declared.Reason.TheVariants as reason
use Rattle.refusal.specs.declared.Input.{Input}
use Rattle.refusal.specs.declared.Input.TheVariants as input
use Rattle.refusal.specs.Refusal.{Refused, refused, Answer, turned}
use Rattle.refusal.proofs.CodedLaws.{refused-small, small_by}
use Rattle.refusal.specs.Read.{Read, read, refuse, and_then}
use Rattle.table.specs.Table.{Table, table_of, table_says, goal_of, goal_says, goal_with, row_in, starts_in, starts, Row}
use Rattle.table.specs.All.{All}
use Rattle.table.proofs.ReadLaws.{apart, refuse-one, first}
use Rattle.table.proofs.Accepted.{is-table, is-goal, table-short}
use Rattle.table.proofs.HeadLaws.{head_few}
use Rattle.plan.specs.Check.{plan_for, plan_of, columns_for, plan_under}
use Rattle.checker.specs.Checked.{plan_says}
use Rattle.plan.specs.Plans.{Plan, write, branches}
use Rattle.plan.proofs.SizeLaws.{bound, size-bound}
use Rattle.least.specs.Measures.{measure_of, table_by}
use Rattle.least.specs.declared.By.{By}
use Rattle.least.specs.declared.By.TheVariants.{Work}
use Rattle.record.specs.Record.{cells_in, Holds}
use Rattle.record.specs.Edits.{Edit, WorkedOut, no_record, worked, Edited, no-edit, edit}
use Rattle.least.proofs.Measured.{by-table, by-figure, by_read}
use Rattle.least.proofs.Weighed.{by-low, cost-few}
use Rattle.builder.proofs.AskedLaws.{Asked, turned-away, past-width, is-asked, asked, read-for, plain-table}
use Rattle.liked.specs.Liked.{LikedInto}
use Rattle.liked.specs.Liked as likes
use Rattle.builder.specs.Build.{table_for, BuiltInto, table-refused, room-refused, built, build_told}
use Rattle.plan.proofs.CheckLaws.{accepted-one, kind-accepted, rows_fit}
use Rattle.answer.specs.declared.Job.{Job}
use Rattle.answer.specs.Jobs.{JobsRun}
use Rattle.instance.specs.Replied.{Replied, replies_told}
use Rattle.instance.specs.Replied as replies
use Rattle.instance.proofs.RepliesLaws.{replies-room}
use Rattle.clauses.specs.declared.ProgramSize.{ProgramSize}
use Rattle.clauses.specs.Program.{program}
use Rattle.clauses.specs.Handed.{Handed, hand_told, text_for}
use Rattle.clauses.specs.Handed as hands
use Rattle.clauses.proofs.TakesLaws.{hand_takes}
use Rattle.clauses.proofs.Theorems.{program-few}
use Rattle.clauses.proofs.SmallLaws as clauses
use Rattle.answer.specs.Skeleton.{hole}
use Rattle.answer.specs.Run.{run_told, Ran, refusal, ran}
use Rattle.answer.proofs.TakesLaws.{run-takes}
use Rattle.answer.proofs.Theorems.{tried-most, picks-few}
use Rattle.grammar.specs.Grammar.{Fact}
use Rattle.grammar.specs.Stops.{Stops, at_byte, at-end}
use Rattle.grammar.specs.Meaning.{symbols_of, table_cells, name_list}
use Rattle.grammar.specs.Taken.{Taken, too_long, no_text, other-fact, taken}
use Rattle.grammar.proofs.LongLaws.{text-long, other_place, names-few}
use Rattle.loading.specs.Load.{Loaded, Loads, not_taken, no_cells, no_names, no_table, loads, load_says, TextLoads}
use Rattle.prolog.proofs.EntryLaws.{cells-long, names-long}
use Rattle.termtext.specs.Goal as asking
use Rattle.termtext.specs.Goal.{Goal}
use Rattle.termtext.specs.declared.Predicate.{Predicate}
use Rattle.goaltext.specs.Asked as goals
use Rattle.goaltext.proofs.AskedLaws.{whole-text}
use Rattle.goaltext.specs.declared.GoalTextSize.{GoalTextSize}
use Rattle.goalroom.specs.Rooms as rooms
use Rattle.goalroom.specs.Rooms.{GoalFits, GoalInto}
use Rattle.goalroom.proofs.RoomLaws.{asked-few, no-goal-within, whole_long, first-within}
use Rattle.shift.proofs.Fixed.{jobs-told}
use Rattle.instance.specs.declared.ReplyJob.{ReplyJob}
use Rattle.instance.specs.ReplyJobs.{ReplyJobsRun}
use Rattle.replyjobs.proofs.Fixed.{reply-jobs-told}
use Rattle.filing.specs.Files.{table_part, file_of, FileWritten, FileLoaded}
use Rattle.filing.specs.Files as files
use Rattle.filing.proofs.Undo.{accepted-sizes, read-sizes}
use Rattle.filing.proofs.WriteLaws.{file-few}
use Rattle.salvaging.specs.Salvage.{front, width, count, kept_cells, bad_in, Outcome, lost, Salvaged}
use Rattle.salvaging.specs.Salvage as saving
use Rattle.salvaging.proofs.KeptLaws.{kept-are}
use Rattle.salvaging.proofs.TopLaws.{head-is}
use Rattle.dudowiej.specs.Coded.{cut, salvage_says}
use Rattle.dudowiej.proofs.CutLaws.{placed-cut}
use Rattle.dudowiej.proofs.Places.{placed-small, placed-table, placed-edit, placed-plan, placed-run, placed-goal, placed-replies, placed-handed}
use Rattle.dudowiej.proofs.Places.{placed-checked, placed-under, placed-file}
use Rattle.limits.specs.Limits.{most_branches, most_plan_cells, most_table_cells, most_text_bytes}

pub table-small : (t : List ℕ) → Small (table_says (table_of t))
table-small t = go (table_of t) refl
  where
    go : (r : Read Table) → table_of t ≡ r → Small (table_says r)
    go (read T) e = let i = is-table t e in (omega (arith, i.width.1), omega (arith, i.count.1))
    go (refuse f) e = placed-small (omega arith) (placed-table t) e

goal-small : (w : ℕ) (g : List ℕ) → Small (goal_says g (goal_of w g))
goal-small w g = go (goal_of w g) refl
  where
    go : (r : Read ℕ) → goal_of w g ≡ r → Small (goal_says g r)
    go (read v) e = let i = is-goal w g e in (omega (arith, i.0.head.short), omega (arith, i.1, head_few i.0.head))
    go (refuse f) e = placed-small (omega arith) (placed-goal w g) e

pub goal-with-small : (t g : List ℕ) → Small (goal_says g (goal_with t g))
goal-with-small t g = go (table_of t) refl
  where
    go : (r : Read Table) → table_of t ≡ r → Small (goal_says g (and_then r (λ (T : Table). goal_of T.width g)))
    go (read T) e = goal-small T.width g
    go (refuse f) e = placed-small (omega arith) (placed-table t) e

-- a row starts within the table
starts-within : (p : ℕ) (rows : List (List ℕ)) (m r : ℕ) → get_or (starts p rows ++ replicate m 0) r 0 ≤ p + length (flatten rows)
unfolding starts flatten
starts-within p [] m r = let e = get_d-zeros m r in omega arith
starts-within p (x ∷ rows) m zero = omega arith
starts-within p (x ∷ rows) m (suc r) = omega (arith, starts-within (p + length x) rows m r, length-append x (flatten rows))

-- and has at most 32 cells
row-short : (w : ℕ) (rows : List (List ℕ)) (r : ℕ) → All (Row w) rows → length (get_or rows r []) ≤ 32
row-short w [] r a = omega arith
row-short w (x ∷ rows) zero a = a.0.short
row-short w (x ∷ rows) (suc r) a = row-short w rows r a.1

-- where a row starts in the table and how many cells it has, both 0 where there is no such row
pub row_small : (t : List ℕ) (r : ℕ) → (get_or (starts_in (table_of t)) r 0 ≤ most_table_cells) × (length (row_in (table_of t) r) ≤ 32)
row_small t r = go (table_of t) refl
  where
    go : (x : Read Table) → table_of t ≡ x → (get_or (starts_in x) r 0 ≤ most_table_cells) × (length (row_in x r) ≤ 32)
    go (read T) e =
        let i = is-table t e in
        let l = table-short t e in
        let f : length t ≡ 2 + length (flatten T.rows) = ap length i.cells ∙ omega arith in
        (omega (arith, starts-within 2 T.rows (64 - length T.rows) r), row-short T.width T.rows r i.each)
    go (refuse f) e = (omega (arith, get_d-zeros 64 r), omega arith)

-- a plan of an accepted table has at most 2,048 branches
few-branches : (t p : List ℕ) (T : Table) → table_of t ≡ read T → {n : ℕ} → plan_for T p ≡ read n → n ≤ most_branches
few-branches t p T e {n} f =
    let i = is-table t e in
    let a = (accepted-one T i p n).0 f in
    omega (arith, i.count.1, a.2, bound a.0 32 (rows_fit T.width T.rows i.each) i.count.0)

pub plan-small : (t p : List ℕ) → Small (plan_says (plan_of t p))
plan-small t p = go (table_of t) refl
  where
    with-table : (T : Table) → table_of t ≡ read T → (r : Read ℕ) → plan_for T p ≡ r → Small (plan_says r)
    with-table T e (read n) f = (omega (arith, few-branches t p T e f), omega arith)
    with-table T e (refuse f) h = placed-small (omega arith) (placed-plan T p) h

    go : (r : Read Table) → table_of t ≡ r → Small (plan_says (and_then r (λ (T : Table). plan_for T p)))
    go (read T) e = with-table T e (plan_for T p) refl
    go (refuse f) e = placed-small (omega arith) (placed-table t) e

-- and one that looks into named columns first is such a plan
pub under-small : (t columns p : List ℕ) → Small (plan_says (plan_under t columns p))
under-small t columns p = go (plan_under t columns p) refl
  where
    go : (r : Read ℕ) → plan_under t columns p ≡ r → Small (plan_says r)
    go (read n) k =
        let a = first (table_of t) _ k in
        let c = first (columns_for a.0 columns) _ a.2 in
        let i = is-table t a.1 in
        let q = kind-accepted c.0 a.0 (rows_fit a.0.width a.0.rows i.each) i.count.0 i.count.1 p n c.2 in
        (omega (arith, few-branches t p a.0 a.1 q), omega arith)
    go (refuse f) k = placed-small (omega arith) (placed-under t columns p) k

-- a plan of an accepted table has at most 6,082 cells and 2,048 branches
plan-cells : (t : List ℕ) (T : Table) (plan : Plan T.width T.rows) → table_of t ≡ read T
    → (length (write plan) ≤ most_plan_cells) × (branches plan ≤ most_branches)
plan-cells t T plan e =
    let i = is-table t e in
    let f = rows_fit T.width T.rows i.each in
    let b = bound plan 32 f i.count.0 in
    (size-bound plan f i.count.0 i.count.1, omega (arith, i.count.1))

read_by : (b : By) (t : List ℕ) {T : Table} → table_by b t ≡ read T → table_of t ≡ read T
read_by b t e = sym (by-table b t (by_read b t e)) ∙ e

-- hits are rows of the table, and tries are branches of the plan
pub run_small : {t p g room room' : List ℕ} {r : Result RunCounts Refusal} → Ran t p g room room' r → Small (run_told r)
run_small {t} {p} {g} {room} (refusal f a b c) = rw b (placed-small (omega arith) (placed-run t p g room) a)
run_small {t} {p} (ran T tree found n a e w u b c) =
    let k = (run-takes a).table in
    let l = plan-cells t T tree k in
    rw b (omega (arith, picks-few w, (is-table t k).count.1), omega (arith, tried-most tree (replicate T.width hole) u, l.1))

-- a table that is turned away for a measure: by its figure, or by 01
turned-small : (b : By) (t : List ℕ) {f : Refused} → table_by b t ≡ refuse f → Small (turned f)
turned-small b t {f} e = go (leb (measure_of b).figure 15) refl
  where
    go : (x : Bool) → leb (measure_of b).figure 15 ≡ x → Small (turned f)
    go true q = placed-small (omega arith) (placed-table t) (sym (by-table b t (leb-true (measure_of b).figure 15 q)) ∙ e)
    go false q =
        let x : refuse (refused reason.Figure input.Figure 0) ≡ refuse f = sym (by-figure b t (leb-false (measure_of b).figure 15 q)) ∙ e in
        let y : refused reason.Figure input.Figure 0 ≡ f = refuse-one x in
        rw (← y) (refused-small reason.Figure input.Figure 0 (omega arith))

-- a record that holds a table: its width and rows
held_small : {rec : List ℕ} {figure : ℕ} {T : Table} → Holds rec figure T → Small (table_says (read T))
held_small {T = T} x = let i = is-table (cells_in T) x.accepted in (omega (arith, i.width.1), omega (arith, i.count.1))

pub work-small : {figure : ℕ} {cells rec rec' : List ℕ} {a : Answer} → WorkedOut figure cells rec rec' a → Small a
work-small {figure} {cells} (no_record f q e s) = small_by e (turned-small (Work figure) cells q)
work-small (worked T q e x) = small_by e (held_small x)

pub edit-small : {e : Edit} {figure : ℕ} {T : Table} {rec rec' : List ℕ} {a : Answer} → Edited e figure T rec rec' a → Small a
edit-small {e} {T = T} (no-edit f q k s) = small_by k (placed-small (omega arith) (placed-edit e T) q)
edit-small (edit T' q k x) = small_by k (held_small x)

-- for named columns COLUMN too
for-small : (b : By) (columns t : List ℕ) {f : Refused} → table_for b columns t ≡ refuse f → Small (turned f)
for-small b columns t {f} e = go (asked b columns t) e
  where
    go : {r : Read Table} → Asked b columns t r → r ≡ refuse f → Small (turned f)
    go (turned-away x) q = rw (← refuse-one q) (turned-small b t x)
    go (past-width x p) q = rw (← refuse-one q) (refused-small reason.Column input.Columns 0 (omega arith))
    go (is-asked x p) q = apart q

-- a plan that is built has at most 6,082 cells, and costs at most 20 for each of 2,048 branches
pub build-small : (b : By) {columns t room room' : List ℕ} {r : Result BuiltPlan Refusal} → BuiltInto b columns t room room' r → Small (build_told r)
build-small b {columns} {t} (table-refused f a e c) = rw e (for-small b columns t a)
build-small b {columns} {t} (room-refused T plan a e l c d) =
    rw c (refused-small reason.Room input.Lent (length (write plan)) (omega (arith, (plan-cells t T plan (read_by b t (read-for b columns t a).0)).0)))
build-small b {columns} {t} (built T plan a e l h c d) =
    let k = (read-for b columns t a).0 in
    let n = plan-cells t T plan (read_by b t k) in
    rw c (omega (arith, n.0), omega (arith, n.1, cost-few (measure_of b) (by-low b (by_read b t k)) [] plan))

pub liked-small : (b : By) {t goals list room room' liked liked' : List ℕ} {r : Result BuiltPlan Refusal} → LikedInto b t goals list room room' liked liked' r
    → Small (build_told r)
liked-small b {t} (likes.table-refused f a e c d) = rw e (for-small b [] t (plain-table b t ∙ a))
liked-small b (likes.found T mask total plain a x y e) = build-small b y

-- a text has at most 65,535 bytes and 32,766 symbols, and a place in it is at most its end
stops-small : {t : List ℕ} {k : ℕ} → Stops t k → length t ≤ most_text_bytes → k < 2 ^ 48
stops-small (at_byte l a b) h = omega arith
stops-small (at-end a b) h = omega arith

taken-small : {t : List ℕ} {f : Refused} → Taken t (refuse f) → Small (turned f)
taken-small (too_long h) = refused-small reason.Bytes input.Text 0 (omega arith)
taken-small (no_text {k = k} h s) = refused-small reason.Text input.Text k (stops-small s h)
taken-small {t} (other-fact {k = k} h x o) = refused-small reason.Other input.Text k (omega (arith, other_place t x o))

symbols-few : {t : List ℕ} {fs : List Fact} → Taken t (read fs) → length (symbols_of fs) ≤ 32766
symbols-few {t} (taken h x o) = omega (arith, text-long t x)

load-small : {t : List ℕ} {c n : ℕ} {o : Read Loaded} → Loads t c n o → Small (load_says o)
load-small (not_taken x) = taken-small x
load-small {t} (no_cells {facts = fs} x l) =
    refused-small reason.Room input.Lent (length (table_cells t fs)) (omega (arith, symbols-few x, cells-long t fs))
load-small {t} (no_names {facts = fs} x l m) =
    refused-small reason.Room input.Lent (length (name_list t fs)) (omega (arith, symbols-few x, names-long t fs, names-few t [] (symbols_of fs)))
load-small {t} (no_table {facts = fs} x l m e) = placed-small (omega arith) (placed-table (table_cells t fs)) e
load-small {t} (loads {facts = fs} x l m e) =
    let n = names-few t [] (symbols_of fs) in
    (omega (arith, symbols-few x, cells-long t fs), omega (arith, symbols-few x, names-long t fs, n))

pub text-small : {t cells names cells' names' : List ℕ} {a : Answer} → TextLoads t cells names cells' names' a → Small a
text-small x = small_by x.told (load-small x.rule)

-- a goal's text has at most 65,533 bytes and its goal at most 32 cells, and a place in it is at most its end
goal-turned-small : {text names : List ℕ} {p : Predicate} {t : List ℕ} {f : Refused} → goals.AskedAs text names p t (refuse f) → Small (turned f)
goal-turned-small (goals.too_many h) = refused-small reason.Length input.Table 0 (omega arith)
goal-turned-small (goals.asked l (asking.too_long h)) = refused-small reason.Bytes input.Text 0 (omega arith)
goal-turned-small (goals.asked l (asking.no_text {k = k} h s)) = refused-small reason.Text input.Text k (omega (arith, no-goal-within s))
goal-turned-small (goals.asked l (asking.other {f = f} h w n)) =
    refused-small reason.Other input.Text f.start (omega (arith, first-within (whole-text w), whole_long w))
goal-turned-small {p = p} (goals.asked l (asking.no-goal {goal = g} h a e)) = placed-small (omega arith) (placed-goal p.width g.cells) e

fits-small : {text names t : List ℕ} {c k : ℕ} {o : Read Goal} → GoalFits text names t c k o → Small (goals.said o)
fits-small (rooms.not-read q a) = goal-turned-small a
fits-small (rooms.no_cells {g = g} q a l) = refused-small reason.Room input.Lent (length g.cells) (omega (arith, (asked-few a).0))
fits-small (rooms.no_names {g = g} q a l m) = let n = asked-few a in refused-small reason.Room input.Lent (length g.new) (omega arith)
fits-small (rooms.fits q a l m) = let n = asked-few a in (omega arith, omega arith)

pub goal-text-small : {text names t cells cells' new new' : List ℕ} {r : Result GoalTextSize Refusal} → GoalInto text names t cells cells' new new' r
    → Small (goals.goal_text_told r)
goal-text-small x = small_by x.answers.tells (fits-small x.rule)

-- a list of goals answers what the check of the plan does
pub jobs-small : {t p cells : List ℕ} {jobs jobs' : List Job} {a : Answer} → JobsRun t p cells jobs jobs' a → Small a
jobs-small {t} {p} x = small_by (jobs-told x) (plan-small t p)

pub reply-jobs-small : {t p cells room room' : List ℕ} {jobs jobs' : List ReplyJob} {a : Answer} → ReplyJobsRun t p cells room room' jobs jobs' a
    → Small a
reply-jobs-small {t} {p} x = small_by (reply-jobs-told x) (plan-small t p)

-- the replies of at most 64 rows that are written have at most 1,024 cells each
pub replies-small : {t p g room room' : List ℕ} {r : Result ReplyCounts Refusal} → Replied t p g room room' r → Small (replies_told r)
replies-small {t} {p} {g} (replies.refusal f a b c) = rw b (placed-small (omega arith) (placed-replies t p g) a)
replies-small (replies.big T all a w n b c) = rw b (refused-small reason.Big input.Goal 0 (omega arith))
replies-small {t} {p} {g} (replies.no_room T all a w s l b c) =
    let n = replies-room t p g a w s in
    rw b (refused-small reason.Room input.Lent (length (flatten all)) (omega (arith, n.1)))
replies-small {t} {p} {g} (replies.replied T all a w s l b c) = let n = replies-room t p g a w s in rw b (omega (arith, n.0), omega (arith, n.1))

-- a program has at most 127 clauses, and its text fewer than 2^29 bytes where the names are numbers of 32 bits
pub clauses-small : {t p text names room room' : List ℕ} {r : Result ProgramSize Refusal} → ((k : ℕ) → get_or names k 0 < 2 ^ 32)
    → Handed t p text names room room' r → Small (hand_told r)
clauses-small {t} {p} s (hands.refusal f a b c) = rw b (placed-small (omega arith) (placed-handed t p) a)
clauses-small s (hands.no_names T a l b c) = rw b (refused-small reason.Names input.Names 0 (omega arith))
clauses-small {t} {p} {text} {names} s (hands.no_room T tree a w l n b c) =
    let i = is-table t (hand_takes t p a).table in
    let m = clauses.text-small i tree l s in
    rw b (refused-small reason.Room input.Lent (length (text_for text names (program tree))) (omega arith))
clauses-small {t} {p} s (hands.handed T tree a w l n b c) =
    let i = is-table t (hand_takes t p a).table in
    rw b (omega (arith, program-few i tree), omega (arith, clauses.text-small i tree l s))

-- what the check refuses
pub checked-small : (t p : List ℕ) (f : Refused) → plan_of t p ≡ refuse f → Small (turned f)
checked-small t p f e = placed-small (omega arith) (placed-checked t p) e

-- a file has at most 66 blocks
pub written_small : {t p room room' : List ℕ} {a : Answer} → FileWritten t p room room' a → Small a
written_small {t} {p} (files.not-accepted f e r s) = small_by r (checked-small t p f e)
written_small {t} {p} (files.room-short n e l r s) =
    let k = file-few t p (accepted-sizes t p e) in
    small_by r (refused-small reason.Room input.Lent (length (file_of t p)) (omega (arith, k.1)))
written_small {t} {p} (files.written n e l r s) =
    let k = file-few t p (accepted-sizes t p e) in
    small_by r (omega (arith, k.1), omega (arith, k.0))

-- and what is read from one fits once a bad block's place is cut
pub loaded-small : {f t p t' p' : List ℕ} {a : Answer} → FileLoaded f t p t' p' a → Small (cut a)
loaded-small {f} (files.not-read g e r s u) = small_by (ap cut r) (placed-cut (placed-file f) e)
loaded-small {f} (files.table-short c e l r s u) =
    small_by (ap cut r) (refused-small reason.Room input.Lent (length c.table % 2 ^ 48) (omega arith))
loaded-small {f} (files.plan-short c e k l r s u) =
    small_by (ap cut r) (refused-small reason.Room input.Lent (length c.plan % 2 ^ 48) (omega arith))
loaded-small {f} (files.loaded c e k l r s u) = let z = read-sizes f c e in small_by (ap cut r) (omega (arith, z.0), omega (arith, z.1))

-- what is saved of a bad file has at most 64 rows, and a refusal fits once its place is cut
lost-small : (k : Reason) (i : Input) (p : ℕ) {o : Outcome} → o ≡ lost (refused k i p) → Small (cut (salvage_says o))
lost-small k i p r = small_by (ap (λ (o : Outcome). cut (salvage_says o)) r) (refused-small k i (p % 2 ^ 48) (omega arith))

pub salvaged-small : {f t p b t' p' b' : List ℕ} {o : Outcome} → Salvaged f t p b t' p' b' o → Small (cut (salvage_says o))
salvaged-small (saving.head-lost h r s u v) = lost-small reason.Head input.File 0 r
salvaged-small (saving.none_kept h k r s u v) = lost-small reason.None input.File 0 r
salvaged-small {f} (saving.table-short h k l r s u v) = lost-small reason.Room input.Lent (length (kept_cells f)) r
salvaged-small (saving.plan-short h k l keeps cells x m r s u v) = lost-small reason.Room input.Lent (length cells) r
salvaged-small {f} (saving.bad-short h k l keeps cells x m n r s u v) = lost-small reason.Room input.Lent (length (bad_in f)) r
salvaged-small {f} (saving.all-had h k l keeps cells x m n r s u v) =
    let c = (head-is f h).rows in
    let w = (kept-are (width f) (count f) [] (drop 2 (table_part (front f)))).few in
    small_by (ap (λ (o : Outcome). cut (salvage_says o)) r) (omega (arith, c, w), omega (arith, c, w))
