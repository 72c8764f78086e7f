-- W-209 (02), "The same enamel twice", where it is not in the demands' own statements (specs/Twice).
use Rattle.std.specs.Prelude.{Result}
use Rattle.instance.specs.declared.ReplyCounts.{ReplyCounts}
use Rattle.refusal.specs.declared.Refusal.{Refusal}
use Prim.Native.Nat.{ℕ, ◌+◌, ◌≤◌, ◌<◌}
use mathlib.Core.Path.{◌≡◌, refl, sym, ◌∙◌, ap}
use mathlib.Core.Logic.{◌≢◌, ⊎_elim, by_cases}
use mathlib.Core.Bool.{true, false}
use mathlib.Core.List.{List, [], ◌∷◌}
use native.Mathlib.Decide.{dec_lt}
use native.Mathlib.Omega.{arith}
use lib.ListN.{length, drop}
use Rattle.cell.specs.Cell.{is_var, values_at}
use Rattle.cell.specs.Same.{among}
use Rattle.term.proofs.Tests.{bool_cases}
use Rattle.refusal.specs.Refusal.{Refused, refused, reason_number, Answer, answered}
use Rattle.refusal.specs.Refusal as refusals
use Rattle.refusal.specs.declared.Reason.{Reason}
use Rattle.refusal.specs.declared.Reason.TheVariants as reason
use Rattle.refusal.specs.declared.Input.{Input}
use Rattle.refusal.specs.Read.{Read, read, refuse}
use Rattle.refusal.proofs.RefusalLaws.{never-twice}
use Rattle.table.specs.Table.{Table, table, table_of, goal_of, rows_from, terms_from, others, IsTable}
use Rattle.table.specs.Table.{Row}
use Rattle.term.specs.Terms.{Terms}
use Rattle.table.proofs.AllLaws.{all-each}
use Rattle.table.proofs.ReadLaws.{apart, refuse-one, not-both}
use Rattle.table.proofs.Accepted.{is-table, is-goal}
use Rattle.plan.specs.Named.{flags_of}
use Rattle.plan.specs.Runs.{agree}
use Rattle.plan.specs.Plans.{Plan, branches, cost}
use Rattle.plan.proofs.RunsLaws.{agree-fixed}
use Rattle.least.specs.Measures.{work, cost_by}
use Rattle.least.specs.Later.{laters_in}
use Rattle.least.specs.declared.By.{By}
use Rattle.least.specs.declared.By.TheVariants.{Branches, Work}
use Rattle.least.proofs.Later.{cost-from, from-plain}
use Rattle.least.proofs.Weighed.{by-light}
use Rattle.record.specs.Edits.{Edit}
use Rattle.answer.specs.declared.Job.{Job}
use Rattle.instance.specs.declared.ReplyJob.{ReplyJob}
use Rattle.instance.specs.Replied.{Replied, replies_told}
use Rattle.instance.specs.ReplyJobs.{goal_of_job}
use Rattle.dudowiej.proofs.Places.{Placed, good, turned, placed-table, placed_row, placed-goal, placed-asked, placed-checked, placed-with}
use Rattle.demands.specs.Demands.{Demand1Table, Demand1Goal, Demand1Check, Demand1Build, Demand1Run}
use Rattle.demands.specs.Columns.{CheckForTurned, ChecksFor}
use Rattle.demands.specs.Columns as kinds
use Rattle.demands.specs.Liked.{LikedTurned, LikesMost}
use Rattle.demands.specs.Liked as likes
use Rattle.demands.specs.Demands.{BuildTurned, no-figure, no_table, no-column, no_room, RunTurned, bad-table, bad-plan, bad-goal, bad-room}
use Rattle.demands.specs.Texts.{TextTurned, Request201}
use Rattle.demands.specs.Texts as texts
use Rattle.demands.specs.Asking.{GoalTurned, ReadsGoal, AnswerTurned, PutsAnswer}
use Rattle.demands.specs.Asking as asks
use Rattle.demands.specs.Shift.{Shift, OneJob, goal_in}
use Rattle.demands.specs.Replies.{RepliesTurned, RepliesRefused}
use Rattle.demands.specs.Replies as replies
use Rattle.demands.specs.ReplyShift.{OneReply, ReplyShift}
use Rattle.demands.specs.Clauses.{ClausesTurned, ClausesRefused}
use Rattle.demands.specs.Clauses as clauses
use Rattle.demands.specs.Files.{WriteTurned, WriteRefused, ReadTurned, ReadRefused}
use Rattle.demands.specs.Files as files
use Rattle.demands.specs.Salvage.{SalvageTurned, SalvageRefused}
use Rattle.demands.specs.Salvage as salvage
use Rattle.demands.specs.Records.{WorkTurned, MakesRecord, EditTurned, EditsRecord}
use Rattle.demands.specs.Records as records
use Rattle.demands.specs.Twice.{NeverTwice}
use Rattle.demands.proofs.Replies.{refuses-kept}

-- "TWICE is never given again, which is proved": 8 is no reason's number.
pub request-209-twice : (r : Reason) → reason_number r ≢ 8
request-209-twice = never-twice

-- So none of what this page says of an entry allows it: what an entry refuses has a reason by name (`Placed`, dudowiej/proofs/Places).
named : (r : Reason) {n : ℕ} → n ≡ reason_number r → n ≢ 8
named r e q = never-twice r (sym e ∙ q)

same : {f g : Refused} → f ≡ g → f.number ≡ g.number
same e = ap (λ (h : Refused). h.number) e

placed : {A : Type 0} {n : ℕ} {P : A → Type 0} {r : Read A} {f : Refused} → Placed n P r → r ≡ refuse f → f.number ≢ 8
placed (good p) e = apart e
placed (turned k i p l) e = named k (same (sym (refuse-one e)))

pub never-read-table : {t : List ℕ} {a : Answer} → Demand1Table t a → NeverTwice a
never-read-table {t} x f e = placed (placed-table t) ((x.refuses f).0 e)

pub never-read-goal : {t g : List ℕ} {a : Answer} → Demand1Goal t g a → NeverTwice a
never-read-goal {t} {g} x f e = placed (placed-asked t g) ((x.refuses f).0 e)

pub never-check : {t p : List ℕ} {a : Answer} → Demand1Check t p a → NeverTwice a
never-check {t} {p} x f e = placed (placed-checked t p) ((x.refuses f).0 e)

-- for named columns too
pub never-check-for : {t columns p : List ℕ} {a : Answer} → ChecksFor t columns p a → NeverTwice a
never-check-for {t} {columns} {p} x f e = go (((x columns (λ c. (λ m. m, λ m. m))).refuses f).0 e)
  where
    go : CheckForTurned t columns p f → f.number ≢ 8
    go (kinds.bad-table q) = placed (placed-table t) q
    go (kinds.no-column i m q) = named reason.Column (same q)
    go (kinds.bad-plan {width = w} {rows} i h q) = placed (placed-with (flags_of w columns) (table w rows) p) q

pub never-build : {by : By} {columns t room after : List ℕ} {a : Answer} → Demand1Build by columns t room after a → NeverTwice a
never-build {by} {columns} {t} {room} x f e = go ((x.refuses f).0 e)
  where
    go : BuildTurned by columns t room f → f.number ≢ 8
    go (no-figure h q) = named reason.Figure (same q)
    go (no_table h q) = placed (placed-table t) q
    go (no-column h i m q) = named reason.Column (same q)
    go (no_room h i k tree b l q) = named reason.Room (same q)

pub never-build-liked : {by : By} {t goals list room after liked liked' : List ℕ} {a : Answer} → LikesMost by t goals list room after liked liked' a
    → NeverTwice a
never-build-liked {by} {t} {goals} {list} {room} x f e = go ((x.refuses f).0 e)
  where
    go : LikedTurned by t goals list room f → f.number ≢ 8
    go (likes.no-figure h q) = named reason.Figure (same q)
    go (likes.no_table h q) = placed (placed-table t) q
    go (likes.no_room h best l q) = named reason.Room (same q)

pub never-run : {t p g room after : List ℕ} {a : Answer} → Demand1Run t p g room after a → NeverTwice a
never-run {t} {p} {g} {room} x f e = go ((x.refuses f).0 e)
  where
    go : RunTurned t p g room f → f.number ≢ 8
    go (bad-table q) = placed (placed-table t) q
    go (bad-plan i q) = placed (placed-checked t p) q
    go (bad-goal {width = w} i tree u q) = placed (placed-goal w g) q
    go (bad-room i tree u h l q) = named reason.Room (same q)

pub never-text : {t cells names cells' names' : List ℕ} {a : Answer} → Request201 t cells names cells' names' a → NeverTwice a
never-text {t} {cells} {names} x f e = go ((x.refuses f).0 e)
  where
    go : {f : Refused} → TextTurned t cells names f → f.number ≢ 8
    go (texts.bytes h) = named reason.Bytes refl
    go (texts.no_text k h s) = named reason.Text refl
    go (texts.other fs k h u o) = named reason.Other refl
    go (texts.no_cells fs h u o l) = named reason.Room refl
    go (texts.no_names fs h u o l m) = named reason.Room refl
    go (texts.no_table fs f h q) = placed (placed-table _) q

pub never-goal-text : {text names t cells cells' new new' : List ℕ} {a : Answer} → ReadsGoal text names t cells cells' new new' a → NeverTwice a
never-goal-text {text} {names} {t} {cells} {new = new} x f e = go ((x.refuses f).0 e)
  where
    go : {f : Refused} → GoalTurned text names t cells new f → f.number ≢ 8
    go (asks.too_many h) = named reason.Length refl
    go (asks.bytes l h) = named reason.Bytes refl
    go (asks.no_text k l h n) = named reason.Text refl
    go (asks.other p whole g gs l h q w n) = named reason.Other refl
    go (asks.no-goal p goal f l h q u z) = placed (placed-goal p.width goal.cells) z
    go (asks.no_cells goal i l) = named reason.Room refl
    go (asks.no_names goal i l m) = named reason.Room refl

pub never-answer : {text names goal new cells room room' : List ℕ} {a : Answer} → PutsAnswer text names goal new cells room room' a → NeverTwice a
never-answer {text} {names} {goal} {new} {cells} {room} x f e = go ((x.refuses f).0 e)
  where
    go : {f : Refused} → AnswerTurned text names goal new cells room f → f.number ≢ 8
    go (asks.big h) = named reason.Big refl
    go (asks.no_room p h q l) = named reason.Room refl

-- of a list of goals, and of each record of it
pub never-jobs : {t p lent : List ℕ} {jobs after : List Job} {a : Answer} → Shift t p lent jobs after a → NeverTwice a
never-jobs {t} {p} x f e = placed (placed-checked t p) ((x.refuses f).0 e)

pub never-job : {t p lent : List ℕ} {w : ℕ} {rows : List (List ℕ)} {tree : Plan w rows} {j after : Job} → OneJob t p lent tree j after
    → after.number ≢ 8
never-job {lent = lent} {w = w} {j = j} {after = after} x q =
    by_cases (dec_lt (length lent) (j.start + j.count))
    (λ (l : length lent < j.start + j.count). let z : ⊥ = omega (arith, (x.past l).number_is) in z)
    (λ l. let k : j.start + j.count ≤ length lent = omega arith in go k (goal_of w (goal_in lent j)) refl)
  where
    go : j.start + j.count ≤ length lent → (r : Read ℕ) → goal_of w (goal_in lent j) ≡ r → ⊥
    go k (read v) e = omega (arith, (x.answers k (is-goal w (goal_in lent j) e).0).number-zero)
    go k (refuse f) e = placed (placed-goal w (goal_in lent j)) e (sym (x.refused k f e).number_is ∙ q)

pub never-replies : {t p g room after : List ℕ} {a : Answer} → RepliesRefused t p g room after a → NeverTwice a
never-replies {t} {p} {g} {room} x f e = go ((x.refuses f).0 e)
  where
    go : RepliesTurned t p g room f → f.number ≢ 8
    go (replies.bad-table q) = placed (placed-table t) q
    go (replies.bad-plan i q) = placed (placed-checked t p) q
    go (replies.bad-goal {width = w} i tree u q) = placed (placed-goal w g) q
    go (replies.big all i tree u h r l q) = named reason.Big (same q)
    go (replies.bad-room all i tree u h r s l q) = named reason.Room (same q)

-- of a list of goals whose replies are wanted, and of each record of it
pub never-reply-jobs : {t p lent room room' : List ℕ} {jobs after : List ReplyJob} {a : Answer} → ReplyShift t p lent room room' jobs after a
    → NeverTwice a
never-reply-jobs {t} {p} x f e = placed (placed-checked t p) ((x.refuses f).0 e)

pub never-reply-job : {t p lent room said : List ℕ} {on : ℕ} {j after : ReplyJob} → OneReply t p lent room on j after said → after.number ≢ 8
never-reply-job {t} {p} {lent} {room} {on = on} {j} {after} x q =
    by_cases (dec_lt (length lent) (j.start + j.count))
    (λ (l : length lent < j.start + j.count). let z : ⊥ = omega (arith, (x.past l).number_is) in z)
    (λ l. let k : j.start + j.count ≤ length lent = omega arith in let a = x.asked k in go k a.2 (replies_told a.1) refl)
  where
    go : j.start + j.count ≤ length lent → {left : List ℕ} {r : Result ReplyCounts Refusal} → Replied t p (goal_of_job lent j) (drop on room) left r → (b : Answer)
        → replies_told r ≡ b → ⊥
    go k {left} {r} y (answered n m) e = omega (arith, (x.answers k n m left r y e).0.number-zero)
    go k {left} {r} y (refusals.turned f) e = never-replies (refuses-kept y) f e (sym (x.refused k f left r y e).number_is ∙ q)

pub never-clauses : {t p text names room after : List ℕ} {a : Answer} → ClausesRefused t p text names room after a → NeverTwice a
never-clauses {t} {p} {text} {names} {room} x f e = go ((x.refuses f).0 e)
  where
    go : ClausesTurned t p text names room f → f.number ≢ 8
    go (clauses.bad-table q) = placed (placed-table t) q
    go (clauses.bad-plan i q) = placed (placed-checked t p) q
    go (clauses.bad-names i tree u l q) = named reason.Names (same q)
    go (clauses.bad-room i tree u l n q) = named reason.Room (same q)

pub never-write-file : {t p room after : List ℕ} {a : Answer} → WriteRefused t p room after a → NeverTwice a
never-write-file {t} {p} {room} x f e = go ((x.refuses f).0 e)
  where
    go : WriteTurned t p room f → f.number ≢ 8
    go (files.bad-table q) = placed (placed-table t) q
    go (files.bad-plan i q) = placed (placed-checked t p) q
    go (files.bad-room i tree u l q) = named reason.Room (same q)

pub never-read-file : {file t p t' p' : List ℕ} {a : Answer} → ReadRefused file t p t' p' a → NeverTwice a
never-read-file {file} {t} {p} x f e = go ((x.refuses f).0 e)
  where
    go : ReadTurned file t p f → f.number ≢ 8
    go (files.no_blocks b q) = named reason.Blocks (same q)
    go (files.damage k b q) = named reason.Damage (same q)
    go (files.bad-sizes b d q) = named reason.Sizes (same q)
    go (files.bad-padding k b d q) = named reason.Padding (same q)
    go (files.bad-table b q) = placed (placed-table (files.table_on file)) q
    go (files.bad-plan b i q) = placed (placed-checked (files.table_on file) (files.plan_on file)) q
    go (files.table-short t p y l q) = named reason.Room (same q)
    go (files.plan-short t p y k l q) = named reason.Room (same q)

pub never-salvage : {file t p b o t' p' b' o' : List ℕ} {a : Answer} → SalvageRefused file t p b o t' p' b' o' a → NeverTwice a
never-salvage {file} {t} {p} {b} x f e = go ((x.refuses f).0 e)
  where
    go : SalvageTurned file t p b f → f.number ≢ 8
    go (salvage.no-head h q) = named reason.Head (same q)
    go (salvage.no_row h k q) = named reason.None (same q)
    go (salvage.table-short rows k l q) = named reason.Room (same q)
    go (salvage.plan-short rows keeps cells k y l m q) = named reason.Room (same q)
    go (salvage.bad-short rows keeps cells numbers y l m n q) = named reason.Room (same q)

pub never-work-out : {figure : ℕ} {t rec rec' : List ℕ} {a : Answer} → MakesRecord figure t rec rec' a → NeverTwice a
never-work-out {figure} {t} x f e = go ((x.refuses f).0 e)
  where
    go : WorkTurned figure t f → f.number ≢ 8
    go (records.no-figure h q) = named reason.Figure (same q)
    go (records.no_table h q) = placed (placed-table t) q

pub never-edit : {e : Edit} {figure : ℕ} {T : Table} {rec rec' : List ℕ} {a : Answer} → EditsRecord e figure T rec rec' a → NeverTwice a
never-edit {e} {T = T} x f q = go ((x.refuses f).0 q)
  where
    go : {e : Edit} {f : Refused} → EditTurned T e f → f.number ≢ 8
    go (records.full l) = named reason.Full refl
    go (records.last l) = named reason.Last refl
    go (records.index l) = named reason.Index refl
    go (records.bad-append {row = row} l q) = placed (placed_row T.width T.rows row) q
    go (records.bad-replace {r = r} {row = row} l q) = placed (placed_row T.width (others r T.rows) row) q

-- "and P9's first table is accepted": its row is v0, v0.
p9 : table_of (2 ∷ 1 ∷ 0 ∷ 0 ∷ []) ≡ read (table 2 ((0 ∷ 0 ∷ []) ∷ []))
unfolding table_of rows_from terms_from values_at among
p9 = refl

pub request-209-p9 : {a : Answer} → Demand1Table (2 ∷ 1 ∷ 0 ∷ 0 ∷ []) a → a ≡ answered 2 1
request-209-p9 x = x.accepts 2 ((0 ∷ 0 ∷ []) ∷ []) (is-table (2 ∷ 1 ∷ 0 ∷ 0 ∷ []) p9)

-- "variables of two rows still never agree"
pub request-209-apart : (c d : ℕ) → is_var c ≡ true → agree c d ≡ false
request-209-apart c d v = ⊎_elim (λ e. not-both v (agree-fixed c d e)) (λ e. e) (bool_cases (agree c d))

-- "and a later meeting costs 1 in W-204": by the path, as `weight_at` (least/specs/Measures) has it. So a plan costs what it did before W-209,
-- and 1 for each place of a row at which a variable stands that stands earlier in that row (`laters_in`): no plan has more of it than another
pub request-209-cost : (figure : ℕ) (t : List ℕ) {w : ℕ} {rows : List (List ℕ)} → IsTable t w rows → (p : Plan w rows)
    → cost_by (Work figure) p ≡ cost (work figure) p + laters_in (work figure) [] rows
request-209-cost figure t {w} {rows} i p = cost-from (by-light (Work figure)) p [] (all-each (Row w) (Terms w) (λ r x. x.terms) rows i.each)

-- 01's measure is as it was: the number of branches
pub request-209-branches : {w : ℕ} {rows : List (List ℕ)} (p : Plan w rows) → cost_by Branches p ≡ branches p
request-209-branches p = from-plain p []
