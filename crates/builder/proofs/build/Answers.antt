use Rattle.std.proofs.Common.{◌≡◌, ℕ, ◌≤◌, List, Result, Ok, refl, ◌∙◌, arith}
use Rattle.refusal.specs.Read.{read}
use Rattle.refusal.specs.declared.Refusal.{Refusal}
use Rattle.table.specs.declared.TableRead.{TableRead}
use Rattle.state.specs.code.First.{TableRows}
use Rattle.state.specs.declared.flags.Named.{Named}
use Rattle.least.specs.Measures.{table_by}
use Rattle.least.specs.declared.By.{By}
use Rattle.least.proofs.Measured.{by-table}
use Rattle.paircosts.proofs.WorkedLaws.{figure-small, turned_by}
use Rattle.builder.specs.code.Writing.{Right}
use Rattle.builder.proofs.BuildLaws.{no_table, no-column, cells-there, handed}
use Rattle.builder.proofs.build.Goals as goal

-- a table that is read is the one that is asked for by its measure
here : {by : By} {columns cells : List ℕ} {r : Result TableRead Refusal} {named : Named} {kept : List ℕ} {x : TableRead} → r ≡ Ok x
    → (k : TableRows cells x.starts x.width x.rows) → Right by columns cells r named kept → table_by by cells ≡ read k.table
here {by} {cells = cells} e k r = by-table by cells (figure-small by cells r.reads e) ∙ k.here

pub returns-then-read-named : goal.returns-then-read-named
returns-then-read-named c =
    let k = c.requires.0.rows c.in-Ok.is in
    λ by columns r. no-column r (here c.in-Ok.is k r) _ (omega (arith, c.if-read-named.true, k.width))

pub put-requires : goal.put-requires
put-requires c =
    let p = c.write_plan-plan.ensures (c.requires.0.rows c.in-Ok.is) in (p.few, cells-there p)

pub returns-else-read-named : goal.returns-else-read-named
returns-else-read-named c =
    let k = c.requires.0.rows c.in-Ok.is in
    λ by columns r. handed r (here c.in-Ok.is k r) (omega (arith, c.if-read-named.false, k.width)) (c.write_plan-plan.ensures k) c.put.ensures

pub returns-in-Err : goal.returns-in-Err
returns-in-Err c = λ by columns r. no_table _ (turned_by by _ r.reads c.in-Err.is)
