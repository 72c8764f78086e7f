-- What a run has found, for a table as the code holds it.
use Rattle.std.specs.Prelude.{Err, Result, Ok}
use Rattle.answer.specs.declared.RunCounts.{RunCounts}
use Prim.Native.Nat.{ℕ, ◌≤◌, ◌<◌}
use mathlib.Core.Path.{◌≡◌, sym, ◌∙◌, ap, subst}
use mathlib.Core.List.{List}
use lib.ListN.{length, take}
use Rattle.refusal.specs.declared.Refusal.{Refusal}
use Rattle.table.specs.All.{All}
use Rattle.table.specs.Table.{Table}
use Rattle.table.proofs.ReadLaws.{read_one}
use Rattle.answer.specs.Run.{Ran}
use Rattle.instance.specs.Replied.{Replied}
use Rattle.instance.specs.code.Passes.{Held, Found}
use Rattle.instance.proofs.PassLaws.{found-table, found-given, found-hits, run-refused, run-found}
use Rattle.replies.specs.code.Sums.{Passing}

pub passing : {table starts plan goal hits : List ℕ} {rows : ℕ} → Held table starts rows → (f : Found table plan goal hits)
    → Passing table starts rows goal hits (found-given f).all
passing {hits = hits} h f =
    let g = found-given f in
    let e = ap (λ (T : Table). length T.rows) (read_one (sym (found-table f) ∙ h.reads)) ∙ h.many in
    record { held = h; below = subst (λ (n : ℕ). All (λ (r : ℕ). r < n) hits) e g.below; few = (found-hits f).few; at = g.at }

-- the answer of a run, by its case
pub refused-by : {t p g bytes bytes' room : List ℕ} {f : Refusal} {r : Result RunCounts Refusal} → r ≡ Err f → Ran t p g bytes bytes' r
    → 64 ≤ length bytes → Replied t p g room room (Err f)
refused-by {t} {p} {g} {bytes} {bytes'} e x l = run-refused (subst (λ (a : Result RunCounts Refusal). Ran t p g bytes bytes' a) e x) l

pub found-by : {t p g bytes bytes' : List ℕ} {h n : ℕ} {r : Result RunCounts Refusal} → r ≡ Ok (record { hits = h; tried = n }) → Ran t p g bytes bytes' r → 64 ≤ length bytes
    → Found t p g (take h bytes') × (h ≤ length bytes')
found-by {t} {p} {g} {bytes} {bytes'} e x l = run-found (subst (λ (a : Result RunCounts Refusal). Ran t p g bytes bytes' a) e x) l
