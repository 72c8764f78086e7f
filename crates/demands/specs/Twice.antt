-- W-209, "The same enamel twice", where it is not in the demands' own statements: demand 2 reads over all rows as it stands (specs/Demands),
-- since what a row is (`Row`, table/specs/Table) no longer asks that it uses a variable once; BIG is W-203's (specs/Replies).
use Rattle.std.specs.Prelude.{◌≡◌, ◌≢◌}
use Rattle.refusal.specs.Refusal.{Refused, Answer, turned}

-- "TWICE is never given again, which is proved": of what an entry answers. 8 is 01's number of TWICE
abbrev pub NeverTwice : Answer → Type 0
NeverTwice answer = (f : Refused) → answer ≡ turned f → f.number ≢ 8
