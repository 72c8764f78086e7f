use mathlib.Core.Path.{◌≡◌}
use native.Mathlib.Omega.{arith}
use Rattle.refusal.specs.Refusal.{reason_number}
use Rattle.octets.proofs.PutLaws.{put-put}
use Rattle.printing.specs.Printing.{refusal}
use Rattle.printing.proofs.LengthLaws.{refusal-few}
use borrow.Author.Rules.{rules}
use Rattle.printing.proofs.put_refusal.Statement.{statement}
use Rattle.printing.proofs.put_refusal.Tie as tie

number-of-requires : tie.Need-number_of-number-requires
number-of-requires c κs = search rules

put-word-requires : tie.Need-put_word-p-requires
put-word-requires c κs = search rules

put-decimal-requires : tie.Need-put_decimal-q-requires
put-decimal-requires c κs = search rules

put-word-requires-2 : tie.Need-put_word-r-requires
put-word-requires-2 c κs = search rules

put-field-requires : tie.Need-put_field-requires
put-field-requires c κs = search rules

same_length : tie.Need-shape_of-out
same_length c = search rules

returns : tie.Need-returns
unfolding refusal
returns c =
    let n = c.number_of-number in
    let reason = c.args.reason in
    let place = c.args.place in
    let number : n.result ≡ reason_number reason = n.ensures.0 in
    let few = refusal-few (reason_number reason) place (omega (arith, n.ensures)) (omega (arith, c.ranges.place)) in
    let line = put-put c.put_word-p.ensures (put-put c.put_decimal-q.ensures (put-put c.put_word-r.ensures c.put_field.ensures)) in
    (rw number at line, few)

pub put_refusal_spec : {M : Type 1} → statement M
put_refusal_spec =
    tie.close
    (tie.spec
    number-of-requires
    put-word-requires
    put-decimal-requires
    put-word-requires-2
    put-field-requires
    same_length
    returns)
