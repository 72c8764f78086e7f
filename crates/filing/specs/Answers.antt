-- What writing and reading a file answer, as two values or a refusal.
use Rattle.std.specs.Prelude.{Result, Ok, Err}
use Rattle.refusal.specs.Refusal.{told, Answer, answered, turned}
use Rattle.refusal.specs.declared.Refusal.{Refusal}
use Rattle.filing.specs.declared.Written.{Written}
use Rattle.filing.specs.declared.Contents.{Contents}

abbrev pub written_told : Result Written Refusal → Answer
written_told (Ok size) = answered size.bytes size.blocks
written_told (Err f) = turned (told f)

abbrev pub contents_told : Result Contents Refusal → Answer
contents_told (Ok size) = answered size.table size.plan
contents_told (Err f) = turned (told f)
