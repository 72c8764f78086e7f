-- How a table is read for a measure, by its figure: what `read_by` needs, whatever its test is named after.
use Rattle.least.proofs.Measured.{by-table, by-figure}

pub ruleset by_measure = (by-table, by-figure)
