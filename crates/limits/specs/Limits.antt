-- The limits of documents 01 and 02, each once: what no table, row, goal, plan, text or reply exceeds. The code has them as src/lib.rt says.
use Rattle.std.specs.Prelude.{ℕ}

-- 01, "width (1 to 8)"
abbrev pub most_columns : ℕ
most_columns = 8

-- 01, "row count (1 to 64)"
abbrev pub most_rows : ℕ
most_rows = 64

-- 01, "A row is width terms one after another, at most 32 cells"; a goal has "1 to 32 cells in all"
abbrev pub most_row_cells : ℕ
most_row_cells = 32

-- 01, "A table has at most 2,050 cells": 2, and 32 for each of 64 rows
abbrev pub most_table_cells : ℕ
most_table_cells = 2050

-- the branches of a plan: each closes a cell of a row, and there are 32 in each of 64 rows
abbrev pub most_branches : ℕ
most_branches = 2048

-- 01, "A plan with B branches and L leaves has 3·B + 2 − L cells, at most 6,082"
abbrev pub most_plan_cells : ℕ
most_plan_cells = 6082

-- 02, W-201, "BYTES for over 65,535 bytes"
abbrev pub most_text_bytes : ℕ
most_text_bytes = 65535

-- a goal's text: a text's, less the line end and the full stop that are put behind it before it is read
abbrev pub most_goal_bytes : ℕ
most_goal_bytes = 65533

-- the names of a table: each stands in a cell of a row
abbrev pub most_names : ℕ
most_names = 2048

-- 02, W-203, "1,024 cells are enough for one"
abbrev pub most_reply_cells : ℕ
most_reply_cells = 1024

-- the cells of all rows: a table's but its first two
abbrev pub most_rows_cells : ℕ
most_rows_cells = 2048

-- the cells in which a row and a goal are met
abbrev pub most_meeting_cells : ℕ
most_meeting_cells = 2048

-- 02, W-207: three numbers for each pair of a first and a last row
abbrev pub kept_cells : ℕ
kept_cells = 12288

-- 02, W-207: two numbers, a table's cells, and what is kept for pairs of rows
abbrev pub record_cells : ℕ
record_cells = 14340
