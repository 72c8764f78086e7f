-- rows that an edit leaves keep their entries
pub mod KeptLaws
-- the parts of a record, and what is stored into them
pub mod PartLaws
pub mod StoreLaws
-- what an edit makes of a table and of its record
pub mod StartLaws
pub mod RowLaws
pub mod EditLaws
pub mod EditKeeps
pub mod DropLaws
-- a record is determined, and so is what a promise allows
pub mod Fixed
