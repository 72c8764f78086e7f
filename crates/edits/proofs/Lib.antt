-- numbers stored one after another
pub mod StoringLaws
-- the table that is read, and the edits
pub mod TableLaws
pub mod WorkLaws
pub mod DropLaws
pub mod JoinLaws
pub mod AgainLaws
pub mod PutLaws
pub mod EditedLaws
-- two results that a promise allows are equal
pub mod Fixed
