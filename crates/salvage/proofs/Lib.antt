pub mod RangeLaws
pub mod RowsLaws
pub mod PlanSaid
pub mod GiveLaws
