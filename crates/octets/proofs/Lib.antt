pub mod PutLaws
pub mod DecimalLaws
pub mod CellsLaws
pub mod BytesLaws
pub mod Fixed
pub mod RoomLaws
