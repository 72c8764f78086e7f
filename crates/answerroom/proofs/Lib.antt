pub mod RoomLaws
pub mod Fixed
