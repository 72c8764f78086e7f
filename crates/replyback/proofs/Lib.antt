pub mod StandLaws
pub mod ListedLaws
pub mod WordLaws
pub mod ReplyBack
