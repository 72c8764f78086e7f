-- the words by the number of a reason
pub mod Numbers
