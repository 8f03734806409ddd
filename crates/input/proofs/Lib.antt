-- How many bytes are read.
pub mod Amount
