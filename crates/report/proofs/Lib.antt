-- How far the input is read.
pub mod Reading
