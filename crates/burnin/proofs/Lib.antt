-- How much of the input is read; and laws that no proof cites any more, and that stand.
pub mod Reading
pub mod Kept
