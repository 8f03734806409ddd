-- A law that no proof cites any more, and that stands.
pub mod Kept
