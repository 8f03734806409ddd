-- When a reader or a writer may be told to have failed, and how much of the input is read.
pub mod Faults
