-- Laws on definitions that must-fail edits change.
pub mod Floor
