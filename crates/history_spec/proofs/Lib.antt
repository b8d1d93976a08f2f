-- ---- a part of a text
pub mod Words
pub mod Shifts
-- ---- pieces of two edits in turn
pub mod Ordered
pub mod Covered
pub mod Grouped
pub mod Glued
pub mod Parted
pub mod Untouched
pub mod Around
pub mod Near
-- ---- histories and steps
pub mod HistoryLemmas
pub mod StepLemmas
