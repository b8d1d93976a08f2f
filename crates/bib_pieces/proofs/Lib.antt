-- ---- pieces that fit a text, and what they make of it
pub mod PieceTests
pub mod PieceLoops
-- ---- pieces of two edits in turn
pub mod Growing
pub mod Advancing
