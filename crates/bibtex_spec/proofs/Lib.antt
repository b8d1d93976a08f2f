-- ---- faults
-- ---- lists
pub mod StarLaws
pub mod InStepLaws
pub mod RenamingLaws
