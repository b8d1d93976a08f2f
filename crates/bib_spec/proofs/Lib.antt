-- ---- results
pub mod Results
-- ---- pieces and chunks
pub mod PieceLemmas
pub mod WayBack
pub mod Chunks
-- ---- names, keys and the entries that they name
pub mod Names
pub mod Places
pub mod Keys
pub mod Counts
pub mod Parents
-- ---- what entries inherit
pub mod Missing
pub mod Lineages
-- ---- files that are accepted, and free keys
pub mod Accepted
pub mod FreeKeys
pub mod NewKeyBytes
pub mod Balance
