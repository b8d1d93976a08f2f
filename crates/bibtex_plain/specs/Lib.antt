pub mod Walking
pub mod Walks
