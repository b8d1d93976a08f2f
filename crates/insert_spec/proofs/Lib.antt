pub mod PutItems
pub mod PutFiles
