pub mod Edits
pub mod EditChunks
pub mod Laws
pub mod OtherLaws
pub mod Examples
pub mod EditLaws
pub mod OneLaws
