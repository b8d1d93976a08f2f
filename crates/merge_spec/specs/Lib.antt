pub mod Units
pub mod ThreeWay
pub mod Merged
pub mod Conflicts
pub mod Names
pub mod Parents
pub mod Examples
pub mod Laws
