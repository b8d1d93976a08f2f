pub mod Laws
pub mod Joined
pub mod Faults
pub mod Items
