pub mod LostParents
