pub mod Renamings
