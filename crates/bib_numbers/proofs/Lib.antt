pub mod Words
pub mod Moves
pub mod FilledPages
pub mod SoughtPages
pub mod MovedNumbers
pub mod ItemNumbers
pub mod RisingLabels
