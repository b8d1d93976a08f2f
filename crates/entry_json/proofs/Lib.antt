mod ReadBack
mod WrittenFields
mod WrittenEntry
mod RawFields
