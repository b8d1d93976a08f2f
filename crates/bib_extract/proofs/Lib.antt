pub mod NamesAwaited
pub mod MarkedEntries
pub mod WalkedItems
pub mod WrittenItems
