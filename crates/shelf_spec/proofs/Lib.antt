pub mod ShelfReads
pub mod ShelfPlaces
pub mod SeamsSay
pub mod SeamsDefine
