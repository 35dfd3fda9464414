pub mod ApartPlaces
pub mod PlaceTexts
pub mod Decimals
pub mod NumberedLists
