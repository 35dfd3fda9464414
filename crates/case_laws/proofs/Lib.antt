pub mod shown
pub mod Keys
pub mod StateRows
pub mod lists
pub mod own
pub mod reading
