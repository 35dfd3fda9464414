pub mod ClashValues
