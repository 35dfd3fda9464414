pub mod Concrete
pub mod SetEnds
pub mod SetArrows
pub mod SetRules
pub mod Told
