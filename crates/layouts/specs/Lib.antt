pub mod Rules
pub mod Layouts
pub mod Faults
pub mod FaultOrder
pub mod Forms
pub mod Inside
pub mod rule_places
pub mod told_rules
