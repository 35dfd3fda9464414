pub mod Flow
pub mod FlowValues
pub mod Serving
pub mod Reading
pub mod EntityRead
pub mod LinkRead
pub mod LeftOut
pub mod Apart
