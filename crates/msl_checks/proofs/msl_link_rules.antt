pub mod FirstWriting
pub mod KeyProps
