pub mod LinkParts
pub mod WrittenColumns
