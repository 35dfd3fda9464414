pub mod LinkNames
