pub mod NamedAt
