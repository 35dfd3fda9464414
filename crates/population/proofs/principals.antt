pub mod Asked
pub mod Matched
pub mod PrincipalKeys
pub mod Principals
