pub mod FewLinks
pub mod There
