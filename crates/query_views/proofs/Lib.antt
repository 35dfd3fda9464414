mod Zips
mod Firsts
mod Viewed
mod SetCases
mod Beside
mod Lent
mod LentLists
mod Candidates
pub mod LentAt
