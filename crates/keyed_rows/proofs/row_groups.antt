mod LentKeys
mod OneMore
mod Regrouped
pub mod WithKey
