pub mod Origins
pub mod Standing
pub mod Hosting
