pub mod Rising
pub mod Answered
pub mod Alike
pub mod Told
