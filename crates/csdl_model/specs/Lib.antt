pub mod ModelFaults
pub mod ReadsModel
pub mod csdl_sound
