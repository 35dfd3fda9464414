pub mod NoTypeFaults
pub mod SchoolKeeps
