mod Coding
mod Finding
mod Kept
mod Unnumbered
mod Listed
