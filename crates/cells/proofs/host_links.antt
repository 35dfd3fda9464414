mod Keyed
mod Placed
