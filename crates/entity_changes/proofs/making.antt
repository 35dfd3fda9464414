mod Known
mod Made
mod Put
mod Refused
mod Taken
mod Told
mod TypesOf
