mod Made
mod Told
