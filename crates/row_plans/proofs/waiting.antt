mod Collected
mod Fitting
mod Given
mod Listed
mod OfKey
mod Paired
mod Playing
