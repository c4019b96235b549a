pub mod Fronts
mod Least
