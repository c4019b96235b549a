mod Rising
mod Sums
mod Tiles
mod Growing
mod Runs
mod Holding
mod Told
mod Begins
