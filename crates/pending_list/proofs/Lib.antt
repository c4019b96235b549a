pub mod Tournaments
pub mod Before
pub mod Presents
pub mod Firsts
pub mod Indexes
