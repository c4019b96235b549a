-- Contracts mean it. What a slab whose values stay ends as where it lends one.
pub mod Lends
