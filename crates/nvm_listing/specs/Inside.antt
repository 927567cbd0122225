-- Which units parts name.
pub mod Named
