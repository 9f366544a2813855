pub mod Listing
pub mod Parts
pub mod Permuted
pub mod Rising
