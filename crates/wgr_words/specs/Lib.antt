pub mod Asked
pub mod Line
pub mod Order
pub mod Reading
pub mod Sent
pub mod Words
