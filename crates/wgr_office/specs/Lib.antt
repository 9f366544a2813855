pub mod Between
pub mod Pages
pub mod Events
pub mod Worlds
pub mod Serving
pub mod Secrets
