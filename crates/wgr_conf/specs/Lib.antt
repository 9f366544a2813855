pub mod Files
pub mod Routing
pub mod Laws
