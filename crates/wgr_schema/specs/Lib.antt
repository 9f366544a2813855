pub mod Forms
pub mod Fresh
pub mod Versions
pub mod Upgrade
pub mod Laws
pub mod Faults
