pub mod Canonical
pub mod KeyText
pub mod Laws
pub mod Lines
pub mod Prefix
pub mod PrefixText
