-- One network, and its own row.
pub mod Directed
pub mod Settings
-- Its peers.
pub mod Keyed
pub mod Owned
-- Its prefixes.
pub mod Holder
pub mod HeldRows
pub mod Telling
pub mod Staying
pub mod Stopping
pub mod Left
pub mod Rising
-- Commands on it.
pub mod Act
