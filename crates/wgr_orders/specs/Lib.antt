pub mod Names
pub mod Places
pub mod Orders
pub mod RefusalTexts
