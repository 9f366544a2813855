-- What is asked: of a key, and of all entries.
pub mod LookupTexts
pub mod LookupLemmas
pub mod WordLemmas
pub mod AllLemmas
pub mod CountLemmas
-- What comes and goes.
pub mod Meanings
pub mod KeptLemmas
pub mod StopLemmas
pub mod ComeLemmas
pub mod GoLemmas
-- Tokens that only read.
pub mod ReaderTexts
pub mod ReaderRows
pub mod ReaderLemmas
pub mod ThirdLemmas
-- A token with its right.
pub mod TokenLemmas
