pub mod SlotLaws
pub mod DigestLaws
pub mod Readers
pub mod Fills
pub mod Sections
