pub mod Nodes
pub mod Slots
pub mod Digests
pub mod Shown
