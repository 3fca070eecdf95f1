pub mod Outboxes
pub mod Rooms
pub mod SlotOrder
pub mod SlotWalk
