pub mod SlotOrderLemmas
pub mod RoomLemmas
pub mod RowLemmas
