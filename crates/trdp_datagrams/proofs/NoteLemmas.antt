-- Lemmas on which objects a telegram is noted for.
pub mod Noted
pub mod BySession
pub mod ByCom
pub mod FirstListeners
pub mod HeardByRuns
pub mod ListenersAlone
