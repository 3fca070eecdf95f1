pub mod ControlPortLemmas
