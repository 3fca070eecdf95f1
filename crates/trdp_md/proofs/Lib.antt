pub mod ListenerLemmas
pub mod CallerLemmas
pub mod ConfirmLemmas
pub mod ReplierLemmas
pub mod AnswerLemmas
pub mod RepeatLemmas
