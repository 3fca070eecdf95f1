pub mod PublisherLemmas
pub mod SubscriptionLemmas
pub mod MomentLemmas
