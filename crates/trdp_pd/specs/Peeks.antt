-- What a subscription shows.
use Rattle.std.specs.Prelude.{ℕ, List}
use Rattle.trdp_pd.specs.declared.terms.ValueState.{ValueState}
use Rattle.trdp_pd.specs.declared.terms.Peek.{Peek}
use Rattle.trdp_pd.specs.Subscriptions.{SubscriptionState}

-- how good the value is, the counter that came with it, and its bytes
pub record PeekModel : Type 0 where
  pub state : ValueState
  pub counter : ℕ
  pub bytes : List ℕ

-- a look at a subscription, apart from where its bytes are
abbrev pub peek_model : Peek → PeekModel
peek_model peek = record { state = peek.state; counter = peek.counter; bytes = peek.bytes.now }

-- what a subscription shows
abbrev pub shown : SubscriptionState → PeekModel
shown s = record { state = s.state; counter = s.counter; bytes = s.value }
