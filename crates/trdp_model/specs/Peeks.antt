-- What a look at a subscription shows.
use Rattle.std.specs.Prelude.{ℕ, Option, Some, None, Result, Ok, Err}
use Rattle.trdp_pd.specs.declared.terms.Peek.{Peek}
use Rattle.trdp_pd.specs.Peeks.{PeekModel, peek_model, shown}
use Rattle.trdp_pd.specs.Subscriptions.{SubscriptionState}
use Rattle.trdp_model.specs.declared.look.LookFault.{LookFault}
use Rattle.trdp_model.specs.declared.look.LookFault.TheVariants.{NoHandle, WrongKind}
use Rattle.trdp_model.specs.declared.look.PeekFault.{PeekFault}
use Rattle.trdp_model.specs.declared.look.PeekFault.TheVariants.{NoSlot}
use Rattle.trdp_model.specs.declared.look.PeekFault.TheVariants.{NoHandle as NoHandleToPeek}
use Rattle.trdp_model.specs.declared.look.PeekFault.TheVariants.{WrongKind as WrongKindToPeek}
use Rattle.trdp_model.specs.Looks.{subscription_at}
use Rattle.trdp_model.specs.Slots.{SlotState}

-- a look, apart from where its bytes are
abbrev pub peeked : Result Peek PeekFault → Result PeekModel PeekFault
peeked (Ok peek) = Ok (peek_model peek)
peeked (Err fault) = Err fault

-- the same fault of a look from outside
abbrev pub peek_fault : LookFault → PeekFault
peek_fault NoHandle = NoHandleToPeek
peek_fault WrongKind = WrongKindToPeek

-- what a subscription shows, if there is one
abbrev pub peek_of : Result SubscriptionState LookFault → Result PeekModel PeekFault
peek_of (Ok s) = Ok (shown s)
peek_of (Err fault) = Err (peek_fault fault)

-- what the subscription of a handle shows in a slot, if there is one
abbrev pub peek_in : Option SlotState → ℕ → Result PeekModel PeekFault
peek_in None handle = Err NoSlot
peek_in (Some slot) handle = peek_of (subscription_at handle slot.objects)
