-- Datagrams at which nothing happens: they concern no slot.
-- For `malformed_datagrams_are_inert` and `error_telegrams_are_inert`.
-- By: no object is addressed by an error telegram, and nothing is by bytes that are no telegram.
use Rattle.std.proofs.Common.{◌≡◌, Bool, true, false, List, [], ◌∷◌, Option, Some, None}
use Rattle.std.proofs.Common.{refl, sym, ap, ◌∙◌}
use Rattle.std.specs.Prelude.{ℕ, ◌&&◌}
use Rattle.std.specs.List.{list_any}
use Rattle.std.proofs.lemmas.Bool.{true≢false}
use Rattle.trdp_base.specs.declared.place.Place.{Place}
use Rattle.trdp_head.specs.declared.pd.PdHead.{PdHead}
use Rattle.trdp_head.specs.declared.pd.PdKind.TheVariants.{Error}
use Rattle.trdp_head.specs.PdTelegrams.{PdTelegram, pd_telegram_of}
use Rattle.trdp_filter.specs.declared.globals.Globals.{Globals}
use Rattle.trdp_filter.specs.Telegrams.{PdIs}
use Rattle.trdp_pd.specs.Publishers.{PublisherState, asks_for_value, is_asked}
use Rattle.trdp_pd.specs.Subscriptions.{SubscriptionState, is_for_subscription}
use Rattle.trdp_model.specs.declared.any_object.AnyObject.{AnyObject}
use Rattle.trdp_model.specs.declared.any_object.AnyObject.TheVariants.{Publisher, Subscription}
use Rattle.trdp_model.specs.declared.any_object.AnyObject.TheVariants.{Requester, Listener}
use Rattle.trdp_model.specs.declared.any_object.AnyObject.TheVariants.{Caller, Replier}
use Rattle.trdp_model.specs.Objects.{is_addressed}
use Rattle.trdp_model.specs.declared.record.Protocol.{Protocol}
use Rattle.trdp_model.specs.declared.record.Protocol.TheVariants.{Pd}
use Rattle.trdp_model.specs.Configs.{NodeSetup}
use Rattle.trdp_model.specs.Events.{DatagramIs}
use Rattle.trdp_model.specs.Slots.{SlotState}
use Rattle.trdp_model.specs.Datagrams.{telegram_of, concerns, is_for_entry, is_valid_at}
use Rattle.trdp_model.specs.Alone.{Standing, standing_after}
use Rattle.trdp_model.specs.Inert.{IsInert}

-- what no element is, none of a list is
none_of : {X : Type 0} (p : X → Bool) → ((x : X) → p x ≡ false) → (xs : List X)
    → list_any p xs ≡ false
none_of p none [] = refl
none_of p none (x ∷ xs) = rw (none x) (none_of p none xs)

-- a datagram that concerns no slot is inert
unconcerning : (protocol : Protocol) (src dst : Place) (bytes : List ℕ)
    → ((globals : Globals) (slot : SlotState)
    → concerns globals (telegram_of protocol src dst bytes) slot ≡ false)
    → IsInert (DatagramIs protocol src dst bytes)
unconcerning protocol src dst bytes none = record {
  admitted = λ slots globals. refl;
  slot = λ setup s n slot globals. ap (λ (x : Standing). x.slot) (stays setup s n slot globals);
  records = λ setup s n slot globals.
      ap (λ (x : Standing). x.records) (stays setup s n slot globals);
  globals = λ globals. refl;
  memory = λ node may. true≢false
      (sym may ∙ none_of (concerns node.globals (telegram_of protocol src dst bytes))
      (none node.globals) node.slots);
}
  where
    stays : (setup : NodeSetup) (s n : ℕ) (slot : Option SlotState) (globals : Globals)
        → standing_after setup s n slot globals (DatagramIs protocol src dst bytes)
        ≡ record { slot = slot; records = [] }
    stays setup s n None globals = refl
    stays setup s n (Some slot) globals = rw (none globals slot) refl

-- bytes that are no telegram
pub malformed : (protocol : Protocol) (src dst : Place) (bytes : List ℕ)
    → telegram_of protocol src dst bytes ≡ None → IsInert (DatagramIs protocol src dst bytes)
malformed protocol src dst bytes none =
    unconcerning protocol src dst bytes (λ globals slot. rw none refl)

-- an error telegram asks no publisher
asks_none : (p : PublisherState) (head : PdHead) → head.kind ≡ Error → is_asked p head ≡ false
unfolding is_asked asks_for_value
asks_none p head told = rw told refl

-- and carries a value to no subscription
is_for_none : (s : SubscriptionState) (src dst : Place) (head : PdHead) (globals : Globals)
    → head.kind ≡ Error → is_for_subscription s src dst head globals ≡ false
unfolding is_for_subscription
is_for_none s src dst head globals told = rw told refl

-- so it is for no object
for_none : (object : AnyObject) (src dst : Place) (telegram : PdTelegram) (globals : Globals)
    → telegram.head.kind ≡ Error → is_addressed object (PdIs src dst telegram) globals ≡ false
for_none (Publisher p) src dst telegram globals told = asks_none p telegram.head told
for_none (Subscription s) src dst telegram globals told =
    is_for_none s src dst telegram.head globals told
for_none (Requester r) src dst telegram globals told = refl
for_none (Listener l) src dst telegram globals told = refl
for_none (Caller c) src dst telegram globals told = refl
for_none (Replier r) src dst telegram globals told = refl

-- whatever else is asked
never : (b c : Bool) → c ≡ false → (b && c) ≡ false
never true c none = none
never false c none = refl

-- error telegrams
pub error : (src dst : Place) (bytes : List ℕ) (telegram : PdTelegram)
    → pd_telegram_of bytes ≡ Some telegram → telegram.head.kind ≡ Error
    → IsInert (DatagramIs Pd src dst bytes)
error src dst bytes telegram is told =
    unconcerning Pd src dst bytes (λ globals slot. rw is
    (never (is_valid_at globals (PdIs src dst telegram))
    (list_any (is_for_entry (PdIs src dst telegram) globals) slot.objects)
    (none_of (is_for_entry (PdIs src dst telegram) globals)
    (λ entry. for_none entry.object src dst telegram globals told) slot.objects)))
