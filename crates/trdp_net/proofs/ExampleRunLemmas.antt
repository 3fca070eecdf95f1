-- The example's run, computed.
-- For `the_promises_are_not_empty`, its clauses on what is sent, reported and shown.
-- Each is an equation between a computed run and a text of specs/Example: `refl`.
use Rattle.std.proofs.Common.{◌≡◌, ℕ, List, [], ◌∷◌, Some, None, true, refl, inl, slice_get, sym}
use Rattle.std.proofs.Common.{subst}
use Rattle.std.specs.Prelude.{replicate}
use Rattle.trdp_head.specs.declared.pd.PdKind.TheVariants.{Data}
use Rattle.trdp_filter.specs.Globals.{first_globals}
use Rattle.trdp_pd.specs.declared.terms.ValueState.TheVariants.{Valid}
use Rattle.trdp_pd.specs.Subscriptions.{SubscriptionState}
use Rattle.trdp_model.specs.declared.any_object.AnyObject.TheVariants.{Subscription, Listener}
use Rattle.trdp_model.specs.declared.record.Protocol.TheVariants.{Pd, Md}
use Rattle.trdp_model.specs.Configs.{setup_of}
use Rattle.trdp_model.specs.Records.{Content}
use Rattle.trdp_model.specs.Slots.{Entry, SlotState}
use Rattle.trdp_net.specs.Networks.{NetNode}
use Rattle.trdp_net.specs.Provenance.{Always, In}
use Rattle.trdp_net.specs.Promises.{IsFresh}
use Rattle.trdp_net.specs.ExampleTerms.{node_at, any_message, subscription_terms, example_value}
use Rattle.trdp_net.specs.ExampleTerms.{data_0, data_1, messages_0, messages_1, value_bytes}
use Rattle.trdp_net.specs.ExampleTerms.{notice_bytes, request_bytes, query_bytes, confirm_bytes}
use Rattle.trdp_net.specs.Example.{example_rows, example_network, example_history, telegram}
use Rattle.trdp_net.specs.Example.{turns_of, turns_in, ToldAtMove, WasTold, ShowsValid}
use Rattle.trdp_net.proofs.Computing.{computing}
use Rattle.trdp_net.proofs.ExamplePremiseLemmas.{once_requested, fresh}
use Rattle.trdp_net.proofs.TurnLemmas.{get_in, was_told}

-- what is reported at each step
pub turns_are : turns_of example_history ≡ turns_in example_rows
unfolding computing
turns_are = refl

-- what the row of a step says was reported
pub told_at : (i : ℕ) (turn : ToldAtMove) (content : Content)
    → slice_get (turns_in example_rows) i ≡ Some turn → In content turn.told
    → WasTold turn.node 0 content example_history
told_at i turn content is there =
    was_told example_history turn content
    (subst (λ (turns : List ToldAtMove). In turn turns) (sym turns_are)
    (get_in (turns_in example_rows) i turn is)) there

-- what is sent
pub sent_is : example_network.sent
    ≡ telegram Pd data_0 data_1 value_bytes
    ∷ telegram Md messages_0 messages_1 notice_bytes
    ∷ telegram Md messages_0 messages_1 request_bytes
    ∷ telegram Md messages_1 messages_0 query_bytes
    ∷ telegram Md messages_0 messages_1 confirm_bytes ∷ []
unfolding computing
sent_is = refl

once : once_requested example_history ≡ true
unfolding computing
once = refl

-- no two requests carry the same identifier
pub history_fresh : Always IsFresh example_history
history_fresh = fresh example_history once

-- node 1 at the end: its subscription, the slot and the node
abbrev at_end : SubscriptionState
at_end = record {
  terms = subscription_terms;
  zero_size = 0;
  deadline = None;
  state = Valid;
  counter = 0;
  latest = Some (record { source = data_0.ip; kind = Data; counter = 0 });
  value = example_value;
}

abbrev entry_at_end : Entry
entry_at_end = record { handle = 1; object = Subscription at_end }

abbrev slot_at_end : SlotState
slot_at_end = record {
  quotas = replicate 6 1;
  next = 4;
  objects =
      entry_at_end
      ∷ record { handle = 2; object = Listener (record { filter = any_message }) } ∷ [];
}

abbrev node_at_end : NetNode
node_at_end = record {
  setup = setup_of (node_at 0x0a000002);
  globals = first_globals;
  slots = slot_at_end ∷ [];
}

-- it shows the value that was put
pub shows_valid : ShowsValid example_network 1 0 1000 example_value
unfolding computing
shows_valid = record {
  node = node_at_end;
  slot = slot_at_end;
  entry = entry_at_end;
  u = at_end;
  node_is = refl;
  slot_is = refl;
  held = inl refl;
  subscription = refl;
  valid = refl;
  com_id_is = refl;
  value_is = refl;
}
