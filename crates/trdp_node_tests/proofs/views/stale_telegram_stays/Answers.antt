use Rattle.std.proofs.Common.{◌≡◌, Bool, true, false, refl, ap, [], ◌++◌, ◌∙◌}
use Rattle.std.specs.Prelude.{not, ◌&&◌}
use Rattle.trdp_base.specs.declared.place.Place.{Place}
use Rattle.trdp_head.specs.PdTelegrams.{PdTelegram}
use Rattle.trdp_filter.specs.declared.globals.Globals.{Globals}
use Rattle.trdp_pd.specs.Subscriptions.{SubscriptionState, is_for_subscription, is_stale}
use Rattle.trdp_pd.specs.Subscriptions.{is_accepted_value}
use Rattle.trdp_filter.specs.Telegrams.{TelegramModel, PdIs}
use Rattle.trdp_pd.specs.declared.object.Taken.TheVariants.{Nothing}
use Rattle.trdp_model.specs.declared.any_object.AnyObject.{AnyObject}
use Rattle.trdp_model.specs.declared.any_object.AnyObject.TheVariants.{Subscription}
use Rattle.trdp_model.specs.Objects.{taking}
use Rattle.trdp_pd.specs.Effects.{Reception}
use Rattle.trdp_model.specs.Configs.{NodeSetup}
use Rattle.trdp_model.specs.declared.record.Protocol.TheVariants.{Pd}
use Rattle.trdp_model.specs.Events.{DatagramIs}
use Rattle.trdp_model.specs.Slots.{Entry, Outcome}
use Rattle.trdp_model.specs.Acts.{entry_left}
use Rattle.trdp_model.specs.Alone.{seen_effect}
use Rattle.trdp_node_tests.specs.Views.{with_subscription}
use Rattle.trdp_model.specs.Datagrams.{fits_object, left_taking, taken_records}
use Rattle.trdp_node_tests.proofs.views.stale_telegram_stays.Goals as goal

last_refused : (a b c : Bool) → c ≡ true → (a && b && not c) ≡ false
last_refused true true true is = refl
last_refused true false true is = refl
last_refused false b true is = refl
last_refused a b false is = absurd (cc)

-- a stale telegram isn't accepted
stale_refused :
    (s : SubscriptionState) (src dst : Place) (telegram : PdTelegram) (globals : Globals)
    (fits : Bool) → is_stale s.latest src.ip telegram.head ≡ true
    → is_accepted_value s src dst telegram.head globals fits ≡ false
unfolding is_accepted_value
stale_refused s src dst telegram globals fits is =
    last_refused (is_for_subscription s src dst telegram.head globals) fits
    (is_stale s.latest src.ip telegram.head) is

-- the only object of the slot
abbrev entry_with : SubscriptionState → Entry
entry_with s = record { handle = 1; object = Subscription s }

-- a subscription that receives a stale telegram does nothing
stale_ignored :
    (s : SubscriptionState) (src dst : Place) (telegram : PdTelegram) (globals : Globals)
    (fits : Bool) → is_stale s.latest src.ip telegram.head ≡ true
    → taking (Subscription s) (PdIs src dst telegram) globals fits
    ≡ record { object = Subscription s; taken = Nothing }
stale_ignored s src dst telegram globals fits is =
    rw (stale_refused s src dst telegram globals fits is) refl

-- the slot and its records, by what its subscription does with the telegram
abbrev outcome_by : NodeSetup → SubscriptionState → TelegramModel → Reception AnyObject → Outcome
outcome_by setup s telegram t = record {
  slot = record (with_subscription s) {
    objects = entry_left (entry_with s) (left_taking t.taken t.object) ++ [];
  };
  records = taken_records setup telegram 1 (Subscription s) t.taken ++ [];
}

pub returns-clause-nothing : goal.returns-clause-nothing
returns-clause-nothing c = λ setup s globals src dst telegram bytes read valid addressed stale.
    let object : AnyObject = Subscription s in
    let model : TelegramModel = PdIs src dst telegram in
    let fits : Bool = fits_object setup model object in
    let by : seen_effect setup (with_subscription s) globals (DatagramIs Pd src dst bytes)
    ≡ outcome_by setup s model (taking object model globals fits) =
    rw (read, valid, addressed) refl in
    by ∙ ap (outcome_by setup s model) (stale_ignored s src dst telegram globals fits stale)
