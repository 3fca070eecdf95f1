-- What keeps an object fit: the value of a subscription is one of its dataset at first, at a
-- time-out, and as it is stored, and a caller is sound.
-- For `FitActLemmas` and `FitEventLemmas`, and for a node's step to a moment.
-- By cases on the kind of the object: no value but a subscription's matters.
use Rattle.std.proofs.Common.{◌≡◌, ℕ, List, length}
use Rattle.std.proofs.Common.{Some, Option, Bool, true, false, refl}
use Rattle.std.specs.Prelude.{replicate, not, ◌==◌, ◌&&◌, if◌then◌else◌}
use Rattle.trdp_dataset.specs.Datasets.{is_known}
use Rattle.trdp_dataset.specs.Registries.{IsRegistry}
use Rattle.trdp_dataset.specs.ZeroSizes.{zero_size as registry_zero_size}
use Rattle.trdp_marshal.specs.Reading.{reading}
use Rattle.trdp_marshal.specs.Zero.{zero_of}
use Rattle.trdp_marshal.proofs.SpellingLemmas.{spelled_reads}
use Rattle.trdp_marshal.proofs.ZeroLemmas.{zero_spelled}
use Rattle.trdp_base.specs.declared.place.Place.{Place}
use Rattle.trdp_head.specs.PdTelegrams.{PdTelegram}
use Rattle.trdp_filter.specs.declared.globals.Globals.{Globals}
use Rattle.trdp_filter.specs.Telegrams.{TelegramModel, PdIs, MdIs}
use Rattle.trdp_model.specs.declared.any_object.AnyObject.{AnyObject}
use Rattle.trdp_model.specs.declared.any_object.AnyObject.TheVariants.{Publisher, Subscription}
use Rattle.trdp_model.specs.declared.any_object.AnyObject.TheVariants.{Requester, Listener}
use Rattle.trdp_model.specs.declared.any_object.AnyObject.TheVariants.{Caller, Replier}
use Rattle.trdp_pd.specs.declared.object.Fired.{Fired}
use Rattle.trdp_pd.specs.declared.object.Fired.TheVariants.{Nothing, Data, Again, Silent}
use Rattle.trdp_pd.specs.declared.object.Fired.TheVariants.{Closed}
use Rattle.trdp_pd.specs.declared.object.Taken.{Taken}
use Rattle.trdp_pd.specs.declared.object.Taken.TheVariants.{Nothing as TakenNothing, Stored}
use Rattle.trdp_pd.specs.declared.object.Taken.TheVariants.{Alive, Pulled, Heard, Replied}
use Rattle.trdp_pd.specs.declared.object.Taken.TheVariants.{RepliedLast, Confirmed}
use Rattle.trdp_pd.specs.declared.terms.Behaviour.{Behaviour}
use Rattle.trdp_pd.specs.declared.terms.Behaviour.TheVariants.{Zero, Keep}
use Rattle.trdp_pd.specs.declared.terms.SubscriptionTerms.{SubscriptionTerms}
use Rattle.trdp_pd.specs.Subscriptions.{SubscriptionState, first_size, subscribed}
use Rattle.trdp_pd.specs.Subscriptions.{is_accepted_value, is_for_subscription, is_stale}
use Rattle.trdp_pd.specs.Subscriptions.{value_after_time_out}
use Rattle.trdp_model.specs.Objects.{is_sound, after_taking, after_firing, taken, fired}
use Rattle.trdp_model.specs.ObjectLaws.{is_sound-taking, is_sound-firing}
use Rattle.trdp_model.specs.Configs.{NodeSetup, is_dataset, zero_size_of, is_fitting}
use Rattle.trdp_model.specs.Slots.{Entry, SlotState}
use Rattle.trdp_model.specs.Datagrams.{fits_object, is_acting, left_taking, after_telegram}
use Rattle.trdp_model.specs.Moments.{is_due, left_firing, after_moment}
use Rattle.trdp_model.specs.Fitting.{ShowsFitting, IsFit, AllFit, EachFits, EachSound}
use Rattle.trdp_model.proofs.AllObjectLemmas.{IsLeft, AllObjects-left, AllObjects-so}

-- the zero value of a dataset is a value of it
read_zero : (setup : NodeSetup) (dataset : ℕ)
    → IsRegistry setup.registry → is_known setup.registry dataset ≡ true
    → reading setup.registry dataset (replicate (registry_zero_size setup.registry dataset) 0)
    ≡ Some (zero_of setup.registry dataset)
read_zero setup dataset sound known =
    spelled_reads setup.registry dataset _ _ (zero_spelled setup.registry dataset sound known)

zero_fits : (setup : NodeSetup) (dataset : ℕ) → IsRegistry setup.registry → is_dataset setup dataset
    ≡ true → is_fitting setup dataset (replicate (zero_size_of setup dataset) 0) ≡ true
zero_fits setup dataset sound is = either (dataset == 0) refl
  where
    either : (b : Bool) → (dataset == 0) ≡ b
        → is_fitting setup dataset (replicate (zero_size_of setup dataset) 0) ≡ true
    either true none = rw none refl
    either false some =
        let known : is_known setup.registry dataset ≡ true = rw some at is in
        rw (some, read_zero setup dataset sound known) refl

-- of dataset 0 any bytes are
any_fit : (setup : NodeSetup) (dataset : ℕ) (bytes : List ℕ)
    → (dataset == 0) ≡ true → is_fitting setup dataset bytes ≡ true
any_fit setup dataset bytes none = rw none refl

-- the size that a subscription begins with is that of its dataset's zero value
first_size-zero_size_of :
    (setup : NodeSetup) (terms : SubscriptionTerms)
    → first_size terms (zero_size_of setup terms.dataset) ≡ zero_size_of setup terms.dataset
unfolding first_size
first_size-zero_size_of setup terms = either (terms.dataset == 0) refl
  where
    either :
        (b : Bool) → (terms.dataset == 0) ≡ b
        → first_size terms (zero_size_of setup terms.dataset) ≡ zero_size_of setup terms.dataset
    either true none = rw none refl
    either false some = rw some refl

-- a new subscription shows the zero value
pub subscribed_fits : (setup : NodeSetup) (terms : SubscriptionTerms) (now : ℕ)
    → IsRegistry setup.registry → is_dataset setup terms.dataset ≡ true
    → ShowsFitting setup (subscribed terms (zero_size_of setup terms.dataset) now)
subscribed_fits setup terms now sound is =
    let same = first_size-zero_size_of setup terms in
    record {
      dataset = is;
      zero_size = same;
      value = rw same (zero_fits setup terms.dataset sound is);
    }

-- a time-out keeps the value, or makes it the zero value, or of dataset 0 as many zeros
time_out_fits : (setup : NodeSetup) (terms : SubscriptionTerms) (size : ℕ) (value : List ℕ)
    → IsRegistry setup.registry → is_dataset setup terms.dataset ≡ true
    → size ≡ zero_size_of setup terms.dataset → is_fitting setup terms.dataset value ≡ true
    → is_fitting setup terms.dataset (value_after_time_out terms size value) ≡ true
unfolding value_after_time_out
time_out_fits setup terms size value sound is same fits = by_behaviour terms.behaviour refl
  where
    by_behaviour : (b : Behaviour) → terms.behaviour ≡ b
        → is_fitting setup terms.dataset (value_after_time_out terms size value) ≡ true
    by_behaviour Keep keeps = rw keeps fits
    by_behaviour Zero zeroes = rw zeroes (either (terms.dataset == 0) refl)
      where
        either : (b : Bool) → (terms.dataset == 0) ≡ b → is_fitting setup
            terms.dataset (replicate (if terms.dataset == 0 then length value else size) 0) ≡ true
        either true none = any_fit setup terms.dataset _ none
        either false some =
            let zeros : (if terms.dataset == 0 then length value else size)
            ≡ zero_size_of setup terms.dataset = rw some (rw some at same) in
            rw zeros (zero_fits setup terms.dataset sound is)

-- what fires
firing_fits : (setup : NodeSetup) (globals : Globals) (object : AnyObject)
    → IsRegistry setup.registry → IsFit setup object → IsFit setup (after_firing object globals)
firing_fits setup globals (Publisher p) sound fit = tt
firing_fits setup globals (Requester r) sound fit = tt
firing_fits setup globals (Listener l) sound fit = tt
firing_fits setup globals (Caller c) sound fit = is_sound-firing (Caller c) globals fit
firing_fits setup globals (Replier r) sound fit = tt
firing_fits setup globals (Subscription s) sound fit = record {
  dataset = fit.dataset;
  zero_size = fit.zero_size;
  value = time_out_fits setup s.terms s.zero_size s.value sound fit.dataset fit.zero_size fit.value;
}

middle : (a b c : Bool) → (a && b && c) ≡ true → b ≡ true
middle true true c is = refl
middle true false c is = absurd (cc)
middle false b c is = absurd (cc)

-- only a payload that fits is stored
accepted_fits : (s : SubscriptionState) (src dst : Place)
    (telegram : PdTelegram) (globals : Globals) (fits : Bool)
    → is_accepted_value s src dst telegram.head globals fits ≡ true → fits ≡ true
unfolding is_accepted_value
accepted_fits s src dst telegram globals fits is =
    middle (is_for_subscription s src dst telegram.head globals)
    fits (not (is_stale s.latest src.ip telegram.head)) is

storing_fits : (setup : NodeSetup) (s : SubscriptionState) (src dst : Place) (telegram : PdTelegram)
    (globals : Globals) → ShowsFitting setup s → IsFit setup (after_taking (Subscription s)
    (PdIs src dst telegram) globals (is_fitting setup s.terms.dataset telegram.payload))
storing_fits setup s src dst telegram globals fit = either (is_accepted_value s
    src dst telegram.head globals (is_fitting setup s.terms.dataset telegram.payload)) refl
  where
    either : (b : Bool) → is_accepted_value s src dst
        telegram.head globals (is_fitting setup s.terms.dataset telegram.payload) ≡ b
        → IsFit setup (after_taking (Subscription s)
        (PdIs src dst telegram) globals (is_fitting setup s.terms.dataset telegram.payload))
    either true is =
        let fits = accepted_fits s src dst telegram globals _ is in
        rw is (record { dataset = fit.dataset; zero_size = fit.zero_size; value = fits })
    either false is = rw is fit

-- what is handed a telegram
taking_fits :
    (setup : NodeSetup) (telegram : TelegramModel) (globals : Globals) (object : AnyObject)
    → IsFit setup object
    → IsFit setup (after_taking object telegram globals (fits_object setup telegram object))
taking_fits setup (PdIs src dst telegram) globals (Publisher p) fit = tt
taking_fits setup (PdIs src dst telegram) globals (Subscription s) fit =
    storing_fits setup s src dst telegram globals fit
taking_fits setup (PdIs src dst telegram) globals (Requester r) fit = tt
taking_fits setup (PdIs src dst telegram) globals (Listener l) fit = tt
taking_fits setup (PdIs src dst telegram) globals (Caller c) fit =
    is_sound-taking (Caller c) (PdIs src dst telegram) globals
    (fits_object setup (PdIs src dst telegram) (Caller c)) fit
taking_fits setup (PdIs src dst telegram) globals (Replier r) fit = tt
taking_fits setup (MdIs src dst telegram) globals (Publisher p) fit = tt
taking_fits setup (MdIs src dst telegram) globals (Subscription s) fit = fit
taking_fits setup (MdIs src dst telegram) globals (Requester r) fit = tt
taking_fits setup (MdIs src dst telegram) globals (Listener l) fit = tt
taking_fits setup (MdIs src dst telegram) globals (Caller c) fit =
    is_sound-taking (Caller c) (MdIs src dst telegram) globals
    (fits_object setup (MdIs src dst telegram) (Caller c)) fit
taking_fits setup (MdIs src dst telegram) globals (Replier r) fit = tt

-- what is left of an object is fit
abbrev pub IsLeftFit : NodeSetup → Option AnyObject → Type 0
IsLeftFit setup left = IsLeft (IsFit setup) left

left_taking_fits : (setup : NodeSetup) (taken : Taken) (object : AnyObject)
    → IsFit setup object → IsLeftFit setup (left_taking taken object)
left_taking_fits setup TakenNothing object fit = fit
left_taking_fits setup Stored object fit = fit
left_taking_fits setup Alive object fit = fit
left_taking_fits setup (Pulled head) object fit = fit
left_taking_fits setup Heard object fit = fit
left_taking_fits setup Replied object fit = fit
left_taking_fits setup RepliedLast object fit = tt
left_taking_fits setup (Confirmed status) object fit = tt

left_firing_fits : (setup : NodeSetup) (fired : Fired) (object : AnyObject)
    → IsFit setup object → IsLeftFit setup (left_firing fired object)
left_firing_fits setup Nothing object fit = fit
left_firing_fits setup (Data head) object fit = fit
left_firing_fits setup (Again head) object fit = fit
left_firing_fits setup Silent object fit = fit
left_firing_fits setup (Closed reason) object fit = tt

pub entry_taking_fits : (setup : NodeSetup) (telegram : TelegramModel)
    (globals : Globals) (objects : List Entry) (entry : Entry)
    → IsFit setup entry.object → AllFit setup (after_telegram setup telegram globals objects entry)
entry_taking_fits setup telegram globals objects entry fit =
    either (is_acting telegram globals objects entry) refl
  where
    fits : Bool
    fits = fits_object setup telegram entry.object

    either : (b : Bool) → is_acting telegram globals objects entry ≡ b
        → AllFit setup (after_telegram setup telegram globals objects entry)
    either true is =
        rw is (AllObjects-left (IsFit setup) entry _ (left_taking_fits setup (taken entry.object
        telegram globals fits) _ (taking_fits setup telegram globals entry.object fit)))
    either false is = rw is (fit, tt)

pub entry_firing_fits : (setup : NodeSetup) (globals : Globals) → IsRegistry setup.registry
    → (entry : Entry) → IsFit setup entry.object → AllFit setup (after_moment globals entry)
entry_firing_fits setup globals sound entry fit = either (is_due globals.now entry) refl
  where
    either : (b : Bool) → is_due globals.now entry ≡ b → AllFit setup (after_moment globals entry)
    either true is = rw is (AllObjects-left (IsFit setup) entry _ (left_firing_fits setup
        (fired entry.object globals) _ (firing_fits setup globals entry.object sound fit)))
    either false is = rw is (fit, tt)

-- Objects that are fit are sound.

fit_sound : (setup : NodeSetup) (object : AnyObject) → IsFit setup object → is_sound object ≡ true
fit_sound setup (Publisher p) fit = refl
fit_sound setup (Subscription s) fit = refl
fit_sound setup (Requester r) fit = refl
fit_sound setup (Listener l) fit = refl
fit_sound setup (Caller c) fit = fit
fit_sound setup (Replier r) fit = refl

pub each_sound : (setup : NodeSetup) (slots : List SlotState) → EachFits setup slots
    → EachSound slots
each_sound setup slots fit s slot is =
    AllObjects-so (IsFit setup) (λ object. is_sound object ≡ true) (fit_sound setup) slot.objects
    (fit s slot is)
