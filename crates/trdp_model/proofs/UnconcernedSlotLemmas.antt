-- A telegram that is for none of a slot's objects does nothing to the slot.
-- For `ViewLemmas`, and for what a node hears.
-- By induction on the objects: none of them acts, and no listener hears it.
use Rattle.std.proofs.Common.{◌≡◌, ℕ, List, [], ◌∷◌, filter, Bool, true, false, Option, Some}
use Rattle.std.proofs.Common.{None, refl, ◌∙◌, ap}
use Rattle.std.specs.Prelude.{◌&&◌, ◌||◌}
use Rattle.std.specs.List.{flat_map, list_any}
use Rattle.std.proofs.lemmas.List.Concat.{flat_map-cons}
use Rattle.trdp_filter.specs.declared.globals.Globals.{Globals}
use Rattle.trdp_filter.specs.Telegrams.{TelegramModel, PdIs, MdIs}
use Rattle.trdp_model.specs.Requests.{asked_by_hearing}
use Rattle.trdp_model.specs.Configs.{NodeSetup}
use Rattle.trdp_model.specs.Slots.{Entry, SlotState, Outcome, unchanged}
use Rattle.trdp_model.specs.Datagrams.{is_listening, hearing, is_valid_at, handed, is_request}
use Rattle.trdp_model.specs.Datagrams.{requested, received, received_if, concerns}
use Rattle.trdp_model.specs.Datagrams.{is_for_entry, is_acting, acting, after_telegram}
use Rattle.trdp_model.specs.Datagrams.{taking_act}

or_left : (a b : Bool) → (a || b) ≡ false → a ≡ false
or_left true b is = absurd (cc)
or_left false b is = refl

or_right : (a b : Bool) → (a || b) ≡ false → b ≡ false
or_right true b is = absurd (cc)
or_right false b is = is

-- a telegram that is for none of these objects leaves them all
unconcerned_objects :
    (setup : NodeSetup) (telegram : TelegramModel) (globals : Globals) (all objects : List Entry)
    → list_any (is_for_entry telegram globals) objects ≡ false
    → flat_map (after_telegram setup telegram globals all) objects ≡ objects
unconcerned_objects setup telegram globals all [] none = refl
unconcerned_objects setup telegram globals all (e ∷ objects) none =
    let head : is_for_entry telegram globals e ≡ false = or_left (is_for_entry telegram globals e)
    (list_any (is_for_entry telegram globals) objects) none in
    let rest : list_any (is_for_entry telegram globals) objects ≡ false = or_right
    (is_for_entry telegram globals e) (list_any (is_for_entry telegram globals) objects) none in
    flat_map-cons (after_telegram setup telegram globals all) e objects
    ∙ rw head (ap (λ (es : List Entry). e ∷ es)
    (unconcerned_objects setup telegram globals all objects rest))

-- and none of them acts
pub none_acts : (telegram : TelegramModel) (globals : Globals) (all objects : List Entry)
    → list_any (is_for_entry telegram globals) objects ≡ false
    → filter (is_acting telegram globals all) objects ≡ []
none_acts telegram globals all [] none = refl
none_acts telegram globals all (e ∷ objects) none =
    let head : is_for_entry telegram globals e ≡ false = or_left (is_for_entry telegram globals e)
    (list_any (is_for_entry telegram globals) objects) none in
    let rest : list_any (is_for_entry telegram globals) objects ≡ false = or_right
    (is_for_entry telegram globals e) (list_any (is_for_entry telegram globals) objects) none in
    rw head (none_acts telegram globals all objects rest)

-- a telegram that is for none of a slot's objects does nothing to them
nobody_acts : (setup : NodeSetup) (slot : SlotState) (globals : Globals) (telegram : TelegramModel)
    → list_any (is_for_entry telegram globals) slot.objects ≡ false
    → handed setup slot globals telegram ≡ unchanged slot
nobody_acts setup slot globals telegram none =
    ap (λ (es : List Entry). let o : Outcome = record {
      slot = record slot { objects = es };
      records = flat_map (λ entry. (taking_act setup telegram globals entry).records)
          (acting telegram globals slot.objects);
    } in o)
    (unconcerned_objects setup telegram globals slot.objects slot.objects none)
    ∙ ap (λ (es : List Entry). let o : Outcome = record {
      slot = slot;
      records = flat_map (λ entry. (taking_act setup telegram globals entry).records) es;
    } in o)
    (none_acts telegram globals slot.objects slot.objects none)

and_false : (a : Bool) → (a && false) ≡ false
and_false true = refl
and_false false = refl

-- and no listener hears it
nobody_hears : (telegram : TelegramModel) (globals : Globals) (objects : List Entry)
    → list_any (is_for_entry telegram globals) objects ≡ false
    → hearing telegram globals objects ≡ None
nobody_hears telegram globals [] none = refl
nobody_hears telegram globals (e ∷ objects) none =
    let head : is_for_entry telegram globals e ≡ false = or_left (is_for_entry telegram globals e)
    (list_any (is_for_entry telegram globals) objects) none in
    let rest : list_any (is_for_entry telegram globals) objects ≡ false = or_right
    (is_for_entry telegram globals e) (list_any (is_for_entry telegram globals) objects) none in
    let not : (is_listening e && is_for_entry telegram globals e) ≡ false =
    ap (λ (b : Bool). is_listening e && b) head ∙ and_false (is_listening e) in
    rw not (nobody_hears telegram globals objects rest)

nobody_asked : (slot : SlotState) (globals : Globals) (telegram : TelegramModel)
    → list_any (is_for_entry telegram globals) slot.objects ≡ false
    → requested slot globals telegram ≡ unchanged slot
nobody_asked slot globals (PdIs src dst telegram) none = refl
nobody_asked slot globals (MdIs src dst telegram) none =
    ap (λ (listener : Option ℕ). asked_by_hearing listener slot globals src telegram)
    (nobody_hears (MdIs src dst telegram) globals slot.objects none)

-- so it does nothing to the slot
nobody : (setup : NodeSetup) (slot : SlotState) (globals : Globals) (telegram : TelegramModel)
    → list_any (is_for_entry telegram globals) slot.objects ≡ false
    → received setup slot globals telegram ≡ unchanged slot
nobody setup slot globals telegram none = either (is_request telegram) refl
  where
    either : (b : Bool) → is_request telegram ≡ b
        → received setup slot globals telegram ≡ unchanged slot
    either true is = rw is (nobody_asked slot globals telegram none)
    either false is = rw is (nobody_acts setup slot globals telegram none)

-- a datagram that doesn't concern a slot changes nothing
pub unconcerned :
    (setup : NodeSetup) (slot : SlotState) (globals : Globals) (telegram : Option TelegramModel)
    → concerns globals telegram slot ≡ false
    → received_if setup slot globals telegram ≡ unchanged slot
unconcerned setup slot globals None none = refl
unconcerned setup slot globals (Some telegram) none =
    either setup slot globals telegram (is_valid_at globals telegram) refl none
  where
    either : (setup : NodeSetup) (slot : SlotState) (globals : Globals) (telegram : TelegramModel)
        (b : Bool) → is_valid_at globals telegram ≡ b → concerns globals (Some telegram) slot
        ≡ false → received_if setup slot globals (Some telegram) ≡ unchanged slot
    either setup slot globals telegram true is none =
        let none_of : list_any (is_for_entry telegram globals) slot.objects
        ≡ false = rw is at none in
        rw is (nobody setup slot globals telegram none_of)
    either setup slot globals telegram false is none = rw is refl
