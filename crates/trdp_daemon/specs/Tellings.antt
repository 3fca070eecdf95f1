-- What was offered for the records of an event.
use Rattle.std.specs.Prelude.{◌≡◌, ℕ, List, [], length, Bool, Option}
use Rattle.trdp_base.specs.declared.place.Place.{Place}
use Rattle.trdp_model.specs.Records.{RecordModel}
use Rattle.trdp_daemon.specs.declared.contact.Contact.{Contact}
use Rattle.trdp_daemon.specs.declared.link.Link.{Link}
use Rattle.trdp_wire.specs.Told.{Taking, Give}
use Rattle.trdp_daemon.specs.Effects.{text_telling, record_telling, records_telling}
use Rattle.trdp_daemon.specs.Links.{Carries}

-- a text of a slot was offered, or lost
pub record TellsText {W : Type 0} (takings_in : W → Option (List Taking))
    (gives_in : W → Option (List Give)) (old new : Link W) (slot : ℕ) (to : Option Place)
    (text : List ℕ) : Type 0 where
  pub lost : Bool
  pub carried : Carries takings_in gives_in old new [] (text_telling slot to lost text)

-- a record was offered, or lost its text
pub record TellsRecord {W : Type 0} (takings_in : W → Option (List Taking))
    (gives_in : W → Option (List Give)) (contacts : List (Option Contact)) (old new : Link W)
    (r : RecordModel) : Type 0 where
  pub lost : Bool
  pub carried : Carries takings_in gives_in old new [] (record_telling contacts lost r)

-- records were offered in their order, but for those that lost their text
pub record Tells {W : Type 0} (takings_in : W → Option (List Taking))
    (gives_in : W → Option (List Give)) (contacts : List (Option Contact)) (old new : Link W)
    (records : List RecordModel) : Type 0 where
  pub marks : List Bool
  pub each : length marks ≡ length records
  pub carried : Carries takings_in gives_in old new [] (records_telling contacts marks records)
