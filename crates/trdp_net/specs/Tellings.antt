-- What a running node reported at an event, and the telegrams among it.
use Rattle.std.specs.Prelude.{◌≡◌, ℕ, zero, suc, List, [], ◌∷◌, ◌++◌, Option, Some, slice_get}
use Rattle.trdp_base.specs.declared.place.Place.{Place}
use Rattle.trdp_model.specs.declared.record.Protocol.{Protocol}
use Rattle.trdp_model.specs.declared.record.Protocol.TheVariants.{Pd, Md}
use Rattle.trdp_model.specs.Configs.{NodeSetup}
use Rattle.trdp_model.specs.Records.{Content, RecordModel, Answers, Indicates, Sends, records_of}
use Rattle.trdp_net.specs.Networks.{Sent, place_of}
use Rattle.trdp_net.specs.declared.told.Home.{Home}
use Rattle.trdp_net.specs.declared.told.Sent.{Sent as AnySent}
use Rattle.trdp_net.specs.declared.told.TelegramSearch.{TelegramSearch}
use Rattle.trdp_net.specs.declared.told.TelegramSearch.TheVariants.{Found, Left}
use Rattle.trdp_net.specs.declared.told.Told.{Told}

-- the place for telegrams of that protocol
abbrev pub place_at : Protocol → Home → Place
place_at Pd home = home.pd
place_at Md home = home.md

-- these are the places of a node of this configuration
abbrev pub IsOwnHome : Home → NodeSetup → Type 0
IsOwnHome home setup = (protocol : Protocol) → place_at protocol home ≡ place_of protocol setup

-- a telegram, apart from where its bytes are stored
abbrev pub sent_model : AnySent → Sent
sent_model x = record { protocol = x.protocol; bytes = x.bytes.now; from = x.from; to = x.to }

-- the telegrams among records of a node with these places
abbrev pub sends_from : Home → List Content → List Sent
sends_from home [] = []
sends_from home (Answers answer ∷ records) = sends_from home records
sends_from home (Indicates indication ∷ records) = sends_from home records
sends_from home (Sends protocol to bytes ∷ records) =
    record { protocol = protocol; bytes = bytes; from = place_at protocol home; to = to }
    ∷ sends_from home records

-- the telegrams of slot s among these records
abbrev pub sent_in_slot : Home → ℕ → List RecordModel → List Sent
sent_in_slot home s records = sends_from home (records_of s records)

-- the telegrams of n slots, from number s on, slot by slot
abbrev pub sent_in_slots : Home → List RecordModel → ℕ → ℕ → List Sent
sent_in_slots home records s zero = []
sent_in_slots home records s (suc n) =
    sent_in_slot home s records ++ sent_in_slots home records (suc s) n

-- the telegrams of a node's event, slot by slot
abbrev pub sent_in : Told → List Sent
sent_in told = sent_in_slots told.home told.out.records zero told.slots

-- the telegrams of all of these events
abbrev pub all_sent : List Told → List Sent
all_sent [] = []
all_sent (told ∷ rest) = sent_in told ++ all_sent rest

-- the records of the last event
abbrev pub latest : List Told → List RecordModel
latest [] = []
latest (told ∷ []) = told.out.records
latest (told ∷ next ∷ rest) = latest (next ∷ rest)

-- the telegram that was found, or else the one of the number that is left
abbrev pub sought_past : TelegramSearch → List Sent → Option Sent
sought_past (Found x) more = Some (sent_model x)
sought_past (Left n) more = slice_get more n

-- it is the result of a search for number `which`, whatever telegrams come after these
abbrev pub SoughtIn : List Sent → ℕ → TelegramSearch → Type 0
SoughtIn sent which sought =
    (more : List Sent) → slice_get (sent ++ more) which ≡ sought_past sought more
