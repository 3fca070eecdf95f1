-- A listener.
use Rattle.std.specs.Prelude.{◌≡◌, ◌⊎◌, ℕ, Option, None, Bool, true, false, ◌&&◌}
use Rattle.std.specs.Prelude.{if◌then◌else◌}
use Rattle.trdp_base.specs.declared.place.Place.{Place}
use Rattle.trdp_head.specs.declared.md.MdHead.{MdHead}
use Rattle.trdp_head.specs.declared.md.MdKind.{MdKind}
use Rattle.trdp_head.specs.declared.md.MdKind.TheVariants.{Notify, Request, Reply, Query, Confirm}
use Rattle.trdp_head.specs.declared.md.MdKind.TheVariants.{Error}
use Rattle.trdp_filter.specs.declared.globals.Globals.{Globals}
use Rattle.trdp_filter.specs.declared.filters.MdFilter.{MdFilter}
use Rattle.trdp_filter.specs.MdFilters.{md_passes}
use Rattle.trdp_filter.specs.Telegrams.{TelegramModel, PdIs, MdIs}
use Rattle.trdp_pd.specs.declared.object.Taken.TheVariants.{Nothing as NotTaken, Heard}
use Rattle.trdp_pd.specs.declared.object.Fired.TheVariants.{Nothing}
use Rattle.trdp_pd.specs.Effects.{Reception, Firing}
use Rattle.trdp_md.specs.declared.listener.Listener.{Listener}

-- a new listener
abbrev pub listening : MdFilter → Listener
listening filter = record { filter = filter }

-- the message types that come unasked (IEC 61375-2-3:2015, Annex A); all others belong to a request
-- that was made
-- rule: listener.kind
unfoldable pub is_unasked : MdKind → Bool
is_unasked Notify = true
is_unasked Request = true
is_unasked Reply = false
is_unasked Query = false
is_unasked Confirm = false
is_unasked Error = false

-- the message is a notification or a request, and the filter passes it
unfoldable pub is_for_listener : Listener → Place → Place → MdHead → Globals → Bool
is_for_listener l src dst head globals =
    is_unasked head.kind && md_passes l.filter src dst head globals.topo

-- a listener is never due
abbrev pub listener_due : Listener → Option ℕ
listener_due l = None

-- which telegrams are for a listener; no process data is
abbrev pub listener_addressed : Listener → TelegramModel → Globals → Bool
listener_addressed l (PdIs src dst telegram) globals = false
listener_addressed l (MdIs src dst telegram) globals =
    is_for_listener l src dst telegram.head globals

-- a listener hears what is for it, and stays as it is
abbrev pub listener_taking : Listener → TelegramModel → Globals → Bool → Reception Listener
listener_taking l telegram globals fits = record {
  object = l;
  taken = if listener_addressed l telegram globals then Heard else NotTaken;
}

-- a listener does nothing by itself
abbrev pub listener_firing : Listener → Globals → Firing Listener
listener_firing l globals = record { object = l; fired = Nothing }

-- the telegram is a notification or a request that the listener's filter passes
abbrev pub IsHeard : Listener → TelegramModel → Globals → Type 0
IsHeard l (PdIs src dst telegram) globals = ⊥
IsHeard l (MdIs src dst telegram) globals =
    ((telegram.head.kind ≡ Notify) ⊎ (telegram.head.kind ≡ Request))
    × (md_passes l.filter src dst telegram.head globals.topo ≡ true)
