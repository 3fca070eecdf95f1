-- What a moment does to a slot.
use Rattle.std.specs.Prelude.{ℕ, List, [], ◌∷◌, Bool, ◌==◌, ◌&&◌, ◌||◌, nat_lt, filter, Option}
use Rattle.std.specs.Prelude.{Some, None}
use Rattle.std.specs.Prelude.{if◌then◌else◌, unwrap_or}
use Rattle.std.specs.List.{flat_map}
use Rattle.trdp_head.specs.declared.pd.PdHead.{PdHead}
use Rattle.trdp_head.specs.declared.md.MdHead.{MdHead}
use Rattle.trdp_head.specs.MdBytes.{md_bytes}
use Rattle.trdp_filter.specs.declared.globals.Globals.{Globals}
use Rattle.trdp_model.specs.declared.any_object.AnyObject.{AnyObject}
use Rattle.trdp_model.specs.declared.any_object.AnyObject.TheVariants.{Publisher, Caller}
use Rattle.trdp_pd.specs.declared.object.Fired.{Fired}
use Rattle.trdp_pd.specs.declared.object.Fired.TheVariants.{Nothing, Data, Again, Silent}
use Rattle.trdp_pd.specs.declared.object.Fired.TheVariants.{Closed}
use Rattle.trdp_pd.specs.Due.{has_come_by}
use Rattle.trdp_model.specs.Objects.{due_of, after_firing, fired}
use Rattle.trdp_model.specs.declared.record.Protocol.TheVariants.{Md}
use Rattle.trdp_model.specs.Records.{Content, Indicates, SilentIs, Sends, value_sent}
use Rattle.trdp_model.specs.Slots.{Entry, SlotState, Outcome}
use Rattle.trdp_model.specs.Acts.{Act, entry_left}
use Rattle.trdp_model.specs.Replies.{closing}

-- the object is due by t
abbrev pub is_due : ℕ → Entry → Bool
is_due t entry = has_come_by t (due_of entry.object)

-- the order of firing: by due moment, and of one due moment by handle
-- rule: time.order
abbrev pub fires_before : Entry → Entry → Bool
fires_before a b =
    nat_lt (unwrap_or (due_of a.object) 0) (unwrap_or (due_of b.object) 0)
    || (unwrap_or (due_of a.object) 0 == unwrap_or (due_of b.object) 0 && nat_lt a.handle b.handle)

-- an object inserted among others that are in order
abbrev pub inserted : Entry → List Entry → List Entry
inserted entry [] = entry ∷ []
inserted entry (first ∷ entries) =
    if fires_before first entry then first ∷ inserted entry entries else entry ∷ first ∷ entries

-- objects in the order of firing
abbrev pub in_order : List Entry → List Entry
in_order [] = []
in_order (entry ∷ entries) = inserted entry (in_order entries)

-- a publisher's data goes to its destination with its value
abbrev pub sends_data : AnyObject → PdHead → List Content
sends_data (Publisher p) head = value_sent p.terms.to head p.value
sends_data object head = []

-- a caller's request goes to its destination again, with its payload
-- rule: caller.place
abbrev pub sends_again : AnyObject → MdHead → List Content
sends_again (Caller c) head = Sends Md c.terms.to (md_bytes head c.payload) ∷ []
sends_again object head = []

-- the records of an object that did this
abbrev pub firing_records : ℕ → AnyObject → Fired → List Content
firing_records handle object Nothing = []
firing_records handle object (Data head) = sends_data object head
firing_records handle object (Again head) = sends_again object head
firing_records handle object Silent = Indicates (SilentIs handle) ∷ []
firing_records handle object (Closed reason) = closing handle reason ∷ []

-- what is left of an object that did this as it fired: one that closed ends
abbrev pub left_firing : Fired → AnyObject → Option AnyObject
left_firing Nothing object = Some object
left_firing (Data head) object = Some object
left_firing (Again head) object = Some object
left_firing Silent object = Some object
left_firing (Closed reason) object = None

-- the act of an object that fires
abbrev pub firing_act : Globals → Entry → Act
firing_act globals entry = record {
  left = left_firing (fired entry.object globals) (after_firing entry.object globals);
  records = firing_records entry.handle entry.object (fired entry.object globals);
}

-- what a moment leaves of an object of a slot's list: it fired if it was due
abbrev pub after_moment : Globals → Entry → List Entry
after_moment globals entry =
    if is_due globals.now entry
    then entry_left entry (firing_act globals entry).left
    else entry ∷ []

-- effect of the moment that the globals show: each object that is due fires once, in the order of
-- firing
-- rule: time.event
abbrev pub moved_to : SlotState → Globals → Outcome
moved_to slot globals = record {
  slot = record slot { objects = flat_map (after_moment globals) slot.objects };
  records =
      flat_map (λ entry. (firing_act globals entry).records)
      (in_order (filter (is_due globals.now) slot.objects));
}
