-- A message that comes unasked is for listeners alone, and one of each slot hears it.
-- For `note_all` and `note_hearers`, and for `DatagramLemmas.AskedInTurn`.
-- By cases on the kind of object: all others await an answer or a confirmation, or process data.
use Rattle.std.proofs.Common.{◌≡◌, ℕ, ◌<◌, List, [], ◌∷◌, Option, Some, None}
use Rattle.std.proofs.Common.{Bool, true, false, refl, ◌∙◌, sym, ap, arith}
use Rattle.std.specs.Prelude.{◌==◌, ◌&&◌, filter, if◌then◌else◌}
use Rattle.std.proofs.lemmas.Bool.{false≢true}
use Rattle.std.proofs.lemmas.Bool.Decides.{nat_tests}
use Rattle.trdp_base.specs.declared.place.Place.{Place}
use Rattle.trdp_head.specs.declared.md.MdKind.{MdKind}
use Rattle.trdp_head.specs.declared.md.MdKind.TheVariants.{Notify, Request, Reply}
use Rattle.trdp_head.specs.declared.md.MdKind.TheVariants.{Query, Confirm, Error}
use Rattle.trdp_head.specs.MdTelegrams.{MdTelegram}
use Rattle.trdp_filter.specs.declared.globals.Globals.{Globals}
use Rattle.trdp_filter.specs.Telegrams.{TelegramModel, PdIs, MdIs}
use Rattle.trdp_md.specs.Callers.{is_answer}
use Rattle.trdp_md.specs.Listeners.{is_unasked}
use Rattle.trdp_md.specs.Repliers.{is_confirm}
use Rattle.trdp_model.specs.Kinds.{kind_of}
use Rattle.trdp_model.specs.declared.any_object.AnyObject.{AnyObject}
use Rattle.trdp_model.specs.declared.any_object.AnyObject.TheVariants.{Publisher, Subscription}
use Rattle.trdp_model.specs.declared.any_object.AnyObject.TheVariants.{Requester, Listener}
use Rattle.trdp_model.specs.declared.any_object.AnyObject.TheVariants.{Caller, Replier}
use Rattle.trdp_model.specs.Objects.{is_addressed}
use Rattle.trdp_model.specs.Slots.{Entry}
use Rattle.trdp_datagrams.specs.Noted.{noted_as}
use Rattle.trdp_outbox.specs.Rooms.{kind_room, entries_room}
use Rattle.trdp_model.specs.Datagrams.{is_for_entry, is_listening, hearing, acts_where, acting}
use Rattle.trdp_datagrams.specs.Sought.{comes_unasked, part_as, part_of, noted_listener}
use Rattle.trdp_datagrams.specs.Sought.{listener_room}
use Rattle.trdp_model.proofs.HandleLemmas.{AllAbove as AllEntriesAbove}
use Rattle.trdp_model.proofs.HandleLemmas.{IsRising as AreEntriesRising}
use Rattle.trdp_datagrams.proofs.NoteLemmas.ByCom.{and_left}
use Rattle.trdp_model.proofs.TestLemmas.{and_right}
use Rattle.trdp_datagrams.proofs.NoteLemmas.BySession.{caller_answer, replier_confirm}

-- it is in no session that an object awaits
pub unasked_part : (telegram : TelegramModel) (src dst : Place) (t : MdTelegram)
    → telegram ≡ MdIs src dst t → part_of telegram ≡ None → comes_unasked telegram ≡ true
unfolding is_unasked
unasked_part telegram src dst t is none =
    ap comes_unasked is ∙ by_kind t.head.kind (sym (ap part_of is) ∙ none)
  where
    by_kind : (k : MdKind) → part_as k t.head.session ≡ None → is_unasked k ≡ true
    by_kind Notify none = refl
    by_kind Request none = refl
    by_kind Reply none = absurd (cc)
    by_kind Query none = absurd (cc)
    by_kind Confirm none = absurd (cc)
    by_kind Error none = absurd (cc)

answers_none : (k : MdKind) → is_unasked k ≡ true → is_answer k ≡ false
unfolding is_answer is_unasked
answers_none Notify unasked = refl
answers_none Request unasked = refl
answers_none Reply unasked = absurd (false≢true unasked)
answers_none Query unasked = absurd (false≢true unasked)
answers_none Confirm unasked = absurd (false≢true unasked)
answers_none Error unasked = absurd (false≢true unasked)

confirms_none : (k : MdKind) → is_unasked k ≡ true → is_confirm k ≡ false
unfolding is_confirm is_unasked
confirms_none Notify unasked = refl
confirms_none Request unasked = refl
confirms_none Reply unasked = absurd (false≢true unasked)
confirms_none Query unasked = absurd (false≢true unasked)
confirms_none Confirm unasked = absurd (false≢true unasked)
confirms_none Error unasked = absurd (false≢true unasked)

pub for_listeners_alone : (e : Entry) (telegram : TelegramModel) (globals : Globals)
    → comes_unasked telegram ≡ true → is_for_entry telegram globals e ≡ true → is_listening e ≡ true
for_listeners_alone e (PdIs src dst t) globals unasked for = absurd (false≢true unasked)
for_listeners_alone e (MdIs src dst t) globals unasked for = by_kind e.object refl
  where
    of : (o : AnyObject) → e.object ≡ o → is_addressed o (MdIs src dst t) globals ≡ true
    of o is = ap (λ (x : AnyObject). is_addressed x (MdIs src dst t) globals) (sym is) ∙ for

    by_kind : (o : AnyObject) → e.object ≡ o → is_listening e ≡ true
    by_kind (Publisher p) is = absurd (false≢true (of (Publisher p) is))
    by_kind (Subscription s) is = absurd (false≢true (of (Subscription s) is))
    by_kind (Requester r) is = absurd (false≢true (of (Requester r) is))
    by_kind (Listener l) is = ap (λ (x : AnyObject). is_listening (record e { object = x })) is
    by_kind (Caller c) is = absurd (false≢true (sym (answers_none t.head.kind unasked)
        ∙ caller_answer c t.head (of (Caller c) is)))
    by_kind (Replier r) is = absurd (false≢true (sym (confirms_none t.head.kind unasked)
        ∙ replier_confirm r src t.head (of (Replier r) is)))

-- which listener of a slot is noted

not_for : (e : Entry) (telegram : TelegramModel) (globals : Globals)
    → comes_unasked telegram ≡ true → (is_listening e && is_for_entry telegram globals e) ≡ false
    → is_for_entry telegram globals e ≡ false
not_for e telegram globals unasked none = either (is_for_entry telegram globals e) refl
  where
    either : (b : Bool) → is_for_entry telegram globals e ≡ b
        → is_for_entry telegram globals e ≡ false
    either true for =
        let listens = for_listeners_alone e telegram globals unasked for in
        absurd (false≢true (sym none ∙ rw (listens, for) refl))
    either false for = for

none_act : (telegram : TelegramModel) (globals : Globals) (h : ℕ) (es : List Entry)
    → comes_unasked telegram ≡ true → AllEntriesAbove h es
    → filter (acts_where (Some h) telegram globals) es ≡ []
none_act telegram globals h [] unasked above = refl
none_act telegram globals h (e ∷ es) unasked above =
    either (is_for_entry telegram globals e) refl (none_act telegram globals h es unasked above.1)
  where
    either : (b : Bool) → is_for_entry telegram globals e ≡ b
        → filter (acts_where (Some h) telegram globals) es ≡ []
        → filter (acts_where (Some h) telegram globals) (e ∷ es) ≡ []
    either true for rest =
        let listens = for_listeners_alone e telegram globals unasked for in
        let lt : h < e.handle = above.0 in
        let other : (h == e.handle) ≡ false = grind (arith, nat_tests) in
        rw (for, listens, other) rest
    either false for rest = rw for rest

-- the listener that hears, as a list
abbrev pub hearer : TelegramModel → Globals → List Entry → List Entry
hearer telegram globals [] = []
hearer telegram globals (e ∷ es) =
    if is_listening e && is_for_entry telegram globals e then e ∷ [] else hearer telegram globals es

acting_hearer : (telegram : TelegramModel) (globals : Globals) (es : List Entry)
    → comes_unasked telegram ≡ true → AreEntriesRising es
    → acting telegram globals es ≡ hearer telegram globals es
acting_hearer telegram globals [] unasked rising = refl
acting_hearer telegram globals (e ∷ es) unasked rising = either (is_listening e
    && is_for_entry telegram globals e) refl (acting_hearer telegram globals es unasked rising.1)
  where
    either : (b : Bool) → (is_listening e && is_for_entry telegram globals e) ≡ b
        → acting telegram globals es ≡ hearer telegram globals es
        → acting telegram globals (e ∷ es) ≡ hearer telegram globals (e ∷ es)
    either true both rest =
        let own : (e.handle == e.handle) ≡ true = grind (arith, nat_tests) in
        let listens : is_listening e ≡ true = and_left _ _ both in
        let for : is_for_entry telegram globals e ≡ true = and_right _ _ both in
        let none = none_act telegram globals e.handle es unasked rising.0 in
        let heard : hearing telegram globals (e ∷ es) ≡ Some e.handle = rw both refl in
        let acts : acts_where (Some e.handle) telegram globals e ≡ true =
        rw (for, listens, own) refl in
        let here : filter (acts_where (Some e.handle) telegram globals) (e ∷ es) ≡ e ∷ [] =
        rw (acts, none) refl in
        let it : hearer telegram globals (e ∷ es) ≡ e ∷ [] = rw both refl in
        ap (λ (l : Option ℕ). filter (acts_where l telegram globals) (e ∷ es)) heard
        ∙ (here ∙ sym it)
    either false both rest =
        let heard : hearing telegram globals (e ∷ es)
        ≡ hearing telegram globals es = rw both refl in
        let for = not_for e telegram globals unasked both in
        let here : filter (acts_where (hearing telegram globals es) telegram globals) (e ∷ es)
        ≡ hearer telegram globals es = rw for rest in
        let it : hearer telegram globals (e ∷ es) ≡ hearer telegram globals es = rw both refl in
        ap (λ (l : Option ℕ). filter (acts_where l telegram globals) (e ∷ es)) heard
        ∙ (here ∙ sym it)

hearer_noted : (telegram : TelegramModel) (globals : Globals) (s : ℕ) (es : List Entry)
    → noted_as s (hearer telegram globals es) ≡ noted_listener s (hearing telegram globals es)
hearer_noted telegram globals s [] = refl
hearer_noted telegram globals s (e ∷ es) = either
    (is_listening e && is_for_entry telegram globals e) refl (hearer_noted telegram globals s es)
  where
    either : (b : Bool) → (is_listening e && is_for_entry telegram globals e) ≡ b
        → noted_as s (hearer telegram globals es) ≡ noted_listener s (hearing telegram globals es)
        → noted_as s (hearer telegram globals (e ∷ es))
        ≡ noted_listener s (hearing telegram globals (e ∷ es))
    either true both rest = rw both refl
    either false both rest = rw both rest

listener_kind : (e : Entry) → is_listening e ≡ true
    → kind_room (kind_of e.object) ≡ record { rows = 1; bytes = 65388 }
listener_kind e listens = by_kind e.object listens
  where
    by_kind : (o : AnyObject) → is_listening (record e { object = o }) ≡ true
        → kind_room (kind_of o) ≡ record { rows = 1; bytes = 65388 }
    by_kind (Publisher p) is = absurd (false≢true is)
    by_kind (Subscription s) is = absurd (false≢true is)
    by_kind (Requester r) is = absurd (false≢true is)
    by_kind (Listener l) is = refl
    by_kind (Caller c) is = absurd (false≢true is)
    by_kind (Replier r) is = absurd (false≢true is)

hearer_room : (telegram : TelegramModel) (globals : Globals) (es : List Entry)
    → entries_room (hearer telegram globals es) ≡ listener_room (hearing telegram globals es)
hearer_room telegram globals [] = refl
hearer_room telegram globals (e ∷ es) = either (is_listening e && is_for_entry telegram globals e)
    refl (hearer_room telegram globals es)
  where
    either : (b : Bool) → (is_listening e && is_for_entry telegram globals e) ≡ b
        → entries_room (hearer telegram globals es) ≡ listener_room (hearing telegram globals es)
        → entries_room (hearer telegram globals (e ∷ es))
        ≡ listener_room (hearing telegram globals (e ∷ es))
    either true both rest = rw both (rw (listener_kind e (and_left _ _ both)) refl)
    either false both rest = rw both rest

pub noted_heard : (telegram : TelegramModel) (globals : Globals) (s : ℕ) (es : List Entry)
    → comes_unasked telegram ≡ true → AreEntriesRising es
    → noted_listener s (hearing telegram globals es) ≡ noted_as s (acting telegram globals es)
noted_heard telegram globals s es unasked rising = sym (hearer_noted telegram globals s es)
    ∙ ap (noted_as s) (sym (acting_hearer telegram globals es unasked rising))

pub room_heard : (telegram : TelegramModel) (globals : Globals) (es : List Entry)
    → comes_unasked telegram ≡ true → AreEntriesRising es
    → listener_room (hearing telegram globals es) ≡ entries_room (acting telegram globals es)
room_heard telegram globals es unasked rising = sym (hearer_room telegram globals es)
    ∙ ap entries_room (sym (acting_hearer telegram globals es unasked rising))
