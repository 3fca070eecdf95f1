-- The promises, from what is known of every run.
-- For the five `no_..` functions of `laws`; `no_early_done` needs more, through `DoneLemmas`.
-- By what `RunLemmas` keeps: it explains each record, and a promise looks the explanation up.
use Rattle.std.proofs.Common.{◌≡◌, ℕ, List, [], ◌∷◌, Option, Some, None, Bool, true, false, ap}
use Rattle.std.proofs.Common.{sym, ◌∙◌, subst, inl, inr, slice_get}
use Rattle.std.specs.Prelude.{◌==◌, if◌then◌else◌}
use Rattle.trdp_base.specs.declared.place.Place.{Place}
use Rattle.trdp_base.specs.declared.session.SessionId.{SessionId}
use Rattle.trdp_dataset.specs.Configs.{ConfigModel}
use Rattle.trdp_pd.specs.declared.terms.ValueState.TheVariants.{Valid}
use Rattle.trdp_pd.specs.Subscriptions.{SubscriptionState}
use Rattle.trdp_md.specs.declared.terms.CallerTerms.{CallerTerms}
use Rattle.trdp_md.specs.Callers.{new_caller}
use Rattle.trdp_filter.specs.declared.globals.Globals.{Globals}
use Rattle.trdp_model.specs.declared.any_object.AnyObject.{AnyObject}
use Rattle.trdp_model.specs.declared.any_object.AnyObject.TheVariants.{Subscription, Caller}
use Rattle.trdp_model.specs.declared.fault.Refusal.{Refusal}
use Rattle.trdp_model.specs.Configs.{NodeSetup}
use Rattle.trdp_model.specs.Records.{Content, MessageModel, ReplyModel, HandleIs, NotifiedIs}
use Rattle.trdp_model.specs.Records.{AskedIs, RepliedIs, ConfirmedIs, Answers}
use Rattle.trdp_model.specs.Records.{Indicates}
use Rattle.trdp_model.specs.Slots.{SlotState, Outcome, unchanged}
use Rattle.trdp_model.specs.Openings.{opened_with}
use Rattle.trdp_model.specs.Requests.{request_refusal, request_sent}
use Rattle.trdp_model.specs.Calls.{called}
use Rattle.trdp_model.specs.Events.{RequestCall, CallIs}
use Rattle.trdp_model.specs.Alone.{plain_effect}
use Rattle.trdp_net.specs.Networks.{Move, Network, Step, effect_in, network_run}
use Rattle.trdp_net.specs.Networks.{opened_network}
use Rattle.trdp_net.specs.Provenance.{Ever, Always, In, Spot, Gives, IsPut, IsRequested}
use Rattle.trdp_net.specs.Provenance.{IsRequestedAs, IsAsked, IsAnswered}
use Rattle.trdp_net.specs.Provenance.{IsAnsweredTo, IsAnsweredBySome}
use Rattle.trdp_net.specs.Promises.{history, AreSingle, Requests, IsFresh, ValuesArePut}
use Rattle.trdp_net.specs.Promises.{RepliesAreMade, ConfirmsAreMade, NoticesAreMade}
use Rattle.trdp_net.specs.Promises.{RequestsAreMade}
use Rattle.trdp_net.proofs.PartLemmas.{each_in, ever_map}
use Rattle.trdp_net.proofs.Kept.{ObjectKept, EntryKept}
use Rattle.trdp_net.proofs.RunLemmas.{NetworkKept, every_run}
use Rattle.trdp_net.proofs.Explained.{ToldBy, IsExplained}
use Rattle.trdp_net.proofs.TypedMoveLemmas.{IsTypedMove}

always_map : (P Q : Move → List Move → Type 0)
    → ((m : Move) (past : List Move) → P m past → Q m past) → (h : List Move)
    → Always P h → Always Q h
always_map P Q f [] a = tt
always_map P Q f (m ∷ past) a = (f m past a.0, always_map P Q f past a.1)

-- with what holds of the past too
always_with : (P R Q : Move → List Move → Type 0)
    → ((m : Move) (past : List Move) → P m past → Always R past → Q m past) → (h : List Move)
    → Always P h → Always R h → Always Q h
always_with P R Q f [] a r = tt
always_with P R Q f (m ∷ past) a r = (f m past a.0 r.1, always_with P R Q f past a.1 r.1)

-- a record of a move that is explained
pub told_by : (past : List Move) (m : Move) (k s : ℕ) (content : Content) → IsExplained m past
    → Gives k s content m → ToldBy past m k s content
told_by past m k s content is gives =
    subst (λ (n : ℕ). ToldBy past m n s content) gives.node_is
    (each_in (ToldBy past m m.node s) (effect_in m s gives.slot).records content
    (is s gives.slot gives.slot_is) gives.given)

-- the handle that a request gets
opened_handle : (refusal : Option Refusal) (slot : SlotState) (object : AnyObject)
    (terms : CallerTerms) (payload : List ℕ) (h : ℕ)
    → In (Answers (HandleIs h))
    (opened_with refusal slot object (request_sent terms payload ∷ [])).records
    → h ≡ slot.next
opened_handle (Some refusal) slot object terms payload h (inl is) = absurd (cc is)
opened_handle (Some refusal) slot object terms payload h (inr is) = absurd is
opened_handle None slot object terms payload h (inl is) = cc is
opened_handle None slot object terms payload h (inr (inl is)) = absurd (cc is)
opened_handle None slot object terms payload h (inr (inr is)) = absurd is

request_handle : (setup : NodeSetup) (s r h : ℕ) (slot : SlotState) (globals : Globals)
    (terms : CallerTerms) (payload : List ℕ)
    → In (Answers (HandleIs h))
    (plain_effect setup s slot globals (CallIs r (RequestCall terms payload))).records
    → h ≡ slot.next
request_handle setup s r h slot globals terms payload is = either (r == s) is
  where
    either : (b : Bool)
        → In (Answers (HandleIs h))
        (let o : Outcome = (if b then called setup slot globals (RequestCall terms payload)
        else unchanged slot) in o).records
        → h ≡ slot.next
    either true there =
        opened_handle (request_refusal slot globals terms payload) slot
        (Caller (new_caller terms payload globals.now)) terms payload h there
    either false there = absurd there

same_spot : (a b : Spot) → a.node ≡ b.node → a.slot ≡ b.slot → a.handle ≡ b.handle → a ≡ b
same_spot a b n s h = spots a.node b.node a.slot b.slot a.handle b.handle n s h
  where
    spots : (n1 n2 s1 s2 h1 h2 : ℕ) → n1 ≡ n2 → s1 ≡ s2 → h1 ≡ h2
        → (let r : Spot = record { node = n1; slot = s1; handle = h1 } in r)
        ≡ record { node = n2; slot = s2; handle = h2 }
    spots n1 n2 s1 s2 h1 h2 n s h = cc

-- one move is one request
one_request : (m : Move) (past : List Move) (a b : Spot) (sa sb : SessionId)
    (ma mb : MessageModel) → IsRequested a sa ma m past → IsRequested b sb mb m past → a ≡ b
one_request m past a b sa sb ma mb ra rb =
    let events : CallIs a.slot (RequestCall ra.terms ma.payload)
    ≡ CallIs b.slot (RequestCall rb.terms mb.payload) =
    sym ra.makes.event_is ∙ rb.makes.event_is in
    let slots : a.slot ≡ b.slot = cc events in
    let here_a : In (Answers (HandleIs a.handle)) (plain_effect m.before.setup a.slot
    ra.makes.gives.slot m.before.globals (CallIs a.slot
    (RequestCall ra.terms ma.payload))).records =
    rw ra.makes.event_is at ra.makes.gives.given in
    let here_b : In (Answers (HandleIs b.handle)) (plain_effect m.before.setup b.slot
    rb.makes.gives.slot m.before.globals (CallIs b.slot
    (RequestCall rb.terms mb.payload))).records =
    rw rb.makes.event_is at rb.makes.gives.given in
    let ha : a.handle ≡ ra.makes.gives.slot.next =
    request_handle m.before.setup a.slot a.slot a.handle ra.makes.gives.slot m.before.globals
    ra.terms ma.payload here_a in
    let hb : b.handle ≡ rb.makes.gives.slot.next =
    request_handle m.before.setup b.slot b.slot b.handle rb.makes.gives.slot m.before.globals
    rb.terms mb.payload here_b in
    let one : Some ra.makes.gives.slot ≡ Some rb.makes.gives.slot =
    sym ra.makes.gives.slot_is
    ∙ (ap (λ (i : ℕ). slice_get m.before.slots i) slots ∙ rb.makes.gives.slot_is) in
    let slot_same : ra.makes.gives.slot ≡ rb.makes.gives.slot = cc one in
    let handles : a.handle ≡ b.handle =
    ha ∙ (ap (λ (x : SlotState). x.next) slot_same ∙ sym hb) in
    same_spot a b (sym ra.makes.gives.node_is ∙ rb.makes.gives.node_is) slots handles

some_request : (session : SessionId) (at : Spot) (m : Move) (past : List Move)
    → IsRequestedAs at session m past → Requests session m past
some_request session at m past r = (at, r)

-- of one identifier there is one caller
one_caller : (h : List Move) (session : SessionId) (a b : Spot) → Always IsFresh h
    → Ever (IsRequestedAs a session) h → Ever (IsRequestedAs b session) h → a ≡ b
one_caller [] session a b fresh ea eb = absurd ea
one_caller (m ∷ past) session a b fresh (inl ra) (inl rb) =
    one_request m past a b session session ra.0 rb.0 ra.1 rb.1
one_caller (m ∷ past) session a b fresh (inl ra) (inr eb) =
    absurd (fresh.0 session (a, ra)
    (ever_map (IsRequestedAs b session) (Requests session) (some_request session b) past eb))
one_caller (m ∷ past) session a b fresh (inr ea) (inl rb) =
    absurd (fresh.0 session (b, rb)
    (ever_map (IsRequestedAs a session) (Requests session) (some_request session a) past ea))
one_caller (m ∷ past) session a b fresh (inr ea) (inr eb) =
    one_caller past session a b fresh.1 ea eb

some_said : (by : Spot) (session : SessionId) (said : MessageModel) (m : Move) (past : List Move)
    → IsRequested by session said m past → IsRequestedAs by session m past
some_said by session said m past r = (said, r)

-- the request that a replier was asked
asked_request : (at by : Spot) (session : SessionId) (from : Place) (past : List Move)
    → Ever (IsAsked at by session from) past → Ever (IsRequestedAs by session) past
asked_request at by session from [] e = absurd e
asked_request at by session from (m ∷ past) (inl a) =
    inr (ever_map (IsRequested by session a.said) (IsRequestedAs by session)
    (some_said by session a.said) past a.requested)
asked_request at by session from (m ∷ past) (inr e) =
    inr (asked_request at by session from past e)

-- an answer was made to the caller of its identifier
to_caller : (at : Spot) (session : SessionId) (answer : ReplyModel) (past : List Move)
    → ((by : Spot) → Ever (IsRequestedAs by session) past → by ≡ at)
    → Ever (IsAnsweredBySome session answer) past → Ever (IsAnsweredTo at session answer) past
to_caller at session answer [] only e = absurd e
to_caller at session answer (m ∷ past) only (inl a) =
    let made = a.2 in
    let is_at : a.1 ≡ at =
    only a.1 (inr (asked_request a.0 a.1 session made.r.peer past made.asked)) in
    inl (a.0, subst (λ (by : Spot). IsAnswered a.0 by session answer m past) is_at made)
to_caller at session answer (m ∷ past) only (inr e) =
    inr (to_caller at session answer past (λ by r. only by (inr r)) e)

-- a subscription of an entry
subscription_in : (past : List Move) (setup : NodeSetup) (at : Spot) (x : AnyObject)
    (u : SubscriptionState) → x ≡ Subscription u → ObjectKept past setup at x
    → u.state ≡ Valid → Ever (IsPut u.terms.filter.com_id u.value) past
subscription_in past setup at x u is kept =
    subst (λ (y : AnyObject). ObjectKept past setup at y) is kept

values : (w : Network) → NetworkKept w → ValuesArePut w
values w kept k s node slot entry u at_node at_slot held is valid =
    subscription_in w.history node.setup _ entry.object u is
    (each_in (EntryKept w.history node.setup k s) slot.objects entry
    (kept.nodes k node at_node s slot at_slot) held) valid

-- no invented value
pub values_put : (configs : List ConfigModel) (steps : List Step) → AreSingle configs
    → Always IsTypedMove (history configs steps)
    → ValuesArePut (network_run (opened_network configs) steps)
values_put configs steps single typed =
    values (network_run (opened_network configs) steps) (every_run configs steps single typed)

-- no invented reply
pub replies_made : (configs : List ConfigModel) (steps : List Step) → AreSingle configs
    → Always IsTypedMove (history configs steps) → Always IsFresh (history configs steps)
    → Always RepliesAreMade (history configs steps)
replies_made configs steps single typed fresh =
    always_with IsExplained IsFresh RepliesAreMade made (history configs steps)
    (every_run configs steps single typed).always fresh
  where
    made : (m : Move) (past : List Move) → IsExplained m past → Always IsFresh past
        → RepliesAreMade m past
    made m past is fresh at answer gives =
        let by = told_by past m at.node at.slot (Indicates
        (RepliedIs at.handle answer)) is gives in
        record {
          c = by.c;
          held = by.held;
          answered =
              to_caller at by.c.terms.session answer past
              (λ b r. one_caller past by.c.terms.session b at fresh r by.requested) by.answered;
        }

-- no invented confirmation
pub confirms_made : (configs : List ConfigModel) (steps : List Step) → AreSingle configs
    → Always IsTypedMove (history configs steps) → Always ConfirmsAreMade (history configs steps)
confirms_made configs steps single typed =
    always_map IsExplained ConfirmsAreMade
    (λ m past is at status gives.
    told_by past m at.node at.slot (Indicates (ConfirmedIs at.handle status)) is gives)
    (history configs steps) (every_run configs steps single typed).always

-- no invented notification
pub notices_made : (configs : List ConfigModel) (steps : List Step) → AreSingle configs
    → Always IsTypedMove (history configs steps) → Always NoticesAreMade (history configs steps)
notices_made configs steps single typed =
    always_map IsExplained NoticesAreMade
    (λ m past is k s listener said gives.
    told_by past m k s (Indicates (NotifiedIs listener said)) is gives)
    (history configs steps) (every_run configs steps single typed).always

-- no invented request
pub requests_made : (configs : List ConfigModel) (steps : List Step) → AreSingle configs
    → Always IsTypedMove (history configs steps) → Always RequestsAreMade (history configs steps)
requests_made configs steps single typed =
    always_map IsExplained RequestsAreMade
    (λ m past is k s listener replier session said gives.
    told_by past m k s (Indicates (AskedIs listener replier session said)) is gives)
    (history configs steps) (every_run configs steps single typed).always
