-- What was asked over several calls, where nothing was found.
-- For `Path`.
-- By: what was asked is among the calls of both parts; one seated last was so all the time.
use Rattle.std.proofs.Common.{◌≡◌, ℕ, zero, suc, ◌+◌, ◌<◌, ◌≤◌, ◌==◌, ◌≢◌, ◌||◌, ◌++◌, ◌⊎◌, List, []}
use Rattle.std.proofs.Common.{◌∷◌, Bool, true, false, Option, Some, None, length, refl, ap, sym}
use Rattle.std.proofs.Common.{◌∙◌, subst, map, inl, inr, arith}
use Rattle.std.specs.Prelude.{IfNone, is_some}
use Rattle.std.proofs.lemmas.Bool.{eq-eqb, cases_lt}
use Rattle.trdp_lines.specs.declared.connections.Accepted.{Accepted}
use Rattle.trdp_lines.specs.declared.rule.Rule.{Rule}
use Rattle.trdp_lines.specs.declared.rule.Rule.TheVariants.{Application, Operators}
use Rattle.trdp_lines.specs.Askings.{AsksAll, AsksFor, AsksNext, AsksPlaces, HadTurn}
use Rattle.trdp_lines.specs.Askings.{IsTurnOf, Listens}
use Rattle.trdp_lines.specs.Askings.{MayCome, NoneFails, ReadsAll, TakesSeat, TriesAll, TriesOne}
use Rattle.trdp_lines.specs.Askings.{WasClosed, asks_for, fails, accept_failed, is_failed}
use Rattle.trdp_lines.specs.Askings.{reads_from}
use Rattle.trdp_lines.specs.Askings.{was_read, was_written, writes_to}
use Rattle.trdp_lines.specs.Closings.{IsGoing, closes}
use Rattle.trdp_base.specs.Reported.{TellsMore}
use Rattle.trdp_lines.specs.Connections.{ConnectionCall, Accepts, Closes, Reads, Writes}
use Rattle.trdp_lines.specs.Connections.{Writing}
use Rattle.trdp_lines.specs.Conversations.{ConversationState, HasRead, HasWritten}
use Rattle.trdp_lines.specs.Fates.{KeepTaken}
use Rattle.trdp_lines.specs.Hearings.{Hears}
use Rattle.trdp_lines.specs.Paths.{IsWhatWasRead, IsReadyIf, last_connection_number}
use Rattle.trdp_lines.specs.Seatings.{AreHeard, AreTrueIfTold, IsHeardIf, IsPath}
use Rattle.trdp_lines.specs.Seats.{PathState, has_seat, is_of, seat_at, seats_at}
use Rattle.trdp_lines.specs.Steps.{Goes}
use Rattle.trdp_lines.specs.Turns.{KeepsOthers}
use Rattle.trdp_lines.proofs.BetweenLemmas.{among_first, among_none, among_once, among_second}
use Rattle.trdp_lines.proofs.BetweenLemmas.{tells_nothing, told_next}
use Rattle.trdp_lines.proofs.CallLemmas.{or_false}
use Rattle.trdp_lines.proofs.ConversationLemmas.{ready_goes_on}
use Rattle.trdp_lines.proofs.HadLemmas.{never_both, over_heard}
use Rattle.trdp_lines.proofs.SeatLemmas.{number_of_same}
use Rattle.trdp_lines.proofs.StepLemmas.{known_front}

-- a number is itself, and nothing else is asked
only_same : (n : ℕ) → ((n == n) || false) ≡ true
only_same n = ap (λ (b : Bool). b || false) (eq-eqb n n refl)

-- writes are no refusals
pub writes_fail : (to : ℕ) (writings : List Writing)
    → accept_failed (map (Writes to) writings) ≡ false
writes_fail to [] = refl
writes_fail to (writing ∷ writings) = writes_fail to writings

-- where writes were made there is one
some_written : (n : ℕ) (writings : List Writing) → (writings ≡ [] → ⊥)
    → was_written n (map (Writes n) writings) ≡ true
some_written n [] some = absurd (some refl)
some_written n (writing ∷ writings) some =
    among_first (writes_to n) (Writes n writing ∷ []) (map (Writes n) writings) (only_same n)

-- what waited for a connection was tried to be written
pub tries_written : (n : ℕ) (texts : List (List ℕ)) (c c_then : ConversationState)
    (calls calls_then : Option (List ConnectionCall)) → c.number ≡ Some n
    → HasWritten n texts c c_then calls calls_then → TriesOne calls calls_then c
tries_written n texts c c_then calls calls_then number written = record {
  more = map (Writes n) written.writings;
  told = written.told;
  tried = λ k some waits.
      let whose : Some n ≡ Some k = sym number ∙ some in
      let same : n ≡ k = cc in
      subst (λ (m : ℕ). was_written m (map (Writes n) written.writings) ≡ true) same
      (some_written n written.writings (λ none. waits (written.tried none).0));
}

-- nothing waits for none
pub tries_none : (calls : Option (List ConnectionCall)) (c : ConversationState)
    → c.number ≡ None → TriesOne calls calls c
tries_none calls c none = record {
  more = [];
  told = tells_nothing calls;
  tried = λ n some waits.
      let never : None ≡ Some n = sym none ∙ some in
      cc;
}

-- what waited for those before a place was tried to be written, and for the one at it
pub tries_more : (place : ℕ) (one two three : Option (List ConnectionCall))
    (seats mid : List ConversationState) → TriesAll place one two seats
    → ((k : ℕ) → place ≤ k → seat_at mid k ≡ seat_at seats k)
    → TriesOne two three (seat_at mid place) → TriesAll (place + 1) one three seats
tries_more place one two three seats mid before kept here = record {
  more = before.more ++ here.more;
  told = told_next one two three before.more here.more before.told here.told;
  tried = λ k low. elim (cases_lt k place) [
    | inl early ↦ λ n some waits.
        among_first (writes_to n) before.more here.more (before.tried k early n some waits)
    | inr late ↦ λ n some waits.
        let same : place ≡ k = omega (arith, late, low) in
        let seat = kept place (omega arith)
        ∙ ap (seat_at seats) same in
        among_second (writes_to n) before.more here.more (here.tried n
        (ap (λ (c : ConversationState). c.number) seat ∙ some)
        (λ none. waits (sym (ap (λ (c : ConversationState). c.outgoing.waiting) seat) ∙ none)))
  ];
}

-- of no place
pub tries_first : (calls : Option (List ConnectionCall)) (seats : List ConversationState)
    → TriesAll 0 calls calls seats
tries_first calls seats = record {
  more = [];
  told = tells_nothing calls;
  tried = λ k low. absurd (omega (arith, low));
}

-- what waited for those that had a seat when the next connection came was tried to be written
pub tries_all : (most : ℕ) (one two three four : Option (List ConnectionCall)) (may : Type 0)
    (came : ℕ) (fault heard heard_then : Bool) (seats mid : List ConversationState)
    → AsksNext one two may came fault → KeepTaken seats mid → TriesAll most two three mid
    → Hears three four heard heard_then → TriesAll most one four seats
tries_all most one two three four may came fault heard heard_then seats mid next keep tries rest =
    let behind = tries.more ++ rest.more in
    record {
      more = next.more ++ behind;
      told = told_next one two four next.more behind next.told
          (told_next two three four tries.more rest.more tries.told rest.told);
      tried = λ place low. λ n some waits.
          let same = keep place n some in
          among_second (writes_to n) next.more behind (among_first (writes_to n) tries.more rest.more
          (tries.tried place low n (ap (λ (c : ConversationState). c.number) same ∙ some)
          (λ none. waits
          (sym (ap (λ (c : ConversationState). c.outgoing.waiting) same) ∙ none))));
    }

-- where the next connection may not be asked for
pub asks_not : (calls : Option (List ConnectionCall)) (may : Type 0) (came : ℕ)
    → (may → came < last_connection_number → ⊥) → AsksNext calls calls may came false
asks_not calls may came never = record {
  more = [];
  told = tells_nothing calls;
  accepts = λ can low. absurd (never can low);
  failed = refl;
}

-- where it was asked for, and what else was asked after that
pub asks_accept : (calls calls_then : Option (List ConnectionCall)) (may : Type 0) (came : ℕ)
    (answer : Accepted) (fault : Bool) (behind : List ConnectionCall)
    → TellsMore calls calls_then (Accepts (came + 1) answer ∷ behind)
    → is_failed answer ≡ fault → accept_failed behind ≡ false
    → AsksNext calls calls_then may came fault
asks_accept calls calls_then may came answer fault behind told same unfailed = record {
  more = Accepts (came + 1) answer ∷ behind;
  told = told;
  accepts = λ can low. among_first (asks_for (came + 1)) (Accepts (came + 1) answer ∷ []) behind
      (only_same (came + 1));
  failed = among_once fails (Accepts (came + 1) answer ∷ []) behind unfailed
      ∙ or_false (is_failed answer) ∙ same;
}

-- the next connection was asked for, whatever was asked after that
pub accepts_next : (one two three : Option (List ConnectionCall)) (may : Type 0) (came : ℕ)
    (fault : Bool) (behind : List ConnectionCall) → AsksNext one two may came fault
    → TellsMore two three behind → may → came < last_connection_number
    → AsksFor (came + 1) one three
accepts_next one two three may came fault behind next told can low = record {
  more = next.more ++ behind;
  told = told_next one two three next.more behind next.told told;
  asked = among_first (asks_for (came + 1)) next.more behind (next.accepts can low);
}

-- of no place
pub asks_none : (place : ℕ) (calls : Option (List ConnectionCall))
    (seats : List ConversationState) (waiting : Option ℕ)
    → AsksPlaces place place calls calls seats seats waiting
asks_none place calls seats waiting = record {
  more = [];
  told = tells_nothing calls;
  reads = λ k n high low some. absurd (omega (arith, high, low));
  ready = λ k high low. absurd (omega (arith, high, low));
  others = λ k out. refl;
  unfailed = refl;
}

-- one waits if one waited before
waits_before : (waiting waiting_then : Option ℕ) → (waiting ≡ None → waiting_then ≡ None)
    → is_some waiting_then ≡ true → is_some waiting ≡ true
waits_before None waiting_then kept some = ap is_some (sym (kept refl)) ∙ some
waits_before (Some n) waiting_then kept some = refl

-- one that had its turn by some calls had it by these and more
pub had_more : (n : ℕ) (waiting : Option ℕ) (first second : List ConnectionCall)
    → HadTurn waiting n first → HadTurn waiting n (first ++ second)
had_more n waiting first second turn = elim turn [
  | inl read ↦ inl (among_first (reads_from n) first second read)
  | inr was ↦ inr (
    was.0,
    record {
      whose = was.1.whose;
      read = among_first (reads_from was.1.whose) first second was.1.read;
      closed = among_first (closes was.1.whose) first second was.1.closed;
    },
  )
]

-- or by more and these, where one waits only if one waited
pub had_behind : (n : ℕ) (waiting waiting_then : Option ℕ) (first second : List ConnectionCall)
    → (waiting ≡ None → waiting_then ≡ None) → HadTurn waiting_then n second
    → HadTurn waiting n (first ++ second)
had_behind n waiting waiting_then first second kept turn = elim turn [
  | inl read ↦ inl (among_second (reads_from n) first second read)
  | inr was ↦ inr (
    waits_before waiting waiting_then kept was.0,
    record {
      whose = was.1.whose;
      read = among_second (reads_from was.1.whose) first second was.1.read;
      closed = among_second (closes was.1.whose) first second was.1.closed;
    },
  )
]

-- one that had its turn, or has the seat of one that had it and was closed after that
had_closed : (n : ℕ) (waiting waiting_then whose : Option ℕ) (first second : List ConnectionCall)
    → (waiting ≡ None → waiting_then ≡ None)
    → ((k : ℕ) → whose ≡ Some k → HadTurn waiting k first)
    → ((whose ≡ Some n) ⊎ ((is_some waiting_then ≡ true) × WasClosed whose second))
    → HadTurn waiting n (first ++ second)
had_closed n waiting waiting_then whose first second kept reads follows = elim follows [
  | inl same ↦ had_more n waiting first second (reads n same)
  | inr was ↦ elim (reads was.1.number was.1.had) [
    | inl read ↦ inr (
      waits_before waiting waiting_then kept was.0,
      record {
        whose = was.1.number;
        read = among_first (reads_from was.1.number) first second read;
        closed = among_second (closes was.1.number) first second was.1.closed;
      },
    )
    | inr turn ↦ had_more n waiting first second (inr turn)
  ]
]

-- the one that has the seat stays
pub takes_same : (calls calls_then : Option (List ConnectionCall)) (more : List ConnectionCall)
    (waiting whose whose_then : Option ℕ) → TellsMore calls calls_then more
    → accept_failed more ≡ false → whose_then ≡ whose
    → TakesSeat calls calls_then waiting whose whose_then
takes_same calls calls_then more waiting whose whose_then told unfailed same = record {
  more = more;
  told = told;
  follows = λ n some. inl (sym same ∙ some);
  unfailed = unfailed;
}

-- the one that has it was closed, and the one that waits has it
pub takes_next : (calls calls_then : Option (List ConnectionCall)) (n : ℕ)
    (waiting whose whose_then : Option ℕ) → TellsMore calls calls_then (Closes n ∷ [])
    → whose ≡ Some n → whose_then ≡ waiting
    → TakesSeat calls calls_then waiting whose whose_then
takes_next calls calls_then n waiting whose whose_then told had same = record {
  more = Closes n ∷ [];
  told = told;
  follows = λ k some. inr (
    ap is_some (sym same ∙ some),
    record { number = n; had = had; closed = only_same n },
  );
  unfailed = refl;
}

-- nothing is asked of none
pub listens_none : (calls : Option (List ConnectionCall)) (waiting whose : Option ℕ)
    → whose ≡ None → Listens calls calls waiting whose
listens_none calls waiting whose none = record {
  more = [];
  told = tells_nothing calls;
  unfailed = refl;
  reads = λ n some.
      let never : None ≡ Some n = sym none ∙ some in
      cc;
}

-- one was read from
pub listens_read : (n : ℕ) (c c_then : ConversationState)
    (calls calls_then : Option (List ConnectionCall)) (waiting : Option ℕ) → c.number ≡ Some n
    → HasRead n c c_then calls calls_then → Listens calls calls_then waiting c_then.number
listens_read n c c_then calls calls_then waiting number read = record {
  more = Reads n read.reading ∷ [];
  told = read.told;
  unfailed = refl;
  reads = λ k some.
      let whose : Some n ≡ Some k = sym number
      ∙ sym (ap (λ (s : ConversationState). s.number) read.read) ∙ some in
      let same : n ≡ k = cc in
      inl (subst (λ (m : ℕ). was_read m (Reads n read.reading ∷ []) ≡ true) same (only_same n));
}

-- the one that has the seat after a read had it then, or has it in the place of one that did
pub listens_then : (one two three : Option (List ConnectionCall))
    (waiting waiting_then whose whose_then : Option ℕ) → (waiting ≡ None → waiting_then ≡ None)
    → Listens one two waiting whose → TakesSeat two three waiting_then whose whose_then
    → Listens one three waiting whose_then
listens_then one two three waiting waiting_then whose whose_then kept first second = record {
  more = first.more ++ second.more;
  told = told_next one two three first.more second.more first.told second.told;
  reads = λ n some. had_closed n waiting waiting_then whose first.more second.more kept first.reads
      (second.follows n some);
  unfailed = among_none fails first.more second.more first.unfailed ∙ second.unfailed;
}

-- of one seat
pub asks_one : (place : ℕ) (one two three four : Option (List ConnectionCall))
    (seats two_seats three_seats seats_then : List ConversationState)
    (waiting two_waiting three_waiting : Option ℕ) (whose : Option ℕ)
    → TakesSeat one two waiting whose (seat_at two_seats place).number
    → (waiting ≡ None → two_waiting ≡ None) → (two_waiting ≡ None → three_waiting ≡ None)
    → Listens two three two_waiting (seat_at three_seats place).number
    → TakesSeat three four three_waiting (seat_at three_seats place).number
    (seat_at seats_then place).number
    → IsReadyIf (seat_at seats_then place).number (seat_at seats_then place)
    → KeepsOthers place seats two_seats → KeepsOthers place two_seats three_seats
    → KeepsOthers place three_seats seats_then
    → AsksPlaces place (place + 1) one four seats seats_then waiting
asks_one place one two three four seats two_seats three_seats seats_then waiting two_waiting
    three_waiting whose first kept kept_then second third ready others two_others three_others =
    let listens = listens_then two three four two_waiting three_waiting
    (seat_at three_seats place).number (seat_at seats_then place).number kept_then second third in
    record {
      more = first.more ++ listens.more;
      told = told_next one two four first.more listens.more first.told listens.told;
      reads = λ k n high low some.
          let same : k ≡ place = omega (arith, high, low) in
          had_behind n waiting two_waiting first.more listens.more kept
          (listens.reads n (ap (λ (p : ℕ). (seat_at seats_then p).number) (sym same) ∙ some));
      ready = λ k high low.
          let same : place ≡ k = omega (arith, high, low) in
          subst (λ (p : ℕ). IsReadyIf (seat_at seats_then p).number (seat_at seats_then p)) same
          ready;
      others = λ k out.
          let other : k ≢ place = λ same. elim out [
            | inl low ↦ absurd (omega (arith, low, same))
            | inr high ↦ absurd (omega (arith, high, same))
          ] in
          three_others k other ∙ two_others k other ∙ others k other;
      unfailed = among_none fails first.more listens.more first.unfailed ∙ listens.unfailed;
    }

-- of the seats of two ranges
pub asks_both : (a b c d first last : ℕ) (one two three : Option (List ConnectionCall))
    (seats mid seats_then : List ConversationState) (waiting waiting_then : Option ℕ)
    → ((k : ℕ) → first ≤ k → k < last → (((a ≤ k) × (k < b) × ((k < c) ⊎ (d ≤ k)))
    ⊎ ((c ≤ k) × (k < d) × ((k < a) ⊎ (b ≤ k)))))
    → ((k : ℕ) → ((k < first) ⊎ (last ≤ k))
    → ((k < a) ⊎ (b ≤ k)) × ((k < c) ⊎ (d ≤ k)))
    → (waiting ≡ None → waiting_then ≡ None)
    → AsksPlaces a b one two seats mid waiting → AsksPlaces c d two three mid seats_then waiting_then
    → AsksPlaces first last one three seats seats_then waiting
asks_both a b c d first last one two three seats mid seats_then waiting waiting_then split outer kept
    before behind = record {
      more = before.more ++ behind.more;
      told = told_next one two three before.more behind.more before.told behind.told;
      reads = λ k n high low some. elim (split k high low) [
        | inl h ↦ had_more n waiting before.more behind.more (before.reads k n h.0 h.1
            (ap (λ (c : ConversationState). c.number) (sym (behind.others k h.2)) ∙ some))
        | inr h ↦ had_behind n waiting waiting_then before.more behind.more kept
            (behind.reads k n h.0 h.1 some)
      ];
      ready = λ k high low. elim (split k high low) [
        | inl h ↦ subst (λ (c : ConversationState). IsReadyIf c.number c)
            (sym (behind.others k h.2)) (before.ready k h.0 h.1)
        | inr h ↦ behind.ready k h.0 h.1
      ];
      others = λ k out. behind.others k (outer k out).1 ∙ before.others k (outer k out).0;
      unfailed = among_none fails before.more behind.more before.unfailed ∙ behind.unfailed;
    }

-- of the seats of a range within
pub asks_within : (first place last : ℕ) (calls calls_then : Option (List ConnectionCall))
    (seats seats_then : List ConversationState) (waiting : Option ℕ) → last ≤ place
    → ((last ≡ place) ⊎ (place ≤ first))
    → AsksPlaces first place calls calls_then seats seats_then waiting
    → AsksPlaces first last calls calls_then seats seats_then waiting
asks_within first place last calls calls_then seats seats_then waiting within order asked = record {
  more = asked.more;
  told = asked.told;
  reads = λ k n high low some. asked.reads k n high (omega (arith, within, low)) some;
  ready = λ k high low. asked.ready k high (omega (arith, within, low));
  others = λ k out. asked.others k (elim order [
    | inl same ↦ elim out [
      | inl low ↦ inl low
      | inr high ↦ inr (omega (arith, high, same))
    ]
    | inr empty ↦ elim (cases_lt k first) [
      | inl low ↦ inl low
      | inr high ↦ inr (omega (arith, high, empty))
    ]
  ]);
  unfailed = asked.unfailed;
}

-- of the seats of a range and the next one
pub asks_more : (first place : ℕ) (one two three : Option (List ConnectionCall))
    (seats mid seats_then : List ConversationState) (waiting waiting_then : Option ℕ)
    → first ≤ place → (waiting ≡ None → waiting_then ≡ None)
    → AsksPlaces first place one two seats mid waiting
    → AsksPlaces place (place + 1) two three mid seats_then waiting_then
    → AsksPlaces first (place + 1) one three seats seats_then waiting
asks_more first place one two three seats mid seats_then waiting waiting_then order kept before
    behind =
    asks_both first place place (place + 1) first (place + 1) one two three seats mid seats_then
    waiting waiting_then (λ k high low. elim (cases_lt k place) [
      | inl early ↦ inl (high, early, inl early)
      | inr late ↦ inr (late, low, inr late)
    ]) (λ k out. elim out [
      | inl low ↦ (inl low, inl (omega (arith, low, order)))
      | inr high ↦ (inr (omega (arith, high)), inr high)
    ]) kept before behind

-- of all seats, those before a place last
pub asks_round : (first most : ℕ) (one two three : Option (List ConnectionCall))
    (seats mid seats_then : List ConversationState) (waiting waiting_then : Option ℕ)
    → first ≤ most → (waiting ≡ None → waiting_then ≡ None)
    → AsksPlaces first most one two seats mid waiting
    → AsksPlaces 0 first two three mid seats_then waiting_then
    → AsksPlaces 0 most one three seats seats_then waiting
asks_round first most one two three seats mid seats_then waiting waiting_then order kept before
    behind =
    asks_both first most 0 first 0 most one two three seats mid seats_then waiting waiting_then
    (λ k high low. elim (cases_lt k first) [
      | inl early ↦ inr (high, early, inl early)
      | inr late ↦ inl (late, low, inr late)
    ]) (λ k out. elim out [
      | inl low ↦ absurd (omega (arith, low))
      | inr high ↦ (inr high, inr (omega (arith, high, order)))
    ]) kept before behind

-- the seat of this connection is at a place
record IsAt (n : ℕ) (seats : List ConversationState) : Type 0 where
  pub place : ℕ
  pub within : place < length seats
  pub mine : is_of n (seat_at seats place) ≡ true

-- it is the first seat, or follows it
at_cons : (here : Bool) (n : ℕ) (c : ConversationState) (seats : List ConversationState)
    → is_of n c ≡ here → (has_seat n seats ≡ true → IsAt n seats)
    → (is_of n c || has_seat n seats) ≡ true → IsAt n (c ∷ seats)
at_cons true n c seats mine behind some = record { place = 0; within = omega arith; mine = mine }
at_cons false n c seats mine behind some =
    let rest = behind (ap (λ (b : Bool). b || has_seat n seats) (sym mine) ∙ some) in
    record { place = suc rest.place; within = omega (arith, rest.within); mine = rest.mine }

-- one that has a seat has it at a place
is_at : (n : ℕ) (seats : List ConversationState) → has_seat n seats ≡ true → IsAt n seats
is_at n [] some = never_both false some refl
is_at n (c ∷ seats) some = at_cons (is_of n c) n c seats refl (is_at n seats) some

-- what is known of the connection at a place
heard_at : (calls : List ConnectionCall) (seats : List ConversationState) (place n : ℕ)
    → place < length seats → (seat_at seats place).number ≡ Some n → AreHeard calls seats
    → IsWhatWasRead calls n (seat_at seats place)
heard_at calls [] place n within number heard = absurd (omega (arith, within))
heard_at calls (c ∷ seats) zero n within number heard =
    subst (λ (whose : Option ℕ). IsHeardIf calls whose c) number heard.0
heard_at calls (c ∷ seats) (suc place) n within number heard =
    heard_at calls seats place n (omega (arith, within)) number heard.1

-- a connection that may be read from is not over
going_at : (calls : Option (List ConnectionCall)) (seats : List ConversationState)
    (place n came : ℕ) → place < length seats → (seat_at seats place).number ≡ Some n
    → AreTrueIfTold calls seats came
    → IsReadyIf (seat_at seats place).number (seat_at seats place) → IsGoing n calls
going_at None seats place n came within number known ready = tt
going_at (Some calls) seats place n came within number known ready =
    over_heard calls n (seat_at seats place) (heard_at calls seats place n within number known.heard)
    ∙ ready_goes_on (seat_at seats place)
    (subst (λ (whose : Option ℕ). IsReadyIf whose (seat_at seats place)) number ready)

-- one had its turn as the rule has it: an operator was read from
pub turn_of : (rule : Rule) (n : ℕ) (waiting : Option ℕ) (more : List ConnectionCall)
    → (rule ≡ Operators → waiting ≡ None) → HadTurn waiting n more → IsTurnOf rule n more
turn_of Application n waiting more alone turn = elim turn [
  | inl read ↦ inl read
  | inr was ↦ inr was.1
]
turn_of Operators n waiting more alone turn = elim turn [
  | inl read ↦ read
  | inr was ↦ never_both (is_some waiting) was.0 (ap is_some (alone refl))
]

-- the next connection was asked for, and all seats
pub asks_all : {C : Type 0} (rule : Rule) (calls_of : C → Option (List ConnectionCall))
    (a b c d : PathState C) (fault : Bool)
    → AsksNext (calls_of a.connections) (calls_of b.connections) (MayCome rule a.waiting) a.came
    fault
    → NoneFails (calls_of b.connections) (calls_of c.connections)
    → (rule ≡ Operators → c.waiting ≡ None)
    → AsksPlaces 0 (seats_at rule) (calls_of c.connections) (calls_of d.connections) c.seats d.seats
    c.waiting
    → IsPath rule (calls_of d.connections) d.seats d.waiting d.came
    → AsksAll rule calls_of a d fault
asks_all rule calls_of a b c d fault next goes alone asked path =
    let one = calls_of a.connections in
    let two = calls_of b.connections in
    let three = calls_of c.connections in
    let four = calls_of d.connections in
    let front = next.more ++ goes.more in
    record {
      more = front ++ asked.more;
      told = told_next one three four front asked.more
          (told_next one two three next.more goes.more next.told goes.told) asked.told;
      accepts = λ may low. among_first (asks_for (a.came + 1)) front asked.more
          (among_first (asks_for (a.came + 1)) next.more goes.more (next.accepts may low));
      reads = λ n some.
          let there = is_at n d.seats some in
          turn_of rule n c.waiting (front ++ asked.more) alone
          (had_behind n c.waiting c.waiting front asked.more (λ none. none)
          (asked.reads there.place n (omega arith) (omega (arith, there.within, path.size))
          (number_of_same (seat_at d.seats there.place).number n there.mine)));
      going = λ n some.
          let there = is_at n d.seats some in
          going_at four d.seats there.place n d.came there.within
          (number_of_same (seat_at d.seats there.place).number n there.mine)
          (known_front four d.seats d.waiting d.came path.places.known)
          (asked.ready there.place (omega arith) (omega (arith, there.within, path.size)));
      failed = among_once fails front asked.more asked.unfailed
          ∙ among_once fails next.more goes.more goes.unfailed ∙ next.failed;
    }

-- each that has a seat then was read from, where none waited
pub reads_all : {C : Type 0} (rule : Rule) (calls_of : C → Option (List ConnectionCall))
    (one : Option (List ConnectionCall)) (b c d : PathState C) (heard : Bool)
    → Hears one (calls_of b.connections) heard b.heard → Goes rule calls_of b c []
    → c.waiting ≡ None
    → AsksPlaces 0 (seats_at rule) (calls_of c.connections) (calls_of d.connections) c.seats d.seats
    c.waiting
    → IsPath rule (calls_of d.connections) d.seats d.waiting d.came
    → ReadsAll one (calls_of d.connections) d.seats
reads_all rule calls_of one b c d heard first goes unwaited asked path =
    let two = calls_of b.connections in
    let three = calls_of c.connections in
    let four = calls_of d.connections in
    let front = first.more ++ goes.more in
    record {
      more = front ++ asked.more;
      told = told_next one three four front asked.more
          (told_next one two three first.more goes.more first.told goes.told) asked.told;
      reads = λ n some.
          let there = is_at n d.seats some in
          among_second (reads_from n) front asked.more (turn_of Operators n c.waiting asked.more
          (λ is. unwaited) (asked.reads there.place n (omega arith)
          (omega (arith, there.within, path.size))
          (number_of_same (seat_at d.seats there.place).number n there.mine)));
    }

-- what holds of itself, where nothing was found
pub if_none : {X : Type 0} {P : Type 0} (found : Option X) → P → IfNone found P
if_none None p = p
if_none (Some x) p = tt

-- what follows from what holds, where nothing was found
pub if_none_then : {X : Type 0} {P Q : Type 0} (found : Option X) → (P → Q) → IfNone found P
    → IfNone found Q
if_none_then None f p = f p
if_none_then (Some x) f p = tt

-- where the system refuses none in either part
pub none_fails_next : (one two three : Option (List ConnectionCall)) → NoneFails one two
    → NoneFails two three → NoneFails one three
none_fails_next one two three first second = record {
  more = first.more ++ second.more;
  told = told_next one two three first.more second.more first.told second.told;
  unfailed = among_none fails first.more second.more first.unfailed ∙ second.unfailed;
}

-- where nothing was asked the system refuses none
pub none_fails : (calls : Option (List ConnectionCall)) → NoneFails calls calls
none_fails calls = record { more = []; told = tells_nothing calls; unfailed = refl }

-- by writes the system refuses none
pub written_fails : (n : ℕ) (texts : List (List ℕ)) (c c_then : ConversationState)
    (calls calls_then : Option (List ConnectionCall)) → HasWritten n texts c c_then calls calls_then
    → NoneFails calls calls_then
written_fails n texts c c_then calls calls_then written = record {
  more = map (Writes n) written.writings;
  told = written.told;
  unfailed = writes_fail n written.writings;
}
