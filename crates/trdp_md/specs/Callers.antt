-- A caller: a request that waits for its answers.
use Rattle.std.specs.Prelude.{ℕ, ◌+◌, ◌-◌, ℤ, pos, List, [], ◌∷◌, ◌++◌, length, Option, Some, None}
use Rattle.std.specs.Prelude.{Bool, true, false, not, nat_lt, nat_le, max, ◌==◌, ◌&&◌, ◌||◌}
use Rattle.std.specs.Prelude.{if◌then◌else◌}
use Rattle.std.specs.Option.{option_map}
use Rattle.trdp_base.specs.declared.place.Place.{Place}
use Rattle.trdp_head.specs.declared.md.MdHead.{MdHead}
use Rattle.trdp_head.specs.declared.md.MdKind.{MdKind}
use Rattle.trdp_head.specs.declared.md.MdKind.TheVariants.{Notify, Request, Reply, Query, Confirm}
use Rattle.trdp_head.specs.declared.md.MdKind.TheVariants.{Error}
use Rattle.trdp_filter.specs.declared.globals.Globals.{Globals}
use Rattle.trdp_filter.specs.Counts.{topo_valid}
use Rattle.trdp_filter.specs.Telegrams.{TelegramModel, PdIs, MdIs}
use Rattle.trdp_pd.specs.declared.object.Reason.{Reason}
use Rattle.trdp_pd.specs.declared.object.Reason.TheVariants.{Done, NoReply, NotAllReplies}
use Rattle.trdp_pd.specs.declared.object.Reason.TheVariants.{NotConfirmed}
use Rattle.trdp_pd.specs.declared.object.Taken.{Taken}
use Rattle.trdp_pd.specs.declared.object.Taken.TheVariants.{Nothing as NotTaken}
use Rattle.trdp_pd.specs.declared.object.Taken.TheVariants.{Replied, RepliedLast}
use Rattle.trdp_pd.specs.declared.object.Fired.TheVariants.{Nothing as NotFired, Again, Closed}
use Rattle.trdp_pd.specs.Publishers.{next_counter}
use Rattle.trdp_pd.specs.Effects.{Reception, Firing}
use Rattle.trdp_md.specs.declared.answers.RequestAnswer.{RequestAnswer}
use Rattle.trdp_md.specs.declared.caller.Caller.{Caller}
use Rattle.trdp_md.specs.declared.terms.CallerTerms.{CallerTerms}
use Rattle.trdp_md.specs.Answers.{has_answered, awaits, awaits_any, confirmed}
use Rattle.trdp_md.specs.Waiting.{reply_by}

-- a new caller has no answers, its timeout begins now, and its first request, of counter 0, is sent
abbrev pub new_caller : CallerTerms → List ℕ → ℕ → Caller
new_caller terms payload now = record {
  terms = terms;
  answers = [];
  deadline = Some (now + terms.timeout);
  payload = payload;
  left = terms.retries;
  counter = 1;
}

-- the header of its request, of that sequence counter
-- rule: message.counter
unfoldable pub request_of : CallerTerms → ℕ → MdHead
request_of terms counter = record {
  counter = counter;
  kind = Request;
  com_id = terms.com_id;
  topo = terms.topo;
  status = pos 0;
  session = terms.session;
  timeout = terms.timeout;
  source_uri = terms.source_uri;
  dest_uri = terms.dest_uri;
}

-- the header of a confirmation: the request's but for type, status and timeout; the URIs aren't
-- swapped, since it goes the same way
-- rule: confirmation.fields
unfoldable pub confirm_of : CallerTerms → ℤ → MdHead
confirm_of terms status = record {
  counter = 0;
  kind = Confirm;
  com_id = terms.com_id;
  topo = terms.topo;
  status = status;
  session = terms.session;
  timeout = 0;
  source_uri = terms.source_uri;
  dest_uri = terms.dest_uri;
}

-- the message types that answer a request (IEC 61375-2-3:2015, Annex A)
unfoldable pub is_answer : MdKind → Bool
is_answer Notify = false
is_answer Request = false
is_answer Reply = true
is_answer Query = true
is_answer Confirm = false
is_answer Error = true

-- the message type that expects a confirmation (IEC 61375-2-3:2015, Annex A)
unfoldable pub is_query : MdKind → Bool
is_query Notify = false
is_query Request = false
is_query Reply = false
is_query Query = true
is_query Confirm = false
is_query Error = false

-- the message answers a request of the caller's session, with topology counters that match the
-- caller's
-- rule: caller.answers
unfoldable pub is_for_caller : Caller → MdHead → Bool
is_for_caller c head =
    is_answer head.kind && head.session.0 == c.terms.session.0 && topo_valid head.topo c.terms.topo

-- there is room for one more answer: there are fewer than eight, and fewer than expected
-- rule: caller.places
unfoldable pub has_place : Caller → Bool
has_place c =
    nat_lt (length c.answers) 8
    && (c.terms.expected == 0 || nat_lt (length c.answers) c.terms.expected)

-- acceptance: the message is for the caller, there is room for it, and its source hasn't answered
-- yet
-- rule: caller.once
unfoldable pub is_accepted_answer : Caller → Place → MdHead → Bool
is_accepted_answer c src head =
    is_for_caller c head && has_place c && not (has_answered c.answers src)

-- the answer that a message is
abbrev pub answer_of : Place → MdHead → RequestAnswer
answer_of src head =
    record { place = src; kind = head.kind; confirm_owed = is_query head.kind }

-- the deadline after an answer: a query moves it to the end of its own time, if this is later
-- rule: caller.query
unfoldable pub deadline_after : Option ℕ → MdHead → ℕ → Option ℕ
deadline_after deadline head now =
    if is_query head.kind
    then option_map (λ moment. max moment (reply_by head.timeout now)) deadline
    else deadline

-- an accepted answer is added to the others
abbrev pub answering : Caller → Place → MdHead → ℕ → Caller
answering c src head now = record c {
  answers = c.answers ++ answer_of src head ∷ [];
  deadline = deadline_after c.deadline head now;
}

-- complete: a number of answers was expected, that many came, and none awaits a confirmation
-- rule: caller.complete
unfoldable pub is_complete : Caller → Bool
is_complete c =
    nat_lt 0 c.terms.expected && nat_le c.terms.expected (length c.answers)
    && not (awaits_any c.answers)

-- what a caller reports that accepted an answer
unfoldable pub answer_taken : Caller → Taken
answer_taken c = if is_complete c then RepliedLast else Replied

-- when it is to close
abbrev pub caller_due : Caller → Option ℕ
caller_due c = c.deadline

-- which telegrams are for a caller; no process data is
abbrev pub caller_addressed : Caller → TelegramModel → Globals → Bool
caller_addressed c (PdIs src dst telegram) globals = false
caller_addressed c (MdIs src dst telegram) globals = is_for_caller c telegram.head

-- reception: an accepted answer is added, any other telegram changes nothing
abbrev pub caller_taking : Caller → TelegramModel → Globals → Bool → Reception Caller
caller_taking c (PdIs src dst telegram) globals fits = record { object = c; taken = NotTaken }
caller_taking c (MdIs src dst telegram) globals fits =
    if is_accepted_answer c src telegram.head
    then record {
      object = answering c src telegram.head globals.now;
      taken = answer_taken (answering c src telegram.head globals.now);
    }
    else record { object = c; taken = NotTaken }

-- why it closes at its deadline: the first of these that applies
-- rule: caller.reason
unfoldable pub reason_of : Caller → Reason
reason_of c =
    if length c.answers == 0 then NoReply else
    if nat_lt (length c.answers) c.terms.expected then NotAllReplies else
    if awaits_any c.answers then NotConfirmed else Done

-- no answer came, and a repeat is left
-- rule: caller.unanswered
unfoldable pub is_repeating : Caller → Bool
is_repeating c = length c.answers == 0 && nat_lt 0 c.left

-- one repeat is used up, and the timeout restarts
-- rule: caller.deadline
abbrev pub waiting_again : Caller → ℕ → Caller
waiting_again c now = record c { left = c.left - 1; deadline = Some (now + c.terms.timeout) }

-- a repeat: the request is sent again, with the number of those sent before as its sequence
-- counter, where its topology counters match the node's; else nothing is sent, and that number
-- stays
-- rule: caller.repeat
abbrev pub repeating : Caller → Globals → Firing Caller
repeating c globals =
    if topo_valid c.terms.topo globals.topo
    then record {
      object = record (waiting_again c globals.now) { counter = next_counter c.counter };
      fired = Again (request_of c.terms c.counter);
    }
    else record { object = waiting_again c globals.now; fired = NotFired }

-- the deadline: a repeat, or the end
abbrev pub caller_firing : Caller → Globals → Firing Caller
caller_firing c globals =
    if is_repeating c
    then repeating c globals
    else record { object = record c { deadline = None }; fired = Closed (reason_of c) }

-- what the laws of objects require of a caller: that it waits for a time
unfoldable pub is_sound_caller : Caller → Bool
is_sound_caller c = nat_lt 0 c.terms.timeout

-- a confirmation to a place that awaits one ends this; to any other it changes nothing
unfoldable pub confirming : Caller → Place → Caller
confirming c place =
    if awaits c.answers place
    then record c { answers = confirmed c.answers place }
    else c

-- why it is over before its deadline, if it is
unfoldable pub closed_of : Caller → Option Reason
closed_of c = if is_complete c then Some Done else None
