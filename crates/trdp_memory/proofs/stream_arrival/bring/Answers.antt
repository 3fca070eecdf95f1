use Rattle.std.proofs.Common.{◌≡◌, Some, sym, ◌∙◌, ap, length}
use Rattle.std.specs.Prelude.{slice_set}
use Rattle.std.specs.List.{position}
use Rattle.trdp_memory.specs.MemoryConnections.{StreamArrivalModel, answer_from, has_arrived}
use Rattle.trdp_memory.specs.MemoryConnections.{left_from}
use Rattle.trdp_memory.proofs.ConnectionLemmas.{nothing_there, all_left, first_there, rest_left}
use Rattle.trdp_memory.proofs.ConnectionLemmas.{some_left}
use Rattle.trdp_memory.proofs.FirstLemmas.{first_at, first_past, found_below, passes_first}
use Rattle.trdp_memory.proofs.stream_arrival.bring.Goals as goal

pub returns-in-None-clause-answer : goal.returns-in-None-clause-answer
returns-in-None-clause-answer c =
    let test = has_arrived c.args.number c.args.read in
    nothing_there c.args.number c.args.read (length c.args.room.now) c.args.arrivals.now.items
    (first_past test c.args.arrivals.now.items (ap (position test) (sym c.deref.ensures.value)
    ∙ sym c.place_of.ensures ∙ c.in-None.is))

pub returns-in-None-clause-left : goal.returns-in-None-clause-left
returns-in-None-clause-left c =
    let test = has_arrived c.args.number c.args.read in
    all_left c.args.number c.args.read (length c.args.room.now) c.args.arrivals.now.items
    (first_past test c.args.arrivals.now.items (ap (position test) (sym c.deref.ensures.value)
    ∙ sym c.place_of.ensures ∙ c.in-None.is))

pub returns-in-Some-clause-answer : goal.returns-in-Some-clause-answer
returns-in-Some-clause-answer c =
    let xs = c.args.arrivals.now.items in
    let x : StreamArrivalModel = c.index_mut-arrival.result.now in
    let test = has_arrived c.args.number c.args.read in
    let found : position test xs ≡ Some c.in-Some.place =
    ap (position test) (sym c.deref.ensures.value) ∙ sym c.place_of.ensures ∙ c.in-Some.is in
    c.bring.ensures.answer
    ∙ ap (answer_from (length c.args.room.now)) c.index_mut-arrival.ensures.value
    ∙ first_there c.args.number c.args.read (length c.args.room.now) xs c.in-Some.place x
    (first_at test xs c.in-Some.place found) (found_below test xs c.in-Some.place found)

pub returns-in-Some-clause-left : goal.returns-in-Some-clause-left
returns-in-Some-clause-left c =
    let xs = c.args.arrivals.now.items in
    let x : StreamArrivalModel = c.index_mut-arrival.result.now in
    let test = has_arrived c.args.number c.args.read in
    let found : position test xs ≡ Some c.in-Some.place =
    ap (position test) (sym c.deref.ensures.value) ∙ sym c.place_of.ensures ∙ c.in-Some.is in
    ap (slice_set xs c.in-Some.place) (c.bring.ensures.left
    ∙ ap (left_from (length c.args.room.now)) c.index_mut-arrival.ensures.value)
    ∙ rest_left c.args.number c.args.read (length c.args.room.now) xs c.in-Some.place x
    (first_at test xs c.in-Some.place found) (found_below test xs c.in-Some.place found)

pub bring-requires-clause-there : goal.bring-requires-clause-there
bring-requires-clause-there c =
    let xs = c.args.arrivals.now.items in
    let x : StreamArrivalModel = c.index_mut-arrival.result.now in
    let test = has_arrived c.args.number c.args.read in
    let found : position test xs ≡ Some c.in-Some.place =
    ap (position test) (sym c.deref.ensures.value) ∙ sym c.place_of.ensures ∙ c.in-Some.is in
    some_left c.args.number c.args.read x (ap test c.index_mut-arrival.ensures.value
    ∙ passes_first test xs c.in-Some.place x
    (first_at test xs c.in-Some.place found) (found_below test xs c.in-Some.place found))
