-- What arrives at a wire in memory.
-- For `take_arrival`, `MemoryWire::arrive`, `take` and `rest`.
-- By induction on the arrivals: the first at that port is where the search ends.
use Rattle.std.proofs.Common.{◌≡◌, ◌<◌, ◌≤◌, ◌+◌, zero, suc, ℕ, Bool}
use Rattle.std.proofs.Common.{cond, List, [], ◌∷◌, ◌++◌, Some, None, refl, sym}
use Rattle.std.proofs.Common.{◌∙◌, ap, arith, length, map, take, length-append}
use Rattle.std.specs.Prelude.{slice_get}
use Rattle.std.specs.List.{position, count_by}
use Rattle.std.proofs.lemmas.List.{map-append}
use Rattle.std.proofs.lemmas.List.Sums.{sum_by-cons}
use Rattle.trdp_wire.specs.declared.port.Port.{Port}
use Rattle.trdp_memory.specs.declared.rows.TakeRow.{TakeRow}
use Rattle.trdp_memory.specs.declared.rows.TakeAnswer.{TakeAnswer}
use Rattle.trdp_memory.specs.declared.rows.TakeAnswer.TheVariants.{Failed as RowFailed}
use Rattle.trdp_memory.specs.declared.rows.TakeAnswer.TheVariants.{Nothing as RowNothing}
use Rattle.trdp_memory.specs.declared.rows.TakeAnswer.TheVariants.{Came as RowCame}
use Rattle.trdp_memory.specs.MemoryWires.{ArrivalModel, arrives_at, arrival_for, cut_to, takes_at}
use Rattle.trdp_wire.specs.Ports.{is_port}
use Rattle.trdp_memory.specs.Rows.{arrived_of, row_taking, IsLaidDown, AreLaidDown}
use Rattle.trdp_memory.proofs.FirstLemmas.{found_none, found_some}
use Rattle.trdp_wire.specs.Told.{Arrived, Nothing, Came, Taking, taking_at}

pub arrives_not : (arrivals : List ArrivalModel) (port : Port) (number room : ℕ)
    → position (arrives_at port number) arrivals ≡ None
    → Nothing ≡ arrival_for arrivals port number room
unfolding arrival_for
arrives_not arrivals port number room none =
    ap (cut_to room) (sym (found_none (arrives_at port number) arrivals none))

pub arrives : (arrivals : List ArrivalModel) (port : Port) (number room i : ℕ)
    (arrival : ArrivalModel) (bytes : List ℕ) → position (arrives_at port number) arrivals ≡ Some i
    → slice_get arrivals i ≡ Some arrival → bytes ≡ take room arrival.bytes
    → Came arrival.from bytes ≡ arrival_for arrivals port number room
unfolding arrival_for
arrives arrivals port number room i arrival bytes at is cut =
    ap (Came arrival.from) cut ∙ ap (cut_to room) (sym is)
    ∙ ap (cut_to room) (sym (found_some (arrives_at port number) arrivals i at))

-- one more thing was laid down
get_more : (arrivals : List ArrivalModel) (arrival : ArrivalModel) (i : ℕ)
    → i < length arrivals → slice_get (arrivals ++ arrival ∷ []) i ≡ slice_get arrivals i
get_more [] arrival i below = absurd (omega (arith, below))
get_more (a ∷ arrivals) arrival zero below = refl
get_more (a ∷ arrivals) arrival (suc i) below = get_more arrivals arrival i (omega (arith, below))

arrived_more : (arrivals : List ArrivalModel) (arrival : ArrivalModel) (answer : TakeAnswer)
    → IsLaidDown (length arrivals) answer
    → arrived_of (arrivals ++ arrival ∷ []) answer ≡ arrived_of arrivals answer
arrived_more arrivals arrival RowFailed within = refl
arrived_more arrivals arrival RowNothing within = refl
arrived_more arrivals arrival (RowCame index len) within =
    ap (cut_to len) (get_more arrivals arrival index within)

pub takings_more : (arrivals : List ArrivalModel) (arrival : ArrivalModel) (rows : List TakeRow)
    → AreLaidDown (length arrivals) rows
    → map (row_taking (arrivals ++ arrival ∷ [])) rows ≡ map (row_taking arrivals) rows
takings_more arrivals arrival [] within = refl
takings_more arrivals arrival (row ∷ rows) within =
    ap (λ a. taking_at row.port row.room (λ place. row.ended) a
    ∷ map (row_taking (arrivals ++ arrival ∷ [])) rows)
    (arrived_more arrivals arrival row.answer within.0)
    ∙ ap (λ l. row_taking arrivals row ∷ l) (takings_more arrivals arrival rows within.1)

answer_more : (m n : ℕ) (answer : TakeAnswer) → m ≤ n → IsLaidDown m answer → IsLaidDown n answer
answer_more m n RowFailed le within = tt
answer_more m n RowNothing le within = tt
answer_more m n (RowCame index len) le within = omega (arith, le, within)

rows_more : (m n : ℕ) (rows : List TakeRow) → m ≤ n → AreLaidDown m rows → AreLaidDown n rows
rows_more m n [] le within = tt
rows_more m n (row ∷ rows) le within =
    (answer_more m n row.answer le within.0, rows_more m n rows le within.1)

pub within_more : (arrivals more : List ArrivalModel) (arrival : ArrivalModel) (rows : List TakeRow)
    → more ≡ arrivals ++ arrival ∷ [] → AreLaidDown (length arrivals) rows
    → AreLaidDown (length more) rows
within_more arrivals more arrival rows is within =
    let long : length more ≡ length arrivals + 1 = ap length is
    ∙ length-append arrivals (arrival ∷ []) in
    rows_more (length arrivals) (length more) rows (omega (arith, long)) within

-- one more take was made
within_push : (n : ℕ) (rows : List TakeRow) (row : TakeRow)
    → AreLaidDown n rows → IsLaidDown n row.answer → AreLaidDown n (rows ++ row ∷ [])
within_push n [] row all own = (own, tt)
within_push n (r ∷ rows) row all own = (all.0, within_push n rows row all.1 own)

pub within_row : (n : ℕ) (rows new : List TakeRow) (row : TakeRow)
    → new ≡ rows ++ row ∷ [] → AreLaidDown n rows → IsLaidDown n row.answer → AreLaidDown n new
within_row n rows new row is all own = rw is (within_push n rows row all own)

pub takings_push : (arrivals : List ArrivalModel)
    (rows new : List TakeRow) (port : Port) (room : ℕ) (answer : TakeAnswer) (ended : Bool)
    (arrived : Arrived) → new ≡ rows ++ (let row : TakeRow =
    record { port = port; room = room; answer = answer; ended = ended } in row) ∷ []
    → arrived_of arrivals answer ≡ arrived
    → map (row_taking arrivals) new ≡ map (row_taking arrivals) rows
    ++ taking_at port room (λ place. ended) arrived ∷ []
takings_push arrivals rows new port room answer ended arrived is told =
    ap (map (row_taking arrivals)) is ∙ map-append (row_taking arrivals) rows _
    ∙ ap (λ a. map (row_taking arrivals) rows
    ++ taking_at port room (λ place. ended) a ∷ []) told

pub many_takings : (arrivals : List ArrivalModel) (rows : List TakeRow)
    → length (map (row_taking arrivals) rows) ≡ length rows
many_takings arrivals [] = refl
many_takings arrivals (row ∷ rows) = ap suc (many_takings arrivals rows)

-- the takes of rows at a port
pub takes_rows : (arrivals : List ArrivalModel) (port : Port) (rows : List TakeRow)
    → count_by (λ row. is_port row.port port) rows ≡ takes_at port (map (row_taking arrivals) rows)
unfolding takes_at
takes_rows arrivals port [] = refl
takes_rows arrivals port (row ∷ rows) =
    sum_by-cons (λ (r : TakeRow). cond (is_port r.port port) 1 0) row rows
    ∙ ap (λ n. cond (is_port row.port port) 1 0 + n) (takes_rows arrivals port rows)
    ∙ sym (sum_by-cons (λ (t : Taking). cond (is_port t.port port) 1 0)
    (row_taking arrivals row) (map (row_taking arrivals) rows))
