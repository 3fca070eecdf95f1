use Rattle.std.proofs.Common.{◌≡◌, Some, ◌∙◌, sym, ap, length, arith}
use Rattle.trdp_filter.specs.Telegrams.{telegram_model}
use Rattle.trdp_head.specs.declared.pd.PdKind.TheVariants.{PullRequest}
use Rattle.trdp_head.specs.PdTelegrams.{PdTelegram}
use Rattle.trdp_datagrams.specs.Sought.{sought_by}
use Rattle.trdp_datagrams.proofs.CostLemmas.Sessions.{part_asked}
use Rattle.trdp_datagrams.proofs.CostLemmas.Telegrams.{data_rows, heard_rows}
use Rattle.trdp_datagrams.proofs.CostLemmas.Telegrams.{rows_within, meant_within}
use Rattle.trdp_datagrams.proofs.NoteLemmas.ListenersAlone.{unasked_part}
use Rattle.trdp_store.proofs.StoreLemmas.Keys.{KeysTell}
use Rattle.trdp_datagrams.proofs.NoteLemmas.ByCom.{sought_reply, sought_own, run_noted, run_room}
use Rattle.trdp_datagrams.proofs.addressees.note_all.Goals as goal
use Rattle.trdp_datagrams.proofs.addressees.note_all.Goals.{After-note_run, in-PullRequest, in_default}
use Rattle.trdp_datagrams.proofs.addressees.note_all.Goals.{in_default-via-in_default}
use Rattle.trdp_datagrams.proofs.addressees.note_all.Goals.{in_default-via-in-PullRequest+else-head-ne0}

found : (c : After-note_run) → c.match-head.com_id ≡ sought_by c.in-Pd.view.head
found c =
    let head = c.in-Pd.view.head in
    elim c.match-head.branch [
      | in-PullRequest w ↦
          w.com_id-is ∙ sought_reply head w.in-PullRequest.is w.if-head-ne0.true
      | in_default w ↦
          let none : head.kind ≡ PullRequest → head.reply_com_id ≡ 0 = elim w.in_default.branch [
            | in_default-via-in-PullRequest+else-head-ne0 v ↦ λ is. v.if-head-ne0.false
            | in_default-via-in_default v ↦ λ is. absurd (v.in_default.not-PullRequest is)
          ] in
          w.com_id-is ∙ sought_own head none
    ]

pub returns-after-head-clause-noted : goal.returns-after-head-clause-noted
returns-after-head-clause-noted c =
    let after = (goal.at.returns-after-head-clause-noted c).After-note_run in
    let tell : KeysTell c.args.store.now =
    record { found = c.sound.ensures.found; listed = c.sound.ensures.listed } in
    let noted = rw (c.clear.ensures.items, found after) at c.note_run.ensures.noted in
    rw c.in-Pd.is (rw c.in-Pd.is at noted
    ∙ run_noted c.args.store.now c.in-Pd.src c.in-Pd.dst _ c.args.globals.now tell)

pub returns-after-head-clause-room : goal.returns-after-head-clause-room
returns-after-head-clause-room c =
    let after = (goal.at.returns-after-head-clause-room c).After-note_run in
    let tell : KeysTell c.args.store.now =
    record { found = c.sound.ensures.found; listed = c.sound.ensures.listed } in
    let room = rw (found after) at c.note_run.ensures.room in
    rw c.in-Pd.is (rw c.in-Pd.is at room
    ∙ run_room c.args.store.now c.in-Pd.src c.in-Pd.dst _ c.args.globals.now tell)

pub note_run-requires : goal.note_run-requires
note_run-requires c =
    omega (
      arith,
      rows_within (Some c.match-head.com_id) c.args.store.now c.sound.ensures.room,
      c.clear.ensures.len,
      c.clear.ensures.capacity,
      c.requires.capacity,
    )

pub note_hearers-requires-clause-capacity : goal.note_hearers-requires-clause-capacity
note_hearers-requires-clause-capacity c =
    omega (
      arith,
      meant_within (telegram_model c.args.telegram.now) c.args.store.now c.sound.ensures.room,
      c.requires.capacity,
    )

pub note_parts-requires-clause-capacity : goal.note_parts-requires-clause-capacity
note_parts-requires-clause-capacity c =
    omega (
      arith,
      meant_within (telegram_model c.args.telegram.now) c.args.store.now c.sound.ensures.room,
      c.requires.capacity,
    )

pub note_hearers-requires-clause-unasked : goal.note_hearers-requires-clause-unasked
note_hearers-requires-clause-unasked c =
    unasked_part (telegram_model c.args.telegram.now) c.in-Md.src
    c.in-Md.dst _ (ap telegram_model c.in-Md.is) (sym c.part_of.ensures ∙ c.in-None.is)

pub returns-after-head-clause-few : goal.returns-after-head-clause-few
returns-after-head-clause-few c =
    let after = (goal.at.returns-after-head-clause-few c).After-note_run in
    let few = rw (found after) at c.note_run.ensures.few in
    let empty = ap length c.clear.ensures.items in
    let t : PdTelegram = record { head = c.in-Pd.view.head; payload = c.in-Pd.view.payload.now } in
    rw c.in-Pd.is (omega (arith, few, empty, data_rows c.in-Pd.src c.in-Pd.dst t c.args.store.now))

pub returns-after-head-clause-tests : goal.returns-after-head-clause-tests
returns-after-head-clause-tests c =
    let after = (goal.at.returns-after-head-clause-tests c).After-note_run in
    let tests = rw (found after) at c.note_run.ensures.tests in
    let t : PdTelegram = record { head = c.in-Pd.view.head; payload = c.in-Pd.view.payload.now } in
    rw c.in-Pd.is (omega (arith, tests, data_rows c.in-Pd.src c.in-Pd.dst t c.args.store.now))

pub returns-in-None-clause-tests : goal.returns-in-None-clause-tests
returns-in-None-clause-tests c =
    let unasked = unasked_part (telegram_model c.args.telegram.now) c.in-Md.src
    c.in-Md.dst _ (ap telegram_model c.in-Md.is) (sym c.part_of.ensures ∙ c.in-None.is) in
    omega (
      arith,
      c.note_hearers.ensures.tests,
      heard_rows (telegram_model c.args.telegram.now) c.args.store.now unasked,
    )

pub returns-in-Some-clause-unasked : goal.returns-in-Some-clause-unasked
returns-in-Some-clause-unasked c =
    λ is. absurd (part_asked _ _ (sym c.part_of.ensures ∙ c.in-Some.is) is)
