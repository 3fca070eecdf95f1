use Rattle.std.proofs.Common.{◌∙◌, ◌++◌, [], false, true, length}
use Rattle.trdp_lines.specs.Seats.{PathState, is_seated}
use Rattle.trdp_lines.proofs.AskingLemmas.{accepts_next, asks_all, reads_all, tries_all}
use Rattle.trdp_lines.proofs.BetweenLemmas.{told_next}
use Rattle.trdp_lines.proofs.ClosingLemmas.{there_of}
use Rattle.trdp_lines.proofs.ComingLemmas.{comes_then, served_step}
use Rattle.trdp_lines.proofs.DecidingLemmas.{decides_next}
use Rattle.trdp_lines.proofs.HearingLemmas.{hears_found, hears_step, hears_unfound, quiet_take}
use Rattle.trdp_lines.proofs.HearingLemmas.{unheard_before}
use Rattle.trdp_lines.proofs.RoundLemmas.{in_turn}
use Rattle.trdp_lines.proofs.TakeLemmas.{none_found, none_of, text_found, text_heard}
use Rattle.trdp_lines.proofs.path.Path.take.Goals as goal

pub returns-in-Some-clause-next : goal.returns-in-Some-clause-next
returns-in-Some-clause-next g c =
    let inside = c.self.inside in
    let path : PathState _ = record {
      connections = inside.connections;
      seats = inside.seats.items;
      waiting = inside.waiting;
      came = inside.came;
      next = inside.next;
      heard = inside.heard;
    } in
    let next = text_found g.P.Policy.rule g.C.Connections.calls path c.admit-admitted.new.self
    c.flush.new.self c.next_of_all.new.self (length c.args.room.now) c.in-Some.found
    c.next_of_all.new.room c.admit-admitted.ensures.hands_in
    c.flush.ensures.goes c.in-Some.ensures.finds in
    rw (← c.self.view_is) (text_heard g.P.Policy.rule g.C.Connections.calls path _ _ _ _ true
    (rw (← c.self-2.view_is) at next))

pub returns-in-Some-clause-came : goal.returns-in-Some-clause-came
returns-in-Some-clause-came g c =
    let rule = g.P.Policy.rule in
    let calls = g.C.Connections.calls in
    let came = comes_then rule calls _ _ c.flush.new.self c.next_of_all.new.self _
    (comes_then rule calls _ _ c.admit-admitted.new.self c.flush.new.self []
    c.admit-admitted.ensures.came c.flush.ensures.goes) c.in-Some.ensures.finds.goes in
    rw (← c.self.view_is) (rw (← c.self-2.view_is) at came)

pub returns-in-Some-clause-served : goal.returns-in-Some-clause-served
returns-in-Some-clause-served g c =
    let inside = c.self.inside in
    let path : PathState _ = record {
      connections = inside.connections;
      seats = inside.seats.items;
      waiting = inside.waiting;
      came = inside.came;
      next = inside.next;
      heard = inside.heard;
    } in
    let rule = g.P.Policy.rule in
    let calls = g.C.Connections.calls in
    let served = served_step rule calls path c.flush.new.self c.next_of_all.new.self _
    (served_step rule calls path c.admit-admitted.new.self c.flush.new.self []
    c.admit-admitted.ensures.served c.flush.ensures.goes) c.in-Some.ensures.finds.goes in
    rw (← c.self.view_is) (rw (← c.self-2.view_is) at served)

pub returns-in-Some-clause-there : goal.returns-in-Some-clause-there
returns-in-Some-clause-there g c = there_of _ _ _ c.sound.ensures.places.present

pub returns-in-Some-clause-tried : goal.returns-in-Some-clause-tried
returns-in-Some-clause-tried g c =
    let rule = g.P.Policy.rule in
    let calls = g.C.Connections.calls in
    let rest = hears_step rule calls c.flush.new.self c.next_of_all.new.self _
    c.in-Some.ensures.finds.goes in
    let tried = tries_all _ _ _ _ _ _ _ _ _ _ _ c.admit-admitted.new.self.seats
    c.admit-admitted.ensures.asked c.admit-admitted.ensures.taken c.flush.ensures.tried rest in
    rw (← c.self.view_is) (rw (← c.self-2.view_is) at tried)

pub returns-in-Some-clause-accepts : goal.returns-in-Some-clause-accepts
returns-in-Some-clause-accepts g c =
    let goes = c.flush.ensures.goes in
    let rest = c.in-Some.ensures.finds.goes in
    let accepts = accepts_next _ _ _ _ _ _ (goes.more ++ rest.more)
    c.admit-admitted.ensures.asked
    (told_next _ _ _ goes.more rest.more goes.told rest.told) in
    rw (← c.self.view_is) (rw (← c.self-2.view_is) at accepts)

pub returns-in-Some-clause-heard : goal.returns-in-Some-clause-heard
returns-in-Some-clause-heard g c =
    let found = hears_found g.P.Policy.rule g.C.Connections.calls _ c.admit-admitted.new.self
    c.flush.new.self c.next_of_all.new.self _ _ _ _ c.admit-admitted.ensures.heard
    c.flush.ensures.goes c.in-Some.ensures.finds in
    rw (← c.self.view_is) (rw (← c.self-2.view_is) at found)

pub returns-in-Some-clause-gone : goal.returns-in-Some-clause-gone
returns-in-Some-clause-gone g c = rw (← c.self-2.view_is) at c.in-Some.ensures.finds.gone

pub returns-in-Ok-clause-next : goal.returns-in-Ok-clause-next
returns-in-Ok-clause-next g c =
    let inside = c.self.inside in
    let path : PathState _ = record {
      connections = inside.connections;
      seats = inside.seats.items;
      waiting = inside.waiting;
      came = inside.came;
      next = inside.next;
      heard = inside.heard;
    } in
    rw (← c.self.view_is) (none_found g.P.Policy.rule g.C.Connections.calls path
    c.admit-admitted.new.self c.flush.new.self c.next_of_all.new.self (length c.args.room.now)
    c.next_of_all.new.room
    c.admit-admitted.ensures.hands_in c.flush.ensures.goes c.in-None.ensures.finds
    c.in-None.ensures.asked c.sound-in-None.ensures)

pub returns-in-Err-clause-refused : goal.returns-in-Err-clause-refused
returns-in-Err-clause-refused g c =
    let inside = c.self.inside in
    let path : PathState _ = record {
      connections = inside.connections;
      seats = inside.seats.items;
      waiting = inside.waiting;
      came = inside.came;
      next = inside.next;
      heard = inside.heard;
    } in
    rw (← c.self.view_is) (none_found g.P.Policy.rule g.C.Connections.calls path
    c.admit-admitted.new.self c.flush.new.self c.next_of_all.new.self (length c.args.room.now)
    c.next_of_all.new.room
    c.admit-admitted.ensures.hands_in c.flush.ensures.goes c.in-None.ensures.finds
    c.in-None.ensures.asked c.sound-in-None.ensures)

pub returns-in-Ok-clause-came : goal.returns-in-Ok-clause-came
returns-in-Ok-clause-came g c =
    let rule = g.P.Policy.rule in
    let calls = g.C.Connections.calls in
    rw (← c.self.view_is) (comes_then rule calls _ _ c.flush.new.self c.next_of_all.new.self []
    (comes_then rule calls _ _ c.admit-admitted.new.self c.flush.new.self []
    c.admit-admitted.ensures.came c.flush.ensures.goes) c.in-None.ensures.finds)

pub returns-in-Err-clause-came : goal.returns-in-Err-clause-came
returns-in-Err-clause-came g c =
    let rule = g.P.Policy.rule in
    let calls = g.C.Connections.calls in
    rw (← c.self.view_is) (comes_then rule calls _ _ c.flush.new.self c.next_of_all.new.self []
    (comes_then rule calls _ _ c.admit-admitted.new.self c.flush.new.self []
    c.admit-admitted.ensures.came c.flush.ensures.goes) c.in-None.ensures.finds)

pub returns-in-Ok-clause-served : goal.returns-in-Ok-clause-served
returns-in-Ok-clause-served g c =
    let inside = c.self.inside in
    let path : PathState _ = record {
      connections = inside.connections;
      seats = inside.seats.items;
      waiting = inside.waiting;
      came = inside.came;
      next = inside.next;
      heard = inside.heard;
    } in
    let rule = g.P.Policy.rule in
    let calls = g.C.Connections.calls in
    rw (← c.self.view_is) (served_step rule calls path c.flush.new.self c.next_of_all.new.self []
    (served_step rule calls path c.admit-admitted.new.self c.flush.new.self []
    c.admit-admitted.ensures.served c.flush.ensures.goes) c.in-None.ensures.finds)

pub returns-in-Err-clause-served : goal.returns-in-Err-clause-served
returns-in-Err-clause-served g c =
    let inside = c.self.inside in
    let path : PathState _ = record {
      connections = inside.connections;
      seats = inside.seats.items;
      waiting = inside.waiting;
      came = inside.came;
      next = inside.next;
      heard = inside.heard;
    } in
    let rule = g.P.Policy.rule in
    let calls = g.C.Connections.calls in
    rw (← c.self.view_is) (served_step rule calls path c.flush.new.self c.next_of_all.new.self []
    (served_step rule calls path c.admit-admitted.new.self c.flush.new.self []
    c.admit-admitted.ensures.served c.flush.ensures.goes) c.in-None.ensures.finds)

pub returns-in-Ok-clause-there : goal.returns-in-Ok-clause-there
returns-in-Ok-clause-there g c = there_of _ (λ n. is_seated n c.next_of_all.new.self)
    c.next_of_all.new.self.came c.sound-in-None.ensures.places.present

pub returns-in-Err-clause-there : goal.returns-in-Err-clause-there
returns-in-Err-clause-there g c = there_of _ (λ n. is_seated n c.next_of_all.new.self)
    c.next_of_all.new.self.came c.sound-in-None.ensures.places.present

pub returns-in-Ok-clause-tried : goal.returns-in-Ok-clause-tried
returns-in-Ok-clause-tried g c =
    let rest = hears_step g.P.Policy.rule g.C.Connections.calls c.flush.new.self
    c.next_of_all.new.self [] c.in-None.ensures.finds in
    rw (← c.self.view_is) (tries_all _ _ _ _ _ _ _ _ _ _ _ c.admit-admitted.new.self.seats
    c.admit-admitted.ensures.asked c.admit-admitted.ensures.taken c.flush.ensures.tried rest)

pub returns-in-Err-clause-tried : goal.returns-in-Err-clause-tried
returns-in-Err-clause-tried g c =
    let rest = hears_step g.P.Policy.rule g.C.Connections.calls c.flush.new.self
    c.next_of_all.new.self [] c.in-None.ensures.finds in
    rw (← c.self.view_is) (tries_all _ _ _ _ _ _ _ _ _ _ _ c.admit-admitted.new.self.seats
    c.admit-admitted.ensures.asked c.admit-admitted.ensures.taken c.flush.ensures.tried rest)

pub returns-in-Ok-clause-accepts : goal.returns-in-Ok-clause-accepts
returns-in-Ok-clause-accepts g c =
    let goes = c.flush.ensures.goes in
    let rest = c.in-None.ensures.finds in
    rw (← c.self.view_is) (accepts_next _ _ _ _ _ _ (goes.more ++ rest.more)
    c.admit-admitted.ensures.asked
    (told_next _ _ _ goes.more rest.more goes.told rest.told))

pub returns-in-Err-clause-accepts : goal.returns-in-Err-clause-accepts
returns-in-Err-clause-accepts g c =
    let goes = c.flush.ensures.goes in
    let rest = c.in-None.ensures.finds in
    rw (← c.self.view_is) (accepts_next _ _ _ _ _ _ (goes.more ++ rest.more)
    c.admit-admitted.ensures.asked
    (told_next _ _ _ goes.more rest.more goes.told rest.told))

pub returns-in-Ok-clause-asked : goal.returns-in-Ok-clause-asked
returns-in-Ok-clause-asked g c = rw (← c.self.view_is) (asks_all g.P.Policy.rule
    g.C.Connections.calls _ c.admit-admitted.new.self c.flush.new.self c.next_of_all.new.self _
    (rw c.in-Ok.is at c.admit-admitted.ensures.asked) c.flush.ensures.unfailed
    (λ is. c.flush.ensures.waiting ∙ c.admit-admitted.ensures.alone is) c.in-None.ensures.asked
    c.sound-in-None.ensures)

pub returns-in-Err-clause-asked : goal.returns-in-Err-clause-asked
returns-in-Err-clause-asked g c = rw (← c.self.view_is) (asks_all g.P.Policy.rule
    g.C.Connections.calls _ c.admit-admitted.new.self c.flush.new.self c.next_of_all.new.self _
    (rw c.in-Err.is at c.admit-admitted.ensures.asked) c.flush.ensures.unfailed
    (λ is. c.flush.ensures.waiting ∙ c.admit-admitted.ensures.alone is) c.in-None.ensures.asked
    c.sound-in-None.ensures)

pub returns-in-Ok-clause-heard : goal.returns-in-Ok-clause-heard
returns-in-Ok-clause-heard g c =
    let unfound = hears_unfound g.P.Policy.rule g.C.Connections.calls _ c.admit-admitted.new.self
    c.flush.new.self c.next_of_all.new.self _ c.admit-admitted.ensures.heard c.flush.ensures.goes
    c.in-None.ensures.finds in
    rw (← c.self.view_is, c.admit-admitted.ensures.waits, ← c.is_some.ensures) unfound

pub returns-in-Err-clause-heard : goal.returns-in-Err-clause-heard
returns-in-Err-clause-heard g c =
    let unfound = hears_unfound g.P.Policy.rule g.C.Connections.calls _ c.admit-admitted.new.self
    c.flush.new.self c.next_of_all.new.self _ c.admit-admitted.ensures.heard c.flush.ensures.goes
    c.in-None.ensures.finds in
    rw (← c.self.view_is, c.admit-admitted.ensures.waits, ← c.is_some.ensures) unfound

pub returns-in-Ok-clause-quiet : goal.returns-in-Ok-clause-quiet
returns-in-Ok-clause-quiet g c =
    let unfound = hears_unfound g.P.Policy.rule g.C.Connections.calls _ c.admit-admitted.new.self
    c.flush.new.self c.next_of_all.new.self _ c.admit-admitted.ensures.heard c.flush.ensures.goes
    c.in-None.ensures.finds in
    rw (← c.self.view_is, c.admit-admitted.ensures.waits)
    (quiet_take _ _ false c.self.inside.heard _ _ (rw c.is_some.ensures at unfound))

pub returns-in-Err-clause-quiet : goal.returns-in-Err-clause-quiet
returns-in-Err-clause-quiet g c =
    let unfound = hears_unfound g.P.Policy.rule g.C.Connections.calls _ c.admit-admitted.new.self
    c.flush.new.self c.next_of_all.new.self _ c.admit-admitted.ensures.heard c.flush.ensures.goes
    c.in-None.ensures.finds in
    rw (← c.self.view_is, c.admit-admitted.ensures.waits)
    (quiet_take _ _ false c.self.inside.heard _ _ (rw c.is_some.ensures at unfound))

pub returns-in-Ok-clause-read : goal.returns-in-Ok-clause-read
returns-in-Ok-clause-read g c = λ unheard.
    let rule = g.P.Policy.rule in
    let calls = g.C.Connections.calls in
    let unfound = hears_unfound rule calls _ c.admit-admitted.new.self c.flush.new.self
    c.next_of_all.new.self _ c.admit-admitted.ensures.heard c.flush.ensures.goes
    c.in-None.ensures.finds in
    let quiet = quiet_take _ _ false c.self.inside.heard _ _ (rw c.is_some.ensures at unfound)
    unheard in
    let mid = unheard_before _ _ _ _ (hears_step rule calls c.admit-admitted.new.self
    c.flush.new.self [] c.flush.ensures.goes) (unheard_before _ _ _ _ (hears_step rule calls
    c.flush.new.self c.next_of_all.new.self [] c.in-None.ensures.finds) unheard) in
    let unwaited = c.flush.ensures.waiting ∙ c.admit-admitted.ensures.waiting mid
    ∙ none_of c.self.inside.waiting quiet.unwaited in
    rw (← c.self.view_is) (reads_all rule calls _ c.admit-admitted.new.self c.flush.new.self
    c.next_of_all.new.self _ c.admit-admitted.ensures.heard c.flush.ensures.goes unwaited
    c.in-None.ensures.asked c.sound-in-None.ensures)

pub returns-in-Err-clause-read : goal.returns-in-Err-clause-read
returns-in-Err-clause-read g c = λ unheard.
    let rule = g.P.Policy.rule in
    let calls = g.C.Connections.calls in
    let unfound = hears_unfound rule calls _ c.admit-admitted.new.self c.flush.new.self
    c.next_of_all.new.self _ c.admit-admitted.ensures.heard c.flush.ensures.goes
    c.in-None.ensures.finds in
    let quiet = quiet_take _ _ false c.self.inside.heard _ _ (rw c.is_some.ensures at unfound)
    unheard in
    let mid = unheard_before _ _ _ _ (hears_step rule calls c.admit-admitted.new.self
    c.flush.new.self [] c.flush.ensures.goes) (unheard_before _ _ _ _ (hears_step rule calls
    c.flush.new.self c.next_of_all.new.self [] c.in-None.ensures.finds) unheard) in
    let unwaited = c.flush.ensures.waiting ∙ c.admit-admitted.ensures.waiting mid
    ∙ none_of c.self.inside.waiting quiet.unwaited in
    rw (← c.self.view_is) (reads_all rule calls _ c.admit-admitted.new.self c.flush.new.self
    c.next_of_all.new.self _ c.admit-admitted.ensures.heard c.flush.ensures.goes unwaited
    c.in-None.ensures.asked c.sound-in-None.ensures)

pub returns-in-Ok-clause-decided : goal.returns-in-Ok-clause-decided
returns-in-Ok-clause-decided g c =
    let asked = c.admit-admitted.ensures.asked in
    let goes = c.flush.ensures.goes in
    rw (← c.self.view_is) (decides_next _ _ _ asked.more _ asked.told
    (decides_next _ _ _ goes.more _ goes.told c.in-None.ensures.decided))

pub returns-in-Err-clause-decided : goal.returns-in-Err-clause-decided
returns-in-Err-clause-decided g c =
    let asked = c.admit-admitted.ensures.asked in
    let goes = c.flush.ensures.goes in
    rw (← c.self.view_is) (decides_next _ _ _ asked.more _ asked.told
    (decides_next _ _ _ goes.more _ goes.told c.in-None.ensures.decided))

pub returns-in-Some-clause-turn : goal.returns-in-Some-clause-turn
returns-in-Some-clause-turn g c =
    let inside = c.self.inside in
    let path : PathState _ = record {
      connections = inside.connections;
      seats = inside.seats.items;
      waiting = inside.waiting;
      came = inside.came;
      next = inside.next;
      heard = inside.heard;
    } in
    let asked = c.admit-admitted.ensures.asked in
    let goes = c.flush.ensures.goes in
    let turn = in_turn g.P.Policy.rule g.C.Connections.calls path c.flush.new.self
    c.next_of_all.new.self (asked.more ++ goes.more) c.in-Some.found.0 true
    (told_next _ _ _ asked.more goes.more asked.told goes.told)
    (c.flush.ensures.next ∙ c.admit-admitted.ensures.next)
    (λ is. c.flush.ensures.waiting ∙ c.admit-admitted.ensures.alone is)
    c.in-Some.ensures.found in
    rw (← c.self.view_is) (rw (← c.self-2.view_is) at turn)
