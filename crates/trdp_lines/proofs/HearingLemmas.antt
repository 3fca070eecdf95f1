-- What calls bring, one after another.
-- For `Path`.
-- By: something is among all calls if it is among those of one part.
use Rattle.std.proofs.Common.{◌≡◌, ℕ, ◌||◌, ◌++◌, List, [], ◌∷◌, Bool, true, false, map, refl, ap}
use Rattle.std.proofs.Common.{sym, ◌∙◌, Option}
use Rattle.std.proofs.lemmas.Bool.{or_parts}
use Rattle.std.proofs.lemmas.List.Folds.{list_any-append}
use Rattle.std.proofs.Math.Bool.{or_assoc, or-true}
use Rattle.trdp_lines.specs.declared.connections.Came.{Came}
use Rattle.trdp_lines.specs.declared.connections.Came.TheVariants.{Bytes, Nothing, Ended}
use Rattle.trdp_lines.specs.declared.rule.Rule.{Rule}
use Rattle.trdp_lines.specs.Connections.{ConnectionCall, Closes, Reads, Writes, Writing}
use Rattle.trdp_base.specs.Reported.{TellsMore}
use Rattle.trdp_lines.specs.Connections.{read_answer_in, came_or_ended, reading_of}
use Rattle.trdp_lines.specs.Hearings.{Hears, IsQuiet, brings, has_brought}
use Rattle.trdp_lines.specs.Hearings.{is_something}
use Rattle.trdp_lines.specs.Said.{Said}
use Rattle.trdp_lines.specs.Seats.{PathState}
use Rattle.trdp_lines.specs.Steps.{Finds, Goes}
use Rattle.trdp_lines.specs.Turns.{IsRefused}
use Rattle.trdp_lines.proofs.BetweenLemmas.{tells_nothing, told_next}
use Rattle.trdp_lines.proofs.CallLemmas.{or_false}

-- what is heard of one call
pub hears_call : (calls calls_then : Option (List ConnectionCall)) (call : ConnectionCall)
    (heard heard_then : Bool) → TellsMore calls calls_then (call ∷ [])
    → heard_then ≡ heard || brings call → Hears calls calls_then heard heard_then
hears_call calls calls_then call heard heard_then told same = record {
  more = call ∷ [];
  told = told;
  hears = same ∙ ap (λ (b : Bool). heard || b) (sym (or_false (brings call)));
}

-- where nothing is called nothing more is heard
pub hears_none : (calls : Option (List ConnectionCall)) (heard : Bool)
    → Hears calls calls heard heard
hears_none calls heard = record {
  more = [];
  told = tells_nothing calls;
  hears = sym (or_false heard);
}

-- what is heard of calls one after the other
pub hears_next : (one two three : Option (List ConnectionCall)) (a b c : Bool)
    → Hears one two a b → Hears two three b c → Hears one three a c
hears_next one two three a b c first second = record {
  more = first.more ++ second.more;
  told = told_next one two three first.more second.more first.told second.told;
  hears = second.hears ∙ ap (λ (x : Bool). x || has_brought second.more) first.hears
      ∙ or_assoc a (has_brought first.more) (has_brought second.more)
      ∙ ap (λ (x : Bool). a || x) (sym (list_any-append brings first.more second.more));
}

-- writes bring nothing
pub writes_bring : (to : ℕ) (writings : List Writing)
    → has_brought (map (Writes to) writings) ≡ false
writes_bring to [] = refl
writes_bring to (writing ∷ writings) = writes_bring to writings

-- a read brings something where something came
something_came : (came : Came) (bytes : List ℕ)
    → is_something (read_answer_in came bytes) ≡ came_or_ended came
something_came (Bytes n) bytes = refl
something_came Nothing bytes = refl
something_came Ended bytes = refl

-- what is heard of a read
pub hears_read : (calls calls_then : Option (List ConnectionCall)) (n : ℕ) (came : Came)
    (room : ℕ) (bytes : List ℕ)
    → TellsMore calls calls_then (Reads n (reading_of came room bytes) ∷ [])
    → Hears calls calls_then false (came_or_ended came)
hears_read calls calls_then n came room bytes told =
    hears_call calls calls_then (Reads n (reading_of came room bytes)) false
    (came_or_ended came) told
    (sym (something_came came bytes))

-- by the refusal of a connection nothing more is heard
pub hears_refused : (n : ℕ) (calls calls_then : Option (List ConnectionCall)) (heard : Bool)
    → IsRefused n calls calls_then → Hears calls calls_then heard heard
hears_refused n calls calls_then heard refused = record {
  more = Writes n refused.writing ∷ Closes n ∷ [];
  told = refused.told;
  hears = sym (or_false heard);
}

-- what is heard by a step of a path
pub hears_step : {C : Type 0} (rule : Rule) (calls_of : C → Option (List ConnectionCall))
    (path path_then : PathState C) (texts : List Said) → Goes rule calls_of path path_then texts
    → Hears (calls_of path.connections) (calls_of path_then.connections) path.heard path_then.heard
hears_step rule calls_of path path_then texts goes = record {
  more = goes.more;
  told = goes.told;
  hears = goes.hears;
}

-- what is heard where a text was found
pub hears_found : {C : Type 0} (rule : Rule) (calls_of : C → Option (List ConnectionCall))
    (one : Option (List ConnectionCall)) (a b c : PathState C) (heard : Bool) (room : ℕ)
    (found : ℕ × ℕ) (room_then : List ℕ)
    → Hears one (calls_of a.connections) heard a.heard → Goes rule calls_of a b []
    → Finds rule calls_of b c room found room_then
    → Hears one (calls_of c.connections) true true
hears_found rule calls_of one a b c heard room found room_then first goes finds = record {
  more = first.more ++ goes.more ++ finds.goes.more;
  told = told_next one (calls_of b.connections) (calls_of c.connections)
      (first.more ++ goes.more) finds.goes.more (told_next one (calls_of a.connections)
      (calls_of b.connections) first.more goes.more first.told goes.told) finds.goes.told;
  hears = refl;
}

-- what is heard where none was
pub hears_unfound : {C : Type 0} (rule : Rule) (calls_of : C → Option (List ConnectionCall))
    (one : Option (List ConnectionCall)) (a b c : PathState C) (heard : Bool)
    → Hears one (calls_of a.connections) heard a.heard → Goes rule calls_of a b []
    → Goes rule calls_of b c [] → Hears one (calls_of c.connections) heard c.heard
hears_unfound rule calls_of one a b c heard first goes finds =
    hears_next one (calls_of b.connections) (calls_of c.connections) heard b.heard c.heard
    (hears_next one (calls_of a.connections) (calls_of b.connections) heard a.heard b.heard first
    (hears_step rule calls_of a b [] goes)) (hears_step rule calls_of b c [] finds)

-- where nothing is heard then, it was quiet
pub quiet_take : (calls calls_then : Option (List ConnectionCall)) (found heard waits : Bool)
    (heard_then : Bool) → Hears calls calls_then (found || heard || waits) heard_then
    → heard_then ≡ false → IsQuiet calls calls_then heard waits found
quiet_take calls calls_then found heard waits heard_then hears none =
    let before = found || heard in
    let all = or_parts (before || waits) (has_brought hears.more) (sym hears.hears ∙ none) in
    let both = or_parts before waits all.0 in
    let first = or_parts found heard both.0 in
    record {
      more = hears.more;
      told = hears.told;
      unheard = first.1;
      unwaited = both.1;
      unfound = first.0;
      nothing = all.1;
    }

-- where nothing is heard then, nothing was before
pub unheard_before : (calls calls_then : Option (List ConnectionCall)) (heard heard_then : Bool)
    → Hears calls calls_then heard heard_then → heard_then ≡ false → heard ≡ false
unheard_before calls calls_then heard heard_then hears none =
    (or_parts heard (has_brought hears.more) (sym hears.hears ∙ none)).0

-- by writes nothing more is heard
pub writes_hear : (n : ℕ) (writings : List Writing) (heard : Bool)
    → heard ≡ (heard || has_brought (map (Writes n) writings))
writes_hear n writings heard =
    sym (ap (λ (b : Bool). heard || b) (writes_bring n writings) ∙ or_false heard)

-- where calls bring nothing what was heard before is heard
pub still_heard : (heard brought : Bool) → false ≡ (false || brought)
    → heard ≡ (heard || brought)
still_heard heard brought none =
    sym (ap (λ (b : Bool). heard || b) (sym none) ∙ or_false heard)

-- where they bring something it is heard
pub new_heard : (heard brought : Bool) → true ≡ (false || brought) → true ≡ (heard || brought)
new_heard heard brought some =
    sym (ap (λ (b : Bool). heard || b) (sym some) ∙ or-true heard)

-- a read after which nothing has come found nothing
pub nothing_of : (came : Came) → came_or_ended came ≡ false → came ≡ Nothing
nothing_of (Bytes n) none = cc
nothing_of Nothing none = refl
nothing_of Ended none = cc
