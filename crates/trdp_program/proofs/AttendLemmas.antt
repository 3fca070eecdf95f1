-- The lines of totals that a daemon writes.
-- For `attend`, `attend_service`, `attend_all_lines`, `attend_lines` and `report_daemon`.
-- By a loop's invariant: the turns so far are those up to the latest line.
use Rattle.std.proofs.Common.{◌≡◌, ◌+◌, ◌-◌, ◌^◌, ◌==◌, min, ℕ, suc, Bool, not, false, List, []}
use Rattle.std.proofs.Common.{◌∷◌, ◌++◌, Option, refl, sym, ◌∙◌, ap, subst, arith}
use Rattle.std.proofs.Common.{length, map, take}
use Rattle.std.proofs.Common.{append_assoc, append-nil, Result, Ok, Err, IfErr, OnOk}
use Rattle.std.proofs.Common.{IsErrAnd, inl, inr}
use Rattle.trdp_dataset.specs.Configs.{ConfigModel}
use Rattle.trdp_base.specs.Reported.{TellsMore}
use Rattle.trdp_wire.specs.Told.{Taking, Give}
use Rattle.trdp_daemon.specs.Daemons.{DaemonState, HasServed}
use Rattle.trdp_daemon.specs.Turns.{Turn, offers_of}
use Rattle.trdp_program.specs.declared.faults.ServeFault.{ServeFault}
use Rattle.trdp_program.specs.declared.faults.ServeFault.TheVariants.{Bind, Write, OutOfMemory}
use Rattle.trdp_program.specs.ServiceWires.{HasNoBindFault}
use Rattle.trdp_program.specs.Serving.{AreTotals}
use Rattle.trdp_program.specs.Streams.{Attempt, attempt, written_by, is_cut_behind, cut_line_end}
use Rattle.trdp_program.specs.Attending.{TotalsLine, turns_so_far, line_due, bytes_of_line}
use Rattle.trdp_program.specs.Attending.{text_of_line}
use Rattle.trdp_program.specs.Attending.{EndsWhenDue, ServesUntilDue, HasServedLines}
use Rattle.trdp_program.specs.Attending.{WritesAllLines, WritesUpTo, WritesLinesOver, FailsOver}
use Rattle.trdp_program.specs.Attending.{Attends, WritesLines}
use Rattle.trdp_program.specs.Faults.{AppendsText, EndsService, serve_fault}
use Rattle.trdp_wire.specs.declared.bind_fault.BindFault.{BindFault}
use Rattle.trdp_wire.specs.declared.bind_fault.BindFault.TheVariants as bind
use Rattle.std.proofs.KnownBytes.{Appends-kept}
use Rattle.trdp_base.proofs.ReportedLemmas.{adds_none, adds_both}

-- what a stream has by some attempts and one more
written_more : (before : List Attempt) (bytes : List ℕ) (count : ℕ)
    → written_by (before ++ attempt bytes count ∷ []) ≡ written_by before ++ take count bytes
written_more [] bytes count = append-nil (take count bytes)
written_more (one ∷ before) bytes count =
    ap (λ l. take one.count one.bytes ++ l) (written_more before bytes count)
    ∙ sym (append_assoc (take one.count one.bytes) (written_by before) (take count bytes))

-- whether a line is cut after some bytes and some more
cut_both : (before : Bool) (bytes more : List ℕ)
    → is_cut_behind before (bytes ++ more) ≡ is_cut_behind (is_cut_behind before bytes) more
cut_both before [] more = refl
cut_both before (byte ∷ bytes) more = cut_both (not (byte == 10)) bytes more

-- the totals of a daemon that has served are those of its turns
totals_served : {W C : Type 0} {takings_in : W → Option (List Taking)}
    {gives_in : W → Option (List Give)} {readings_in : C → Option (List ℕ)}
    {config : ConfigModel} {lease : Option ℕ} {wire : W} {clock : C} {n : ℕ}
    {daemon : DaemonState W C}
    (p : HasServed takings_in gives_in readings_in config lease wire clock n daemon)
    → AreTotals config lease p.turns p.gives daemon.totals
totals_served p = record {
  ports = p.ports;
  offers = p.offers;
  totals_are = p.totals;
  counted = p.counted;
}

none_in : {X : Type 0} (xs : List X) → length xs ≡ 0 → xs ≡ []
none_in [] none = refl
none_in (x ∷ xs) none = absurd (omega (arith, none))

none_mapped : {X Y : Type 0} (f : X → Y) (xs : List X) → map f xs ≡ [] → xs ≡ []
none_mapped f [] none = refl
none_mapped f (x ∷ xs) none = absurd (cc)

-- a daemon that has taken no turn has written no line
pub lines_none : {W C : Type 0} {takings_in : W → Option (List Taking)}
    {gives_in : W → Option (List Give)} {readings_in : C → Option (List ℕ)}
    {config : ConfigModel} {lease : Option ℕ} {wire : W} {clock : C} {daemon : DaemonState W C}
    (step due : ℕ) (is_cut : Bool) (told : Option (List Attempt))
    → due ≡ min (0 + step) (2 ^ 64 - 1) → is_cut ≡ false
    → HasServed takings_in gives_in readings_in config lease wire clock 0 daemon
    → WritesLinesOver takings_in gives_in readings_in config lease wire clock step 0 due is_cut told
    told
    daemon
lines_none {config = config} {lease} step due is_cut told due_is whole p =
    let turns : p.turns ≡ [] = none_in p.turns p.count in
    record {
      lines = [];
      served = record {
        n = 0;
        served = p;
        turns_are = turns;
        gives_are = none_mapped (λ give. give.offer) p.gives
            (p.offers ∙ ap (offers_of config lease) turns);
        are_lines = tt;
      };
      count = refl;
      attempts = [];
      are_attempts = refl;
      told = adds_none told;
      due_is = due_is;
      is_cut_is = whole;
    }

-- the line of a daemon that has served on until it was due
abbrev pub next_line : {W C : Type 0} {takings_in : W → Option (List Taking)}
    {gives_in : W → Option (List Give)} {readings_in : C → Option (List ℕ)}
    {config : ConfigModel} {lease : Option ℕ} {wire : W} {clock : C} {due reading : ℕ}
    {turns : List Turn}
    {gives : List Give} {daemon : DaemonState W C}
    → ServesUntilDue takings_in gives_in readings_in config lease wire clock turns gives due reading
    daemon → TotalsLine
next_line {daemon = daemon} p =
    record { turns = p.served.turns; gives = p.served.gives; totals = daemon.totals }

-- the turns up to that line
served_next : {W C : Type 0} {takings_in : W → Option (List Taking)}
    {gives_in : W → Option (List Give)} {readings_in : C → Option (List ℕ)}
    {config : ConfigModel} {lease : Option ℕ} {wire : W} {clock : C} {step due reading : ℕ}
    {lines : List TotalsLine} {daemon next : DaemonState W C}
    (p : HasServedLines takings_in gives_in readings_in config lease wire clock step lines daemon)
    (q : ServesUntilDue takings_in gives_in readings_in config lease wire clock
    p.served.turns p.served.gives due reading next) → due ≡ line_due step (turns_so_far lines)
    → HasServedLines takings_in gives_in readings_in config lease wire clock step
    (next_line q ∷ lines)
    next
served_next p q due = record {
  n = q.n;
  served = q.served;
  turns_are = refl;
  gives_are = refl;
  are_lines = (
    record {
      more = q.more;
      more_gives = q.more_gives;
      turns_are = q.turns_are ∙ ap (λ l. l ++ q.more) p.turns_are;
      gives_are = q.gives_are ∙ ap (λ l. l ++ q.more_gives) p.gives_are;
      ends = subst (λ (t : ℕ). EndsWhenDue t q.more) due q.ends;
      counted = totals_served q.served;
    },
    p.are_lines,
  );
}

-- one more line
pub lines_more : {W C : Type 0} {takings_in : W → Option (List Taking)}
    {gives_in : W → Option (List Give)} {readings_in : C → Option (List ℕ)}
    {config : ConfigModel} {lease : Option ℕ} {wire : W} {clock : C}
    {step n due reading next_due : ℕ}
    {is_cut is_cut_then : Bool} {bytes : List ℕ} {a b c : Option (List Attempt)}
    {daemon next : DaemonState W C} (count : ℕ)
    (p : WritesLinesOver takings_in gives_in readings_in config lease wire clock step n due is_cut a
    b
    daemon)
    → ServesUntilDue takings_in gives_in readings_in config lease wire clock
    p.served.served.turns p.served.served.gives due reading next
    → bytes ≡ cut_line_end is_cut ++ text_of_line next.totals
    → TellsMore b c (attempt bytes count ∷ [])
    → is_cut_then ≡ is_cut_behind is_cut (take count bytes)
    → next_due ≡ min (reading + step) (2 ^ 64 - 1)
    → WritesLinesOver takings_in gives_in readings_in config lease wire clock step (n + 1) next_due
    is_cut_then a c next
lines_more {step = step} {n = n} {is_cut = is_cut} {is_cut_then} {bytes} {a} {b} {c}
    {next = next} count p q bytes_are told cut due =
    let line = next_line q in
    let one_more : suc (length p.lines) ≡ n + 1 = omega (arith, p.count) in
    let whole : bytes ≡ bytes_of_line p.attempts line =
    bytes_are ∙ ap (λ f. cut_line_end f ++ text_of_line next.totals) p.is_cut_is in
    record {
      lines = line ∷ p.lines;
      served = served_next p.served q p.due_is;
      count = one_more;
      attempts = p.attempts ++ attempt bytes count ∷ [];
      are_attempts = (
        p.attempts,
        count,
        p.are_attempts,
        ap (λ l. p.attempts ++ attempt l count ∷ []) whole,
      );
      told = adds_both a b c p.attempts (attempt bytes count ∷ []) p.told told;
      due_is = due ∙ ap (λ r. min (r + step) (2 ^ 64 - 1)) q.reading_is;
      is_cut_is = cut ∙ ap (λ f. is_cut_behind f (take count bytes)) p.is_cut_is
          ∙ sym (ap (is_cut_behind false) (written_more p.attempts bytes count)
          ∙ cut_both false (written_by p.attempts) (take count bytes));
    }

-- a line for which an allocation failed
pub lines_fail : {W C : Type 0} {takings_in : W → Option (List Taking)}
    {gives_in : W → Option (List Give)} {readings_in : C → Option (List ℕ)}
    {config : ConfigModel} {lease : Option ℕ} {wire : W} {clock : C} {step n due reading : ℕ}
    {is_cut : Bool}
    {a b c : Option (List Attempt)} {daemon next : DaemonState W C} {fault : ServeFault}
    (p : WritesLinesOver takings_in gives_in readings_in config lease wire clock step n due is_cut a
    b
    daemon)
    → ServesUntilDue takings_in gives_in readings_in config lease wire clock
    p.served.served.turns p.served.served.gives due reading next
    → fault ≡ OutOfMemory → c ≡ b
    → FailsOver takings_in gives_in readings_in config lease wire clock step a c next fault
lines_fail {a = a} p q is kept = record {
  fault_is = is;
  line = next_line q;
  earlier = p.lines;
  served = served_next p.served q p.due_is;
  attempts = p.attempts;
  are_attempts = p.are_attempts;
  told = subst (λ (l : Option (List Attempt)). TellsMore a l p.attempts) (sym kept) p.told;
}

-- all lines, of whatever wire and clock
pub all_lines : {W C : Type 0} {takings_in : W → Option (List Taking)}
    {gives_in : W → Option (List Give)} {readings_in : C → Option (List ℕ)}
    {config : ConfigModel} {lease : Option ℕ} {wire : W} {clock : C} {step due : ℕ} {is_cut : Bool}
    {a b : Option (List Attempt)} {daemon : DaemonState W C}
    → WritesLinesOver takings_in gives_in readings_in config lease wire clock step (2 ^ 64 - 1) due
    is_cut
    a b daemon → WritesAllLines config lease step a b
all_lines p = record {
  all = record {
    lines = p.lines;
    are_lines = p.served.are_lines;
    attempts = p.attempts;
    are_attempts = p.are_attempts;
    told = p.told;
  };
  count = p.count;
}

-- lines up to a fault, of whatever wire and clock
pub lines_up_to : {W C : Type 0} {takings_in : W → Option (List Taking)}
    {gives_in : W → Option (List Give)} {readings_in : C → Option (List ℕ)}
    {config : ConfigModel} {lease : Option ℕ} {wire : W} {clock : C} {step : ℕ}
    {a b : Option (List Attempt)}
    {daemon : DaemonState W C} (fault : ServeFault)
    → FailsOver takings_in gives_in readings_in config lease wire clock step a b daemon fault
    → WritesUpTo fault config lease step a b
lines_up_to Bind p = let is = p.fault_is in absurd (cc)
lines_up_to Write p = let is = p.fault_is in absurd (cc)
lines_up_to OutOfMemory p = record {
  lines = p.earlier;
  are_lines = p.served.are_lines.1;
  attempts = p.attempts;
  are_attempts = p.are_attempts;
  told = p.told;
}

-- nothing was written before the first line
pub no_lines : (config : ConfigModel) (lease : Option ℕ) (step : ℕ) (told : Option (List Attempt))
    → WritesLines config lease step told told
no_lines config lease step told = record {
  lines = [];
  are_lines = tt;
  attempts = [];
  are_attempts = refl;
  told = adds_none told;
}

-- the same if a port or a path is refused
pub early_end : (fault : BindFault) (config : ConfigModel) (lease : Option ℕ) (step : ℕ)
    (told : Option (List Attempt)) → WritesUpTo (serve_fault fault) config lease step told told
early_end bind.Bind config lease step told = adds_none told
early_end bind.OutOfMemory config lease step told = no_lines config lease step told

-- a daemon's service that ended, and the line of its fault
pub attends_so : {config : ConfigModel} {lease : Option ℕ} {step status : ℕ}
    (end : Result (Unit {0}) ServeFault) (old new : Option (List Attempt))
    (errors before behind : Option (List ℕ)) → OnOk end (WritesAllLines config lease step old new)
    → IfErr end (λ fault. WritesUpTo fault config lease step old new) → AppendsText errors before
    → EndsService end before behind status
    → Attends config lease step old new errors behind status
attends_so (Ok done) old new errors before behind all up_to losses ends = inl (record {
  status_is = ends.0;
  written = all;
  losses = (losses.0, Appends-kept errors before behind losses.0 losses.1 ends.1);
})
attends_so (Err fault) old new errors before behind all up_to losses ends = inr (record {
  fault = fault;
  status_is = ends.0;
  written = up_to;
  before = before;
  losses = losses;
  told = ends.1;
})

-- what holds of a fault holds of a result that has it
pub when_err : {X : Type 0} (result : Result X ServeFault) (fault : ServeFault)
    (P : ServeFault → Type 0) → IsErrAnd result (λ f. f ≡ fault) → P fault → IfErr result P
when_err (Ok x) fault P same p = absurd same
when_err (Err f) fault P same p = subst P (sym same) p

-- what ends only for want of memory ends with no `bind fault`
pub no_bind_fault : (end : Result (Unit {0}) ServeFault) → IfErr end (λ fault. fault ≡ OutOfMemory)
    → HasNoBindFault end
no_bind_fault (Ok done) is = tt
no_bind_fault (Err Bind) is = absurd (cc)
no_bind_fault (Err Write) is = tt
no_bind_fault (Err OutOfMemory) is = tt

-- what follows of a good result follows of what made it good
pub on_ok : {X : Type 0} (result : Result X ServeFault) (P Q : Type 0) → (P → Q)
    → OnOk result P → OnOk result Q
on_ok (Ok x) P Q then p = then p
on_ok (Err fault) P Q then p = tt

-- the same of a fault
pub on_err : {X : Type 0} (result : Result X ServeFault) (P Q : ServeFault → Type 0)
    → ((fault : ServeFault) → P fault → Q fault) → IfErr result P → IfErr result Q
on_err (Ok x) P Q then p = tt
on_err (Err fault) P Q then p = then fault p
