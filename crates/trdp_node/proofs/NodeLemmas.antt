-- What comes of an event, from what the node's own contract says.
-- For `process`. By cases: the node accepted the event or not.
use Rattle.std.proofs.Common.{◌≡◌, ℕ, List, [], ◌∙◌, ap, subst}
use Rattle.std.specs.Prelude.{Result, Ok, Err, OnOk, OnErr}
use Rattle.trdp_engine.specs.NodeStates.{NodeState, uncounted}
use Rattle.trdp_model.specs.declared.fault.NodeFault.{NodeFault}
use Rattle.trdp_model.specs.declared.fault.NodeFault.TheVariants.{OutOfMemory}
use Rattle.trdp_model.specs.Alone.{FaultIs, globals_after}
use Rattle.trdp_model.specs.Events.{EventModel}
use Rattle.trdp_model.specs.NodeModels.{StepsAsAlone, MayTakeMemory}
use Rattle.trdp_model.specs.Records.{RecordModel}
use Rattle.trdp_outbox.proofs.SlotOrderLemmas.Played.{no_fault, node_played}
use Rattle.trdp_text.proofs.TextLemmas.Events.{text_played}
use Rattle.trdp_node.specs.Outcomes.{AnswersEvent, fault_now}

pub answered : (old new : NodeState) (before records : List RecordModel) (event : EventModel)
    (result : Result (Unit {0}) NodeFault) → before ≡ []
    → FaultIs (fault_now old event) result
    → OnErr result (new ≡ old) → OnErr result (records ≡ before)
    → (result ≡ Err OutOfMemory → MayTakeMemory (uncounted old) event)
    → new.config ≡ old.config
    → OnOk result (new.globals ≡ globals_after old.globals event)
    → OnOk result ((s : ℕ)
    → StepsAsAlone (uncounted old) (uncounted new) before records event s)
    → AnswersEvent old new records event result
answered old new before records event (Ok done) empty taken kept none memory config globals steps = (
  no_fault (fault_now old event) taken,
  record {
    node = node_played (uncounted old) (uncounted new) before records event taken config globals
        steps;
    alone = λ s. subst (λ rs. StepsAsAlone (uncounted old) (uncounted new) rs records event s)
        empty (steps s);
    told = text_played (uncounted old) (uncounted new) before records event taken empty steps;
  },
)
answered old new before records event (Err fault) empty taken kept none memory config globals steps =
    (taken, record { node = kept; none = none ∙ empty }, λ is. memory (ap Err is))
