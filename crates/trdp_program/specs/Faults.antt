-- Why a run ends before the end of its script, and why a service ends with a fault.
use Rattle.std.specs.Prelude.{◌≡◌, ℕ, List, ◌++◌, codes, Option, Result, Ok, Err}
use Rattle.std.specs.Io.KnownBytes.{Appends, Keeps}
use Rattle.trdp_base.specs.NumberText.{text_of_number}
use Rattle.trdp_text.specs.RecordText.{name_of_line_fault}
use Rattle.trdp_script.specs.Writes.{PartlyWrites}
use Rattle.trdp_script.specs.declared.fault.ScriptFault.{ScriptFault}
use Rattle.trdp_script.specs.declared.fault.ScriptFault.TheVariants.{Line, Read, Write}
use Rattle.trdp_script.specs.declared.fault.ScriptFault.TheVariants.{OutOfMemory}
use Rattle.trdp_wire.specs.declared.bind_fault.BindFault.{BindFault}
use Rattle.trdp_wire.specs.declared.bind_fault.BindFault.TheVariants as bind
use Rattle.trdp_program.specs.declared.faults.ServeFault.{ServeFault}
use Rattle.trdp_program.specs.declared.faults.ServeFault.TheVariants as serve

-- a front of the line of a fault was written, of this text, as far as the stream reports it
abbrev pub TellsFault : List ℕ → Option (List ℕ) → Option (List ℕ) → Type 0
TellsFault text old new = PartlyWrites old new (text ++ codes "\n")

-- some text was written, as far as the stream reports it
abbrev pub AppendsText : Option (List ℕ) → Option (List ℕ) → Type 0
AppendsText old new = (text : List ℕ) × Appends old new text

-- the line of a fault was written, of this text, and then maybe more; or a front of that
abbrev pub TellsFaultFirst : List ℕ → Option (List ℕ) → Option (List ℕ) → Type 0
TellsFaultFirst text old new = (more : List ℕ) × PartlyWrites old new (text ++ codes "\n" ++ more)

-- the exit status of a script: 0 at its end, 3 for a bad line, and else 4
-- rule: run.status
abbrev pub status_of_script : Result (Unit {0}) ScriptFault → ℕ
status_of_script (Ok done) = 0
status_of_script (Err (Line n fault)) = 3
status_of_script (Err Read) = 4
status_of_script (Err Write) = 4
status_of_script (Err OutOfMemory) = 4

-- the text of a script's fault, without the end of the line
-- rule: run.fault
abbrev pub text_of_script_fault : ScriptFault → List ℕ
text_of_script_fault (Line n fault) =
    codes "line " ++ text_of_number n ++ codes " fault " ++ name_of_line_fault fault
text_of_script_fault Read = codes "read fault"
text_of_script_fault Write = codes "write fault"
text_of_script_fault OutOfMemory = codes "memory fault"

-- at a script's end nothing is written, and else its fault
abbrev pub TellsEnd : Result (Unit {0}) ScriptFault → Option (List ℕ) → Option (List ℕ) → Type 0
TellsEnd (Ok done) old new = Keeps old new
TellsEnd (Err fault) old new = TellsFault (text_of_script_fault fault) old new

-- the text of a service's fault, without the end of the line
abbrev pub text_of_serve_fault : ServeFault → List ℕ
text_of_serve_fault serve.Bind = codes "bind fault"
text_of_serve_fault serve.Write = codes "write fault"
text_of_serve_fault serve.OutOfMemory = codes "memory fault"

-- what it means to a service that a port or a path is refused
abbrev pub serve_fault : BindFault → ServeFault
serve_fault bind.Bind = serve.Bind
serve_fault bind.OutOfMemory = serve.OutOfMemory

-- a service ends so: the status is 0, and nothing is written; or it is 4, and its fault is
abbrev pub EndsService : Result (Unit {0}) ServeFault → Option (List ℕ) → Option (List ℕ) → ℕ
    → Type 0
EndsService (Ok done) old new status = (status ≡ 0) × Keeps old new
EndsService (Err fault) old new status =
    (status ≡ 4) × TellsFault (text_of_serve_fault fault) old new
