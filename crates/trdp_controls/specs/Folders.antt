-- What is asked of the folder of a node's paths.
use Rattle.std.specs.Prelude.{◌≡◌, ℕ, zero, suc, List, [], ◌∷◌, ◌++◌, map}
use Rattle.std.specs.Prelude.{Option, Some, None, IfNone}
use Rattle.std.specs.List.{flat_map}
use Rattle.std.specs.Option.{option_map}
use Rattle.trdp_lines.specs.Seats.{PathState}
use Rattle.trdp_dataset.specs.Configs.{ConfigModel}
use Rattle.trdp_wire.specs.Ports.{control_numbers}
use Rattle.trdp_base.specs.Reported.{TellsMore}
use Rattle.trdp_controls.specs.Paths.{path_of}
use Rattle.trdp_controls.specs.declared.listen_fault.ListenFault.{ListenFault}
use Rattle.trdp_controls.specs.declared.listen_fault.ListenFault.TheVariants.{OutOfMemory}

-- a process listens at the file of a number, with the fault if it was refused
pub data Listening : Type 0 where
  ListensAt : (number : ℕ) (fault : Option ListenFault) → Listening

-- it was granted
abbrev pub granted : ℕ → Listening
granted number = ListensAt number None

-- the file of a port of that number; none if it is 0
abbrev pub file_unless_0 : ℕ → List ℕ
file_unless_0 zero = []
file_unless_0 (suc n) = suc n ∷ []

-- the files of a configuration's paths, in the order of a turn: the operator's, and those of the
-- slots, also of those that may be added
abbrev pub files_of : ConfigModel → List ℕ
files_of config = file_unless_0 config.operator_port
    ++ flat_map file_unless_0 (control_numbers config)

-- the file that was refused, if there was one, and that it was
abbrev pub file_of : Option ℕ → List ℕ
file_of None = []
file_of (Some number) = number ∷ []

abbrev pub refused_listening : Option ℕ → ListenFault → List Listening
refused_listening None fault = []
refused_listening (Some number) fault = ListensAt number (Some fault) ∷ []

-- a process listens at the first of these files, one after another; then one was refused with this
-- fault, or an allocation failed for the next
pub record StopsListening (files : List ℕ) (fault : ListenFault)
    (old new : Option (List Listening)) : Type 0 where
  pub front : List ℕ
  pub last : Option ℕ
  pub behind : List ℕ
  pub files_are : files ≡ front ++ (file_of last ++ behind)
  pub asked : TellsMore old new (map granted front ++ refused_listening last fault)
  pub wanting : IfNone last (fault ≡ OutOfMemory)

-- a process listens at each of these files, one after another; or it ended with this fault
abbrev pub ListensInTurn : List ℕ → Option ListenFault → Option (List Listening)
    → Option (List Listening) → Type 0
ListensInTurn files None old new = TellsMore old new (map granted files)
ListensInTurn files (Some fault) old new = StopsListening files fault old new

-- the path of a port's file in a folder; None if the port's number is 0
abbrev pub path_unless_0 : List ℕ → ℕ → Option (List ℕ)
path_unless_0 folder zero = None
path_unless_0 folder (suc n) = Some (path_of folder (suc n))

-- where the lines of a control port come in, if there is a file for them
abbrev pub control_file : {C : Type 0} → (C → List ℕ) → Option (PathState C) → Option (List ℕ)
control_file file_of = option_map (λ path. file_of path.connections)

-- the same of each control port
abbrev pub control_files : {C : Type 0} → (C → List ℕ) → List (Option (PathState C))
    → List (Option (List ℕ))
control_files file_of = map (control_file file_of)
