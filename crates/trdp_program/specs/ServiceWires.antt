-- The wire of a service, and why there is none.
use Rattle.std.specs.Prelude.{◌≡◌, ◌⊎◌, List, map, ℕ, Option, Some, None, Result, Ok, Err}
use Rattle.trdp_dataset.specs.Configs.{ConfigModel}
use Rattle.trdp_wire.specs.Ports.{control_numbers}
use Rattle.trdp_wire.specs.declared.bind_fault.BindFault.{BindFault}
use Rattle.trdp_wire.specs.declared.bind_fault.BindFault.TheVariants.{Bind, OutOfMemory}
use Rattle.trdp_udp.specs.declared.bound_ports.BoundPorts.{BoundPorts}
use Rattle.trdp_udp.specs.declared.bound_ports.BoundPorts.TheVariants.{All, Network}
use Rattle.trdp_controls.specs.declared.control_wire.ControlWire.{ControlWire}
use Rattle.trdp_controls.specs.declared.listen_fault.ListenFault.{ListenFault}
use Rattle.trdp_controls.specs.declared.listen_fault.ListenFault.TheVariants as path
use Rattle.trdp_controls.specs.Folders.{Listening, ListensInTurn, control_file, control_files}
use Rattle.trdp_controls.specs.Folders.{files_of, path_unless_0}
use Rattle.trdp_program.specs.Faults.{serve_fault}
use Rattle.trdp_program.specs.declared.faults.ServeFault.{ServeFault}
use Rattle.trdp_program.specs.declared.faults.ServeFault.TheVariants as serve
use Rattle.trdp_program.specs.declared.wires.ServiceWire.{ServiceWire}
use Rattle.trdp_program.specs.declared.wires.ServiceWire.TheVariants.{Udp, Controls}

-- which ports of a configuration have sockets: beside a folder only those of the network
abbrev pub ports_beside : {F : Type 0} → Option F → BoundPorts
ports_beside None = All
ports_beside (Some folder) = Network

-- lines come in at the files of this folder that a configuration names, and telegrams at the
-- network's wire
pub record ListensIn {N C : Type 0} (file_of : C → List ℕ) (config : ConfigModel)
    (folder : List ℕ) (network : N) (wire : ControlWire N C) : Type 0 where
  pub network_is : wire.network ≡ network
  pub operator : control_file file_of wire.operator ≡ path_unless_0 folder config.operator_port
  pub controls : control_files file_of wire.controls.items
      ≡ map (path_unless_0 folder) (control_numbers config)

-- without a folder the wire is that of the network, of which all ports have sockets. Beside one
-- only the network's ports have sockets, and lines come in at the folder's files
abbrev pub IsServiceWire : {N C F : Type 0} → (bound : N → BoundPorts) → (path_of : F → List ℕ)
    → (file_of : C → List ℕ) → ConfigModel → N → Option F → ServiceWire N C → Type 0
IsServiceWire bound path_of file_of config network None (Udp wire) =
    (wire ≡ network) × (bound network ≡ All)
IsServiceWire bound path_of file_of config network None (Controls wire) = ⊥
IsServiceWire bound path_of file_of config network (Some folder) (Udp wire) = ⊥
IsServiceWire bound path_of file_of config network (Some folder) (Controls wire) =
    ListensIn file_of config (path_of folder) network wire × (bound network ≡ Network)

-- the same, if the network's wire was opened
abbrev pub IsBeside : {N S C F : Type 0} → (bound : N → BoundPorts) → (path_of : F → List ℕ)
    → (file_of : C → List ℕ) → ConfigModel → Result N (BindFault × S) → Option F
    → ServiceWire N C → Type 0
IsBeside bound path_of file_of config (Err back) folder wire = ⊥
IsBeside bound path_of file_of config (Ok network) folder wire =
    IsServiceWire bound path_of file_of config network folder wire

-- what it means to a service that a path is refused
abbrev pub fault_at_path : ListenFault → BindFault
fault_at_path path.Refused = Bind
fault_at_path path.OutOfMemory = OutOfMemory

-- a folder refused a file that a configuration names, or an allocation for one failed
pub record RefusesPath {F : Type 0} (listenings_of : F → Option (List Listening))
    (config : ConfigModel) (folder : F) (fault : BindFault) : Type 0 where
  pub refused : ListenFault
  pub after : F
  pub fault_is : fault ≡ fault_at_path refused
  pub listens : ListensInTurn (files_of config) (Some refused) (listenings_of folder)
      (listenings_of after)

-- why a service has no wire though its network's was opened: the network refused a registry, or
-- the folder a file
abbrev pub IsRefusedPaths : {N F : Type 0} → (refuses : N → BindFault → Type 0)
    → (listenings_of : F → Option (List Listening)) → ConfigModel → N → Option F → BindFault
    → Type 0
IsRefusedPaths refuses listenings_of config network None fault = ⊥
IsRefusedPaths refuses listenings_of config network (Some folder) fault =
    refuses network fault ⊎ RefusesPath listenings_of config folder fault

-- why a service has no wire: its network's was refused with this fault, or that
abbrev pub IsRefusedBeside : {N S F : Type 0} → (refuses : N → BindFault → Type 0)
    → (listenings_of : F → Option (List Listening)) → ConfigModel → Result N (BindFault × S)
    → Option F → BindFault → Type 0
IsRefusedBeside refuses listenings_of config (Err back) folder fault = fault ≡ back.0
IsRefusedBeside refuses listenings_of config (Ok network) folder fault =
    IsRefusedPaths refuses listenings_of config network folder fault

-- a service ended, and not with a `bind fault`
abbrev pub HasNoBindFault : Result (Unit {0}) ServeFault → Type 0
HasNoBindFault (Ok done) = Unit {0}
HasNoBindFault (Err serve.Bind) = ⊥
HasNoBindFault (Err serve.Write) = Unit {0}
HasNoBindFault (Err serve.OutOfMemory) = Unit {0}

-- how a service ends: if it has no wire, with the fault that says why, and else with no `bind
-- fault`
abbrev pub EndsByWire : {N C : Type 0} → Result (ServiceWire N C) BindFault
    → Result (Unit {0}) ServeFault → Type 0
EndsByWire (Ok wire) end = HasNoBindFault end
EndsByWire (Err fault) end = end ≡ Err (serve_fault fault)
