-- What a folder in memory remembers of its calls, and what it answers.
use Rattle.std.specs.Prelude.{ℕ, ◌==◌, Bool, List, map, Option}
use Rattle.std.specs.List.{find}
use Rattle.std.specs.Option.{option_map}
use Rattle.trdp_controls.specs.declared.listen_fault.ListenFault.{ListenFault}
use Rattle.trdp_controls.specs.Folders.{Listening, ListensAt}
use Rattle.trdp_controls.specs.Paths.{path_of}
use Rattle.trdp_memory.specs.declared.memory_folder.ListenRow.{ListenRow}
use Rattle.trdp_memory.specs.declared.memory_folder.MemoryFolder.{MemoryFolder}
use Rattle.trdp_memory.specs.declared.memory_folder.RefusedFile.{RefusedFile}
use Rattle.trdp_memory.specs.MemoryConnections.{MemoryConnectionsState}
use Rattle.trdp_memory.specs.MemoryWires.{told}

-- the listening that is remembered so
abbrev pub listening_of : ListenRow → Listening
listening_of row = ListensAt row.number row.fault

-- what a folder reports
abbrev pub told_listenings : MemoryFolder → Option (List Listening)
told_listenings folder = told folder.tells (map listening_of folder.rows.items)

-- why the file of this number is refused, the first of several faults; none where it isn't
abbrev pub is_file_of : ℕ → RefusedFile → Bool
is_file_of number file = file.number == number

abbrev pub file_fault : List RefusedFile → ℕ → Option ListenFault
file_fault refused number = option_map (λ file. file.fault) (find (is_file_of number) refused)

-- the path of the file of connections in memory
abbrev pub memory_file : MemoryConnectionsState → List ℕ
memory_file connections = path_of connections.folder connections.file_number
