use Rattle.std.proofs.Common.{◌≡◌, ◌++◌, map, drop}
use Rattle.std.specs.List.{flat_map}
use Rattle.trdp_wire.specs.Ports.{control_numbers}
use Rattle.trdp_controls.specs.Folders.{control_files, file_unless_0, path_unless_0}
use Rattle.trdp_controls.proofs.ListenLemmas.{Listened}
use Rattle.trdp_controls.proofs.opening.control_paths.Given as goal

-- a process listens at all files but those of the slots to come, which have their paths, and the
-- folder is the same
abbrev pub invariant-loop-slot : goal.invariant-loop-slot
invariant-loop-slot g l =
    Listened (flat_map file_unless_0 (control_numbers l.config))
    (g.F.Folder.listenings l.fn.folder) (g.F.Folder.listenings l.folder)
    (flat_map file_unless_0 (drop l.slot (control_numbers l.config)))
    × (control_files g.F.Folder.file_of l.paths.items
    ++ map (path_unless_0 (g.F.Folder.path l.fn.folder)) (drop l.slot (control_numbers l.config))
    ≡ map (path_unless_0 (g.F.Folder.path l.fn.folder)) (control_numbers l.config))
    × (g.F.Folder.path l.folder ≡ g.F.Folder.path l.fn.folder)
