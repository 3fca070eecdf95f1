use Rattle.std.proofs.Common.{sym, ◌∙◌, ap}
use Rattle.std.specs.Option.{option_map}
use Rattle.trdp_memory.specs.MemoryFolders.{is_file_of}
use Rattle.trdp_memory.specs.declared.memory_folder.RefusedFile.{RefusedFile}
use Rattle.trdp_memory.proofs.FirstLemmas.{found_none, find_element}
use Rattle.trdp_memory.proofs.memory_folder.file_fault.Goals as goal

pub returns-in-None : goal.returns-in-None
returns-in-None c = ap (option_map (λ (file : RefusedFile). file.fault)) (sym (found_none
    (is_file_of c.args.number) c.args.refused.now (sym c.file_index.ensures ∙ c.in-None.is)))

pub returns-in-Some : goal.returns-in-Some
returns-in-Some c = ap (option_map (λ (file : RefusedFile). file.fault)) (sym (find_element
    (is_file_of c.args.number) c.args.refused.now c.in-Some.index _
    (sym c.file_index.ensures ∙ c.in-Some.is)))
