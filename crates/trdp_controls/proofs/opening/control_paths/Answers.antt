use Rattle.std.proofs.Common.{◌<◌, ◌+◌, ◌∙◌, ap, arith, drop, length, refl}
use Rattle.std.specs.Prelude.{slice_get, unwrap_or}
use Rattle.std.specs.List.{flat_map}
use Rattle.trdp_wire.specs.Ports.{control_numbers}
use Rattle.trdp_wire.proofs.ControlPortLemmas.{numbers_count}
use Rattle.trdp_controls.specs.Folders.{control_file, file_unless_0, path_unless_0}
use Rattle.trdp_controls.specs.declared.listen_fault.ListenFault.TheVariants.{OutOfMemory}
use Rattle.trdp_controls.proofs.ListenLemmas.{listened_more, listened_next, listened_stops}
use Rattle.trdp_controls.proofs.ListenLemmas.{next_number, next_port, one_more}
use Rattle.trdp_controls.proofs.ListenLemmas.{stops_wanting, stops_with}
use Rattle.trdp_controls.proofs.opening.control_paths.Goals as goal

pub returns-in_err-path-clause-listens : goal.returns-in_err-path-clause-listens
returns-in_err-path-clause-listens g c =
    let numbers = control_numbers c.args.config.now in
    let files = flat_map file_unless_0 numbers in
    let slot = c.loop-slot.slot in
    let number = unwrap_or (slice_get numbers c.slot_number.result) 0 in
    let fault = c.in_err-path.field-0.0 in
    let below : slot < length numbers = omega (
      arith,
      c.loop-slot-test.true,
      c.slots.ensures.value,
      c.spare_control_ports.ensures.value,
      numbers_count c.args.config.now.slots c.args.config.now.spare_control_ports,
    ) in
    let here = next_port numbers slot number (slice_get numbers slot) below refl
    (ap (λ i. unwrap_or (slice_get numbers i) 0) c.slot_number.ensures) in
    stops_with files _ _ c.from_residual.result fault c.from_residual.ensures.1
    (listened_stops files (file_unless_0 number) (flat_map file_unless_0 (drop (slot + 1) numbers))
    fault _ _ _ (listened_next files numbers slot number _ _ here c.loop-slot.invariant.0)
    c.in_err-path.ensures.listens)

pub returns-in-Err-clause-listens : goal.returns-in-Err-clause-listens
returns-in-Err-clause-listens g c =
    let numbers = control_numbers c.args.config.now in
    let files = flat_map file_unless_0 numbers in
    let slot = c.loop-slot.slot in
    let number = unwrap_or (slice_get numbers c.slot_number.result) 0 in
    let below : slot < length numbers = omega (
      arith,
      c.loop-slot-test.true,
      c.slots.ensures.value,
      c.spare_control_ports.ensures.value,
      numbers_count c.args.config.now.slots c.args.config.now.spare_control_ports,
    ) in
    let here = next_port numbers slot number (slice_get numbers slot) below refl
    (ap (λ i. unwrap_or (slice_get numbers i) 0) c.slot_number.ensures) in
    listened_stops files (file_unless_0 number) (flat_map file_unless_0 (drop (slot + 1) numbers))
    OutOfMemory _ _ _ (listened_next files numbers slot number _ _ here c.loop-slot.invariant.0)
    (stops_wanting (file_unless_0 number) _ _ c.in_ok-path.ensures.listens)

pub loop-slot-preserved : goal.loop-slot-preserved
loop-slot-preserved g c =
    let numbers = control_numbers c.args.config.now in
    let files = flat_map file_unless_0 numbers in
    let slot = c.loop-slot.slot in
    let number = unwrap_or (slice_get numbers c.slot_number.result) 0 in
    let below : slot < length numbers = omega (
      arith,
      c.loop-slot-test.true,
      c.slots.ensures.value,
      c.spare_control_ports.ensures.value,
      numbers_count c.args.config.now.slots c.args.config.now.spare_control_ports,
    ) in
    let here = next_port numbers slot number (slice_get numbers slot) below refl
    (ap (λ i. unwrap_or (slice_get numbers i) 0) c.slot_number.ensures) in
    let folder = path_unless_0 (g.F.Folder.path c.args.folder.now) in
    let pushed = one_more (control_file g.F.Folder.file_of) _ _ _ (folder number)
    (rw c.in-Ok.is at c.push.ensures.items)
    (rw c.loop-slot.invariant.2 at c.in_ok-path.ensures.file) in (
      listened_more files (file_unless_0 number)
          (flat_map file_unless_0 (drop (slot + 1) numbers)) _ _ _
          (listened_next files numbers slot number _ _ here c.loop-slot.invariant.0)
          c.in_ok-path.ensures.listens,
      next_number folder _ _ _ numbers slot number here pushed c.loop-slot.invariant.1,
      c.in_ok-path.ensures.stays ∙ c.loop-slot.invariant.2,
    )
