use Rattle.std.proofs.Common.{Ok}
use Rattle.trdp_base.proofs.AddressLemmas.{parts_of_place, err_not_ok, ok_same}
use Rattle.trdp_base.proofs.address.read_place.Goals as goal

pub returns-in_err-ip-clause-found : goal.returns-in_err-ip-clause-found
returns-in_err-ip-clause-found c = λ place ip port e.
    let split = rw c.in_ok-address.ensures.ok_part at c.split_at_colon.ensures.parts in
    let alone = rw c.in_ok-address.ensures.ok_part at c.split_at_colon.ensures.first in
    let parts = parts_of_place c.args.text.now
    c.in_ok-address.address.now c.in_ok-address.port.now place split alone e in
    absurd (err_not_ok place.ip _ (c.in_err-ip.ensures.found place.ip ip parts.0))

pub returns-in_err-port-clause-found : goal.returns-in_err-port-clause-found
returns-in_err-port-clause-found c = λ place ip port e.
    let split = rw c.in_ok-address.ensures.ok_part at c.split_at_colon.ensures.parts in
    let alone = rw c.in_ok-address.ensures.ok_part at c.split_at_colon.ensures.first in
    let parts = parts_of_place c.args.text.now
    c.in_ok-address.address.now c.in_ok-address.port.now place split alone e in
    absurd (err_not_ok place.port _ (c.in_err-port.ensures.found place.port port parts.1))

pub returns-clause-found : goal.returns-clause-found
returns-clause-found c = λ place ip port e.
    let split = rw c.in_ok-address.ensures.ok_part at c.split_at_colon.ensures.parts in
    let alone = rw c.in_ok-address.ensures.ok_part at c.split_at_colon.ensures.first in
    let parts = parts_of_place c.args.text.now
    c.in_ok-address.address.now c.in_ok-address.port.now place split alone e in
    let same_ip = ok_same _ place.ip (c.in_ok-ip.ensures.found place.ip ip parts.0) in
    let same_port = ok_same _ place.port (c.in_ok-port.ensures.found place.port port parts.1) in
    λ i. Ok (record { ip = same_ip i; port = same_port i })
