use Rattle.std.proofs.Common.{◌≡◌, ◌<◌, ◌^◌, ◌∙◌, ap, w32, rules}
use Rattle.std.proofs.lemmas.Nat.{from_be_bytes-to_be_bytes_4}
use Rattle.std.specs.Int.{from_be_bytes}
use Rattle.std.specs.Net.Addr.{ipv4_bits, IsIpv4OfBits}
use Rattle.std.specs.Net.Socket.{v4_ip, v4_port}
use Rattle.std.specs.declared.net.ipv4_addr.Ipv4Addr.{Ipv4Addr}
use Rattle.std.specs.declared.net.socket_addr.SocketAddrV4.{SocketAddrV4}
use Rattle.trdp_base.specs.declared.place.Place.{Place}
use Rattle.trdp_udp.specs.SystemSockets.{place_of_address}
use Rattle.trdp_udp.proofs.system_sockets.address_of.Goals as goal

address_place : (a : SocketAddrV4) (ip : Ipv4Addr) (place : Place)
    → place.ip.0 < 2 ^ 32 → v4_ip a ≡ ip → v4_port a ≡ place.port
    → IsIpv4OfBits ip place.ip.0 → place_of_address a ≡ place
unfolding ipv4_bits IsIpv4OfBits
address_place a ip place small is at bits =
    let number : ipv4_bits (v4_ip a) ≡ place.ip.0 =
    ap ipv4_bits is ∙ ap (from_be_bytes w32) bits
    ∙ from_be_bytes-to_be_bytes_4 place.ip.0 small in
    ap (λ n. let p : Place = record { ip = record { 0 = n }; port = v4_port a } in p) number
    ∙ ap (λ n. let p : Place = record { ip = place.ip; port = n } in p) at

pub returns : goal.returns
returns c = address_place c.new.result c.from_bits.result c.args.place (search rules)
    c.new.ensures.ip c.new.ensures.port c.from_bits.ensures
