-- The number of a connection as the place that its lines come from.
use Rattle.std.specs.Prelude.{ℕ, ◌+◌, ◌*◌, ◌/◌, ◌%◌, ◌^◌}
use Rattle.trdp_base.specs.declared.place.Place.{Place}

-- the address is the number divided by 65,536, within 32 bits, and the port is the remainder
abbrev pub place_of_number : ℕ → Place
place_of_number n = record { ip = record { 0 = (n / 65536) % 2 ^ 32 }; port = n % 65536 }

-- the number that a place is made of
abbrev pub number_of_place : Place → ℕ
number_of_place place = place.ip.0 * 65536 + place.port
