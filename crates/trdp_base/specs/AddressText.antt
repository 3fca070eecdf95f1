-- The written forms of addresses and places.
use Rattle.std.specs.Prelude.{ℕ, ◌/◌, ◌%◌, ◌^◌, List, ◌++◌, codes}
use Rattle.trdp_base.specs.NumberText.{text_of_number}
use Rattle.trdp_base.specs.declared.place.Ip.{Ip}
use Rattle.trdp_base.specs.declared.place.Place.{Place}

-- the four numbers of an address from its highest byte on, joined by dots
-- rule: text.address
abbrev pub text_of_ip : Ip → List ℕ
text_of_ip ip =
    text_of_number (ip.0 / 2 ^ 24 % 256) ++ codes "."
    ++ text_of_number (ip.0 / 2 ^ 16 % 256) ++ codes "."
    ++ text_of_number (ip.0 / 2 ^ 8 % 256) ++ codes "." ++ text_of_number (ip.0 % 256)

-- the address, a colon and the port
-- rule: text.place
abbrev pub text_of_place : Place → List ℕ
text_of_place place = text_of_ip place.ip ++ codes ":" ++ text_of_number place.port

-- the length of the longest written address, 255.255.255.255
abbrev pub ip_length : ℕ
ip_length = 15

-- the length of the longest written place, 255.255.255.255:65535
abbrev pub place_length : ℕ
place_length = 21
