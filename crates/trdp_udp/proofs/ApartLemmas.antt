-- Ports that are apart have sockets of their own, and so news of their own.
-- For `RestingWire::set_news`.
-- By the kind of the port that a socket's number tells.
use Rattle.std.proofs.Common.{◌≡◌, ℕ, zero, suc, ◌+◌, ◌*◌, ◌<◌, Bool, true, false, ◌&&◌, not, List, []}
use Rattle.std.proofs.Common.{◌∷◌, inl, inr, refl, sym, ◌∙◌, ap, arith, nat_lt, if◌then◌else◌}
use Rattle.std.specs.Prelude.{◌==◌, slice_set}
use Rattle.std.proofs.lemmas.Bool.Decides.{nat_tests}
use Rattle.trdp_wire.specs.declared.port.Port.{Port}
use Rattle.trdp_wire.specs.declared.port.Port.TheVariants.{Pd, Md, PdGroup, MdGroup}
use Rattle.trdp_wire.specs.declared.port.Port.TheVariants.{Operator, Control}
use Rattle.trdp_wire.specs.News.{IsNoted, has_news}
use Rattle.trdp_wire.specs.Ports.{are_apart, may_exist, port_kind}
use Rattle.trdp_wire.specs.Sockets.{group_index, socket_of}

-- the kind of the ports that have a socket
abbrev kind_of_socket : ℕ → ℕ
kind_of_socket n = if nat_lt n 3 then n else (if nat_lt n 34 then n + 1 else 3)

group_kind : (n : ℕ) → 34 < n + 1 → kind_of_socket n ≡ 3
group_kind n above =
    let low : nat_lt n 3 ≡ false = grind (arith, nat_tests) in
    let high : nat_lt n 34 ≡ false = grind (arith, nat_tests) in
    rw (low, high) refl

slot_kind : (slot : ℕ) → nat_lt slot 31 ≡ true → kind_of_socket (3 + slot) ≡ 4 + slot
slot_kind slot few =
    let low : nat_lt (3 + slot) 3 ≡ false = grind (arith, nat_tests) in
    let high : nat_lt (3 + slot) 34 ≡ true = grind (arith, nat_tests) in
    let next : 3 + slot + 1 ≡ 4 + slot = omega arith in
    rw (low, high) next

kind_is : (groups : List ℕ) (port : Port) → may_exist port ≡ true
    → kind_of_socket (socket_of groups port) ≡ port_kind port
kind_is groups Pd may = refl
kind_is groups Md may = refl
kind_is groups Operator may = refl
kind_is groups (PdGroup group) may =
    group_kind (34 + 2 * group_index groups group) (omega arith)
kind_is groups (MdGroup group) may =
    group_kind (35 + 2 * group_index groups group) (omega arith)
kind_is groups (Control slot) may = slot_kind slot may

all_three : (a b c : Bool) → (a && (b && c)) ≡ true → (a ≡ true) × (b ≡ true) × (c ≡ true)
all_three true true true is = (refl, refl, refl)
all_three true true false is = absurd (cc)
all_three true false c is = absurd (cc)
all_three false b c is = absurd (cc)

not_same : (a b : ℕ) → not (a == b) ≡ true → a ≡ b → ⊥
not_same a b differ same = grind (arith, nat_tests)

-- ports that are apart don't share a socket
pub sockets_apart : (groups : List ℕ) (port other : Port) → are_apart port other ≡ true
    → socket_of groups port ≡ socket_of groups other → ⊥
unfolding are_apart
sockets_apart groups port other apart same =
    let facts = all_three (may_exist port) (may_exist other)
    (not (port_kind port == port_kind other)) apart in
    not_same (port_kind port) (port_kind other) facts.2
    (sym (kind_is groups port facts.0) ∙ ap kind_of_socket same ∙ kind_is groups other facts.1)

-- news that were set are set, but where none are kept
pub noted : (news : List Bool) (socket : ℕ) (may_be : Bool)
    → IsNoted may_be (has_news news socket) (has_news (slice_set news socket may_be) socket)
noted [] socket may_be = inr (refl, refl)
noted (first ∷ news) zero may_be = inl refl
noted (first ∷ news) (suc socket) may_be = noted news socket may_be

-- and no others
pub noted_alone : (news : List Bool) (socket other : ℕ) (may_be : Bool) → (socket ≡ other → ⊥)
    → has_news (slice_set news socket may_be) other ≡ has_news news other
noted_alone [] socket other may_be apart = refl
noted_alone (first ∷ news) zero zero may_be apart = absurd (apart refl)
noted_alone (first ∷ news) zero (suc other) may_be apart = refl
noted_alone (first ∷ news) (suc socket) zero may_be apart = refl
noted_alone (first ∷ news) (suc socket) (suc other) may_be apart =
    noted_alone news socket other may_be (λ same. apart (ap suc same))
