-- The ports of groups, one group after another.
-- For `ask_for_network`.
-- By a loop's invariant: all was asked but for the ports of the groups to come.
use Rattle.std.proofs.Common.{◌≡◌, ◌+◌, ◌<◌, ◌≤◌, ℕ, List, [], ◌∷◌, ◌++◌, Option}
use Rattle.std.proofs.Common.{sym, ◌∙◌, ap, arith, subst, length, drop, get_or, map}
use Rattle.std.proofs.lemmas.List.{drop_all}
use Rattle.trdp_wire.specs.declared.port.Port.{Port}
use Rattle.trdp_wire.specs.declared.port.Port.TheVariants.{PdGroup, MdGroup}
use Rattle.trdp_wire.specs.Ports.{group_ports}
use Rattle.trdp_wire.specs.Sockets.{SocketCall}
use Rattle.trdp_base.specs.Reported.{TellsMore}
use Rattle.trdp_wire.proofs.ControlPortLemmas.{number_next}
use Rattle.trdp_udp.proofs.SocketLemmas.{Asked, asked_all}

-- the two ports of a group
abbrev pub two_ports : ℕ → List Port
two_ports group = PdGroup group ∷ MdGroup group ∷ []

groups_next : (groups : List ℕ) (i : ℕ) → i < length groups
    → group_ports (drop i groups)
    ≡ two_ports (get_or groups i 0) ++ group_ports (drop (i + 1) groups)
groups_next groups i below = ap group_ports (number_next groups i below)

-- all was asked but for the ports of a group and of those after it
pub next_group : (f : Port → SocketCall) (all : List Port) (groups known : List ℕ) (i : ℕ)
    (a b : Option (List SocketCall)) → known ≡ groups → i < length known
    → Asked f all a b (group_ports (drop i groups))
    → Asked f all a b (two_ports (get_or known i 0) ++ group_ports (drop (i + 1) groups))
next_group f all groups known i a b same below asked =
    let here : group_ports (drop i groups)
    ≡ two_ports (get_or known i 0) ++ group_ports (drop (i + 1) groups) =
    ap (λ (gs : List ℕ). group_ports (drop i gs)) (sym same)
    ∙ groups_next known i below
    ∙ ap (λ (gs : List ℕ). two_ports (get_or known i 0) ++ group_ports (drop (i + 1) gs)) same in
    subst (λ (l : List Port). Asked f all a b l) here asked

-- after the last group all was asked
pub last_group : (f : Port → SocketCall) (all : List Port) (groups known : List ℕ) (i : ℕ)
    (a b : Option (List SocketCall)) → known ≡ groups → length known ≤ i
    → Asked f all a b (group_ports (drop i groups)) → TellsMore a b (map f all)
last_group f all groups known i a b same end asked =
    let none : group_ports (drop i groups) ≡ [] =
    ap group_ports (drop_all i groups (omega (arith, end, ap length same))) in
    asked_all f all a b (subst (λ (l : List Port). Asked f all a b l) none asked)
