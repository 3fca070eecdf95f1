use Rattle.std.proofs.Common.{◌≡◌, ◌≤◌, ℕ, []}
use Rattle.trdp_lines.specs.Askings.{NoneFails, TriesAll}
use Rattle.trdp_lines.specs.Seats.{seat_at}
use Rattle.trdp_lines.specs.Steps.{Goes}
use Rattle.trdp_lines.proofs.path.Path.flush.Given as goal

abbrev pub invariant-loop-place : goal.invariant-loop-place
invariant-loop-place g l = record {
  goes : Goes g.P.Policy.rule g.C.Connections.calls l.initial.self l.self [];
  tried : TriesAll l.place
      (g.C.Connections.calls l.initial.self.connections)
      (g.C.Connections.calls l.self.connections) l.initial.self.seats;
  unfailed : NoneFails
      (g.C.Connections.calls l.initial.self.connections)
      (g.C.Connections.calls l.self.connections);
  rest : (k : ℕ) → l.place ≤ k → seat_at l.self.seats k ≡ seat_at l.initial.self.seats k;
  waiting : l.self.waiting ≡ l.initial.self.waiting;
  next : l.self.next ≡ l.initial.self.next;
  kept : g.C.Connections.file_number l.self.connections
      ≡ g.C.Connections.file_number l.initial.self.connections;
}
