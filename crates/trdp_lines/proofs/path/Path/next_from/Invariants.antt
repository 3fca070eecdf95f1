use Rattle.std.proofs.Common.{◌≡◌, ◌<◌, ◌≤◌, ◌⊎◌, [], None}
use Rattle.trdp_lines.specs.Askings.{AsksPlaces}
use Rattle.trdp_lines.specs.Hearings.{Decides}
use Rattle.trdp_lines.specs.Steps.{Goes}
use Rattle.trdp_lines.proofs.path.Path.next_from.Given as goal

abbrev pub invariant-loop-place : goal.invariant-loop-place
invariant-loop-place g l = record {
  goes : Goes g.P.Policy.rule g.C.Connections.calls l.initial.self l.self [];
  asked : AsksPlaces l.first l.place
      (g.C.Connections.calls l.initial.self.connections)
      (g.C.Connections.calls l.self.connections)
      l.initial.self.seats l.self.seats l.initial.self.waiting;
  unwaited : l.initial.self.waiting ≡ None → l.self.waiting ≡ None;
  decided : l.first < l.place → Decides (g.C.Connections.calls l.initial.self.connections)
      (g.C.Connections.calls l.self.connections) l.self.waiting;
  kept : g.C.Connections.file_number l.self.connections
      ≡ g.C.Connections.file_number l.initial.self.connections;
  order : (l.place ≤ l.first) ⊎ (l.place ≤ l.end);
}
