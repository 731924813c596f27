-- The degree and the indices stay, and of a lawful book the rows made so far hold their leaders.
use Rattle.std.proofs.Common.{◌≡◌, ◌+◌, ◌^◌}
use Rattle.decoder.proofs.Leaders.{Led}
use Rattle.decoder.proofs.tables.Tables.fill.Given as goal

abbrev pub invariant-loop-k : goal.invariant-loop-k
invariant-loop-k l = record {
  degree : l.self.degree ≡ l.initial.self.degree;
  at : l.self.at ≡ l.initial.self.at;
  led : Led l.book l.self.degree l.self.at (2 ^ l.k) l.self.leaders;
}

abbrev pub invariant-loop-u : goal.invariant-loop-u
invariant-loop-u l = record {
  degree : l.self.degree ≡ l.initial.self.degree;
  at : l.self.at ≡ l.initial.self.at;
  led : Led l.book l.initial.self.degree l.initial.self.at (l.half + l.u) l.self.leaders;
}
