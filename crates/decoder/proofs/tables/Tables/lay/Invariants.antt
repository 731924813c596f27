-- Below p the sums are laid.
use Rattle.std.proofs.Common.{◌≡◌, ℕ, ◌-◌, ◌%◌, ◌<◌, get_or}
use Rattle.decoder.specs.Visits.{times}
use Rattle.decoder.proofs.tables.Tables.lay.Given as goal

abbrev pub invariant-loop-p : goal.invariant-loop-p
invariant-loop-p g l =
    let m = g.S.Sample in
    (p : ℕ) → p < l.p → get_or l.work p m.zeroed ≡ times m ((4 - get_or l.leader p 0) % 4) (get_or l.sums (get_or l.self.at p 0) m.zeroed)
