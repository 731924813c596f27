use Rattle.std.proofs.Common.{◌≡◌, ℕ, ◌≤◌, length, take, subst, arith, length-take-le}
use Rattle.bay.specs.Rules.Dealing.{Decide}
use Rattle.bay_rules.specs.Steps.{Steps}
use Rattle.bay_calls.specs.Seen.{state, delivered}
use Rattle.bay_rules.proofs.Living.{deals}
use Rattle.bay_calls.proofs.Parts.{wiped_part, untouched_part}
use Rattle.bay_calls.proofs.playing.decide_part.Goals as goal

pub returns : goal.returns
returns g c =
    let m = g.S.Sample in
    let n : ℕ = c.args.n in
    let ws = c.args.work.now in
    let p = c.decide.ensures in
    let a = c.decide.result in
    let fits : n ≤ length ws = omega (arith, c.requires) in
    let long : length (take n ws) ≡ n = length-take-le n ws fits in
    let done = subst (λ (k : ℕ). Steps (state m c.args.bay.now) (Decide k) (delivered a) (state m c.decide.new.self)) long p.steps in
    record {
      steps = done;
      deals = deals _ _ _ _ done;
      unmoved = p.unmoved;
      kept = p.kept;
      wiped = wiped_part m n ws fits a c.decide.new.work c.args.bay.now _ p.worked done;
      untouched = untouched_part m n ws fits a c.decide.new.work p.worked;
      lent = p.lent;
    }
