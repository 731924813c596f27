use Rattle.std.proofs.Common.{ℕ, sym, refl, subst, rules}
use Rattle.bay_calls.specs.declared.admission.Call.TheVariants.{Clear}
use Rattle.bay.specs.Rules.Answer.{Counted}
use Rattle.bay.specs.Rules.Dealing.{Clear as Clearing}
use Rattle.bay_rules.specs.Steps.{Steps}
use Rattle.bay_calls.specs.Admission.{admitted}
use Rattle.bay_calls.specs.Seen.{seen, state, counted}
use Rattle.bay_calls.proofs.Means.{zero_means}
use Rattle.bay_rules.proofs.Living.{deals}
use Rattle.bay_rules.proofs.Settling.{clears}
use Rattle.bay_calls.proofs.Stages.{gathers, leaves_empty}
use Rattle.bay_calls.proofs.bays.Bay.clear.Goals as goal

pub returns-in_err-admit-clause-deals : goal.returns-in_err-admit-clause-deals
returns-in_err-admit-clause-deals g c =
    let b = state g.S.Sample c.args.self.now in
    let done : Steps b Clearing (counted c.from_residual.result) b = search rules in
    deals _ _ _ _ done

pub returns : goal.returns
returns g c =
    let m = g.S.Sample in
    let b = c.args.self.now in
    let r = b.standing in
    let xs = b.sums.now in
    let gs = gathers m b (λ s. admitted s Clear) refl (λ v. refl) _ c.in_ok-admit.ensures in
    let p = c.empty.ensures in
    let done = subst (λ (n : ℕ). Steps (seen m r b.book xs) Clearing (Counted n) (seen m c.empty.new.self b.book c.empty.new.sums)) (sym p.held)
    (clears (seen m r b.book xs) _ gs (leaves_empty m r _ b.book xs _ gs.up p.standing) (zero_means m xs _ p.zeros)) in
    record { steps = done; deals = deals _ _ _ _ done; zeros = p.zeros; unmoved = tt; lent = refl }
