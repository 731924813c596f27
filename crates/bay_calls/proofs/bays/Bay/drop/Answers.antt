use Rattle.std.proofs.lemmas.Result.{err_from_is_err_and}
use Rattle.std.proofs.Common.{ℕ, sym, refl, subst}
use Rattle.bay.specs.Rules.Answer.{Counted}
use Rattle.bay.specs.Rules.Dealing.{Drop}
use Rattle.bay_rules.specs.Steps.{Steps}
use Rattle.bay_calls.specs.Seen.{five, seen, stands}
use Rattle.bay_calls.proofs.Means.{zero_means}
use Rattle.bay_rules.proofs.Living.{deals}
use Rattle.bay_rules.proofs.Settling.{drops, drop_misfits}
use Rattle.bay_calls.proofs.Stages.{only_fitting, leaves_empty, denied_answer}
use Rattle.decoder.specs.Search.{meanings}
use Rattle.bay_calls.proofs.bays.Bay.drop.Goals as goal

pub returns : goal.returns
returns g c =
    let m = g.S.Sample in
    let b = c.args.self.now in
    let r = b.standing in
    let xs = b.sums.now in
    let given = c.args.verdict.numbers in
    let fit = only_fitting r.stage given tt (sym c.in_ok-answer.ensures.1) in
    let p = c.empty.ensures in
    let done = subst (λ (n : ℕ). Steps (seen m r b.book xs) (Drop (five given)) (Counted n) (seen m c.empty.new.self b.book c.empty.new.sums)) (sym p.held)
    (drops (seen m r b.book xs) (five given) fit.0 _ fit.1 (leaves_empty m r _ b.book xs _ fit.0 p.standing) (zero_means m xs _ p.zeros)) in
    record { steps = done; deals = deals _ _ _ _ done; zeros = p.zeros; unmoved = tt; back = tt; lent = refl }

pub returns-in_err-answer : goal.returns-in_err-answer
returns-in_err-answer g c =
    let b = c.args.self.now in
    let xs = meanings g.S.Sample b.sums.now in
    let given = c.args.verdict.numbers in
    let p = err_from_is_err_and c.from_residual.result c.from_residual.ensures.1 in
    let not = c.in_err-answer.ensures in
    let done = denied_answer b.standing b.book xs given c.in_err-answer.field-0.0.why (Drop (five given)) (drop_misfits (stands b.standing b.book xs) (five given)) not.1 in
    rw (p.1, p.2) (record { steps = done; deals = deals _ _ _ _ done; zeros = tt; unmoved = refl; back = not.0; lent = refl })
