use Rattle.std.proofs.Common.{sym, refl, subst}
use Rattle.std.proofs.lemmas.Result.{err_from_is_err_and}
use Rattle.bay_rules.specs.declared.numbers.Numbers.{Numbers}
use Rattle.bay.specs.Rules.Answer.{Message}
use Rattle.bay.specs.Rules.Dealing.{Accept}
use Rattle.bay_rules.specs.Steps.{Steps}
use Rattle.decoder.specs.Search.{meanings}
use Rattle.bay_calls.specs.Seen.{five, seen, stands}
use Rattle.bay_calls.proofs.Means.{zero_means}
use Rattle.bay_rules.proofs.Living.{deals}
use Rattle.bay_rules.proofs.Settling.{accepts, accept_misfits}
use Rattle.bay_calls.proofs.Stages.{only_fitting, leaves_empty, denied_answer}
use Rattle.bay_calls.proofs.bays.Bay.accept.Goals as goal

pub returns : goal.returns
returns g c =
    let m = g.S.Sample in
    let b = c.args.self.now in
    let r = b.standing in
    let xs = b.sums.now in
    let given = c.args.verdict.numbers in
    let fit = only_fitting r.stage given tt (sym c.in_ok-numbers.ensures.1) in
    let p = c.empty.ensures in
    let done = subst (λ (n : Numbers). Steps (seen m r b.book xs) (Accept (five given)) (Message n.message) (seen m c.empty.new.self b.book c.empty.new.sums)) (sym c.in_ok-numbers.ensures.0)
    (accepts (seen m r b.book xs) (five given) fit.0 _ fit.1 (leaves_empty m r _ b.book xs _ fit.0 p.standing) (zero_means m xs _ p.zeros)) in
    record { steps = done; deals = deals _ _ _ _ done; zeros = p.zeros; unmoved = tt; back = tt; lent = refl }

pub returns-in_err-numbers : goal.returns-in_err-numbers
returns-in_err-numbers g c =
    let b = c.args.self.now in
    let xs = meanings g.S.Sample b.sums.now in
    let given = c.args.verdict.numbers in
    let p = err_from_is_err_and c.from_residual.result c.from_residual.ensures.1 in
    let not = c.in_err-numbers.ensures in
    let done = denied_answer b.standing b.book xs given c.in_err-numbers.field-0.0.why (Accept (five given)) (accept_misfits (stands b.standing b.book xs) (five given)) not.1 in
    rw (p.1, p.2) (record { steps = done; deals = deals _ _ _ _ done; zeros = tt; unmoved = refl; back = not.0; lent = refl })
