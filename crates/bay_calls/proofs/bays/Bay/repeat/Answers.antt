use Rattle.std.proofs.Common.{sym, refl}
use Rattle.std.proofs.lemmas.Result.{err_from_is_err_and}
use Rattle.bay.specs.Rules.Dealing.{Repeat}
use Rattle.decoder.specs.Search.{meanings}
use Rattle.bay_calls.specs.Seen.{five, stands}
use Rattle.bay_rules.proofs.Living.{deals}
use Rattle.bay_rules.proofs.Settling.{repeats, repeat_misfits}
use Rattle.bay_calls.proofs.Stages.{only_fitting, denied_answer}
use Rattle.bay_calls.proofs.bays.Bay.repeat.Goals as goal

pub returns : goal.returns
returns g c =
    let b = c.args.self.now in
    let xs = meanings g.S.Sample b.sums.now in
    let given = c.args.verdict.numbers in
    let fit = only_fitting b.standing.stage given tt (sym c.in_ok-answer.ensures.1) in
    let done = repeats (stands b.standing b.book xs) (five given) fit.0 _ fit.1
    (record { plainly = record { closed = sym fit.0; degree = refl; held_is = refl; noted_is = refl }; book = refl }) refl in
    record { steps = done; deals = deals _ _ _ _ done; kept = refl; unmoved = tt; back = tt; lent = refl }

pub returns-in_err-answer : goal.returns-in_err-answer
returns-in_err-answer g c =
    let b = c.args.self.now in
    let xs = meanings g.S.Sample b.sums.now in
    let given = c.args.verdict.numbers in
    let p = err_from_is_err_and c.from_residual.result c.from_residual.ensures.1 in
    let not = c.in_err-answer.ensures in
    let done = denied_answer b.standing b.book xs given c.in_err-answer.field-0.0.why (Repeat (five given)) (repeat_misfits (stands b.standing b.book xs) (five given)) not.1 in
    rw (p.1, p.2) (record { steps = done; deals = deals _ _ _ _ done; kept = refl; unmoved = refl; back = not.0; lent = refl })
