use Rattle.std.proofs.Common.{ℕ, length, Result, refl, sym, subst}
use Rattle.bay.specs.Rules.Dealing.{Decide, Accept}
use Rattle.bay.specs.Law.{Decides, Chooses}
use Rattle.bay_rules.specs.declared.denial.Denial.{Denial}
use Rattle.bay_rules.specs.declared.numbers.Numbers.{Numbers}
use Rattle.bay_rules.specs.Lived.{Deals, OnlyTheScore}
use Rattle.bay_calls.specs.declared.verdict.Verdict.{Verdict}
use Rattle.bay_calls.specs.declared.verdict.Refused.{Refused}
use Rattle.bay_calls.specs.Seen.{state, five, delivered, accepted}
use Rattle.gateway.proofs.Held.{ok_unless}
use Rattle.gateway.proofs.Verdicts.{never_misfits}
use Rattle.gateway.proofs.taking.settle.Goals as goal

pub unwrap-message-requires : goal.unwrap-message-requires
unwrap-message-requires g c =
    let before = state g.S.Sample c.args.bay.now in
    let decided = state g.S.Sample c.decide.new.self in
    ok_unless c.accept.result (λ e q.
    never_misfits before decided (length c.args.work.now) c.requires (five c.unwrap-verdict.result.numbers) e.why (state g.S.Sample c.accept.new.self)
    (subst (λ (r : Result Verdict Denial). Deals before (Decide (length c.args.work.now)) (delivered r) decided) c.unwrap-verdict.ensures c.decide.ensures.deals)
    (subst (λ (r : Result ℕ Refused). Deals decided (Accept (five c.unwrap-verdict.result.numbers)) (accepted r) (state g.S.Sample c.accept.new.self)) q c.accept.ensures.deals))

pub returns : goal.returns
returns g c o h l =
    let before = state g.S.Sample c.args.bay.now in
    let deals =
    subst (λ (r : Result Verdict Denial). Deals before (Decide (length c.args.work.now)) (delivered r) (state g.S.Sample c.decide.new.self))
    c.unwrap-verdict.ensures c.decide.ensures.deals in
    let law = subst (λ (r : Result Verdict Denial). OnlyTheScore before (delivered r)) c.unwrap-verdict.ensures c.decide.ensures.law in
    subst (λ (n : Numbers). Decides o h (five n) × Chooses o h (five n)) (sym c.numbers-numbers.ensures)
    ((length c.args.work.now, (deals o h l).1.plainly.lawful), law o h _ l refl)
