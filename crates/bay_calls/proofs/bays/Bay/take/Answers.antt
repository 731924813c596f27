use Rattle.std.proofs.Common.{sym, refl, ◌∙◌, rules}
use Rattle.decoder.specs.Search.{meanings}
use Rattle.bay_calls.specs.declared.admission.Call.TheVariants.{Take}
use Rattle.bay_calls.specs.Admission.{admitted}
use Rattle.bay_calls.specs.Seen.{state, counted}
use Rattle.bay_calls.proofs.Means.{as_many, added_means, no_large, one_large}
use Rattle.bay_rules.proofs.Living.{deals}
use Rattle.bay_rules.proofs.Settling.{take_too_large, take_full, takes}
use Rattle.bay_calls.proofs.Stages.{gathers}
use Rattle.bay.specs.Rules.Dealing.{Take as Taking}
use Rattle.bay_rules.specs.Steps.{Steps}
use Rattle.bay_calls.proofs.bays.Bay.take.Goals as goal

pub returns-in_err-admit-clause-deals : goal.returns-in_err-admit-clause-deals
returns-in_err-admit-clause-deals g c =
    let b = state g.S.Sample c.args.self.now in
    let done : Steps b (Taking (meanings g.S.Sample c.args.reception.now)) (counted c.from_residual.result) b = search rules in
    deals _ _ _ _ done

pub returns-in-Some : goal.returns-in-Some
returns-in-Some g c =
    let m = g.S.Sample in
    let b = c.args.self.now in
    let handed = c.args.reception.now in
    let gs = gathers m b (λ s. admitted s Take) refl (λ v. refl) _ c.in_ok-admit.ensures in
    let done = take_too_large (state m b) (meanings m handed) gs c.in-Some.i
    (as_many m handed ∙ c.if-reception-self.false ∙ sym (as_many m b.sums.now)) (one_large m handed c.in-Some.i c.in-Some.ensures) in
    record { steps = done; deals = deals _ _ _ _ done; summed = tt; unmoved = refl; lent = refl }

pub returns-then-self-ge16 : goal.returns-then-self-ge16
returns-then-self-ge16 g c =
    let m = g.S.Sample in
    let b = c.args.self.now in
    let handed = c.args.reception.now in
    let gs = gathers m b (λ s. admitted s Take) refl (λ v. refl) _ c.in_ok-admit.ensures in
    let done = take_full (state m b) (meanings m handed) gs
    (as_many m handed ∙ c.if-reception-self.false ∙ sym (as_many m b.sums.now)) (no_large m handed c.in_default.ensures)
    c.if-self-ge16.true in
    record { steps = done; deals = deals _ _ _ _ done; summed = tt; unmoved = refl; lent = refl }

pub returns : goal.returns
returns g c =
    let m = g.S.Sample in
    let b = c.args.self.now in
    let handed = c.args.reception.now in
    let gs = gathers m b (λ s. admitted s Take) refl (λ v. refl) _ c.in_ok-admit.ensures in
    let done = takes (state m b) (meanings m handed) gs _
    (as_many m handed ∙ c.if-reception-self.false ∙ sym (as_many m b.sums.now)) (no_large m handed c.in_default.ensures)
    c.if-self-ge16.false
    (record { plainly = record { closed = refl; degree = refl; held_is = refl; noted_is = gs.none }; book = refl })
    (added_means m b.sums.now handed _ c.if-reception-self.false c.add_into.ensures) in
    record { steps = done; deals = deals _ _ _ _ done; summed = c.add_into.ensures; unmoved = tt; lent = refl }
