use Rattle.std.proofs.Common.{ℕ, Result, subst, arith}
use Rattle.bay.specs.Rules.Dealing.{Take}
use Rattle.bay_rules.specs.declared.denial.Denial.{Denial}
use Rattle.bay_rules.specs.Lived.{Deals}
use Rattle.decoder.specs.Search.{meanings}
use Rattle.bay_calls.specs.Seen.{state, counted}
use Rattle.gateway.proofs.Due.{picks_it, picked_so}
use Rattle.gateway.proofs.Held.{took_more, never_denied, ok_unless}
use Rattle.gateway.proofs.taking.take_one.Goals as goal

pub unwrap-requires : goal.unwrap-requires
unwrap-requires g c =
    let inside = c.requires.inside in
    picks_it g.S.Sample g.S.Stored c.args.file.bytes.now _ _ _ c.pick.result c.pick.ensures.picks c.requires.kind (omega arith) c.requires.long

pub unwrap-held-requires : goal.unwrap-held-requires
unwrap-held-requires g c =
    let picked = picked_so g.S.Sample g.S.Stored c.args.file.bytes.now _ _ _ c.pick.result _ c.pick.ensures.picks c.unwrap.ensures in
    ok_unless c.take.result (λ e q.
    never_denied g.S.Sample g.S.Stored c.args.file.bytes.now _ c.args.number _ _ _ _ e picked c.requires.took c.requires.inside
    (subst (λ (r : Result ℕ Denial). Deals (state g.S.Sample c.args.bay.now) (Take (meanings g.S.Sample c.pick.new.memory)) (counted r) (state g.S.Sample c.take.new.self)) q c.take.ensures.deals))

pub returns : goal.returns
returns g c =
    let picked = picked_so g.S.Sample g.S.Stored c.args.file.bytes.now _ _ _ c.pick.result _ c.pick.ensures.picks c.unwrap.ensures in
    took_more g.S.Sample g.S.Stored c.args.file.bytes.now c.args.number _ _ _ _ _ picked c.requires.took
    (subst (λ (r : Result ℕ Denial). Deals (state g.S.Sample c.args.bay.now) (Take (meanings g.S.Sample c.pick.new.memory)) (counted r) (state g.S.Sample c.take.new.self)) c.unwrap-held.ensures c.take.ensures.deals)
