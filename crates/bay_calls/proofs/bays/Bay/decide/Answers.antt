use Rattle.std.proofs.Common.{length, Option, ℤ, sym, refl, ◌∙◌, subst, to_z-of_z, w32, SFits, to_z, of_z, rules}
use Rattle.decoder.specs.declared.search.Leader.{Leader}
use Rattle.kerdock.specs.Table.{row_of}
use Rattle.decoder.specs.Search.{Found, Searched}
use Rattle.bay_calls.specs.declared.admission.Call.TheVariants.{Decide}
use Rattle.bay_calls.specs.declared.standing.Stage.TheVariants.{Waiting}
use Rattle.bay_rules.specs.declared.numbers.Numbers.{Numbers}
use Rattle.bay_calls.specs.Admission.{admitted}
use Rattle.bay.specs.Rules.{Verdict}
use Rattle.bay.specs.Rules.Answer.{Delivered}
use Rattle.bay.specs.Rules.Dealing.{Decide as Deciding}
use Rattle.bay_rules.specs.Steps.{Steps}
use Rattle.bay_rules.specs.Lived.{State}
use Rattle.bay_calls.specs.Seen.{five, seen, state, delivered}
use Rattle.bay_calls.proofs.Means.{as_many}
use Rattle.bay_rules.proofs.Living.{deals}
use Rattle.bay_rules.proofs.Replaying.{only_the_score}
use Rattle.bay_rules.proofs.Settling.{decides}
use Rattle.bay_calls.proofs.Stages.{gathers}
use Rattle.bay_calls.proofs.Searching.{searched_fits, small_sums}
use Rattle.bay_calls.proofs.bays.Bay.decide.Goals as goal

pub returns-in_err-admit-clause-deals : goal.returns-in_err-admit-clause-deals
returns-in_err-admit-clause-deals g c =
    let b = state g.S.Sample c.args.self.now in
    let done : Steps b (Deciding (length c.args.work.now)) (delivered c.from_residual.result) b = search rules in
    deals _ _ _ _ done

pub returns : goal.returns
returns g c =
    let m = g.S.Sample in
    let r = c.args.self.now.standing in
    let xs = c.args.self.now.sums.now in
    let book = c.args.self.now.book in
    let b : State = seen m r book xs in
    let gs = gathers m c.args.self.now (λ s. admitted s Decide) refl (λ v. refl) _ c.in_ok-admit.ensures in
    let f : SFits w32 c.in_ok-leader.leader.score = search rules in
    let e = to_z-of_z f in
    let v : Verdict = record { degree = b.degree; held = b.held; message = c.in_ok-leader.leader.message; score = to_z w32 (of_z w32 c.in_ok-leader.leader.score); margin = c.in_ok-leader.leader.margin } in
    let found = subst (λ (o : Option Leader). Searched m r.degree book xs c.args.work.now o c.look.new.work) c.in_ok-leader.ensures.ok_part c.look.ensures in
    let fit = searched_fits m _ xs _ found.0 in
    let numbers : Numbers = record { degree = v.degree; held = v.held; message = v.message; score = v.score; margin = v.margin } in
    let done = subst (λ (n : Numbers). Steps b (Deciding (length c.args.work.now)) (Delivered (five n)) (seen m (record { degree = r.degree; held = r.held; stage = Waiting numbers }) book xs))
    (sym c.issue.ensures)
    (decides b (length c.args.work.now) gs v _ c.if-self-eq0.false (c.if-work-self.false ∙ sym (as_many m xs)) fit.0 fit.1
    (record { plainly = record { closed = sym gs.up; degree = refl; held_is = refl; noted_is = refl }; book = refl })
    refl
    (record {
      degree = refl;
      held = refl;
      finds = λ fair. subst (λ (z : ℤ). Found (row_of b.degree) b.sums (record { message = v.message; score = z; margin = v.margin })) (sym e)
          (found.2 fair.book_is (small_sums m b.degree book xs fair));
    })) in
    let both = deals _ _ _ _ done in
    record {
      steps = done;
      deals = both;
      law = only_the_score _ _ _ _ both;
      kept = refl;
      worked = found.1;
      unmoved = tt;
      lent = refl;
    }
