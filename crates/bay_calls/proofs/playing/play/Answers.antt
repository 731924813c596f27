use Rattle.std.proofs.Common.{ℕ, length, subst, rules}
use Rattle.bay.specs.Rules.{Opening}
use Rattle.bay_calls.specs.Seen.{opening}
use Rattle.bay_calls.specs.Played.{WorkLeft}
use Rattle.bay.proofs.Replaying.{carries}
use Rattle.bay_calls.proofs.Turns.{sums_left}
use Rattle.bay_calls.proofs.playing.play.Goals as goal

pub returns : goal.returns
returns g c =
    let m = g.S.Sample in
    let o : Opening = opening c.args.degree (length c.args.sums.now) in
    let p = c.play_all.ensures in
    let l = p.runs o c.open-bay.ensures.lived in
    record {
      count = p.count;
      law = carries o _ _ _ l.0.plainly.lawful;
      left = sums_left m o _ c.args.sums.now _ c.play_all.new.bay c.open-bay.result (search rules) l.0 l.1
          c.open-bay.ensures.untouched c.open-bay.ensures.opens.plainly.closed;
      worked = subst (λ (k : ℕ). WorkLeft m k c.play_all.result c.play_all.new.answers c.args.work.now c.play_all.new.work)
          c.open-bay.ensures.long p.worked;
      beyond = p.beyond;
    }
