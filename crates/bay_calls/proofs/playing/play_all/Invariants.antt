use Rattle.std.proofs.Common.{◌≡◌, true, length}
use Rattle.bay.specs.Rules.{Opening, shut}
use Rattle.bay.specs.Rules.Run.{Opened}
use Rattle.bay_rules.specs.Lived.{Lived}
use Rattle.bay.specs.Replay.{made}
use Rattle.bay_calls.specs.Seen.{state}
use Rattle.bay_calls.specs.Played.{handed, written, Beyond, WorkLeft}
use Rattle.bay_calls.proofs.playing.play_all.Given as goal

-- the bay has lived the run of the first i dealings with the first i answers
abbrev pub invariant-loop-i : goal.invariant-loop-i
invariant-loop-i g l =
    let m = g.S.Sample in
    ((o : Opening) → Lived o Opened (state m l.initial.bay) →
    Lived o (made (handed m l.pool (length l.initial.work) l.dealings) (written l.answers) l.i) (state m l.bay)
    × (shut o ≡ true → l.bay ≡ l.initial.bay))
    × Beyond l.i l.initial.answers l.answers
    × (l.bay.sums.ghost_name ≡ l.initial.bay.sums.ghost_name)
    × WorkLeft m (length l.initial.bay.sums.now) l.i l.answers l.initial.work l.work
    × (length l.bay.sums.now ≡ length l.initial.bay.sums.now)
