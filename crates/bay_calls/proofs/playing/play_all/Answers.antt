use Rattle.std.proofs.Common.{◌≡◌, ℕ, true, length, take, get_or, ◌∙◌, subst, arith, length-take-le}
use Rattle.std.proofs.lemmas.List.{get_or-take}
use Rattle.bay_calls.specs.declared.playing.Dealing.{Dealing as Listed}
use Rattle.bay_calls.specs.declared.playing.Dealing.TheVariants.{Take}
use Rattle.bay.specs.Rules.{shut}
use Rattle.bay_rules.specs.Lived.{Lived, Deals}
use Rattle.bay.specs.Replay.{made}
use Rattle.bay_calls.specs.Seen.{state}
use Rattle.bay_calls.specs.Played.{meant, told, handed, written, Beyond, WorkAfter, WorkLeft}
use Rattle.bay_calls.proofs.Turns.{turn, beyond_more, work_more}
use Rattle.bay_calls.proofs.playing.play_all.Goals as goal

pub loop-i-preserved : goal.loop-i-preserved
loop-i-preserved g c =
    let m = g.S.Sample in
    let p = c.play_one.ensures in
    let inv = c.loop-i.invariant in
    let i : ℕ = c.loop-i.i in
    let a = c.play_one.result in
    let n : ℕ = c.min-n.result in
    let ds = c.args.dealings.now in
    let long : length (take n ds) ≡ n = length-take-le n ds (omega (arith, c.min-n.ensures)) in
    let at : get_or (take n ds) i (Take 0 0) ≡ get_or ds i (Take 0 0) = get_or-take n ds i (Take 0 0) (omega arith) in
    let dealt = subst (λ (d : Listed). Deals (state m c.loop-i.bay) (meant m c.args.pool.now (length c.loop-i.work) d) (told a) (state m c.play_one.new.bay)) at p.deals in
    let sums : ℕ = length c.args.bay.now.sums.now in (
      λ o l. turn m c.args.pool.now (length c.args.work.now) (length c.loop-i.work) ds c.loop-i.answers i a o
          c.args.bay.now c.loop-i.bay c.play_one.new.bay c.loop-i.auto.work (omega arith) (inv.0 o l) dealt p.unmoved,
      beyond_more i c.args.answers.now c.loop-i.answers a inv.1,
      p.lent ∙ inv.2,
      work_more m sums i c.loop-i.answers c.args.work.now c.loop-i.work c.play_one.new.work (omega arith) inv.3 a
          (subst (λ (k : ℕ). WorkAfter m k a c.loop-i.work c.play_one.new.work) inv.4 p.works),
      p.long ∙ inv.4,
    )

pub returns : goal.returns
returns g c =
    let m = g.S.Sample in
    let n : ℕ = c.min-n.result in
    let ds = c.args.dealings.now in
    let long : length (take n ds) ≡ n = length-take-le n ds (omega (arith, c.min-n.ensures)) in
    let e : c.loop-i.i ≡ c.min-n.result = omega arith in
    let sums : ℕ = length c.args.bay.now.sums.now in
    let inv = c.loop-i.invariant in
    record {
      count = c.min-n.ensures;
      runs = λ o l.
          subst (λ (n : ℕ). Lived o (made (handed m c.args.pool.now (length c.args.work.now) c.args.dealings.now) (written c.loop-i.answers) n) (state m c.loop-i.bay) × (shut o ≡ true → c.loop-i.bay ≡ c.args.bay.now)) e
          (inv.0 o l);
      worked = subst (λ (n : ℕ). WorkLeft m sums n c.loop-i.answers c.args.work.now c.loop-i.work) e inv.3;
      beyond = subst (λ (n : ℕ). Beyond n c.args.answers.now c.loop-i.answers) e inv.1;
      lent = inv.2;
    }
