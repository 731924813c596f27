use Rattle.std.proofs.Common.{◌≡◌, ℕ, ◌+◌, ◌*◌, ◌<◌, ◌≤◌, ◌≤ℤ◌, sym, refl, ap, ◌∙◌, subst, ap₂, mod-lt, add-mul, one-mul, arith, to_z-of_z, w32, SFits, rules}
use borrow.Author.Rules.{get_or_read}
use Rattle.samples.specs.Meaning.{reads}
use Rattle.samples.specs.Kind.{limit}
use Rattle.samples.specs.Sizes.{at}
use Rattle.kerdock.specs.Code.{size, messages, digit}
use Rattle.decoder.specs.Cosets.{message, highs}
use Rattle.decoder.specs.Visits.{Ranked, visit}
use Rattle.decoder.proofs.Cosets.{cosets}
use Rattle.decoder.proofs.PassingOver.{passed_over}
use Rattle.decoder.proofs.Spreads.{message_spread}
use Rattle.decoder.proofs.VisitTimes.{visit_time, visits_apart, visited_coset, visited_place}
use Rattle.decoder.proofs.ranking.Best.rank_coset.Goals as goal
use Rattle.decoder.proofs.ranking.Best.rank_coset.Goals.{then-not-passes_over, else-not-passes_over}

pub returns-then-passes_over : goal.returns-then-passes_over
returns-then-passes_over g c row f sound long lu r small scores =
    let top = c.peak.result in
    let u = c.args.u in
    let n = size row in
    let cs = cosets row sound in
    let fits : SFits w32 top = search rules in
    let weak = rw (to_z-of_z fits) at (c.if-passes_over.ensures.0 refl) in
    let under : (v e : ℕ) → v < n → e < 4 → f (message row e u v) ≤ℤ top =
    λ v e h l. rw (scores v e h l) (c.peak.ensures small v e (omega arith) l) in
    let new : (k : ℕ) → k < messages row → 4 * (u * n) ≤ visit row k → visit row k < 4 * (u * n) + 4 * n → f k ≤ℤ top =
    λ k l a b. rw (visited_coset row sound k u l a b) (under (highs row k) (digit k 0) (cs.highs_within k) (mod-lt _ (omega arith))) in
    let some : 0 < n = omega arith in
    let parts = add-mul u 1 n in
    let one = one-mul n in
    let e : 4 * (u * n) + 4 * n ≡ 4 * ((u + 1) * n) = omega arith in
    subst (λ (t : ℕ). Ranked (messages row) f (visit row) t c.args.self.now) e
    (passed_over (messages row) f (visit row) (4 * (u * n)) (4 * n) c.args.self.now r top weak new
    (message row 0 u 0) (cs.within 0 u 0 (omega arith)) (under 0 0 some (omega arith)))

pub loop-v-preserved : goal.loop-v-preserved
loop-v-preserved g c row f sound long lu r small scores =
    let m = g.S.Sample in
    let n = size row in
    let u = c.args.u in
    let v = c.loop-v.v in
    let xs = c.args.work.now in
    let x = c.index-work-v.result in
    let t = 4 * (u * n + v) in
    let lv : v < n = omega arith in
    let is_x : x ≡ at m xs v = get_or_read xs v x (omega arith) c.index-work-v.is m.zeroed in
    let size-x : (m.means x).size ≤ limit = rw is_x (small v (omega arith)) in
    let so_far = c.loop-v.invariant row f sound long lu r small scores in
    let score : (e : ℕ) → e < 4 → f (message row e u v) ≡ reads (m.means x) e = λ e l. scores v e lv l ∙ ap (λ y. reads (m.means y) e) (sym is_x) in
    let next : t + 4 ≡ 4 * (u * n + (v + 1)) = omega arith in
    let ranked : Ranked (messages row) f (visit row) (t + 4) c.if-not-passes_over.self =
    elim c.if-not-passes_over.branch [
      | then-not-passes_over w ↦
          let base = 4 * (c.spread-lower.result + 2 * w.spread.result) in
          let number : (e : ℕ) → base + e ≡ message row e u v =
          λ e. ap₂ (λ (y z : ℕ). 4 * (y + 2 * z) + e) c.spread-lower.ensures.is w.spread.ensures.is ∙ message_spread row e u v sound.few lu lv in
          rw w.self-is (w.rank_place.ensures (messages row) f (visit row) t so_far (visits_apart row sound) size-x (λ e l. record {
            below = rw (number e) ((cosets row sound).within e u v l);
            time = ap (visit row) (number e) ∙ visit_time row sound e u v l lu lv;
            score = ap f (number e) ∙ score e l;
          }))
      | else-not-passes_over w ↦
          let top = c.peak_of.result in
          let fits : SFits w32 top = search rules in
          let weak = rw (to_z-of_z fits) at (w.if-not-passes_over.ensures.0 refl) in
          let under : (e : ℕ) → e < 4 → f (message row e u v) ≤ℤ top = λ e l. rw (score e l) (c.peak_of.ensures size-x e l) in
          rw w.self-is (passed_over (messages row) f (visit row) t 4 c.loop-v.self so_far top weak
          (λ k l a b. rw (visited_place row sound k u v l lv a b) (under (digit k 0) (mod-lt _ (omega arith))))
          (message row 0 u v) ((cosets row sound).within 0 u v (omega arith)) (under 0 (omega arith)))
    ] in
    subst (λ (y : ℕ). Ranked (messages row) f (visit row) y c.if-not-passes_over.self) next ranked

pub returns : goal.returns
returns g c row f sound long lu r small scores =
    let u = c.args.u in
    let parts = add-mul u 1 (size row) in
    let one = one-mul (size row) in
    let e : 4 * (u * size row + c.loop-v.v) ≡ 4 * ((u + 1) * size row) = omega arith in
    subst (λ (t : ℕ). Ranked (messages row) f (visit row) t c.loop-v.self) e (c.loop-v.invariant row f sound long lu r small scores)
