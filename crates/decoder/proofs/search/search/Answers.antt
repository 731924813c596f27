use Rattle.std.proofs.Common.{◌≡◌, ℕ, ◌-◌, ◌*◌, ◌%◌, ◌^◌, ◌≤◌, ◌≢◌, length, get_or, sym, ap, ◌∙◌, subst, ap₂, zero-mul, arith}
use Rattle.samples.specs.Transform.{loudest, Transformed}
use Rattle.kerdock.specs.Code.{size, messages, place}
use Rattle.kerdock.specs.Table.{row_of}
use Rattle.decoder.specs.Scores.{score}
use Rattle.decoder.specs.Search.{meanings}
use Rattle.decoder.specs.Visits.{Ranked, Turnback, times, visit}
use Rattle.decoder.proofs.Laying.{never_refused, not_refused, coset_reads, coset_within, laid_within, loudest_fits}
use Rattle.decoder.proofs.Searching.{Sized, sized, score_limit, leader_found}
use Rattle.decoder.proofs.search.search.Goals as goal

pub blank-tables-requires : goal.blank-tables-requires
blank-tables-requires g c = let s = sized c.args.degree c.in_ok-n.n c.in_ok-n.ensures in record { two = omega arith; seven = omega arith }

pub loop-u-init : goal.loop-u-init
loop-u-init g c = λ lawful small.
    let d = c.args.degree in
    let s = sized d c.in_ok-n.n c.in_ok-n.ensures in
    let m = g.S.Sample in
    let f = score (row_of d) (meanings m c.args.sums.now) in
    let start = c.nobody-best.ensures (messages (row_of d)) f (visit (row_of d)) (λ k b. score_limit m (row_of d) s.sound c.args.sums.now small k) in
    let z : 0 ≡ 4 * (0 * size (row_of d)) = let e = zero-mul (size (row_of d)) in omega arith in
    subst (λ (t : ℕ). Ranked (messages (row_of d)) f (visit (row_of d)) t c.nobody-best.result) z start

-- the tables' words have the degree's length
long : (d n t f : ℕ) → Sized d n → t ≡ f → f ≡ d → n ≡ 2 ^ t
long d n t f s e is = s.power ∙ ap (λ (k : ℕ). 2 ^ k) (sym (e ∙ is))

pub lay-requires : goal.lay-requires
lay-requires g c =
    let s = sized c.args.degree c.in_ok-n.n c.in_ok-n.ensures in
    let n = long c.args.degree c.in_ok-n.n c.fill.new.self.degree c.from.result s (c.fill.ensures.degree ∙ c.blank-tables.ensures) c.from.ensures in
    record { sums = omega arith; coset = omega arith; room = omega arith }

pub rank_coset-requires : goal.rank_coset-requires
rank_coset-requires g c = let s = sized c.args.degree c.in_ok-n.n c.in_ok-n.ensures in record { few = omega arith; coset = omega arith }

-- the length and the degree of a transform that cannot be refused
fits : (d n k w : ℕ) → Sized d n → k ≡ d → w ≡ n → (k ≤ 7 → w ≢ 2 ^ k) → ⊥
fits d n k w s e same unfit = let seven = s.seven in unfit (omega arith) (same ∙ s.power ∙ ap (λ (k : ℕ). 2 ^ k) (sym e))

pub unwrap-requires : goal.unwrap-requires
unwrap-requires g c =
    let s = sized c.args.degree c.in_ok-n.n c.in_ok-n.ensures in
    never_refused c.transform_sized.result c.transform_sized.ensures.unfit
    (fits c.args.degree c.in_ok-n.n c.from-in-loop-u.result (length c.lay.new.work) s c.from-in-loop-u.ensures (omega arith))

pub loop-u-preserved : goal.loop-u-preserved
loop-u-preserved g c = λ lawful small.
    let row = row_of c.args.degree in
    let m = g.S.Sample in
    let s = sized c.args.degree c.in_ok-n.n c.in_ok-n.ensures in
    let u = c.loop-u.u in
    let sums = c.args.sums.now in
    let laid = c.lay.new.work in
    let done = c.transform_sized.new.w in
    let d : row.degree ≡ c.blank-tables.result.degree = s.deg ∙ sym (c.blank-tables.ensures ∙ c.from.ensures) in
    let holds = c.fill.ensures.holds row s.sound d lawful in
    let whole : length sums ≡ size row = omega arith in
    let width : length laid ≡ size row = omega arith in
    let turned : Turnback m row u sums laid =
    λ i b.
    let w = s.sound.within i b in
    c.lay.ensures (place row i) (omega arith)
    ∙ ap₂ (λ (s k : ℕ). times m ((4 - s) % 4) (get_or sums k m.zeroed)) (holds.led u i (omega arith) b) (holds.found i b) in
    let within = laid_within m row s.sound u sums laid whole width small turned in
    let transformed : Transformed m laid done =
    not_refused c.transform_sized.result c.transform_sized.ensures.unfit
    (fits c.args.degree c.in_ok-n.n c.from-in-loop-u.result (length laid) s c.from-in-loop-u.ensures (omega arith))
    c.transform_sized.ensures.sums loudest within (loudest_fits (length laid) (omega arith)) in
    c.rank_coset.ensures row (score row (meanings m sums)) s.sound (transformed.long ∙ width) (omega arith) (c.loop-u.invariant lawful small)
    (coset_within m row s.sound u sums laid whole width small turned done transformed)
    (coset_reads m row s.sound u sums laid whole width small turned done transformed)

pub returns : goal.returns
returns g c =
    let row = row_of c.args.degree in
    let m = g.S.Sample in
    let sums = c.args.sums.now in
    let s = sized c.args.degree c.in_ok-n.n c.in_ok-n.ensures in
    let long = c.clean.ensures.long in (
      (s.listed, omega arith, omega arith),
      record { long = omega arith; each = c.clean.ensures.each },
      λ lawful small.
          let n : c.loop-u.u ≡ size row = omega arith in
          let ranked : Ranked (messages row) (score row (meanings m sums)) (visit row) (4 * (size row * size row)) c.loop-u.best =
          subst (λ (u : ℕ). Ranked (messages row) (score row (meanings m sums)) (visit row) (4 * (u * size row)) c.loop-u.best) n (c.loop-u.invariant lawful small) in
          let leader = c.into.ensures in
          leader_found m row s.sound sums small c.loop-u.best c.into.result leader.message leader.score (leader.margin ranked.order) ranked,
    )
