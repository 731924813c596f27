use Rattle.std.proofs.Common.{◌≡◌, ℕ, zero, suc, ◌+◌, ◌-◌, ◌%◌, ◌<◌, [], ◌∷◌, get_or, sym, refl, ap, ◌∙◌, subst, add_assoc, add-one, arith, to_z-of_z, w32, SFits, rules}
use Rattle.samples.specs.Meaning.{reads}
use Rattle.decoder.specs.Visits.{Ranked, times}
use Rattle.decoder.proofs.SampleTurns.{times_front}
use Rattle.decoder.proofs.ranking.Best.rank_place.Goals as goal

-- the symbol read after k turns
turn_symbol : (k : ℕ) → k < 4 → get_or (0 ∷ 3 ∷ 2 ∷ 1 ∷ []) k 0 ≡ (4 - k) % 4
turn_symbol zero h = refl
turn_symbol (suc zero) h = refl
turn_symbol (suc (suc zero)) h = refl
turn_symbol (suc (suc (suc zero))) h = refl
turn_symbol (suc (suc (suc (suc k)))) h = absurd (omega arith)

pub loop-symbol-preserved : goal.loop-symbol-preserved
loop-symbol-preserved g c =
    let m = g.S.Sample in
    let k = c.loop-symbol.symbol-index in
    let x = c.args.x in
    let four : k < 4 = omega arith in record {
      turned = c.turn-x.ensures ∙ ap m.turned c.loop-symbol.invariant.turned ∙ sym (ap (λ (n : ℕ). times m n x) (add-one k));
      ranked = λ n f key t r apart small here.
          let e : ℕ = get_or (0 ∷ 3 ∷ 2 ∷ 1 ∷ []) k 0 in
          let e-is : e ≡ (4 - k) % 4 = turn_symbol k four in
          let e4 : e < 4 = omega arith in
          let front : c.front.result ≡ reads (m.means x) e =
          c.front.ensures ∙ ap m.fronted c.loop-symbol.invariant.turned ∙ times_front m x small k four ∙ ap (reads (m.means x)) (sym e-is) in
          let fits : SFits w32 c.front.result = search rules in
          let turn : (4 - e) % 4 ≡ k = omega arith in
          let time : key (c.args.base + e) ≡ t + k = (here e e4).time ∙ ap (λ (y : ℕ). t + y) turn in
          subst (λ (y : ℕ). Ranked n f key y c.consider.new.self) (add_assoc t k 1)
          (c.consider.ensures n f key (t + k) (c.loop-symbol.invariant.ranked n f key t r apart small here) apart (here e e4).below time
          ((here e e4).score ∙ sym front ∙ sym (to_z-of_z fits)));
    }

pub returns : goal.returns
returns g c n f key t r apart small here =
    let e : t + c.loop-symbol.symbol-index ≡ t + 4 = omega arith in
    subst (λ (y : ℕ). Ranked n f key y c.loop-symbol.self) e (c.loop-symbol.invariant.ranked n f key t r apart small here)
