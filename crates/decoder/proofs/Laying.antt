-- A coset, laid and transformed: its samples read the scores of its messages.
use Rattle.std.proofs.Common.{◌≡◌, ℕ, zero, suc, ◌+◌, ◌-◌, ◌*◌, ◌%◌, ◌^◌, ◌<◌, ◌≤◌, List, length, get_or, sym, refl, ap, ◌∙◌, mul-le-mul_right, arith, pow_mono}
use Rattle.std.specs.Prelude.{Ok, Err, Result, IsOk, OnOk, OnErr}
use Rattle.std.proofs.lemmas.List.{get_or-map}
use Rattle.samples.specs.Meaning.{reads, silence, over}
use Rattle.samples.specs.Kind.{limit}
use Rattle.samples.specs.Sizes.{Within, size_at}
use Rattle.samples.specs.Transform.{parity, reading_at, loudest, Transformed}
use Rattle.samples.specs.declared.sample.Sample.{Ghosts}
use Rattle.samples.proofs.Sums.{over_same}
use Rattle.kerdock.specs.Code.{Row, size, symbol}
use Rattle.kerdock.specs.Sound.{Sound}
use Rattle.kerdock.proofs.Words.{words}
use Rattle.decoder.specs.Cosets.{message}
use Rattle.decoder.specs.Scores.{score}
use Rattle.decoder.specs.Search.{meanings}
use Rattle.decoder.specs.Turnbacks.{Laid}
use Rattle.decoder.specs.Visits.{times, Turnback}
use Rattle.decoder.proofs.CosetScores.{coset_scores}
use Rattle.decoder.proofs.SampleTurns.{times_size, times_reads}

-- an outcome is no refusal, if it can be none
pub never_refused : {X E Q : Type 0} (r : Result X E) → OnErr r Q → (Q → ⊥) → IsOk r
never_refused (Ok x) unfit fits = refl
never_refused (Err e) unfit fits = absurd (fits unfit)

-- what an outcome promises where it is no refusal, if it can be none
pub not_refused : {X E P Q : Type 0} (r : Result X E) → OnErr r Q → (Q → ⊥) → OnOk r P → P
not_refused (Ok x) unfit fits p = p
not_refused (Err e) unfit fits p = absurd (fits unfit)

-- three turns for each that is left of s are s turns, modulo 4
turned_back : (e s : ℕ) → s < 4 → (e + 3 * ((4 - s) % 4)) % 4 ≡ (e + s) % 4
turned_back e zero b = omega arith
turned_back e (suc zero) b = omega arith
turned_back e (suc (suc zero)) b = omega arith
turned_back e (suc (suc (suc zero))) b = omega arith
turned_back e (suc (suc (suc (suc s)))) b = absurd (omega arith)

module _ {S : Type 0} (m : Ghosts S) where
  -- turned back by s, the reading of e is the one that stood at e + s
  back_reads : (s e : ℕ) (x : S) → s < 4 → e < 4 → (m.means x).size ≤ limit → reads (m.means (times m ((4 - s) % 4) x)) e ≡ reads (m.means x) ((e + s) % 4)
  back_reads s e x b lt small =
      times_reads m x small ((4 - s) % 4) e lt ∙ ap (reads (m.means x)) (turned_back e s b)

  module _ (row : Row) (sound : Sound row) (u : ℕ) (sums laid : List S)
      (long : length sums ≡ size row) (width : length laid ≡ size row) (small : Within m loudest sums) (turned : Turnback m row u sums laid) where
    pub laid_reads : Laid row u (reading_at m sums) (reading_at m laid)
    laid_reads i s b lt =
        let fits = small i (omega arith) in
        ap (λ (x : S). reads (m.means x) s) (turned i b)
        ∙ back_reads (symbol row (message row 0 u 0) i) s (get_or sums i m.zeroed) ((words row sound).small (message row 0 u 0) i) lt (omega arith)

    pub laid_within : Within m loudest laid
    laid_within p b =
        let i = sound.onto p (omega arith) in
        let fits = small i.0 (let c = i.1 in omega arith) in
        let kept = times_size m (get_or sums i.0 m.zeroed) (omega arith) ((4 - symbol row (message row 0 u 0) i.0) % 4) in
        let here : size_at m laid p ≡ (m.means (times m ((4 - symbol row (message row 0 u 0) i.0) % 4) (get_or sums i.0 m.zeroed))).size =
        ap (size_at m laid) (sym i.2) ∙ ap (λ (x : S). (m.means x).size) (turned i.0 i.1) in
        omega arith

    -- the score over the meanings, by the samples' readings
    score_read : (k : ℕ) → over (size row) (λ i. reading_at m sums i (symbol row k i)) ≡ score row (meanings m sums) k
    unfolding score
    score_read k =
        over_same (size row) _ _ (λ i b.
        let inside : i < length sums = omega arith in
        ap (λ x. reads x (symbol row k i)) (sym (get_or-map m.means sums i m.zeroed silence inside)))

    module _ (done : List S) (transformed : Transformed m laid done) where
      pub coset_reads : (v e : ℕ) → v < size row → e < 4 → score row (meanings m sums) (message row e u v) ≡ reading_at m done v e
      coset_reads v e b lt =
          sym (score_read (message row e u v))
          ∙ sym (coset_scores row sound u e v (reading_at m sums) (reading_at m laid) lt b laid_reads)
          ∙ ap (λ (n : ℕ). over n (λ p. reading_at m laid p ((e + 2 * parity v p) % 4))) (sym width)
          ∙ sym (transformed.places v e (omega arith) lt)

      pub coset_within : Within m limit done
      coset_within k b =
          let seven : size row ≤ 2 ^ 7 = pow_mono sound.few in
          let s = transformed.sizes loudest laid_within k b in
          let most : size row * 524272 ≤ 2 ^ 7 * 524272 = mul-le-mul_right 524272 seven in
          let w : length laid * 524272 ≡ size row * 524272 = ap (λ (n : ℕ). n * 524272) width in
          omega arith

-- the transform's length times the largest size stays within the limit
pub loudest_fits : (n : ℕ) → n ≤ 128 → n * loudest ≤ limit
loudest_fits n h = mul-le-mul_right 524272 h
