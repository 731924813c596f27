-- What the search knows at its start, and what it has found at its end.
use Rattle.std.proofs.Common.{◌≡◌, ℕ, ◌*◌, ◌^◌, ◌≤◌, Bool, true, false, cond, T, List, nat_abs, Some, None, sym, ap, ◌∙◌, subst, arith, pow_mono}
use borrow.Author.Differences.{ints}
use Rattle.std.proofs.ByRecursion.{All-from_get_or, All-map}
use Rattle.samples.specs.Kind.{limit}
use Rattle.samples.specs.Sizes.{Within}
use Rattle.samples.specs.Transform.{loudest}
use Rattle.samples.specs.declared.sample.Sample.{Ghosts}
use Rattle.kerdock.specs.Code.{Row, size, messages}
use Rattle.kerdock.specs.Sound.{Sound}
use Rattle.kerdock.specs.Table.{row_of, known}
use Rattle.kerdock.proofs.RowFacts.{known_sound}
use Rattle.decoder.specs.Ranking.{Ranking}
use Rattle.decoder.specs.Scores.{score}
use Rattle.decoder.specs.Search.{meanings, Found}
use Rattle.decoder.specs.Turnbacks.{Margin}
use Rattle.decoder.specs.Visits.{Ranked, visit}
use Rattle.decoder.specs.declared.ranking.Best.{Best}
use Rattle.decoder.specs.declared.search.Leader.{Leader}
use Rattle.decoder.proofs.Laying.{loudest_fits}
use Rattle.decoder.proofs.Rankings.{one_ranking}
use Rattle.decoder.proofs.Totals.{scores_add}
use Rattle.decoder.proofs.VisitOrder.{visits_all}

-- an answer that is some number was due, and is that number
some_due : (b : Bool) (n k : ℕ) → Some n ≡ cond b (Some k) None → T b × (n ≡ k)
some_due true n k e = (tt, cc)
some_due false n k e = let z : ◌≡◌ {A = ℕ} 0 1 = cc in absurd (omega arith)

-- what is known of a degree whose words are n long
pub record Sized (d n : ℕ) : Type 0 where
  pub listed : T (known d)
  pub sound : Sound (row_of d)
  pub deg : (row_of d).degree ≡ d
  pub long : n ≡ size (row_of d)
  pub power : n ≡ 2 ^ d
  pub two : 2 ≤ d
  pub seven : d ≤ 7
  pub some : 4 ≤ n
  pub few : n ≤ 128

pub sized : (d n : ℕ) → Some n ≡ cond (known d) (Some (size (row_of d))) None → Sized d n
sized d n e =
    let due = some_due (known d) n (size (row_of d)) e in
    let k = known_sound d due.0 in
    let deg = k.1 in
    let power : n ≡ 2 ^ d = due.1 ∙ ap (λ (x : ℕ). 2 ^ x) deg in
    let two : 2 ≤ d = let s = k.0.some in omega arith in
    let seven : d ≤ 7 = let s = k.0.few in omega arith in
    let low : 2 ^ 2 ≤ 2 ^ d = pow_mono two in
    let high : 2 ^ d ≤ 2 ^ 7 = pow_mono seven in
    record { listed = due.0; sound = k.0; deg = deg; long = due.1; power = power; two = two; seven = seven; some = omega arith; few = omega arith }

module _ {S : Type 0} (m : Ghosts S) (row : Row) (sound : Sound row) (sums : List S) (small : Within m loudest sums) where
  -- no score is beyond what a kind is exact for
  pub score_limit : (k : ℕ) → nat_abs (score row (meanings m sums) k) ≤ limit
  score_limit k =
      let all = All-map (λ x. x.size ≤ loudest) m.means sums (All-from_get_or (λ y. (m.means y).size ≤ loudest) sums m.zeroed small) in
      let within = (scores_add row sound).small (meanings m sums) loudest all k in
      let few : size row ≤ 2 ^ 7 = pow_mono sound.few in
      let most = loudest_fits (size row) few in
      let above = within.0 in
      let below = within.1 in
      omega (arith, ints)

  -- once every coset is ranked, the best is the leader
  pub leader_found : (b : Best) (x : Leader) → x.message ≡ b.message → x.score ≡ b.score → Margin b x.margin →
      Ranked (messages row) (score row (meanings m sums)) (visit row) (4 * (size row * size row)) b → Found row (meanings m sums) x
  leader_found b x e s lead r =
      let f = score row (meanings m sums) in
      let l = (visits_all row sound).leads f b x.margin r lead in
      let ranking : Ranking row f b.message x.margin = (one_ranking row sound).by_words f b.message x.margin l.0 in
      record {
        ranking = subst (λ (k : ℕ). Ranking row f k x.margin) (sym e) ranking;
        score_is = s ∙ sym l.1 ∙ ap f (sym e);
      }
