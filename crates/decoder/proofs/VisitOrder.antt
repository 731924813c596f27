-- Every message is visited once, before the end, and a ranking of all that are visited is the ranking.
use Rattle.std.proofs.Common.{ℕ, ◌+◌, ◌*◌, ◌<◌, ℤ, ◌∙◌, arith}
use lib.Arith.{digits_lt}
use borrow.Author.Differences.{ints}
use Rattle.kerdock.specs.Code.{Row, size, messages}
use Rattle.kerdock.specs.Sound.{Sound}
use Rattle.decoder.specs.Cosets.{lows, highs}
use Rattle.decoder.specs.Ranking.{Leads}
use Rattle.decoder.specs.Visits.{Ranked, visit}
use Rattle.decoder.specs.Turnbacks.{Margin, VisitsAll}
use Rattle.decoder.specs.declared.ranking.Best.{Best}
use Rattle.decoder.proofs.Cosets.{cosets}
use Rattle.decoder.proofs.VisitTimes.{visit_time, visits_apart}

-- what ranks all messages, each visited before the time t, has the lead of its best over its rival
ranked_leads : (n : ℕ) (f : ℕ → ℤ) (key : ℕ → ℕ) (t : ℕ) (b : Best) (margin : ℕ) → Ranked n f key t b → 1 < t
    → ((k : ℕ) → k < n → key k < t) → Margin b margin → Leads n f b.message margin
ranked_leads n f key t b margin r two all lead =
    let led = r.led (omega arith) in
    let second = r.second two in
    let is = led.2 in
    record {
      within = led.0;
      best = λ k l. let w = r.top k l (all k l) in omega (arith, ints);
      smallest = λ k l e. r.first k l (all k l) (e ∙ is);
      behind = λ k l other. let w = r.others k l (all k l) other in omega (arith, ints);
      reached = (second.0, second.1, second.2, let w = second.3 in omega (arith, ints));
    }

module _ (row : Row) (sound : Sound row) where
  -- every time is before the end
  visit_before : (m : ℕ) → visit row m < 4 * (size row * size row)
  unfolding visit
  visit_before m =
      let c = cosets row sound in
      let l : lows row m * size row + highs row m < size row * size row = digits_lt (c.lows_within m) (c.highs_within m) in
      omega arith

  -- there is more than one time
  times_two : 1 < 4 * (size row * size row)
  times_two = let b = visit_before 0 in omega arith

  -- every message is visited once, before the end, and then the ranking is the ranking
  pub visits_all : VisitsAll row
  visits_all = record {
    time = visit_time row sound;
    apart = visits_apart row sound;
    before = λ m b. visit_before m;
    leads = λ f b margin r lead. (
      ranked_leads (messages row) f (visit row) (4 * (size row * size row)) b margin r times_two (λ k l. visit_before k) lead,
      let t = times_two in (r.led (omega arith)).2,
    );
  }
