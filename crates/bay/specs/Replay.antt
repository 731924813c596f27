-- The run that dealings and the answers written beside them make.
--   made     the run of the first n dealings, each with its answer
--   Carries  the run is lawful, and every verdict delivered in it stands under the law
use Rattle.std.specs.Prelude.{◌≡◌, ℕ, zero, suc, ◌<◌}
use Rattle.bay.specs.Rules.{Run, Dealing, Answer, Opening, Verdict, Lawful}
use Rattle.bay.specs.Rules.Run.{Opened, Then}
use Rattle.bay.specs.Rules.Answer.{Delivered}
use Rattle.bay.specs.Law.{Decides, Chooses}

abbrev pub made : (ℕ → Dealing) → (ℕ → Answer) → ℕ → Run
made ds ans zero = Opened
made ds ans (suc n) = Then (made ds ans n) (ds n) (ans n)

-- where answer i is a verdict, it is what the dealings before it decide, and what the law asks for against every other lawful run
pub record Carries (o : Opening) (ds : ℕ → Dealing) (ans : ℕ → Answer) (n : ℕ) : Type 0 where
  pub lawful : Lawful o (made ds ans n)
  pub decides : (i : ℕ) → i < n → (v : Verdict) → ans i ≡ Delivered v → Decides o (made ds ans i) v
  pub law : (i : ℕ) → i < n → (v : Verdict) → ans i ≡ Delivered v → Chooses o (made ds ans i) v
