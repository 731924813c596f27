-- The stage of a bay and the call that arrives: every pair is let in or denied.
--   admitted  what is answered to a call by the stage alone
--   Answered  the numbers of a verdict that is let in, or the verdict with the reason why not
use Rattle.std.specs.Prelude.{◌≡◌, cond, Some, Ok, Err, Result}
use Rattle.bay_calls.specs.declared.admission.Call.{Call}
use Rattle.bay_calls.specs.declared.admission.Call.TheVariants.{Take, Decide, Clear, Answer}
use Rattle.bay_rules.specs.declared.denial.Denial.{Denial}
use Rattle.bay_rules.specs.declared.denial.Denial.TheVariants.{Shut as IsShut, VerdictOut, Misfit}
use Rattle.bay_rules.specs.declared.numbers.Numbers.{Numbers}
use Rattle.bay_calls.specs.declared.standing.Stage.{Stage}
use Rattle.bay_calls.specs.declared.standing.Stage.TheVariants.{Shut, Gathering, Waiting}
use Rattle.bay_calls.specs.declared.verdict.Verdict.{Verdict as Token}
use Rattle.bay_calls.specs.declared.verdict.Refused.{Refused}
use Rattle.bay.specs.Rules.{fits}
use Rattle.bay_calls.specs.Seen.{five}

-- A shut bay denies every call; take, decide and clear are for a bay that gathers, and an answer is for one that waits for
-- it, with the five numbers that it recorded.
abbrev pub admitted : Stage → Call → Result (Unit {0}) Denial
admitted Shut Take = Err IsShut
admitted Shut Decide = Err IsShut
admitted Shut Clear = Err IsShut
admitted Shut (Answer n) = Err IsShut
admitted Gathering Take = Ok tt
admitted Gathering Decide = Ok tt
admitted Gathering Clear = Ok tt
admitted Gathering (Answer n) = Err Misfit
admitted (Waiting v) Take = Err VerdictOut
admitted (Waiting v) Decide = Err VerdictOut
admitted (Waiting v) Clear = Err VerdictOut
admitted (Waiting v) (Answer n) = cond (fits (five n) (Some (five v))) (Ok tt) (Err Misfit)

abbrev pub Answered : Stage → Token → Result Numbers Refused → Type 0
Answered s v (Ok n) = (n ≡ v.numbers) × (admitted s (Answer v.numbers) ≡ Ok tt)
Answered s v (Err e) = (e.verdict ≡ v) × (admitted s (Answer v.numbers) ≡ Err e.why)
