-- The first samples of a work memory, wiped or left as they were, in the whole of it.
use Rattle.std.proofs.Common.{◌≡◌, ℕ, ◌+◌, ◌-◌, ◌≤◌, List, ◌++◌, length, get_or, take, drop, Some, None, Ok, Err, Result, refl, ap, ◌∙◌, subst, arith, length-append, length-drop, take-append-drop, length-take-le, get_or-drop, eqb-true}
use Rattle.std.specs.Prelude.{OnOk, OnErr}
use Rattle.std.proofs.lemmas.List.{get_or_append_left, get_or-append_right}
use Rattle.samples.specs.declared.sample.Sample.{Ghosts}
use Rattle.decoder.specs.Search.{Zeros}
use Rattle.bay_calls.specs.declared.bays.Bay.{Bay}
use Rattle.bay_rules.specs.declared.denial.Denial.{Denial}
use Rattle.bay_calls.specs.declared.verdict.Verdict.{Verdict as Token}
use Rattle.bay.specs.Rules.{Verdict}
use Rattle.bay.specs.Rules.Answer.{Delivered}
use Rattle.bay.specs.Rules.Dealing.{Decide}
use Rattle.bay_rules.specs.Lived.{State}
use Rattle.bay_rules.specs.Steps.{Steps, Ends, refusal, refusals}
use Rattle.bay_calls.specs.Seen.{five, state, delivered, Worked}
use Rattle.bay_calls.specs.Played.{Wiped}
use Rattle.bay.proofs.Denials.{each_none, when_none, not_off}
use Rattle.bay_calls.proofs.Means.{as_many}

module _ {S : Type 0} (m : Ghosts S) (n : ℕ) (xs : List S) (fits : n ≤ length xs) where
  pub wiped : (ys : List S) → Zeros m (take n xs) ys → Wiped m n xs (ys ++ drop n xs)
  wiped ys z =
      let lt = length-take-le n xs fits in
      let ly = z.long in
      let ld = length-drop n xs in
      let la = length-append ys (drop n xs) in
      record {
        long = omega arith;
        zeros = λ k l l'. get_or_append_left ys (drop n xs) m.zeroed k (omega arith) ∙ z.each k (omega arith);
        others = λ k l.
            let e : n + (k - n) ≡ k = omega arith in
            get_or-append_right ys (drop n xs) n k m.zeroed (omega arith) l ∙ get_or-drop n xs (k - n) m.zeroed ∙ ap (λ (i : ℕ). get_or xs i m.zeroed) e;
      }

  pub untouched_part : {A E : Type 0} (a : Result A E) (ys : List S) → Worked m a (take n xs) ys → OnErr a (ys ++ drop n xs ≡ xs)
  untouched_part (Ok v) ys w = tt
  untouched_part (Err e) ys w = ap (λ (zs : List S). zs ++ drop n xs) w ∙ take-append-drop n xs

-- a decision that delivers had work memory of as many samples as there are sums
delivered_fits : (b : State) (w : ℕ) (v : Verdict) (b' : State) → Steps b (Decide w) (Delivered v) b' → w ≡ length b.sums
delivered_fits b w v b' s =
    elim (refusal b (Decide w)) as (λ x. refusal b (Decide w) ≡ x → Ends x b (Decide w) (Delivered v) b' → w ≡ length b.sums) [
      | None ↦ λ e g. let t = each_none (refusals b (Decide w)) e in eqb-true w (length b.sums) (not_off _ (when_none _ 7 t.1.1.1.0))
      | Some n ↦ λ e g. let z : ◌≡◌ {A = ℕ} 0 1 = cc in absurd (omega arith)
    ] refl s

-- so as many samples of its whole work memory are wiped
pub wiped_part : {S : Type 0} (m : Ghosts S) (n : ℕ) (ws : List S) → n ≤ length ws → (a : Result Token Denial) (us : List S) (b : Bay S) (b' : State) →
    Worked m a (take n ws) us → Steps (state m b) (Decide n) (delivered a) b' → OnOk a (Wiped m (length b.sums.now) ws (us ++ drop n ws))
wiped_part m n ws fits (Ok v) us b b' w s =
    let e : n ≡ length b.sums.now = delivered_fits (state m b) n (five v.numbers) b' s ∙ as_many m b.sums.now in
    subst (λ (k : ℕ). Wiped m k ws (us ++ drop n ws)) e (wiped m n ws fits us w)
wiped_part m n ws fits (Err e) us b b' w s = tt
