-- Runs made of dealings and answers: one dealing more, and the law at each verdict.
use Rattle.std.proofs.Common.{◌≡◌, ℕ, zero, suc, ◌+◌, ◌-◌, ◌<◌, sym, refl, subst, ap₂, arith}
use Rattle.bay.specs.Rules.{Run, Dealing, Answer, Opening, Verdict, Lawful}
use Rattle.bay.specs.Rules.Run.{Then}
use Rattle.bay.specs.Rules.Answer.{Delivered}
use Rattle.bay.specs.Law.{Decides}
use Rattle.bay.specs.Lived.{State, Lived, Deals, OnlyTheScore}
use Rattle.bay.specs.Replay.{made, Carries}
use Rattle.bay.proofs.Deciding.{decided}
use Rattle.bay.proofs.Whole.{chosen}

-- runs of equal answers are equal
pub made_same : (ds : ℕ → Dealing) (ans bs : ℕ → Answer) (n : ℕ) → ((i : ℕ) → i < n → ans i ≡ bs i) → made ds ans n ≡ made ds bs n
made_same ds ans bs zero e = refl
made_same ds ans bs (suc n) e =
    ap₂ (λ (h : Run) (a : Answer). Then h (ds n) a) (made_same ds ans bs n (λ i lt. e i (omega arith))) (e n (omega arith))

-- one dealing more, where answers written before stay as they were
pub made_more : (o : Opening) (ds : ℕ → Dealing) (ans bs : ℕ → Answer) (n : ℕ) (a : Answer) (b b' : State) → Lived o (made ds ans n) b →
    Deals b (ds n) a b' → ((i : ℕ) → i < n → ans i ≡ bs i) → a ≡ bs n → Lived o (made ds bs (n + 1)) b'
made_more o ds ans bs n a b b' l deals same here =
    let e : n + 1 ≡ suc n = omega arith in
    subst (λ (k : ℕ). Lived o (made ds bs k) b') (sym e)
    (subst (λ (h : Run). Lived o h b') (ap₂ (λ (h : Run) (x : Answer). Then h (ds n) x) (made_same ds ans bs n same) here) (deals o (made ds ans n) l).1)

-- a lawful run is lawful up to each of its dealings
lawful_before : (o : Opening) (ds : ℕ → Dealing) (ans : ℕ → Answer) (n i k : ℕ) → n ≡ suc i + k → Lawful o (made ds ans n) → Lawful o (made ds ans (suc i))
lawful_before o ds ans n i zero e l = let q : n ≡ suc i = omega arith in subst (λ (j : ℕ). Lawful o (made ds ans j)) q l
lawful_before o ds ans zero i (suc k) e l = absurd (omega arith)
lawful_before o ds ans (suc n) i (suc k) e l = lawful_before o ds ans n i k (omega arith) l.0

-- a lawful run carries the law at each of its verdicts
pub carries : (o : Opening) (ds : ℕ → Dealing) (ans : ℕ → Answer) (n : ℕ) → Lawful o (made ds ans n) → Carries o ds ans n
carries o ds ans n l =
    let decides : (i : ℕ) → i < n → (v : Verdict) → ans i ≡ Delivered v → Decides o (made ds ans i) v =
    λ i lt v e. decided o (made ds ans i) (ds i) (ans i) v (lawful_before o ds ans n i (n - suc i) (omega arith) l) e in
    record { lawful = l; decides = decides; law = λ i lt v e. chosen o (made ds ans i) v (decides i lt v e) }

-- so does each dealing with a bay that delivers
pub only_the_score : (b : State) (d : Dealing) (a : Answer) (b' : State) → Deals b d a b' → OnlyTheScore b a
only_the_score b d a b' deals o h v l e = chosen o h v (decided o h d a v (deals o h l).1.lawful e)
