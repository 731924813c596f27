-- Runs made of dealings and answers: one dealing more, and the law at a verdict.
use Rattle.std.proofs.Common.{◌≡◌, ℕ, suc, ◌+◌, ◌<◌, sym, subst, ap₂, arith}
use Rattle.bay.specs.Rules.{Run, Dealing, Answer, Opening}
use Rattle.bay.specs.Rules.Run.{Then}
use Rattle.bay.specs.Replay.{made}
use Rattle.bay.proofs.Deciding.{decided}
use Rattle.bay.proofs.Replaying.{made_same}
use Rattle.bay.proofs.Whole.{chosen}
use Rattle.bay_rules.specs.Lived.{State, Lived, Deals, OnlyTheScore}

-- one dealing more, where answers written before stay as they were
pub made_more : (o : Opening) (ds : ℕ → Dealing) (ans bs : ℕ → Answer) (n : ℕ) (a : Answer) (b b' : State) → Lived o (made ds ans n) b →
    Deals b (ds n) a b' → ((i : ℕ) → i < n → ans i ≡ bs i) → a ≡ bs n → Lived o (made ds bs (n + 1)) b'
made_more o ds ans bs n a b b' l deals same here =
    let e : n + 1 ≡ suc n = omega arith in
    subst (λ (k : ℕ). Lived o (made ds bs k) b') (sym e)
    (subst (λ (h : Run). Lived o h b') (ap₂ (λ (h : Run) (x : Answer). Then h (ds n) x) (made_same ds ans bs n same) here) (deals o (made ds ans n) l).1)

-- a dealing that delivers does so under the law
pub only_the_score : (b : State) (d : Dealing) (a : Answer) (b' : State) → Deals b d a b' → OnlyTheScore b a
only_the_score b d a b' deals o h v l e = chosen o h v (decided o h d a v (deals o h l).1.plainly.lawful e)
