use Rattle.std.proofs.Common.{◌≡◌, ℕ, ◌+◌, ◌<◌, ◌≤◌, List}
use Rattle.samples.specs.declared.sample.Sample.{Ghosts}
use Rattle.samples.specs.Sizes.{at}
use Rattle.samples.proofs.crossing.cross_block.Given as goal

-- Of the block at start the pairs below j are crossed; every other sample is as it was.
pub record Crossing {S : Type 0} (m : Ghosts S) (h start j : ℕ) (old w : List S) : Type 0 where
  pub low : (k : ℕ) → start ≤ k → k < j → at m w k ≡ m.added (at m old k) (at m old (k + h))
  pub high : (k : ℕ) → start ≤ k → k < j → at m w (k + h) ≡ m.added (at m old k) (m.turned (m.turned (at m old (k + h))))
  pub before : (k : ℕ) → k < start → at m w k ≡ at m old k
  pub between : (k : ℕ) → j ≤ k → k < start + h → at m w k ≡ at m old k
  pub beyond : (k : ℕ) → j + h ≤ k → at m w k ≡ at m old k

abbrev pub invariant-loop-j : goal.invariant-loop-j
invariant-loop-j g l = Crossing g.S.Sample l.h l.start l.j l.initial.w l.w
