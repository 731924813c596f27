use Rattle.std.proofs.Common.{◌≡◌, ◌<◌, ◌≤◌, true, false, ◌⊎◌, ℤ, ◌≤ℤ◌, ◌<ℤ◌, sym, ap, ◌∙◌, inl, inr, arith, to_z-of_z, w32, SFits, to_z, of_z, rules}
use borrow.Author.Differences.{ints}
use lib.Signed.{lt_z}
use Rattle.std.proofs.lemmas.Bool.{false≢true, eqb-true, ltb-true, ltb-false}
use Rattle.decoder.proofs.Steps.{leads_now, rival_now, stays_now}
use Rattle.decoder.proofs.ranking.Best.consider.Goals as goal
use Rattle.decoder.proofs.ranking.Best.consider.Goals.{Else-message-self, then-score-self, else-score-self+then-score-self-2, else-score-self+else-score-self-2}

-- a number read back from its bits
abbrev back : ℤ → ℤ
back z = to_z w32 (of_z w32 z)

-- numbers with the same bits are the same
same : (a b : ℤ) → SFits w32 a → SFits w32 b → of_z w32 a ≡ of_z w32 b → a ≡ b
same a b fa fb e = sym (to_z-of_z fa) ∙ ap (to_z w32) e ∙ to_z-of_z fb

-- a test that succeeds
above : (a b : ℤ) → SFits w32 a → SFits w32 b → lt_z (back a) (back b) ≡ true → a <ℤ b
above a b fa fb e = let x : back a ≡ a = to_z-of_z fa in let y : back b ≡ b = to_z-of_z fb in omega (arith, ints)

-- a test that fails
within : (a b : ℤ) → SFits w32 a → SFits w32 b → lt_z (back a) (back b) ≡ false → b ≤ℤ a
within a b fa fb e = let x : back a ≡ a = to_z-of_z fa in let y : back b ≡ b = to_z-of_z fb in omega (arith, ints)

pub returns-then-message-self : goal.returns-then-message-self
returns-then-message-self c n f key t r apart lt at is =
    let b = c.args.self.now in
    let m = c.args.message in
    let s = c.args.score in
    let fs : SFits w32 s = search rules in
    let fb : SFits w32 b.score = search rules in
    let ahead : (b.score <ℤ s) ⊎ ((s ≡ b.score) × (m < b.message)) =
    elim c.if-score-self.branch [
      | then-score-self w ↦ inl (above b.score s fb fs w.if-score-self.true)
      | else-score-self+then-score-self-2 w ↦ inr (same s b.score fs fb w.if-score-self-2.true, ltb-true _ _ (sym w.value-is ∙ c.if-message-self.true))
      | else-score-self+else-score-self-2 w ↦ absurd (w.if-score-self-2.false (eqb-true _ _ (sym w.value-is ∙ c.if-message-self.true)))
    ] in
    simp (to_z-of_z fs, to_z-of_z fb) (leads_now n f key t b r apart m s lt at is ahead)

-- the message is not ahead of the best
behind : (c : Else-message-self) →
    let b = c.args.self.now in (c.args.score <ℤ b.score) ⊎ ((c.args.score ≡ b.score) × (b.message ≤ c.args.message))
behind c =
    let b = c.args.self.now in
    let m = c.args.message in
    let s = c.args.score in
    let fs : SFits w32 s = search rules in
    let fb : SFits w32 b.score = search rules in
    elim c.if-score-self.branch [
      | then-score-self w ↦ absurd (false≢true (sym c.if-message-self.false ∙ w.value-is ∙ w.if-score-self.true))
      | else-score-self+then-score-self-2 w ↦ inr (same s b.score fs fb w.if-score-self-2.true, ltb-false _ _ (sym w.value-is ∙ c.if-message-self.false))
      | else-score-self+else-score-self-2 w ↦
          let l = within b.score s fb fs w.if-score-self.false in
          let ne : s ≡ b.score → ⊥ = λ e. w.if-score-self-2.false (ap (of_z w32) e) in
          inl (omega (arith, ints))
    ]

pub returns-then-score-self-3 : goal.returns-then-score-self-3
returns-then-score-self-3 c n f key t r apart lt at is =
    let b = c.args.self.now in
    let s = c.args.score in
    let fs : SFits w32 s = search rules in
    let fr : SFits w32 b.rival = search rules in
    simp (to_z-of_z fs)
    (rival_now n f key t b r apart c.args.message s lt at is (behind (goal.at.returns-then-score-self-3 c).Else-message-self) (above b.rival s fr fs c.if-score-self-3.true))

pub returns-else-score-self-3 : goal.returns-else-score-self-3
returns-else-score-self-3 c n f key t r apart lt at is =
    let b = c.args.self.now in
    let s = c.args.score in
    let fs : SFits w32 s = search rules in
    let fr : SFits w32 b.rival = search rules in
    stays_now n f key t b r apart c.args.message s lt at is (behind (goal.at.returns-else-score-self-3 c).Else-message-self) (within b.rival s fr fs c.if-score-self-3.false)
