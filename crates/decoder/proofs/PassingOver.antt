-- Messages that cannot change a ranking are passed over.
use Rattle.std.proofs.Common.{◌≡◌, ℕ, ◌+◌, ◌<◌, ◌≤◌, ℤ, ◌≤ℤ◌, ◌<ℤ◌, inl, inr, arith}
use borrow.Author.Differences.{ints}
use Rattle.std.proofs.lemmas.Bool.{cases_lt}
use Rattle.decoder.specs.Visits.{Ranked}
use Rattle.decoder.specs.declared.ranking.Best.{Best}

module _ (n : ℕ) (f : ℕ → ℤ) (key : ℕ → ℕ) (t c : ℕ) (b : Best) (r : Ranked n f key t b)
    (top : ℤ) (weak : (top ≤ℤ b.rival) × (top <ℤ b.score))
    (new : (k : ℕ) → k < n → t ≤ key k → key k < t + c → f k ≤ℤ top) where
  -- what holds of the messages visited before t, and of those with a score up to the top, holds of those visited before t + c
  visited_later : (P : ℕ → Type 0) → ((k : ℕ) → k < n → key k < t → P k) → ((k : ℕ) → f k ≤ℤ top → P k) → (k : ℕ) → k < n → key k < t + c → P k
  visited_later P old under k l v = elim (cases_lt (key k) t) [ inl a ↦ old k l a | inr a ↦ under k (new k l a v) ]

  -- Scores up to a top that is not above the rival and below the best leave the ranking as it is. That one message has such a
  -- score says that a best and a rival have been found.
  pub passed_over : (m : ℕ) → m < n → f m ≤ℤ top → Ranked n f key (t + c) b
  passed_over m lt under =
      let w = weak in
      let two : 1 < t = elim (cases_lt 1 t) [ inl a ↦ a | inr a ↦ let e = r.alone a m lt in absurd (omega (arith, ints)) ] in
      let o = r.led (omega arith) in
      record {
        top = visited_later (λ k. f k ≤ℤ b.score) r.top (λ k u. omega (arith, ints));
        first = visited_later (λ k. f k ≡ b.score → b.message ≤ k) r.first (λ k u e. absurd (omega (arith, ints)));
        others = visited_later (λ k. (k ≡ b.message → ⊥) → f k ≤ℤ b.rival) r.others (λ k u ne. omega (arith, ints));
        order = r.order;
        led = λ p. (o.0, let v = o.1 in omega arith, o.2);
        second = λ p. r.second two;
        unled = λ e. absurd (omega arith);
        alone = λ e. absurd (omega arith);
      }
