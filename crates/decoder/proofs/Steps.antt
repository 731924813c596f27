-- One message more in a ranking.
use Rattle.std.proofs.Common.{◌≡◌, ℕ, ◌+◌, ◌<◌, ◌≤◌, ◌≢◌, ◌⊎◌, ℤ, ◌≤ℤ◌, ◌<ℤ◌, refl, ap, ◌∙◌, subst, inl, inr, arith}
use borrow.Author.Differences.{ints}
use Rattle.std.proofs.lemmas.Bool.{cases_lt}
use Rattle.decoder.specs.Visits.{Ranked, Apart}
use Rattle.decoder.specs.declared.ranking.Best.{Best}

module _ (n : ℕ) (f : ℕ → ℤ) (key : ℕ → ℕ) (t : ℕ) (b : Best) (r : Ranked n f key t b) (apart : Apart n key)
    (m : ℕ) (s : ℤ) (lt : m < n) (at : key m ≡ t) (is : f m ≡ s) where
  -- a message visited by now was visited before, or is m
  visited : (P : ℕ → Type 0) → ((k : ℕ) → k < n → key k < t → P k) → P m → (k : ℕ) → k < n → key k < t + 1 → P k
  visited P old here k l v =
      elim (cases_lt (key k) t) [
        | inl a ↦ old k l a
        | inr a ↦ let e : m ≡ k = apart m k lt l (omega arith) in subst P e here
      ]

  -- a message ahead of the best takes the lead
  pub leads_now : (b.score <ℤ s) ⊎ ((s ≡ b.score) × (m < b.message)) → Ranked n f key (t + 1) (record { message = m; score = s; rival = b.score })
  leads_now h =
      let up : b.score ≤ℤ s = elim h [ inl a ↦ omega (arith, ints) | inr a ↦ let e = a.0 in omega (arith, ints) ] in
      record {
        top = visited (λ k. f k ≤ℤ s) (λ k l v. let e = r.top k l v in omega (arith, ints)) (omega (arith, ints));
        first = visited (λ k. f k ≡ s → m ≤ k)
            (λ k l v e. let u = r.top k l v in elim h [ inl a ↦ absurd (omega (arith, ints)) | inr a ↦ let w = r.first k l v (e ∙ a.0) in let z = a.1 in omega arith ])
            (λ e. omega arith);
        others = visited (λ k. k ≢ m → f k ≤ℤ b.score) (λ k l v ne. r.top k l v) (λ ne. absurd (ne refl));
        order = up;
        led = λ p. (lt, omega arith, is);
        second = λ p. let o = r.led (omega arith) in (b.message, o.0, λ e. let w = o.1 in let x = ap key e in omega arith, o.2);
        unled = λ e. absurd (omega arith);
        alone = λ e. r.unled (omega arith);
      }

  module _ (behind : (s <ℤ b.score) ⊎ ((s ≡ b.score) × (b.message ≤ m))) where
    -- its score is no higher than the best
    low : s ≤ℤ b.score
    low = elim behind [ inl a ↦ omega (arith, ints) | inr a ↦ let e = a.0 in omega (arith, ints) ]

    -- so there is a best
    some : 0 < t
    some = elim (cases_lt 0 t) [ inl a ↦ a | inr a ↦ let e = r.unled (omega arith) m lt in let w = low in absurd (omega (arith, ints)) ]

    -- a message behind the best and ahead of the rival is the new rival
    pub rival_now : b.rival <ℤ s → Ranked n f key (t + 1) (record { message = b.message; score = b.score; rival = s })
    rival_now h =
        let o = r.led some in
        let p = some in
        record {
          top = visited (λ k. f k ≤ℤ b.score) r.top (let w = low in omega (arith, ints));
          first = visited (λ k. f k ≡ b.score → b.message ≤ k) r.first (λ e. elim behind [ inl a ↦ absurd (omega (arith, ints)) | inr a ↦ a.1 ]);
          others = visited (λ k. k ≢ b.message → f k ≤ℤ s) (λ k l v ne. let w = r.others k l v ne in omega (arith, ints)) (λ ne. omega (arith, ints));
          order = low;
          led = λ p. (o.0, let v = o.1 in omega arith, o.2);
          second = λ p. (m, lt, λ e. let v = o.1 in let x = ap key e in omega arith, is);
          unled = λ e. absurd (omega arith);
          alone = λ e. absurd (omega arith);
        }

    -- a message behind both changes nothing
    pub stays_now : s ≤ℤ b.rival → Ranked n f key (t + 1) b
    stays_now h =
        let o = r.led some in
        let p = some in
        let two : 1 < t = elim (cases_lt 1 t) [ inl a ↦ a | inr a ↦ let e = r.alone a m lt in absurd (omega (arith, ints)) ] in
        record {
          top = visited (λ k. f k ≤ℤ b.score) r.top (let w = low in omega (arith, ints));
          first = visited (λ k. f k ≡ b.score → b.message ≤ k) r.first (λ e. elim behind [ inl a ↦ absurd (omega (arith, ints)) | inr a ↦ a.1 ]);
          others = visited (λ k. k ≢ b.message → f k ≤ℤ b.rival) r.others (λ ne. omega (arith, ints));
          order = r.order;
          led = λ p. (o.0, let v = o.1 in omega arith, o.2);
          second = λ p. r.second two;
          unled = λ e. absurd (omega arith);
          alone = λ e. absurd (omega arith);
        }
