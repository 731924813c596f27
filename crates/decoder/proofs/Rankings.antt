-- Rankings by words and by messages are the same, there is only one, and near scores have near rankings.
use Rattle.std.proofs.Common.{◌≡◌, ℕ, zero, suc, ◌<◌, ◌⊎◌, ℤ, sym, ap, inl, inr, arith}
use native.Mathlib.Decide.{ℕ_discrete}
use borrow.Author.Differences.{ints}
use Rattle.std.proofs.lemmas.Bool.{cases_lt}
use Rattle.kerdock.specs.Code.{Row, size, messages, symbol}
use Rattle.kerdock.specs.Sound.{Sound}
use Rattle.kerdock.proofs.Words.{words}
use Rattle.decoder.specs.Ranking.{OtherWord, Ranking, Leads}
use Rattle.decoder.specs.Laws.{OneRanking, NearScores}
use Rattle.decoder.proofs.Tops.{near_score, Top, near_back, same_leader, near_margin}

-- below n two functions are equal everywhere, or differ somewhere
same_or_apart : (f g : ℕ → ℕ) (n : ℕ) → ((i : ℕ) → i < n → f i ≡ g i) ⊎ ((i : ℕ) × (i < n) × (f i ≡ g i → ⊥))
same_or_apart f g zero = inl (λ i l. absurd (omega arith))
same_or_apart f g (suc n) = with_last (same_or_apart f g n)
  where
    -- below n + 1, from below n and at n
    with_last : ((i : ℕ) → i < n → f i ≡ g i) ⊎ ((i : ℕ) × (i < n) × (f i ≡ g i → ⊥)) →
        ((i : ℕ) → i < suc n → f i ≡ g i) ⊎ ((i : ℕ) × (i < suc n) × (f i ≡ g i → ⊥))
    with_last (inr a) = inr (a.0, omega arith, a.2)
    with_last (inl same) =
        elim (ℕ_discrete (f n) (g n)) [
          | yes e ↦ inl (λ i l. elim (cases_lt i n) [
            | inl c ↦ same i c
            | inr c ↦ let d : n ≡ i = omega arith in rw d at e
          ])
          | no other ↦ inr (n, omega arith, other)
        ]

-- different messages have different words
other_word : (row : Row) → Sound row → (k m : ℕ) → k < messages row → m < messages row → (k ≡ m → ⊥) → OtherWord row k m
other_word row sound k m a b other =
    elim (same_or_apart (symbol row k) (symbol row m) (size row)) [
      | inl same ↦ absurd (other ((words row sound).apart k m a b same))
      | inr differ ↦ differ
    ]

-- different words have different messages
other_message : (row : Row) (k m : ℕ) → OtherWord row k m → k ≡ m → ⊥
other_message row k m o e = o.2 (ap (λ (n : ℕ). symbol row n o.0) e)

module _ (row : Row) (sound : Sound row) (f : ℕ → ℤ) where
  -- a ranking by words is one by messages
  by_messages : (m margin : ℕ) → Ranking row f m margin → Leads (messages row) f m margin
  by_messages m margin r = record {
    within = r.within;
    best = r.best;
    smallest = r.smallest;
    behind = λ k l other. r.behind k l (other_word row sound k m l r.within other);
    reached = (r.reached.0, r.reached.1, other_message row r.reached.0 m r.reached.2, r.reached.3);
  }

  -- a ranking by messages is one by words
  by_words : (m margin : ℕ) → Leads (messages row) f m margin → Ranking row f m margin
  by_words m margin r = record {
    within = r.within;
    best = r.best;
    smallest = r.smallest;
    behind = λ k l other. r.behind k l (other_message row k m other);
    reached = (r.reached.0, r.reached.1, other_word row sound r.reached.0 m r.reached.1 r.within r.reached.2, r.reached.3);
  }

  -- the first of a ranking leads the messages
  pub top : (m margin : ℕ) → Ranking row f m margin → Top (messages row) f m margin
  top m margin r = let l = by_messages m margin r in record { within = l.within; best = l.best; behind = l.behind; reached = l.reached }

-- near scores have near margins, and a large lead keeps the message
pub near_scores : (row : Row) → Sound row → NearScores row
near_scores row sound f g m n a c b r s near =
    let t = top row sound f m a r in
    let u = top row sound g n c s in
    let back = near_back (messages row) f g b near in
    let best = near_score (messages row) f g b near m n a c t u in
    (best.0, best.1, near_margin (messages row) f g b near m n a c t u, near_margin (messages row) g f b back n m c a u t, same_leader (messages row) f g b near m n a c t u)

-- two rankings by the same scores have one message
same_message : (row : Row) (f : ℕ → ℤ) (m n a b : ℕ) → Ranking row f m a → Ranking row f n b → m ≡ n
same_message row f m n a b r s =
    let c = r.best n s.within in
    let d = s.best m r.within in
    let e : f n ≡ f m = omega (arith, ints) in
    let p = r.smallest n s.within e in
    let q = s.smallest m r.within (sym e) in
    omega arith

-- two rankings by the same scores have one margin
same_margin : (row : Row) → Sound row → (f : ℕ → ℤ) (m n a b : ℕ) → Ranking row f m a → Ranking row f n b → a ≡ b
same_margin row sound f m n a b r s =
    let near = near_scores row sound f f m n a b 0 r s (λ k l. (omega (arith, ints), omega (arith, ints))) in
    let p = near.2 in
    let q = near.3 in
    omega arith

-- a ranking by words is one by messages, and there is only one
pub one_ranking : (row : Row) → Sound row → OneRanking row
one_ranking row sound = record {
  by_messages = by_messages row sound;
  by_words = by_words row sound;
  same_message = same_message row;
  same_margin = same_margin row sound;
}
