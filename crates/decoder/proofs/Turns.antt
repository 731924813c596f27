-- Receptions turned forward along a word: scores move to the sum of the messages, and so do rankings.
use Rattle.std.proofs.Common.{◌≡◌, ℕ, ◌+◌, ◌*◌, ◌%◌, ◌<◌, List, [], ◌∷◌, get_or, ℤ, ◌+ℤ◌, sym, refl, ap, ◌∙◌, ap₂, mod-eq_of_lt, arith}
use native.Mathlib.Nat.{mod-add-mod, add-mul-mod_self_left}
use borrow.Author.Differences.{ints}
use Rattle.std.specs.List.{AllZip}
use Rattle.samples.specs.Meaning.{reads, silence}
use Rattle.samples.proofs.Sums.{over_same}
use Rattle.kerdock.specs.Code.{Row, size, messages, symbol, sum_of}
use Rattle.kerdock.specs.Sound.{Sound}
use Rattle.kerdock.proofs.Words.{words}
use Rattle.decoder.specs.Scores.{Reception, score, scores, Turned}
use Rattle.decoder.specs.Ranking.{Ranking}
use Rattle.decoder.specs.Laws.{TurnedScores}
use Rattle.decoder.proofs.Tops.{Top, Near, near_back, near_score, same_leader, near_margin}
use Rattle.decoder.proofs.Rankings.{top}

-- a number added four times modulo 4 changes nothing
four_times : (s u : ℕ) → s < 4 → ((((s + u) % 4 + u) % 4 + u) % 4 + u) % 4 ≡ s
four_times s u h =
    let e : s + u + u + u + u ≡ s + 4 * u = omega arith in
    ap (λ (n : ℕ). ((n + u) % 4 + u) % 4) (mod-add-mod (s + u) 4 u)
    ∙ ap (λ (n : ℕ). (n + u) % 4) (mod-add-mod (s + u + u) 4 u)
    ∙ mod-add-mod (s + u + u + u) 4 u
    ∙ ap (λ (n : ℕ). n % 4) e
    ∙ add-mul-mod_self_left s 4 u
    ∙ mod-eq_of_lt h

module _ (row : Row) (sound : Sound row) where
  -- turned along a word, a reception gives a message's score to its sum with the word's message
  score_moves : (v : ℕ) (r x : Reception) → Turned row v r x → (m : ℕ) → score row x (sum_of row m v) ≡ score row r m
  unfolding score
  score_moves v r x turned m =
      over_same (size row) _ _ (λ i l.
      ap (reads (get_or x i silence)) ((words row sound).adds m v i) ∙ turned i (symbol row m i) l ((words row sound).small m i))

  -- the same of several receptions
  scores_move : (v : ℕ) (rs xs : List Reception) → AllZip (Turned row v) rs xs → (m : ℕ) → scores row xs (sum_of row m v) ≡ scores row rs m
  scores_move v [] [] e m = refl
  scores_move v [] (x ∷ xs) e m = absurd e
  scores_move v (r ∷ rs) [] e m = absurd e
  scores_move v (r ∷ rs) (x ∷ xs) e m = ap₂ ◌+ℤ◌ (score_moves v r x e.0 m) (scores_move v rs xs e.1 m)

  -- a message moved back: v added three times
  abbrev back : ℕ → ℕ → ℕ
  back v k = sum_of row (sum_of row (sum_of row k v) v) v

  -- v added four times gives the message again
  moved_back : (v k : ℕ) → k < messages row → sum_of row (back v k) v ≡ k
  moved_back v k h =
      let w = words row sound in
      w.apart _ k (w.sum_within (back v k) v) h (λ i l.
      w.adds (back v k) v i
      ∙ ap (λ (s : ℕ). (s + symbol row v i) % 4)
      (w.adds (sum_of row (sum_of row k v) v) v i
      ∙ ap (λ (s : ℕ). (s + symbol row v i) % 4)
      (w.adds (sum_of row k v) v i ∙ ap (λ (s : ℕ). (s + symbol row v i) % 4) (w.adds k v i)))
      ∙ four_times (symbol row k i) (symbol row v i) (w.small k i))

  -- what leads by the scores of the moved messages, from what leads by the scores of the messages
  top_moved : (v : ℕ) (f : ℕ → ℤ) (m p : ℕ) → Top (messages row) f m p → Top (messages row) (λ k. f (sum_of row k v)) (back v m) p
  top_moved v f m p t =
      let w = words row sound in
      let r = t.reached in
      let here = moved_back v m t.within in
      let there = moved_back v r.0 r.1 in
      record {
        within = w.sum_within _ v;
        best = λ k l. rw here (t.best (sum_of row k v) (w.sum_within k v));
        behind = λ k l other. rw here (t.behind (sum_of row k v) (w.sum_within k v) (λ e. other (sym (moved_back v k l) ∙ ap (back v) e)));
        reached = (back v r.0, w.sum_within _ v, λ e. r.2 (sym there ∙ ap (λ (k : ℕ). sum_of row k v) e ∙ here), rw (there, here) r.3);
      }

  -- the rankings agree in score and margin, and above margin 0 in the message, moved
  rankings_move : (v : ℕ) (rs xs : List Reception) → AllZip (Turned row v) rs xs → (m n a b : ℕ) →
      Ranking row (scores row rs) m a → Ranking row (scores row xs) n b →
      (scores row rs m ≡ scores row xs n) × (a ≡ b) × (0 < a → n ≡ sum_of row m v)
  rankings_move v rs xs turned m n a b r s =
      let f : ℕ → ℤ = scores row rs in
      let g : ℕ → ℤ = λ k. scores row xs (sum_of row k v) in
      let t = top row sound f m a r in
      let u = top_moved v (scores row xs) n b (top row sound (scores row xs) n b s) in
      let near : Near (messages row) f g 0 = λ k l. let e = scores_move v rs xs turned k in (omega (arith, ints), omega (arith, ints)) in
      let here = moved_back v n s.within in
      let e = ap (scores row xs) here in
      let c = near_score (messages row) f g 0 near m (back v n) a b t u in
      let p = near_margin (messages row) f g 0 near m (back v n) a b t u in
      let q = near_margin (messages row) g f 0 (near_back (messages row) f g 0 near) (back v n) m b a u t in
      (omega (arith, ints), omega arith, λ l. sym here ∙ ap (λ (k : ℕ). sum_of row k v) (same_leader (messages row) f g 0 near m (back v n) a b t u l))

-- turning receptions along a word moves scores and rankings
pub turned_scores : (row : Row) → Sound row → TurnedScores row
turned_scores row sound = record { moves = scores_move row sound; rankings = λ v _. rankings_move row sound v }
