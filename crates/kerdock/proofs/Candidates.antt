-- The message of a word, read off the indices whose places are single bits.
use Rattle.std.proofs.Common.{◌≡◌, ℕ, zero, suc, ◌+◌, ◌-◌, ◌*◌, ◌/◌, ◌%◌, ◌^◌, ◌<◌, List, get_or, sym, refl, ap, ◌∙◌, ap₂, mod-lt, mod-eq_of_lt, zero-mul, mul-add, mul_left_comm, arith, pow_pos}
use native.Mathlib.Nat.{div-eq_of_lt, pow-succ', one-le-pow}
use Rattle.kerdock.specs.Code.{Row, size, messages, t, sum_to, digit, symbol, place}
use Rattle.kerdock.specs.Sound.{Sound}
use Rattle.kerdock.specs.Calls.{Spells}
use Rattle.kerdock.proofs.Sums.{sum_same, sum_plus, sum_front}
use Rattle.kerdock.proofs.Digits.{digit_made, made_mod}
use Rattle.kerdock.proofs.Symbols.{digit_first}
use Rattle.kerdock.proofs.Words.{words, messages_are}

-- a message below 4 has no other digit
digit_none : (e k : ℕ) → e < 4 → digit e (suc k) ≡ 0
digit_none e k h =
    let up = pow-succ' 4 k in
    let one = one-le-pow k 4 (omega arith) in
    let below : e < 4 ^ suc k = omega arith in
    ap (λ (x : ℕ). x % 4) (div-eq_of_lt below)

-- its word has e everywhere
constant_word : (row : Row) (e i : ℕ) → e < 4 → symbol row e i ≡ e
unfolding symbol
constant_word row e zero h = sym (digit_first e) ∙ mod-eq_of_lt h
constant_word row e (suc j) h =
    let none : sum_to (λ k. digit e (suc k) * t row (j + k)) row.degree ≡ 0 = silent row.degree in
    let first : digit e 0 ≡ e = sym (digit_first e) ∙ mod-eq_of_lt h in
    omega arith
  where
    silent : (n : ℕ) → sum_to (λ k. digit e (suc k) * t row (j + k)) n ≡ 0
    silent zero = refl
    silent (suc n) = ap₂ ◌+◌ (silent n) (ap (λ (x : ℕ). x * t row (j + n)) (digit_none e n h) ∙ zero-mul (t row (j + n)))

-- e and the lower bit of each L(k)
abbrev lowered : ℕ → ℕ → ℕ
lowered m zero = digit m 0
lowered m (suc k) = digit m (suc k) % 2

lowered_small : (m k : ℕ) → lowered m k < 4
lowered_small m zero = mod-lt _ (omega arith)
lowered_small m (suc k) = omega arith

-- a symbol above e, modulo 2
odd_above : (s e l : ℕ) → s < 4 → e < 4 → s % 2 ≡ (e + l) % 2 → (s + 4 - e) % 4 / 1 % 2 ≡ l % 2
odd_above s e l a b h = omega arith

-- a symbol above another that it exceeds by twice a bit
even_above : (s n b : ℕ) → n < 4 → b < 2 → s ≡ (n + 2 * b) % 4 → (s + 4 - n) % 4 / 2 % 2 ≡ b
even_above s n b h c e = omega arith

module _ (row : Row) (sound : Sound row) (list : List ℕ) (m : ℕ) (range : m < messages row) (spells : Spells row m list) where
  -- the sum of the digits' lower bits, and of their upper ones, each at its weight
  abbrev lows : ℕ
  lows = sum_to (λ k. 4 ^ suc k * (digit m (suc k) % 2)) row.degree

  abbrev highs : ℕ
  highs = sum_to (λ k. 4 ^ suc k * (digit m (suc k) / 2)) row.degree

  pub first_is : get_or list 0 0 ≡ digit m 0
  unfolding symbol
  first_is = spells.each 0 (pow_pos row.degree)

  pub lower_bit : (e : ℕ) → e ≡ digit m 0 → (k i : ℕ) → k < row.degree → i < size row → place row i ≡ 2 ^ k →
      (get_or list i 0 + 4 - symbol row e i) % 4 / 1 % 2 ≡ digit m (suc k) % 2
  lower_bit e h k i a b p =
      let small : e < 4 = rw h (mod-lt _ (omega arith)) in
      let s = spells.each i b in
      let c = constant_word row e i small in
      let o = (words row sound).odd_at m i k b a p in
      let w = (words row sound).small m i in
      let x : (get_or list i 0 + 4 - e) % 4 / 1 % 2 ≡ digit m (suc k) % 2 =
      odd_above (get_or list i 0) e (digit m (suc k)) (omega arith) small (ap (λ (y : ℕ). y % 2) s ∙ o ∙ ap (λ (y : ℕ). (y + digit m (suc k)) % 2) (sym h)) in
      rw c x

  -- the message of e and the lower bits
  lower_made : (lower : ℕ) → lower ≡ digit m 0 + lows → lower ≡ sum_to (λ k. 4 ^ k * lowered m k) (suc row.degree)
  lower_made lower h = let f = sum_front (λ k. 4 ^ k * lowered m k) row.degree in omega arith

  lower_digit : (lower : ℕ) → lower ≡ digit m 0 + lows → (k : ℕ) → k < suc row.degree → digit lower k ≡ lowered m k
  lower_digit lower h k b =
      ap (λ (x : ℕ). digit x k) (lower_made lower h)
      ∙ digit_made 4 (omega arith) (lowered m) (suc row.degree) k b (λ l c. lowered_small m l)

  pub upper_bit : (lower : ℕ) → lower ≡ digit m 0 + lows → (k i : ℕ) → k < row.degree → i < size row → place row i ≡ 2 ^ k →
      (get_or list i 0 + 4 - symbol row lower i) % 4 / 2 % 2 ≡ digit m (suc k) / 2
  upper_bit lower h k i a b p =
      let s = spells.each i b in
      let d = lower_digit lower h in
      let u = (words row sound).even_at m lower i k b a p (d 0 (omega arith)) (λ l c. d (suc l) (omega arith)) in
      let x : digit m (suc k) < 4 = mod-lt _ (omega arith) in
      even_above (get_or list i 0) (symbol row lower i) (digit m (suc k) / 2) ((words row sound).small lower i) (omega arith) (s ∙ u)

  -- a digit at its weight, by its two bits
  bits_of : (k : ℕ) → 4 ^ suc k * digit m (suc k) ≡ 4 ^ suc k * (digit m (suc k) % 2) + 2 * (4 ^ suc k * (digit m (suc k) / 2))
  bits_of k =
      let parts : digit m (suc k) ≡ digit m (suc k) % 2 + 2 * (digit m (suc k) / 2) = omega arith in
      ap (λ (x : ℕ). 4 ^ suc k * x) parts ∙ mul-add (4 ^ suc k) (digit m (suc k) % 2) (2 * (digit m (suc k) / 2))
      ∙ ap (λ (x : ℕ). 4 ^ suc k * (digit m (suc k) % 2) + x) (mul_left_comm (4 ^ suc k) 2 (digit m (suc k) / 2))

  twice : (f : ℕ → ℕ) (n : ℕ) → sum_to (λ k. 2 * f k) n ≡ 2 * sum_to f n
  twice f zero = refl
  twice f (suc n) = let before = twice f n in omega arith

  pub whole : m ≡ digit m 0 + lows + 2 * highs
  whole =
      let d = row.degree in
      let below : m < 4 ^ suc d = rw (messages_are row) at range in
      let all : sum_to (λ k. 4 ^ k * digit m k) (suc d) ≡ m = made_mod 4 (omega arith) m (suc d) ∙ mod-eq_of_lt below in
      let front = sum_front (λ k. 4 ^ k * digit m k) d in
      let split = sum_same (λ k. 4 ^ suc k * digit m (suc k)) (λ k. 4 ^ suc k * (digit m (suc k) % 2) + 2 * (4 ^ suc k * (digit m (suc k) / 2))) d (λ k b. bits_of k) in
      let sums = sum_plus (λ k. 4 ^ suc k * (digit m (suc k) % 2)) (λ k. 2 * (4 ^ suc k * (digit m (suc k) / 2))) d in
      let two = twice (λ k. 4 ^ suc k * (digit m (suc k) / 2)) d in
      omega arith
