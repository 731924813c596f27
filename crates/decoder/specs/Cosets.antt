-- Messages by coset: the lower bits u of the digits L(k), their upper bits v, and e.
--   bit      bit k of a number
--   message  the message with digit e and L(k) = bit k of u plus twice bit k of v
--   lows     the number whose bit k is L(k) modulo 2
--   highs    the number whose bit k is the upper bit of L(k)
--   Cosets   what holds of the messages and words of every sound row
use Rattle.std.specs.Prelude.{◌≡◌, ℕ, suc, ◌+◌, ◌*◌, ◌/◌, ◌%◌, ◌^◌, ◌<◌}
use Rattle.samples.specs.Transform.{parity}
use Rattle.kerdock.specs.Code.{Row, size, messages, sum_to, digit, symbol, place}

abbrev pub bit : ℕ → ℕ → ℕ
bit u k = u / 2 ^ k % 2

unfoldable pub message : Row → ℕ → ℕ → ℕ → ℕ
message row e u v = e + 4 * sum_to (λ k. 4 ^ k * (bit u k + 2 * bit v k)) row.degree

unfoldable pub lows : Row → ℕ → ℕ
lows row m = sum_to (λ k. 2 ^ k * (digit m (suc k) % 2)) row.degree

unfoldable pub highs : Row → ℕ → ℕ
highs row m = sum_to (λ k. 2 ^ k * (digit m (suc k) / 2)) row.degree

pub record Cosets (row : Row) : Type 0 where
  -- the word of a message, from its coset's leader (e = 0, v = 0)
  pub words : (e u v i : ℕ) → e < 4 → i < size row →
      symbol row (message row e u v) i ≡ (e + symbol row (message row 0 u 0) i + 2 * parity v (place row i)) % 4
  -- every message is one of a coset, by numbers below N
  pub within : (e u v : ℕ) → e < 4 → message row e u v < messages row
  pub lows_within : (m : ℕ) → lows row m < size row
  pub highs_within : (m : ℕ) → highs row m < size row
  pub splits : (m : ℕ) → m < messages row → m ≡ message row (digit m 0) (lows row m) (highs row m)
  -- and of exactly one, by exactly one v and e
  pub e_is : (e u v : ℕ) → e < 4 → digit (message row e u v) 0 ≡ e
  pub u_is : (e u v : ℕ) → e < 4 → u < size row → lows row (message row e u v) ≡ u
  pub v_is : (e u v : ℕ) → e < 4 → v < size row → highs row (message row e u v) ≡ v
  -- the coset leaders build up: the leader of u is the leader of u less its bit k, plus the traces k places on
  pub leader_bit : (u k i : ℕ) → k < row.degree → bit u k ≡ 0 →
      symbol row (message row 0 (u + 2 ^ k) 0) i ≡ (symbol row (message row 0 u 0) i + symbol row (message row 0 (2 ^ k) 0) i) % 4
