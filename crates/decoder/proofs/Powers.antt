-- Powers of 2 up to the length of the longest words.
use Rattle.std.proofs.Common.{◌≡◌, ℕ, zero, suc, ◌*◌, ◌%◌, ◌^◌, ◌<◌, ◌≤◌, mod-eq_of_lt, one-mul, pow-suc, arith, pow_mono}

-- a power is above its exponent
pub above_exponent : (k : ℕ) → k < 2 ^ k
above_exponent zero = omega arith
above_exponent (suc k) = let b = above_exponent k in let e = pow-suc 2 k in omega arith

-- a power of 2 that fits 64 bits, as it is shifted
pub shifted : (k : ℕ) → k ≤ 7 → 1 * 2 ^ k % 18446744073709551616 ≡ 2 ^ k
shifted k h =
    let most : 2 ^ k ≤ 2 ^ 7 = pow_mono h in
    let one = one-mul (2 ^ k) in
    let e : 2 ^ k % 18446744073709551616 ≡ 2 ^ k = mod-eq_of_lt (omega arith) in
    rw one e
