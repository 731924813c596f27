-- Where arithmetic modulo 2 ^ 32 is plain arithmetic.
--
-- Glossary
--   int_wrap w32 z  the i32 that z is modulo 2 ^ 32
--   limit           the size up to which a kind's steps are exact
use Rattle.std.specs.Prelude.{◌≡◌, ◌+◌, ◌≤◌, ℤ, ◌+ℤ◌, neg_ℤ, unsigned_abs}
use Rattle.std.proofs.Common.{arith}
use Rattle.std.specs.Int.{int_wrap, w32}
use Rattle.std.proofs.lemmas.Int.{int_wrap_fits, ints}
use Rattle.samples.specs.Kind.{limit}

-- The sum of two numbers within the limit does not wrap.
pub wrap_sum : (a b : ℤ) → unsigned_abs a + unsigned_abs b ≤ limit → int_wrap w32 (a +ℤ b) ≡ a +ℤ b
wrap_sum a b h = int_wrap_fits w32 (a +ℤ b) (omega (arith, ints))

-- The opposite of a number within the limit does not wrap.
pub wrap_neg : (a : ℤ) → unsigned_abs a ≤ limit → int_wrap w32 (neg_ℤ a) ≡ neg_ℤ a
wrap_neg a h = int_wrap_fits w32 (neg_ℤ a) (omega (arith, ints))

-- The sum that an i32 holds is no larger than the two together.
pub sum_bound : (a b : ℤ) → unsigned_abs a + unsigned_abs b ≤ limit → unsigned_abs (int_wrap w32 (a +ℤ b)) ≤ unsigned_abs a + unsigned_abs b
sum_bound a b h = let e = wrap_sum a b h in omega (arith, ints)
