-- Parities of numbers that have one bit more on top.
use Rattle.std.proofs.Common.{◌≡◌, ℕ, ◌+◌, ◌*◌, ◌%◌, ◌^◌, ◌<◌, refl, ap, ◌∙◌, one-mul, zero-add, zero-mul, arith}
use lib.Bits.{bit_and, and_block, and_lt}
use lib.Count.{ones, ones_in, ones_cat}
use Rattle.samples.specs.Transform.{parity}

-- shared one bits, with the bits of a and b above d bits
above : (d a b v p : ℕ) → v < 2 ^ d → p < 2 ^ d → ones (bit_and (a * 2 ^ d + v) (b * 2 ^ d + p)) ≡ ones (bit_and a b) + ones (bit_and v p)
above d a b v p hv hp = ap ones (and_block d a b v p hv hp) ∙ ones_cat d (bit_and a b) (bit_and v p) (and_lt d v p hv hp)

one_bit : (ones (bit_and 0 1) ≡ 0) × (ones (bit_and 1 0) ≡ 0) × (ones (bit_and 1 1) ≡ 1)
unfolding ones ones_in
one_bit = (refl, refl, refl)

pub parity_zero : parity 0 0 ≡ 0
unfolding ones ones_in
parity_zero = refl

-- A bit on top of one of the two changes nothing; on top of both it changes the parity.
pub top_right : (d v p : ℕ) → v < 2 ^ d → p < 2 ^ d → parity v (2 ^ d + p) ≡ parity v p
top_right d v p hv hp =
    let e : ones (bit_and v (2 ^ d + p)) ≡ ones (bit_and 0 1) + ones (bit_and v p) = rw (one-mul, zero-mul, zero-add) at (above d 0 1 v p hv hp) in
    let z = one_bit.0 in
    omega arith

pub top_left : (d v p : ℕ) → v < 2 ^ d → p < 2 ^ d → parity (2 ^ d + v) p ≡ parity v p
top_left d v p hv hp =
    let e : ones (bit_and (2 ^ d + v) p) ≡ ones (bit_and 1 0) + ones (bit_and v p) = rw (one-mul, zero-mul, zero-add) at (above d 1 0 v p hv hp) in
    let z = one_bit.1 in
    omega arith

pub top_both : (d v p : ℕ) → v < 2 ^ d → p < 2 ^ d → parity (2 ^ d + v) (2 ^ d + p) ≡ (1 + parity v p) % 2
top_both d v p hv hp =
    let e : ones (bit_and (2 ^ d + v) (2 ^ d + p)) ≡ ones (bit_and 1 1) + ones (bit_and v p) = simp one-mul at (above d 1 1 v p hv hp) in
    let z = one_bit.2 in
    omega arith
