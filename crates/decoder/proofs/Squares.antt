-- Products and squares of integers, and the squared distance of a complex sample from a symbol's point.
use Rattle.std.proofs.Common.{◌≡◌, ℕ, zero, suc, ◌*◌, ℤ, pos, negsuc, ◌+ℤ◌, ◌-ℤ◌, ◌*ℤ◌, neg_ℤ, ◌≤ℤ◌, sym, ap, ◌∙◌, ap₂, add-mul, mul-le-mul_left, mul-add, arith}
use lib.IntN.{*ℤ_comm, -ℤ-+ℤ_cancel, +ℤ_comm, +ℤ_invr, neg_ℤ-neg_ℤ}
use borrow.Author.Differences.{ints, up, down, sum_is_lem, le_out}
use Rattle.samples.specs.Meaning.{Meaning, reads}
use Rattle.decoder.specs.Scores.{IsComplex, square, far}

-- a product of a sum, by the sum's parts
sum_times : (a b c : ℤ) → (a +ℤ b) *ℤ c ≡ (a *ℤ c) +ℤ (b *ℤ c)
sum_times a b c =
    let p = simp add-mul at (ap (λ (n : ℕ). n * up c) (sum_is_lem a b)) in
    let q = simp add-mul at (ap (λ (n : ℕ). n * down c) (sum_is_lem a b)) in
    omega (arith, ints)

-- a product by a sum, by the sum's parts
pub times_sum : (a b c : ℤ) → c *ℤ (a +ℤ b) ≡ (c *ℤ a) +ℤ (c *ℤ b)
times_sum a b c = *ℤ_comm c (a +ℤ b) ∙ sum_times a b c ∙ ap₂ ◌+ℤ◌ (*ℤ_comm a c) (*ℤ_comm b c)

-- x² + 2 (x + b) b = (x + b)² + b²
square_sum : (x b : ℤ) → square x +ℤ (((x +ℤ b) *ℤ b) +ℤ ((x +ℤ b) *ℤ b)) ≡ square (x +ℤ b) +ℤ square b
square_sum x b =
    let p = sum_times x b (x +ℤ b) in
    let q = times_sum x b x in
    let r = times_sum x b b in
    let s = sum_times x b b in
    let t = *ℤ_comm x b in
    omega (arith, ints)

-- (a - b)² + 2 a b = a² + b²
square_difference : (a b : ℤ) → square (a -ℤ b) +ℤ ((a *ℤ b) +ℤ (a *ℤ b)) ≡ square a +ℤ square b
square_difference a b = rw (-ℤ-+ℤ_cancel a b) at (square_sum (a -ℤ b) b)

-- a product by an opposite
times_opposite : (a b : ℤ) → a *ℤ neg_ℤ b ≡ neg_ℤ (a *ℤ b)
times_opposite a b =
    let e = rw (+ℤ_invr b) at (times_sum b (neg_ℤ b) a) in
    omega (arith, ints)

-- a product of an opposite
opposite_times : (a b : ℤ) → neg_ℤ a *ℤ b ≡ neg_ℤ (a *ℤ b)
opposite_times a b = *ℤ_comm (neg_ℤ a) b ∙ times_opposite b a ∙ ap neg_ℤ (*ℤ_comm b a)

-- an opposite has the same square
square_opposite : (a : ℤ) → square (neg_ℤ a) ≡ square a
square_opposite a = times_opposite (neg_ℤ a) a ∙ ap neg_ℤ (opposite_times a a) ∙ neg_ℤ-neg_ℤ (square a)

-- a product by a number from 0 up keeps the order
pub times_order : (g : ℕ) (a b : ℤ) → a ≤ℤ b → (pos g *ℤ a) ≤ℤ (pos g *ℤ b)
times_order g a b h =
    let e = simp mul-add at (mul-le-mul_left g (le_out a b h)) in
    omega (arith, ints)

-- a product by 2 g, as two products
times_twice : (g : ℕ) (a : ℤ) → pos (2 * g) *ℤ a ≡ (a *ℤ pos g) +ℤ (a *ℤ pos g)
times_twice g a =
    let e : pos (2 * g) ≡ pos g +ℤ pos g = omega (arith, ints) in
    rw e (sym (*ℤ_comm a (pos g +ℤ pos g)) ∙ times_sum (pos g) (pos g) a)

-- g times 1
times_one : (g : ℕ) → pos g *ℤ pos 1 ≡ pos g
times_one g = omega (arith, ints)

-- g times 0
times_zero : (g : ℕ) → pos g *ℤ pos 0 ≡ pos 0
times_zero g = omega (arith, ints)

-- g times -1
times_minus_one : (g : ℕ) → pos g *ℤ negsuc 0 ≡ neg_ℤ (pos g)
times_minus_one g = omega (arith, ints)

-- (a - b)² + (c - 0)² + 2 a b = a² + c² + b²
far_along : (a c b : ℤ) → (square (a -ℤ b) +ℤ square (c -ℤ pos 0)) +ℤ ((a *ℤ b) +ℤ (a *ℤ b)) ≡ (square a +ℤ square c) +ℤ square b
far_along a c b =
    let p = square_difference a b in
    let q : c -ℤ pos 0 ≡ c = omega (arith, ints) in
    rw q (omega (arith, ints))

-- the same at the opposite point, with the opposite of a
far_against : (g : ℕ) (a c : ℤ) →
    (square (a -ℤ neg_ℤ (pos g)) +ℤ square (c -ℤ pos 0)) +ℤ ((neg_ℤ a *ℤ pos g) +ℤ (neg_ℤ a *ℤ pos g)) ≡ (square a +ℤ square c) +ℤ square (pos g)
far_against g a c =
    let e : neg_ℤ a *ℤ pos g ≡ a *ℤ neg_ℤ (pos g) = opposite_times a (pos g) ∙ sym (times_opposite a (pos g)) in
    rw e (far_along a c (neg_ℤ (pos g)) ∙ ap (λ (z : ℤ). (square a +ℤ square c) +ℤ z) (square_opposite (pos g)))

-- the squared distance plus 2 g times the reading is re² + im² + g², at every symbol
pub far_balance : (g s : ℕ) (x : Meaning) → IsComplex x →
    far g s x +ℤ (pos (2 * g) *ℤ reads x s) ≡ (square x.read0 +ℤ square x.read1) +ℤ square (pos g)
far_balance g zero x c = rw (times_one g, times_zero g, times_twice g x.read0) (far_along x.read0 x.read1 (pos g))
far_balance g (suc zero) x c =
    rw (times_one g, times_zero g, times_twice g x.read1, +ℤ_comm (square (x.read0 -ℤ pos 0)) (square (x.read1 -ℤ pos g)), +ℤ_comm (square x.read0) (square x.read1))
    (far_along x.read1 x.read0 (pos g))
far_balance g (suc (suc zero)) x c = rw (times_minus_one g, times_zero g, times_twice g x.read2, c.opposite0) (far_against g x.read0 x.read1)
far_balance g (suc (suc (suc n))) x c =
    rw (times_minus_one g, times_zero g, times_twice g x.read3, c.opposite1, +ℤ_comm (square (x.read0 -ℤ pos 0)) (square (x.read1 -ℤ neg_ℤ (pos g))), +ℤ_comm (square x.read0) (square x.read1))
    (far_against g x.read1 x.read0)
