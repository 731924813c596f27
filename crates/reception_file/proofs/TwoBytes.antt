-- A part and its two bytes, to and fro.
use Rattle.std.proofs.Common.{◌≡◌, ℕ, ◌+◌, ◌-◌, ◌*◌, ◌/◌, ◌%◌, ◌<◌, ◌≤◌, ltb, [], ◌∷◌, ℤ, pos, negsuc, nat_abs, w16, of_z, refl, ap, ◌∙◌, arith}
use native.Mathlib.Nat.{div-add-mod}
use Rattle.std.proofs.lemmas.Bool.{cond-true, cond-false, lt-ltb, le-ltb, cond_both, ltb-false}
use Rattle.std.specs.Int.{to_be_bytes}
use Rattle.reception_file.specs.Layout.{raw, signed, allowed}

signed_raw : (z : ℤ) → nat_abs z ≤ allowed → signed (raw z) ≡ z
signed_raw (pos n) h = cond-true (ltb n 32768) (pos n) (negsuc (65535 - n)) (lt-ltb n 32768 (omega arith))
signed_raw (negsuc n) h =
    let e : 65535 - (65535 - n) ≡ n = omega arith in
    cond-false (ltb (65535 - n) 32768) (pos (65535 - n)) (negsuc (65535 - (65535 - n))) (le-ltb (65535 - n) 32768 (omega arith)) ∙ ap negsuc e

-- what was written as two bytes is read as it was
pub read_back : (z : ℤ) (h l : ℕ) → nat_abs z ≤ allowed → h ≡ raw z / 256 → l ≡ raw z % 256 → signed (256 * h + l) ≡ z
read_back z h l q a b =
    let d = div-add-mod (raw z) 256 in
    let e : 256 * h + l ≡ raw z = omega arith in
    ap signed e ∙ signed_raw z q

pub raw_signed : (n : ℕ) → n < 65536 → raw (signed n) ≡ n
raw_signed n h =
    cond_both (ltb n 32768) (pos n) (negsuc (65535 - n)) (λ z. raw z ≡ n)
    (λ e. omega arith)
    (λ e. let l = ltb-false n 32768 e in omega arith)

-- two bytes that were read are written as they were
pub high_again : (h l : ℕ) → h < 256 → l < 256 → raw (signed (256 * h + l)) / 256 ≡ h
high_again h l p q = let e = raw_signed (256 * h + l) (omega arith) in omega arith

pub low_again : (h l : ℕ) → h < 256 → l < 256 → raw (signed (256 * h + l)) % 256 ≡ l
low_again h l p q = let e = raw_signed (256 * h + l) (omega arith) in omega arith

raw_is : (z : ℤ) → nat_abs z ≤ allowed → of_z w16 z ≡ raw z
raw_is (pos n) h = refl
raw_is (negsuc n) h = omega arith

small : (z : ℤ) → nat_abs z ≤ allowed → raw z < 65536
small (pos n) h = omega arith
small (negsuc n) h = omega arith

-- the two bytes of a part as a number of 16 bits
pub two_bytes : (z : ℤ) → nat_abs z ≤ allowed → to_be_bytes w16 (of_z w16 z) ≡ raw z / 256 ∷ raw z % 256 ∷ []
two_bytes z h =
    let s = small z h in
    let high : (raw z / 256) % 256 ≡ raw z / 256 = omega arith in
    rw (raw_is z h) (ap (λ (n : ℕ). n ∷ raw z % 256 ∷ []) high)
