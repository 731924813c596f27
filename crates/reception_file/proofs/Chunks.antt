-- The bytes behind a file's head, cut into pairs, are its parts.
use Rattle.std.proofs.Common.{◌≡◌, ℕ, zero, suc, ◌+◌, ◌-◌, ◌*◌, ◌<◌, List, [], length, get_or, take, drop, ap, ◌∙◌, ap₂, arith}
use Rattle.std.proofs.lemmas.List.{get_or-take, get_or-drop, length-drop, take_all}
use Rattle.std.specs.Simd.{first_chunks}
use Rattle.reception_file.specs.Layout.{at, signed, place_of}
use Rattle.reception_file.specs.Pairs.{PairsOf}

-- byte i of pair j is byte 2 × j + i of all
byte_in : (n : ℕ) (xs : List ℕ) (j i : ℕ) → j < n → i < 2 → at (get_or (first_chunks 2 n xs) j []) i ≡ at xs (2 * j + i)
byte_in zero xs j i h l = absurd (omega arith)
byte_in (suc n) xs zero i h l = get_or-take 2 xs i 0 l ∙ ap (at xs) (omega arith)
byte_in (suc n) xs (suc j) i h l = byte_in n (drop 2 xs) j i (omega arith) l ∙ (get_or-drop 2 xs (2 * j + i) 0 ∙ ap (at xs) (omega arith))

-- the bytes behind the head, as a slice pattern leaves them
pub pairs_of : (bs : List ℕ) (n : ℕ) (ps : List (List ℕ)) → ps ≡ first_chunks 2 n (take (length bs - 8) (drop 8 bs)) → length ps ≡ n → PairsOf bs ps
pairs_of bs n ps is long j h =
    let behind : take (length bs - 8) (drop 8 bs) ≡ drop 8 bs = take_all (length bs - 8) (drop 8 bs) (omega (arith, length-drop 8 bs)) in
    let cut : ps ≡ first_chunks 2 n (drop 8 bs) = is ∙ ap (first_chunks 2 n) behind in
    let byte : (i : ℕ) → i < 2 → at (get_or ps j []) i ≡ at bs (place_of j + i) =
    λ i l. ap (λ (l : List (List ℕ)). at (get_or l j []) i) cut ∙ (byte_in n (drop 8 bs) j i (omega arith) l ∙ (get_or-drop 8 bs (2 * j + i) 0 ∙ ap (at bs) (omega arith))) in
    ap₂ (λ (a b : ℕ). signed (256 * a + b)) (byte 0 (omega arith) ∙ ap (at bs) (omega arith)) (byte 1 (omega arith))
