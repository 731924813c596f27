-- One pair of digits more.
use Rattle.std.proofs.Common.{◌≡◌, ℕ, ◌+◌, ◌*◌, ◌<◌, List, ◌++◌, length, get_or, sym, ap, ◌∙◌, arith, length-append, below_more}
use Rattle.std.proofs.lemmas.List.{get_or_append_left, get_or-append-add}
use Rattle.vectors.specs.Hexadecimal.{high, low}

-- the pair at k writes byte k
abbrev pub Pair : List ℕ → List ℕ → ℕ → Type 0
Pair text bytes k =
    (get_or text (2 * k) 0 ≡ high (get_or bytes k 0)) × (get_or text (2 * k + 1) 0 ≡ low (get_or bytes k 0))

pub one_more : (text xs ys : List ℕ) (i b : ℕ) →
    ((k : ℕ) → k < i → Pair text xs k) →
    ((k : ℕ) → k < i → get_or ys k 0 ≡ get_or xs k 0) →
    get_or ys i 0 ≡ b →
    (get_or text (2 * i) 0 ≡ high b) × (get_or text (2 * i + 1) 0 ≡ low b) →
    (k : ℕ) → k < i + 1 → Pair text ys k
one_more text xs ys i b before same last is =
    below_more _ _
    (λ k h. let e : get_or ys k 0 ≡ get_or xs k 0 = same k h in rw e (before k h))
    (rw last is)

-- A text that is left begins with a pair of digits, and goes on after it.
pub next_pair : (text left pair after : List ℕ) (n : ℕ) → left ≡ pair ++ after → length pair ≡ 2 → length text ≡ 2 * n + length left →
    ((k : ℕ) → k < length left → get_or left k 0 ≡ get_or text (2 * n + k) 0) →
    (length text ≡ 2 * (n + 1) + length after)
    × ((k : ℕ) → k < length after → get_or after k 0 ≡ get_or text (2 * (n + 1) + k) 0)
    × (get_or pair 0 0 ≡ get_or text (2 * n) 0)
    × (get_or pair 1 0 ≡ get_or text (2 * n + 1) 0)
next_pair text left pair after n is two long same =
    let more : length left ≡ 2 + length after = ap length is ∙ length-append pair after ∙ ap (λ m. m + length after) two in
    let before : (k : ℕ) → k < 2 → get_or pair k 0 ≡ get_or text (2 * n + k) 0 =
    λ k few. sym (get_or_append_left pair after 0 k (omega (arith, two))) ∙ ap (λ xs. get_or xs k 0) (sym is) ∙ same k (omega (arith, more)) in (
      omega (arith, more),
      λ k few.
          let step : 2 * n + (2 + k) ≡ 2 * (n + 1) + k = omega arith in
          sym (get_or-append-add pair after k 0)
          ∙ ap (λ m. get_or (pair ++ after) (m + k) 0) two
          ∙ ap (λ xs. get_or xs (2 + k) 0) (sym is)
          ∙ same (2 + k) (omega (arith, more))
          ∙ ap (λ m. get_or text m 0) step,
      before 0 (omega arith) ∙ ap (λ m. get_or text m 0) (omega arith),
      before 1 (omega arith),
    )
