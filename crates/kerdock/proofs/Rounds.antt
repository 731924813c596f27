-- Traces counted round: those from number j to the last, and then all from the first on.
use Rattle.std.proofs.Common.{◌≡◌, ℕ, ◌+◌, ◌-◌, ◌<◌, ◌≤◌, List, ◌++◌, length, take, drop, get_or, sym, ap, ◌∙◌, inl, inr, arith, length-append}
use Rattle.std.proofs.lemmas.Bool.{cases_lt}
use Rattle.std.proofs.lemmas.List.{get_or-drop, get_or_append_left, length-drop, get_or_default}
use Rattle.std.proofs.lemmas.List.FromFn.{get_or-range_with_len, length-range_with_len}
use Rattle.std.proofs.lemmas.Slice.Zip.{length-zip, get_or-zip}
use Rattle.std.proofs.Math.Seq.{get_or-append_right, take-length}
use Rattle.std.specs.List.{zip, range_with_len}
use Rattle.kerdock.specs.Code.{Row, t, period}
use Rattle.kerdock.specs.Sound.{Sound}

-- a list from an index to its end
pub to_end : (j : ℕ) (xs : List ℕ) → take (length xs - j) (drop j xs) ≡ drop j xs
to_end j xs = ap (λ (n : ℕ). take n (drop j xs)) (sym (length-drop j xs)) ∙ take-length (drop j xs)

module _ (row : Row) (sound : Sound row) (once : List ℕ) (long : length once ≡ period row) (filled : (k : ℕ) → k < period row → get_or once k 0 ≡ t row k) (j : ℕ) (b : j < period row) where
  pub round_long : period row ≤ length (drop j once ++ once)
  round_long = let e = length-append (drop j once) once in omega (arith, long)

  pub round_at : (k : ℕ) → k < period row → get_or (drop j once ++ once) k 0 ≡ t row (j + k)
  round_at k h =
      let d = length-drop j once in
      elim (cases_lt k (length (drop j once))) [
        | inl c ↦ get_or_append_left (drop j once) once 0 k c ∙ get_or-drop j once k 0 ∙ filled (j + k) (omega (arith, long))
        | inr c ↦
            let m = k - length (drop j once) in
            let e : m + period row ≡ j + k = omega (arith, long) in
            get_or-append_right (drop j once) once k 0 (omega arith) ∙ filled m (omega (arith, long)) ∙ sym (sound.repeats m) ∙ ap (t row) e
      ]

  -- an item of as many of them as a degree says, numbered from 0 on
  pub numbered : (n : ℕ) → n ≤ period row → (x y k : ℕ) → k < length (zip (drop j once ++ once) (range_with_len 0 n)) →
      ◌≡◌ {A = ℕ × ℕ} (x, y) (get_or (zip (drop j once ++ once) (range_with_len 0 n)) k (x, y)) → (x ≡ t row (j + y)) × (y < n)
  numbered n few x y k h e =
      let xs = drop j once ++ once in
      let z = length-zip xs (range_with_len 0 n) in
      let l = length-range_with_len 0 n in
      let p : k < length xs = omega arith in
      let q : k < n = omega arith in
      let at = e ∙ get_or-zip xs (range_with_len 0 n) k (x, y) p (omega arith) in
      let number : y ≡ k = ap (λ (p : ℕ × ℕ). p.1) at ∙ get_or-range_with_len 0 n k y q ∙ (omega arith) in
      (ap (λ (p : ℕ × ℕ). p.0) at ∙ get_or_default xs k x 0 p ∙ round_at k (omega arith) ∙ ap (λ (i : ℕ). t row (j + i)) (sym number), omega arith)
