-- One part more is written, and what a file is once all are.
use Rattle.std.proofs.Common.{◌≡◌, ℕ, zero, suc, ◌+◌, ◌*◌, ◌/◌, ◌%◌, ◌<◌, ◌≤◌, ◌≢◌, List, [], ◌∷◌, ◌++◌, length, take, drop, set, ℤ, sym, refl, ap, ◌∙◌, subst, suc-add, arith, below_more}
use Rattle.std.proofs.lemmas.List.{length-set, length-take-le, get_or-set_same, get_or-set_other, get_or-take, take-take, take-set-le, drop-set-lt, drop-drop, length-append, length-drop}
use borrow.Rule.Slice.PartMut.{put_mid}
use lib.Seq.{drop-append-add}
use Rattle.reception_file.specs.Layout.{at, total, place_of, raw, head_bytes, Lays}
use Rattle.reception_file.specs.Partly.{Laid}

-- two elements put in the place of two are the two set
pub put_pair : (p : ℕ) (xs : List ℕ) (a b : ℕ) → p + 1 < length xs → put_mid p 2 xs (a ∷ b ∷ []) ≡ set (set xs p a) (p + 1) b
put_pair zero [] a b h = absurd (omega arith)
put_pair zero (x ∷ []) a b h = absurd (omega arith)
put_pair zero (x ∷ (y ∷ xs)) a b h = refl
put_pair (suc p) [] a b h = absurd (omega arith)
put_pair (suc p) (x ∷ xs) a b h = rw suc-add (ap (λ (l : List ℕ). x ∷ l) (put_pair p xs a b (omega arith)))

module _ (part : ℕ → ℤ) (j : ℕ) (before bs after : List ℕ) (v : ℤ) (inside : place_of j + 1 < length bs) (is : v ≡ part j) (wrote : after ≡ set (set bs (place_of j) (raw v / 256)) (place_of j + 1) (raw v % 256)) (sofar : Laid part j before bs) where
  -- the part's own two bytes, and every other byte
  at_high : at after (place_of j) ≡ raw (part j) / 256
  at_high =
      let ne : place_of j ≢ place_of j + 1 = omega arith in
      ap (λ l. at l (place_of j)) wrote
      ∙ (get_or-set_other (set bs (place_of j) (raw v / 256)) (place_of j + 1) (place_of j) (raw v % 256) 0 ne
      ∙ (get_or-set_same bs (place_of j) (raw v / 256) 0 (omega arith) ∙ ap (λ z. raw z / 256) is))

  at_low : at after (place_of j + 1) ≡ raw (part j) % 256
  at_low =
      let l : place_of j + 1 < length (set bs (place_of j) (raw v / 256)) = omega (arith, length-set bs (place_of j) (raw v / 256)) in
      ap (λ l. at l (place_of j + 1)) wrote
      ∙ (get_or-set_same (set bs (place_of j) (raw v / 256)) (place_of j + 1) (raw v % 256) 0 l ∙ ap (λ z. raw z % 256) is)

  other : (i : ℕ) → i ≢ place_of j → i ≢ place_of j + 1 → at after i ≡ at bs i
  other i a b =
      ap (λ l. at l i) wrote
      ∙ (get_or-set_other (set bs (place_of j) (raw v / 256)) (place_of j + 1) i (raw v % 256) 0 b
      ∙ get_or-set_other bs (place_of j) i (raw v / 256) 0 a)

  behind_more : drop (place_of j + 2) after ≡ drop (place_of j + 2) before
  behind_more =
      ap (drop (place_of j + 2)) wrote
      ∙ (drop-set-lt (place_of j + 2) (set bs (place_of j) (raw v / 256)) (place_of j + 1) (raw v % 256) (omega arith)
      ∙ (drop-set-lt (place_of j + 2) bs (place_of j) (raw v / 256) (omega arith)
      ∙ (sym (drop-drop 2 (place_of j) bs) ∙ (ap (drop 2) sofar.behind ∙ drop-drop 2 (place_of j) before))))

  pub one_more : Laid part (j + 1) before after
  one_more =
      let e : place_of j + 2 ≡ place_of (j + 1) = omega arith in
      record {
        long = ap length wrote ∙ (length-set (set bs (place_of j) (raw v / 256)) (place_of j + 1) (raw v % 256) ∙ (length-set bs (place_of j) (raw v / 256) ∙ sofar.long));
        high = below_more (λ k. at after (place_of k) ≡ raw (part k) / 256) j (λ k h. let a : place_of k ≢ place_of j = omega arith in let b : place_of k ≢ place_of j + 1 = omega arith in other (place_of k) a b ∙ sofar.high k h) at_high;
        low = below_more (λ k. at after (place_of k + 1) ≡ raw (part k) % 256) j (λ k h. let a : place_of k + 1 ≢ place_of j = omega arith in let b : place_of k + 1 ≢ place_of j + 1 = omega arith in other (place_of k + 1) a b ∙ sofar.low k h) at_low;
        front = ap (take 8) wrote ∙ (take-set-le 8 (set bs (place_of j) (raw v / 256)) (place_of j + 1) (raw v % 256) (omega arith) ∙ (take-set-le 8 bs (place_of j) (raw v / 256) (omega arith) ∙ sofar.front));
        behind = subst (λ n. drop n after ≡ drop n before) e behind_more;
      }

-- the same at numbers that are those
pub one_more_at : (part : ℕ → ℤ) (j n m : ℕ) (before bs after : List ℕ) (v : ℤ) → n ≡ j → m ≡ j + 1 → place_of j + 1 < length bs → v ≡ part j → after ≡ set (set bs (place_of n) (raw v / 256)) (place_of n + 1) (raw v % 256) → Laid part j before bs → Laid part m before after
one_more_at part j n m before bs after v e f inside is wrote sofar =
    subst (λ (i : ℕ). Laid part i before after) (sym f)
    (one_more part j before bs after v inside is (subst (λ (i : ℕ). after ≡ set (set bs (place_of i) (raw v / 256)) (place_of i + 1) (raw v % 256)) e wrote) sofar)

-- With the head before them, all parts are the file; behind it the bytes are as they were.
module _ (kind degree count parts : ℕ) (is : parts ≡ total kind degree count) (part : ℕ → ℤ) (before headed after : List ℕ) (room : place_of parts ≤ length before) (wrote : headed ≡ head_bytes kind degree count ++ drop 8 before) (laid : Laid part parts headed after) where
  long : length after ≡ length before
  long =
      let a = length-append (head_bytes kind degree count) (drop 8 before) in
      let b = length-drop 8 before in
      let e = ap length wrote in
      omega (arith, laid.long)

  pub file : Lays kind degree count part (take (place_of parts) after)
  file = record {
    long = length-take-le (place_of parts) after (omega (arith, long)) ∙ ap place_of is;
    opens = take-take 8 (place_of parts) after (omega arith) ∙ (laid.front ∙ ap (take 8) wrote);
    high = λ j h. get_or-take (place_of parts) after (place_of j) 0 (omega arith) ∙ laid.high j (omega arith);
    low = λ j h. get_or-take (place_of parts) after (place_of j + 1) 0 (omega arith) ∙ laid.low j (omega arith);
  }

  pub behind : drop (place_of parts) after ≡ drop (place_of parts) before
  behind =
      laid.behind
      ∙ (ap (drop (place_of parts)) wrote
      ∙ (drop-append-add (head_bytes kind degree count) (drop 8 before) (2 * parts) ∙ drop-drop (2 * parts) 8 before))
