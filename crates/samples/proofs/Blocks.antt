-- One block more crossed, for any kind.
use Rattle.std.proofs.Common.{◌≡◌, ℕ, ◌+◌, ◌-◌, ◌*◌, ◌%◌, ◌<◌, ◌≤◌, ltb, ◌⊎◌, List, sym, ap, ◌∙◌, subst, inl, inr, add-mul, mul-le-mul, one-mul, arith, le-ltb, lt-ltb}
use lib.Arith.{digits_mod}
use Rattle.std.proofs.lemmas.Bool.{cases_lt}
use Rattle.samples.specs.declared.sample.Sample.{Ghosts}
use Rattle.samples.specs.Passes.{crossed, Halves}
use Rattle.samples.specs.Sizes.{at}

-- The blocks below n are crossed; every sample beyond is as it was.
pub record Crossing {S : Type 0} (m : Ghosts S) (h n : ℕ) (old w : List S) : Type 0 where
  pub done : (v : ℕ) → v < n * (h + h) → at m w v ≡ crossed m h (at m old) v
  pub beyond : (v : ℕ) → n * (h + h) ≤ v → at m w v ≡ at m old v

-- the end of block n
pub block_end : (h n : ℕ) → (n + 1) * (h + h) ≡ n * (h + h) + (h + h)
block_end h n = add-mul n 1 (h + h) ∙ ap (λ x. n * (h + h) + x) (one-mul (h + h))

-- block n of the blocks ends within them all
pub block_fits : (h n blocks : ℕ) → n < blocks → n * (h + h) + (h + h) ≤ blocks * (h + h)
block_fits h n blocks l = let e = block_end h n in let q : (n + 1) * (h + h) ≤ blocks * (h + h) = mul-le-mul (omega arith) (omega arith) in omega arith

module _ {S : Type 0} (m : Ghosts S) (h : ℕ) where
  -- a place r of block n, in its first half and in its second
  pub low_is : (f : ℕ → S) (n r : ℕ) → r < h → crossed m h f (n * (h + h) + r) ≡ m.added (f (n * (h + h) + r)) (f (n * (h + h) + r + h))
  low_is f n r l =
      let inside : r < h + h = omega arith in
      let e : ltb ((n * (h + h) + r) % (h + h)) h ≡ ltb r h = ap (λ x. ltb x h) (digits_mod n inside) in
      rw (e ∙ lt-ltb r h l)

  pub high_is : (f : ℕ → S) (n r : ℕ) → r < h → crossed m h f (n * (h + h) + r + h) ≡ m.added (f (n * (h + h) + r)) (m.turned (m.turned (f (n * (h + h) + r + h))))
  high_is f n r l =
      let inside : r + h < h + h = omega arith in
      let q : n * (h + h) + r + h ≡ n * (h + h) + (r + h) = omega arith in
      let e : ltb ((n * (h + h) + r + h) % (h + h)) h ≡ ltb (r + h) h = ap (λ x. ltb (x % (h + h)) h) q ∙ ap (λ x. ltb x h) (digits_mod n inside) in
      let back : n * (h + h) + r + h - h ≡ n * (h + h) + r = omega arith in
      rw (e ∙ le-ltb (r + h) h (omega arith), back)

  module _ (n : ℕ) (old w new : List S) (so_far : Crossing m h n old w) (halves : Halves m h (n * (h + h)) w new) where
    low_here : (r : ℕ) → r < h → at m new (n * (h + h) + r) ≡ crossed m h (at m old) (n * (h + h) + r)
    low_here r l =
        halves.low (n * (h + h) + r) (omega arith) (omega arith)
        ∙ rw (so_far.beyond (n * (h + h) + r) (omega arith), so_far.beyond (n * (h + h) + r + h) (omega arith)) (sym (low_is (at m old) n r l))

    high_here : (r : ℕ) → r < h → at m new (n * (h + h) + r + h) ≡ crossed m h (at m old) (n * (h + h) + r + h)
    high_here r l =
        halves.high (n * (h + h) + r) (omega arith) (omega arith)
        ∙ rw (so_far.beyond (n * (h + h) + r) (omega arith), so_far.beyond (n * (h + h) + r + h) (omega arith)) (sym (high_is (at m old) n r l))

    here : (v : ℕ) → n * (h + h) ≤ v → v < n * (h + h) + (h + h) → (v < n * (h + h) + h) ⊎ (n * (h + h) + h ≤ v) → at m new v ≡ crossed m h (at m old) v
    here v f l (inl b) =
        let e : n * (h + h) + (v - n * (h + h)) ≡ v = omega arith in
        subst (λ x. at m new x ≡ crossed m h (at m old) x) e (low_here (v - n * (h + h)) (omega arith))
    here v f l (inr b) =
        let e : n * (h + h) + (v - n * (h + h) - h) + h ≡ v = omega arith in
        subst (λ x. at m new x ≡ crossed m h (at m old) x) e (high_here (v - n * (h + h) - h) (omega arith))

    pub one_more : Crossing m h (n + 1) old new
    one_more = record {
      done = λ v l. let e = block_end h n in done v (omega arith) (cases_lt v (n * (h + h)));
      beyond = λ v l. let e = block_end h n in halves.beyond v (omega arith) ∙ so_far.beyond v (omega arith);
    }
      where
        done : (v : ℕ) → v < n * (h + h) + (h + h) → (v < n * (h + h)) ⊎ (n * (h + h) ≤ v) → at m new v ≡ crossed m h (at m old) v
        done v l (inl b) = halves.before v b ∙ so_far.done v b
        done v l (inr b) = here v b l (cases_lt v (n * (h + h) + h))
