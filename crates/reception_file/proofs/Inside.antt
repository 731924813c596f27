-- A reception of a file lies inside it.
use Rattle.std.proofs.Common.{◌≡◌, ℕ, ◌+◌, ◌-◌, ◌*◌, ◌<◌, ◌≤◌, List, [], length, take, drop, nat_abs, sym, ap, ◌∙◌, subst, mul-le-mul_right, add-mul, one-mul, arith}
use lib.Arith.{digits_lt}
use Rattle.std.proofs.lemmas.List.{get_or-take, get_or-drop}
use Rattle.samples.specs.declared.sample.Sample.{Ghosts}
use Rattle.reception_file.specs.Layout.{at, samples_of, parts_of, part_at, allowed}
use Rattle.reception_file.specs.Pairs.{pair_part, part_in, PairsOf}
use Rattle.reception_file.specs.Check.{Accepted, total_at}
use Rattle.reception_file.specs.Pick.{sample_at, Holds, Reads, Picked}
use Rattle.reception_file.specs.declared.stored.Stored.{Ghosts as StoredGhosts}

-- of so many receptions of n samples of w parts, the samples and the parts of one
pub samples_fit : (r count n : ℕ) → r < count → r * n + n ≤ count * n
samples_fit r count n l = omega (arith, mul-le-mul_right n l, add-mul r 1 n, one-mul n)

pub rows : (r count n w : ℕ) → r < count → (r * n + n) * w ≤ count * n * w
rows r count n w l = mul-le-mul_right w (samples_fit r count n l)

module _ {S : Type 0} (m : Ghosts S) (t : StoredGhosts S) (bs : List ℕ) (kind : at bs 5 ≡ t.code) (n : ℕ) (is : n ≡ samples_of (at bs 6)) where
  -- the parts of the file, as the kind counts them
  pub all_parts : at bs 7 * n * t.width ≡ total_at bs
  all_parts =
      ap (λ k. at bs 7 * k * t.width) is
      ∙ ap (λ w. at bs 7 * samples_of (at bs 6) * w) (t.laws.counted ∙ ap parts_of (sym kind))

  module _ (r : ℕ) (l : r < at bs 7) where
    pub part_inside : (i k : ℕ) → i < n → k < t.width → (r * n + i) * t.width + k < total_at bs
    part_inside i k p q =
        let a : r * n + i < r * n + n = omega arith in
        omega (arith, digits_lt a q, rows r (at bs 7) n t.width l, all_parts)

    -- what was read from the parts of a reception is what the file holds there
    pub holds : (ps mine : List (List ℕ)) (long : ℕ) → PairsOf bs ps → length ps ≡ total_at bs → long ≡ n * t.width → mine ≡ take (r * long + long - r * long) (drop (r * long) ps) →
        (after : List S) → length after ≡ n → Reads m t mine after → Holds m t bs (r * n) after
    holds ps mine long pairs whole each is after many reads i k p q =
        let lt : i * t.width + k < n * t.width = digits_lt (omega arith) q in
        let at_place : r * long + (i * t.width + k) ≡ (r * n + i) * t.width + k = omega (arith, ap (λ (l : ℕ). r * l) each) in
        reads i k p q
        ∙ (ap (λ (l : List (List ℕ)). part_in l (i * t.width + k)) is
        ∙ (ap pair_part (get_or-take (r * long + long - r * long) (drop (r * long) ps) (i * t.width + k) [] (omega arith) ∙ get_or-drop (r * long) ps (i * t.width + k) [])
        ∙ (ap (part_in ps) at_place ∙ pairs ((r * n + i) * t.width + k) (omega (arith, part_inside i k (omega arith) q)))))

    -- what the memory holds then is the reception, and no sample is too large
    pub picked : (d : ℕ) (after : List S) →
        ((x : S) (b : ℕ) → ((k : ℕ) → k < t.width → nat_abs (t.part x k) ≤ b) → (m.means x).size ≤ b) →
        Accepted bs → length after ≡ n → d ≡ at bs 6 → Holds m t bs (r * n) after → Picked m t bs r d after
    picked d after bounded ok long e holds = record {
      accepted = ok;
      kind = kind;
      inside = l;
      long = long ∙ is;
      degree_is = e;
      holds = λ i k p q. holds i k p q ∙ ap (λ s. part_at bs ((r * s + i) * t.width + k)) is;
      within = λ i p. bounded (sample_at m t after i) allowed (λ k q. subst (λ z. nat_abs z ≤ allowed) (sym (holds i k p q)) (ok.1 ((r * n + i) * t.width + k) (part_inside i k (omega arith) q)));
    }
