-- Part k of sample s is part s × width + k of all.
use Rattle.std.proofs.Common.{◌≡◌, ℕ, ◌+◌, ◌*◌, ◌%◌, ◌<◌, List, length, get_or, drop, sym, ap, ◌∙◌, arith}
use lib.Arith.{digits_div, digits_mod}
use Rattle.std.proofs.lemmas.List.{get_or_read, length-take-le, length-drop, get_or-take, get_or-drop}
use Rattle.samples.specs.declared.sample.Sample.{Ghosts}
use Rattle.reception_file.specs.Pick.{sample_at}
use Rattle.reception_file.specs.Layout.{samples_of, total}
use Rattle.reception_file.specs.Write.{part_of, Due}
use Rattle.reception_file.specs.Laws.{reception_of}
use Rattle.reception_file.specs.declared.stored.Stored.{Ghosts as StoredGhosts}
use Rattle.reception_file.proofs.Inside.{samples_fit}

module _ {S : Type 0} (m : Ghosts S) (t : StoredGhosts S) where
  pub part_at_sample : (xs : List S) (s k : ℕ) → k < t.width → part_of m t xs (s * t.width + k) ≡ t.part (sample_at m t xs s) k
  part_at_sample xs s k h =
      ap (λ n. t.part (sample_at m t xs n) ((s * t.width + k) % t.width)) (digits_div s h)
      ∙ ap (t.part (sample_at m t xs s)) (digits_mod s h)

  -- the same where the sample was read from the list
  pub part_of_item : (xs : List S) (s k : ℕ) (x : S) → s < length xs → x ≡ get_or xs s x → k < t.width → part_of m t xs (s * t.width + k) ≡ t.part x k
  part_of_item xs s k x l is h = part_at_sample xs s k h ∙ ap (λ (y : S). t.part y k) (sym (get_or_read xs s x l is m.zeroed))

  -- the parts of all samples
  pub total_wide : {degree count : ℕ} {xs : List S} → Due m t degree count xs → length xs * t.width ≡ total t.code degree count
  total_wide {degree} {count} due = ap (λ n. n * t.width) due.many ∙ ap (λ n. count * samples_of degree * n) t.laws.counted

  -- sample i of reception r is sample r × n + i of all
  pub sample_in : (xs : List S) (n r i : ℕ) → i < n → sample_at m t (reception_of n r xs) i ≡ sample_at m t xs (r * n + i)
  sample_in xs n r i h = get_or-take n (drop (r * n) xs) i m.zeroed h ∙ get_or-drop (r * n) xs i m.zeroed

  pub reception_long : (xs : List S) (count n r : ℕ) → length xs ≡ count * n → r < count → length (reception_of n r xs) ≡ n
  reception_long xs count n r e l = length-take-le n (drop (r * n) xs) (omega (arith, length-drop (r * n) xs, samples_fit r count n l))
