-- What is written comes back.
use Rattle.std.proofs.Common.{◌≡◌, ℕ, ◌+◌, ◌*◌, ◌<◌, List, length, Ok, Err, Result, sym, ap, ◌∙◌, ⊎_elim, arith}
use lib.Arith.{digits_lt}
use Rattle.std.proofs.lemmas.List.{ext_get_or}
use Rattle.samples.specs.declared.sample.Sample.{Ghosts}
use Rattle.reception_file.specs.Layout.{at, samples_of, total, part_at, Lays}
use Rattle.std.specs.Prelude.{IsOkAnd}
use Rattle.reception_file.specs.Head.{Says}
use Rattle.reception_file.specs.Check.{Accepted, Checked}
use Rattle.reception_file.specs.Pick.{sample_at, Picked, Unfit, Picks}
use Rattle.reception_file.specs.Write.{part_of, Due}
use Rattle.reception_file.specs.Laws.{reception_of, Returned}
use Rattle.reception_file.specs.declared.head.Head.{Head}
use Rattle.reception_file.specs.declared.refusal.Refusal.{Refusal}
use Rattle.reception_file.specs.declared.refusal.Refusal.TheVariants.{Memory, Short, Mark, Version, Kind, Degree, Count, Length, Part, Reception, Room}
use Rattle.reception_file.specs.declared.stored.Stored.{Ghosts as StoredGhosts}
use Rattle.reception_file.proofs.Inside.{rows}
use Rattle.reception_file.proofs.Places.{part_at_sample, sample_in, reception_long}
use Rattle.reception_file.proofs.Accepting as accepting

module _ {S : Type 0} (m : Ghosts S) (t : StoredGhosts S) (degree count : ℕ) (xs : List S) (due : Due m t degree count xs) (bs : List ℕ) (lays : Lays t.code degree count (part_of m t xs) bs) where
  ok : Accepted bs
  ok = accepting.accepted t.code degree count (part_of m t xs) bs lays due.within t.laws.known due.good_degree due.good_count

  kind_is : at bs 5 ≡ t.code
  kind_is = accepting.kind_is t.code degree count (part_of m t xs) bs lays

  degree_is : at bs 6 ≡ degree
  degree_is = accepting.degree_is t.code degree count (part_of m t xs) bs lays

  count_is : at bs 7 ≡ count
  count_is = accepting.count_is t.code degree count (part_of m t xs) bs lays

  checks : (a : Result Head Refusal) → Checked bs a → IsOkAnd a (λ h. Says h t.code degree count)
  checks (Ok h) c = (c.1.0 ∙ kind_is, c.1.1 ∙ degree_is, c.1.2 ∙ count_is)
  checks (Err e) f = absurd (accepting.never_faulty bs ok e f)

  module _ (r : ℕ) (l : r < count) where
    -- the parts of a sample of this reception are those that were written
    part_back : (i k : ℕ) → i < samples_of degree → k < t.width → part_at bs ((r * samples_of degree + i) * t.width + k) ≡ t.part (sample_at m t xs (r * samples_of degree + i)) k
    part_back i k p q =
        let a : r * samples_of degree + i < r * samples_of degree + samples_of degree = omega arith in
        let b = digits_lt a q in
        let w : count * samples_of degree * t.width ≡ total t.code degree count = ap (λ n. count * samples_of degree * n) t.laws.counted in
        let d : (r * samples_of degree + i) * t.width + k < total t.code degree count = omega (arith, rows r count (samples_of degree) t.width l) in
        accepting.part_is t.code degree count (part_of m t xs) bs lays due.within ((r * samples_of degree + i) * t.width + k) d
        ∙ part_at_sample m t xs (r * samples_of degree + i) k q

    picked_back : (d : ℕ) (after : List S) → Picked m t bs r d after → after ≡ reception_of (samples_of degree) r xs
    picked_back d after p =
        let long : length after ≡ samples_of degree = p.long ∙ ap samples_of degree_is in
        ext_get_or m.zeroed after (reception_of (samples_of degree) r xs)
        (long ∙ sym (reception_long m t xs count (samples_of degree) r due.many l))
        (λ i h. let i-in : i < samples_of degree = omega arith in
        t.laws.alike (sample_at m t after i) (sample_at m t xs (r * samples_of degree + i))
        (λ k q. p.holds i k h q ∙ (ap (λ d. part_at bs ((r * samples_of d + i) * t.width + k)) degree_is ∙ part_back i k i-in q))
        ∙ sym (sample_in m t xs (samples_of degree) r i i-in))

    fits : (n : ℕ) → n ≡ samples_of degree → (e : Refusal) → Unfit m t bs r n e → ⊥
    fits n long Kind u = u kind_is
    fits n long Reception u = omega (arith, u.1, count_is)
    fits n long Memory u = u.2 (long ∙ ap samples_of (sym degree_is))
    fits n long (Short k) u = u
    fits n long (Mark i) u = u
    fits n long Version u = u
    fits n long Degree u = u
    fits n long Count u = u
    fits n long (Length k) u = u
    fits n long (Part p) u = u
    fits n long Room u = u

    picks : (before after : List S) (a : Result ℕ Refusal) → length before ≡ samples_of degree → Picks m t bs r before a after → (a ≡ Ok degree) × (after ≡ reception_of (samples_of degree) r xs)
    picks before after (Ok d) long p = (ap Ok (p.0.degree_is ∙ degree_is), picked_back d after p.0)
    picks before after (Err e) long p = absurd (⊎_elim (accepting.never_faulty bs ok e) (λ u. fits (length before) long e u.1) p.0)

  pub returned : Returned m t degree count xs bs
  returned = record { checks = checks; picks = λ r before after a l long p. picks r l before after a long p }
