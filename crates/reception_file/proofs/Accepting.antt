-- The file of a content is accepted, and an accepted file is not refused.
use Rattle.std.proofs.Common.{◌≡◌, ℕ, ◌+◌, ◌<◌, ◌≤◌, List, length, get_or, ℤ, nat_abs, sym, ap, ◌∙◌, subst, ⊎_elim, arith}
use Rattle.std.proofs.lemmas.List.{get_or-take}
use Rattle.reception_file.specs.Layout.{at, GoodKind, GoodDegree, GoodCount, total, place_of, part_at, allowed, head_bytes, Lays}
use Rattle.reception_file.specs.Check.{Accepted, Faulty, total_at, size_at}
use Rattle.reception_file.specs.declared.refusal.Refusal.{Refusal}
use Rattle.reception_file.specs.declared.refusal.Refusal.TheVariants.{Memory, Short, Mark, Version, Kind, Degree, Count, Length, Part, Reception, Room}
use Rattle.reception_file.proofs.TwoBytes.{read_back}

module _ (kind degree count : ℕ) (part : ℕ → ℤ) (bs : List ℕ) (lays : Lays kind degree count part bs) where
  -- a byte of the head
  pub head_at : (i : ℕ) → i < 8 → at bs i ≡ get_or (head_bytes kind degree count) i 0
  head_at i h = sym (get_or-take 8 bs i 0 h) ∙ ap (λ l. at l i) lays.opens

  pub kind_is : at bs 5 ≡ kind
  kind_is = head_at 5 (omega arith)

  pub degree_is : at bs 6 ≡ degree
  degree_is = head_at 6 (omega arith)

  pub count_is : at bs 7 ≡ count
  count_is = head_at 7 (omega arith)

  pub total_is : total_at bs ≡ total kind degree count
  total_is = ap (λ k. total k (at bs 6) (at bs 7)) kind_is ∙ (ap (λ d. total kind d (at bs 7)) degree_is ∙ ap (total kind degree) count_is)

  module _ (within : (j : ℕ) → j < total kind degree count → nat_abs (part j) ≤ allowed) where
    pub part_is : (j : ℕ) → j < total kind degree count → part_at bs j ≡ part j
    part_is j h = read_back (part j) (at bs (place_of j)) (at bs (place_of j + 1)) (within j h) (lays.high j h) (lays.low j h)

    pub accepted : GoodKind kind → GoodDegree degree → GoodCount count → Accepted bs
    accepted k d c =
        let long : 8 ≤ length bs = omega (arith, lays.long) in
        let exact : length bs ≡ size_at bs = lays.long ∙ ap place_of (sym total_is) in (
          (
            (
              long,
              (head_at 0 (omega arith), head_at 1 (omega arith), head_at 2 (omega arith)),
              (head_at 3 (omega arith), head_at 4 (omega arith)),
              subst GoodKind (sym kind_is) k,
              subst GoodDegree (sym degree_is) d,
              subst GoodCount (sym count_is) c,
            ),
            exact,
          ),
          λ j h. subst (λ z. nat_abs z ≤ allowed) (sym (part_is j (subst (λ n. j < n) total_is h))) (within j (subst (λ n. j < n) total_is h)),
        )

pub never_faulty : (bs : List ℕ) → Accepted bs → (e : Refusal) → Faulty bs e → ⊥
never_faulty bs ok (Short n) f = omega (arith, ok.0.0.0, f.0)
never_faulty bs ok (Mark i) f =
    ⊎_elim (λ w. w.1 ok.0.0.1.0) (⊎_elim (λ w. w.2 ok.0.0.1.1) (λ w. w.3 ok.0.0.1.2)) f.1
never_faulty bs ok Version f = f.2 ok.0.0.2
never_faulty bs ok Kind f = f.3 ok.0.0.3
never_faulty bs ok Degree f = f.4 ok.0.0.4
never_faulty bs ok Count f = f.5 ok.0.0.5
never_faulty bs ok (Length n) f = f.2 ok.0.1
never_faulty bs ok (Part p) f = omega (arith, ok.1 f.1.0 f.1.2.inside, f.1.2.above)
never_faulty bs ok Memory f = f
never_faulty bs ok Reception f = f
never_faulty bs ok Room f = f
