-- Nothing that is asked for a file that was accepted is refused.
use Rattle.std.proofs.Common.{◌≡◌, ℕ, Ok, Err, Result, IsOk, ◌^◌, ◌<◌, ◌≤◌, true, false, eqb, List, length, None, sym, refl, ◌∙◌, subst, inl, inr, arith, eq-eqb, ne_eqb}
use Rattle.samples.specs.Sizes.{Within}
use Rattle.samples.specs.declared.sample.Sample.{Ghosts}
use Rattle.kerdock.specs.Code.{size}
use Rattle.kerdock.specs.Table.{row_of, known}
use Rattle.decoder.specs.Search.{meanings}
use Rattle.reception_file.specs.Layout.{at, samples_of, GoodDegree}
use Rattle.reception_file.specs.Pick.{Picked, PicksFrom, Unfit}
use Rattle.reception_file.specs.declared.refusal.Refusal.{Refusal}
use Rattle.reception_file.specs.declared.refusal.Refusal.TheVariants.{Memory, Short, Mark, Version, Kind, Degree, Count, Length, Part, Reception, Room}
use Rattle.reception_file.specs.declared.stored.Stored.{Ghosts as StoredGhosts}
use Rattle.bay.specs.Rules.{Run, holds, out, shut, denial}
use Rattle.bay.specs.Rules.Dealing.{Take, Decide}
use Rattle.bay_calls.specs.Seen.{opening}
use Rattle.bay_calls.proofs.Means.{as_many, no_large}
use Rattle.gateway.specs.Receptions.{samples_at}
use Rattle.gateway.specs.Partly.{file_opening}

-- a degree of a file is one that the table knows
pub record Known (d : ℕ) : Type 0 where
  pub up : shut (opening d (2 ^ d)) ≡ false
  pub long : size (row_of d) ≡ 2 ^ d

known_3 : Known 3
unfolding known row_of
known_3 = record { up = refl; long = refl }

known_5 : Known 5
unfolding known row_of
known_5 = record { up = refl; long = refl }

known_7 : Known 7
unfolding known row_of
known_7 = record { up = refl; long = refl }

pub known_degree : (d : ℕ) → GoodDegree d → Known d
known_degree d (inl e) = subst Known (sym e) known_3
known_degree d (inr (inl e)) = subst Known (sym e) known_5
known_degree d (inr (inr e)) = subst Known (sym e) known_7

-- a decision, where something is held
pub free_decide : (bs : List ℕ) (n w : ℕ) (h : Run) → GoodDegree (at bs 6) → out h ≡ None → length (holds h) ≡ n → 1 ≤ n → w ≡ samples_at bs →
    denial (file_opening bs) h (Decide w) ≡ None
free_decide bs n w h good none many some same =
    let k = known_degree (at bs 6) good in
    let e1 = k.up in
    let e3 : eqb (length (holds h)) 0 ≡ false = ne_eqb (length (holds h)) 0 (λ e. omega arith) in
    let e4 : eqb w (size (row_of (at bs 6))) ≡ true = eq-eqb w (size (row_of (at bs 6))) (same ∙ sym k.long) in
    rw (e1, none, e3, e4)

module _ {S : Type 0} (m : Ghosts S) (t : StoredGhosts S) where
  -- a reception of the file is picked into memory of its length
  pub never_unfit : (bs : List ℕ) (r n : ℕ) → at bs 5 ≡ t.code → r < at bs 7 → n ≡ samples_of (at bs 6) → (e : Refusal) → Unfit m t bs r n e → ⊥
  never_unfit bs r n kind inside long Kind u = u kind
  never_unfit bs r n kind inside long Reception u = let q = u.1 in omega arith
  never_unfit bs r n kind inside long Memory u = u.2 long
  never_unfit bs r n kind inside long (Short k) u = u
  never_unfit bs r n kind inside long (Mark i) u = u
  never_unfit bs r n kind inside long Version u = u
  never_unfit bs r n kind inside long Degree u = u
  never_unfit bs r n kind inside long Count u = u
  never_unfit bs r n kind inside long (Length k) u = u
  never_unfit bs r n kind inside long (Part p) u = u
  never_unfit bs r n kind inside long Room u = u

  -- so what picking answers is no refusal
  pub picks_it : (bs : List ℕ) (r : ℕ) (before after : List S) (a : Result (Unit {0}) Refusal) → PicksFrom m t bs r before a after →
      at bs 5 ≡ t.code → r < at bs 7 → length before ≡ samples_of (at bs 6) → IsOk a
  picks_it bs r before after (Ok u) p kind inside long = refl
  picks_it bs r before after (Err e) p kind inside long = absurd (never_unfit bs r (length before) kind inside long e p.0)

  -- and the memory holds the reception
  pub picked_so : (bs : List ℕ) (r : ℕ) (before after : List S) (a : Result (Unit {0}) Refusal) (u : Unit {0}) → PicksFrom m t bs r before a after →
      a ≡ Ok u → Picked m t bs r (at bs 6) after
  picked_so bs r before after (Ok u) v p e = p.0
  picked_so bs r before after (Err e) v p q = let z : ◌≡◌ {A = ℕ} 0 1 = cc in absurd (omega arith)

  -- and taken, where fewer than sixteen are held
  pub free_take : (bs : List ℕ) (n : ℕ) (h : Run) (xs : List S) → GoodDegree (at bs 6) → out h ≡ None → length (holds h) ≡ n → n < 16 →
      length xs ≡ samples_at bs → Within m 32767 xs → denial (file_opening bs) h (Take (meanings m xs)) ≡ None
  free_take bs n h xs good none many few long within =
      let k = known_degree (at bs 6) good in
      let e1 = k.up in
      let e3 : eqb (length (meanings m xs)) (size (row_of (at bs 6))) ≡ true = eq-eqb (length (meanings m xs)) (size (row_of (at bs 6))) (as_many m xs ∙ long ∙ sym k.long) in
      let e4 = no_large m xs (λ i lt. let q = within i lt in omega arith) in
      let e5 : eqb (length (holds h)) 16 ≡ false = ne_eqb (length (holds h)) 16 (λ e. omega arith) in
      rw (e1, none, e3, e4, e5)
