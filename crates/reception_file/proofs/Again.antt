-- What is picked whole and written again is the same bytes.
use Rattle.std.proofs.Common.{◌≡◌, ℕ, zero, suc, ◌+◌, ◌-◌, ◌*◌, ◌/◌, ◌%◌, ◌<◌, ◌≤◌, ◌⊎◌, List, length, get_or, take, ℤ, nat_abs, Ok, Err, Result, sym, refl, ap, ◌∙◌, subst, inl, inr, ⊎_elim, div-add-mod', arith}
use Rattle.std.proofs.lemmas.Nat.{div_below, mod_below, pow_pos}
use Rattle.std.proofs.lemmas.List.{ext_get_or}
use Rattle.std.proofs.lemmas.Bool.{cases_eq, cases_lt}
use Rattle.samples.specs.declared.sample.Sample.{Ghosts}
use Rattle.reception_file.specs.Layout.{at, GoodDegree, samples_of, parts_of, total, place_of, raw, part_at, head_bytes, Lays}
use Rattle.reception_file.specs.Check.{Accepted, total_at}
use Rattle.reception_file.specs.Pick.{sample_at, Picked}
use Rattle.reception_file.specs.Write.{part_of, Written, Unwritten, Writes}
use Rattle.reception_file.specs.Laws.{reception_of, WrittenAgain}
use Rattle.reception_file.specs.declared.refusal.Refusal.{Refusal}
use Rattle.reception_file.specs.declared.refusal.Refusal.TheVariants.{Memory, Short, Mark, Version, Kind, Degree, Count, Length, Part, Reception, Room}
use Rattle.reception_file.specs.declared.stored.Stored.{Ghosts as StoredGhosts}
use Rattle.reception_file.proofs.Places.{sample_in, reception_long}
use Rattle.reception_file.proofs.TwoBytes.{high_again, low_again}
use Rattle.reception_file.proofs.Accepting as accepting

-- a byte behind the head is one of the two of a part
of_part : (i : ℕ) → 8 ≤ i → (i ≡ place_of ((i - 8) / 2)) ⊎ (i ≡ place_of ((i - 8) / 2) + 1)
of_part i h = ⊎_elim (λ e. inl e) (λ n. inr (omega arith)) (cases_eq i (place_of ((i - 8) / 2)))

-- the file of the content of an accepted file is that file
module _ (bs : List ℕ) (ok : Accepted bs) (small : (i : ℕ) → at bs i < 256) (part : ℕ → ℤ) (same : (j : ℕ) → j < total_at bs → part j ≡ part_at bs j) (file : List ℕ) (lays : Lays (at bs 5) (at bs 6) (at bs 7) part file) where
  in_head : (i : ℕ) → i < 8 → get_or (head_bytes (at bs 5) (at bs 6) (at bs 7)) i 0 ≡ at bs i
  in_head zero h = sym ok.0.0.1.0
  in_head (suc zero) h = sym ok.0.0.1.1
  in_head (suc (suc zero)) h = sym ok.0.0.1.2
  in_head (suc (suc (suc zero))) h = sym ok.0.0.2.0
  in_head (suc (suc (suc (suc zero)))) h = sym ok.0.0.2.1
  in_head (suc (suc (suc (suc (suc zero))))) h = refl
  in_head (suc (suc (suc (suc (suc (suc zero)))))) h = refl
  in_head (suc (suc (suc (suc (suc (suc (suc zero))))))) h = refl
  in_head (suc (suc (suc (suc (suc (suc (suc (suc i)))))))) h = absurd (omega arith)

  high : (j : ℕ) → j < total_at bs → at file (place_of j) ≡ at bs (place_of j)
  high j h =
      lays.high j h
      ∙ (ap (λ z. raw z / 256) (same j h)
      ∙ high_again (at bs (place_of j)) (at bs (place_of j + 1)) (small (place_of j)) (small (place_of j + 1)))

  low : (j : ℕ) → j < total_at bs → at file (place_of j + 1) ≡ at bs (place_of j + 1)
  low j h =
      lays.low j h
      ∙ (ap (λ z. raw z % 256) (same j h)
      ∙ low_again (at bs (place_of j)) (at bs (place_of j + 1)) (small (place_of j)) (small (place_of j + 1)))

  each : (i : ℕ) → i < length file → (i < 8) ⊎ (8 ≤ i) → at file i ≡ at bs i
  each i h (inl l) = accepting.head_at (at bs 5) (at bs 6) (at bs 7) part file lays i l ∙ in_head i l
  each i h (inr l) =
      let lt : (i - 8) / 2 < total_at bs = omega (arith, lays.long) in
      ⊎_elim
      (λ e. subst (λ n. at file n ≡ at bs n) (sym e) (high ((i - 8) / 2) lt))
      (λ e. subst (λ n. at file n ≡ at bs n) (sym e) (low ((i - 8) / 2) lt))
      (of_part i l)

  pub same_file : file ≡ bs
  same_file = ext_get_or 0 file bs (lays.long ∙ sym ok.0.1) (λ i h. each i h (cases_lt i 8))

module _ {S : Type 0} (m : Ghosts S) (t : StoredGhosts S) (bs : List ℕ) (small : (i : ℕ) → at bs i < 256) (degree : ℕ) (is : degree ≡ at bs 6) (ok : Accepted bs) (kind : at bs 5 ≡ t.code)
    (xs : List S) (many : length xs ≡ at bs 7 * samples_of degree) (picked : (r : ℕ) → r < at bs 7 → Picked m t bs r degree (reception_of (samples_of degree) r xs)) where
  width_is : t.width ≡ parts_of (at bs 5)
  width_is = t.laws.counted ∙ ap parts_of (sym kind)

  total_is : at bs 7 * samples_of degree * t.width ≡ total_at bs
  total_is = ap (λ d. at bs 7 * samples_of d * t.width) is ∙ ap (λ w. at bs 7 * samples_of (at bs 6) * w) width_is

  some_parts : 0 < t.width
  some_parts = ⊎_elim (λ (e : at bs 5 ≡ 1). omega (arith, width_is ∙ ap parts_of e)) (λ (e : at bs 5 ≡ 2). omega (arith, width_is ∙ ap parts_of e)) ok.0.0.3

  -- part k of sample s of all
  sample_part : (s k : ℕ) → s < at bs 7 * samples_of degree → k < t.width → t.part (sample_at m t xs s) k ≡ part_at bs (s * t.width + k)
  sample_part s k l h =
      let r-in : s / samples_of degree < at bs 7 = div_below s (samples_of degree) (at bs 7) (pow_pos degree) l in
      let i-in : s % samples_of degree < samples_of degree = mod_below s (samples_of degree) (pow_pos degree) in
      let whole : s / samples_of degree * samples_of degree + s % samples_of degree ≡ s = div-add-mod' s (samples_of degree) in
      let p = picked (s / samples_of degree) r-in in
      let long = reception_long m t xs (at bs 7) (samples_of degree) (s / samples_of degree) many r-in in
      ap (λ j. t.part (sample_at m t xs j) k) (sym whole)
      ∙ (ap (λ x. t.part x k) (sym (sample_in m t xs (samples_of degree) (s / samples_of degree) (s % samples_of degree) i-in))
      ∙ (p.holds (s % samples_of degree) k (omega (arith, long)) h
      ∙ (ap (λ d. part_at bs ((s / samples_of degree * samples_of d + s % samples_of degree) * t.width + k)) (sym is)
      ∙ ap (λ j. part_at bs (j * t.width + k)) whole)))

  same : (j : ℕ) → j < total_at bs → part_of m t xs j ≡ part_at bs j
  same j h =
      sample_part (j / t.width) (j % t.width) (div_below j t.width (at bs 7 * samples_of degree) some_parts (omega (arith, total_is))) (mod_below j t.width some_parts)
      ∙ ap (part_at bs) (div-add-mod' j t.width)

  total_due : total t.code degree (at bs 7) ≡ total_at bs
  total_due = ap (λ k. total k degree (at bs 7)) (sym kind) ∙ ap (λ d. total (at bs 5) d (at bs 7)) is

  written : (before after : List ℕ) (n : ℕ) → Written m t degree (at bs 7) xs before n after → (n ≡ length bs) × (take (length bs) after ≡ bs)
  written before after n w =
      let long : n ≡ length bs = w.size_is ∙ (ap place_of total_due ∙ sym ok.0.1) in
      let lays : Lays (at bs 5) (at bs 6) (at bs 7) (part_of m t xs) (take (length bs) after) =
      subst (λ j. Lays (at bs 5) (at bs 6) (at bs 7) (part_of m t xs) (take j after)) long
      (subst (λ d. Lays (at bs 5) d (at bs 7) (part_of m t xs) (take n after)) is
      (subst (λ k. Lays k degree (at bs 7) (part_of m t xs) (take n after)) (sym kind) w.file)) in
      (long, same_file bs ok small (part_of m t xs) same (take (length bs) after) lays)

  never : (room : ℕ) → length bs ≤ room → (e : Refusal) → Unwritten m t degree (at bs 7) xs room e → ⊥
  never room l Degree u = u (subst GoodDegree (sym is) ok.0.0.4)
  never room l Count u = u.1 ok.0.0.5
  never room l Memory u = u.2 many
  never room l (Part p) u =
      let lt : u.3.0 < total_at bs = omega (arith, u.3.2.inside, total_due) in
      omega (arith, ok.1 u.3.0 lt, u.3.2.above, ap nat_abs (same u.3.0 lt))
  never room l Room u = omega (arith, u.1, total_due, ok.0.1)
  never room l (Short k) u = u
  never room l (Mark i) u = u
  never room l Version u = u
  never room l Kind u = u
  never room l (Length k) u = u
  never room l Reception u = u

  again : (before after : List ℕ) (a : Result ℕ Refusal) → length bs ≤ length before → Writes m t degree (at bs 7) xs before a after → (a ≡ Ok (length bs)) × (take (length bs) after ≡ bs)
  again before after (Ok n) l w = let p = written before after n w in (ap Ok p.0, p.1)
  again before after (Err e) l w = absurd (never (length before) l e w.0)

pub written_again : {S : Type 0} (m : Ghosts S) (t : StoredGhosts S) (bs : List ℕ) → ((i : ℕ) → at bs i < 256) → (r degree : ℕ) (memory : List S) → Picked m t bs r degree memory → WrittenAgain m t bs (Ok degree)
written_again m t bs small r degree memory p = again m t bs small degree p.degree_is p.accepted p.kind
