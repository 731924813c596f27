-- The rows of the table as the code holds them.
use Rattle.std.proofs.Common.{◌≡◌, ℕ, zero, suc, ◌+◌, ◌-◌, ◌*◌, ◌%◌, ◌^◌, ◌<◌, ◌≤◌, Bool, true, false, cond, T, eqb, List, [], ◌∷◌, length, get_or, sym, refl, ap, ◌∙◌, subst, ap₂, inl, inr, mul-le-mul, pow-suc, arith, eqb→eq, pow_mono}
use Rattle.kerdock.specs.Code.{Row, t, size, period, sum_to}
use Rattle.kerdock.specs.Table.{find, any, row_of, known, rows, Among}
use Rattle.kerdock.specs.Sound.{Sound}
use Rattle.kerdock.specs.declared.rows.TableRow.{TableRow}
use Rattle.kerdock.proofs.SoundRows.{table_sound}
use Rattle.kerdock.proofs.Sums.{sum_same}

-- a degree that a list of rows has is the degree of a row in it
found_among : (n : ℕ) (xs : List Row) → T (any n xs) → Among (find n xs) xs × ((find n xs).degree ≡ n)
found_among n [] h = absurd h
found_among n (x ∷ xs) h = go (eqb x.degree n) refl h (found_among n xs)
  where
    go : (b : Bool) → eqb x.degree n ≡ b → T (cond b true (any n xs)) → (T (any n xs) → Among (find n xs) xs × ((find n xs).degree ≡ n)) →
        Among (cond b x (find n xs)) (x ∷ xs) × ((cond b x (find n xs)).degree ≡ n)
    go true e h found = (inl refl, eqb→eq x.degree n (subst T (sym e) tt))
    go false e h found = (inr (found h).0, (found h).1)

pub known_sound : (n : ℕ) → T (known n) → Sound (row_of n) × ((row_of n).degree ≡ n)
unfolding known row_of
known_sound n h = let f = found_among n rows h in (table_sound (find n rows) f.0, f.1)

-- n is below 2 ^ n
power_exceeds : (n : ℕ) → n < 2 ^ n
power_exceeds zero = omega arith
power_exceeds (suc n) = let before = power_exceeds n in let s = pow-suc 2 n in omega arith

pub small_product : (a b : ℕ) → a < 4 → b < 4 → a * b ≤ 9
small_product a b ha hb =
    let p : a ≤ 3 = omega arith in
    let q : b ≤ 3 = omega arith in
    let r : a * b ≤ 3 * 3 = mul-le-mul p q in r

-- what the code knows of a row that is the table's
pub record Facts (r : TableRow) : Type 0 where
  pub sound : Sound (row_of r.degree)
  pub deg : (row_of r.degree).degree ≡ r.degree
  pub seven : r.degree ≤ 7
  pub some : 0 < r.degree
  pub long : r.length ≡ size (row_of r.degree)
  pub fits : r.length ≤ 128
  pub deep : r.degree < r.length
  pub round : period (row_of r.degree) ≡ r.length - 1
  pub firsts : length r.first.now ≡ r.degree
  pub rules : length r.rule.now ≡ r.degree
  pub rule : (k : ℕ) → get_or r.rule.now k 0 < 4
  pub first : (k : ℕ) → k < r.degree → get_or r.first.now k 0 ≡ t (row_of r.degree) k
  pub next : (xs : List ℕ) (s : ℕ) → ((k : ℕ) → k < r.degree → get_or xs k 0 ≡ t (row_of r.degree) (s + k)) →
      sum_to (λ k. get_or r.rule.now k 0 * get_or xs k 0) r.degree % 4 ≡ t (row_of r.degree) (s + r.degree)

pub row_facts : (r : TableRow) → Facts r
row_facts r =
    let h = r.of_the_table in
    let row = row_of r.degree in
    let k = known_sound r.degree h.listed in
    let s : Sound row = k.0 in
    let d : row.degree ≡ r.degree = k.1 in
    let few = s.few in
    let n : r.length ≡ 2 ^ row.degree = h.long in
    let p : 2 ^ row.degree ≤ 2 ^ 7 = pow_mono few in
    let x = power_exceeds row.degree in
    let some = s.some in
    record {
      sound = s;
      deg = d;
      seven = omega arith;
      some = omega arith;
      long = h.long;
      fits = omega arith;
      deep = omega arith;
      round = omega arith;
      firsts = ap length h.begins ∙ s.begins ∙ d;
      rules = ap length h.follows ∙ s.rules ∙ d;
      rule = λ k. rw h.follows (s.rule_small k);
      first = λ k b. rw h.begins (s.first_is k (omega arith));
      next = λ xs j a.
          let same = sum_same (λ k. get_or r.rule.now k 0 * get_or xs k 0) (λ k. get_or row.rule k 0 * t row (j + k)) r.degree
          (λ k b. ap₂ ◌*◌ (ap (λ (x : List ℕ). get_or x k 0) h.follows) (a k b)) in
          ap (λ (x : ℕ). x % 4) same
          ∙ ap (λ (x : ℕ). sum_to (λ k. get_or row.rule k 0 * t row (j + k)) x % 4) (sym d)
          ∙ sym (s.follows j) ∙ ap (λ (x : ℕ). t row (j + x)) d;
    }
