use Rattle.std.proofs.Common.{◌≡◌, ℕ, ◌+◌, ◌-◌, ◌*◌, ◌%◌, ◌^◌, ◌<◌, ◌≤◌, ◌≢◌, List, length, get_or, set, take, sym, refl, ap, ◌∙◌, subst, ap₂, arith, length-set, get_or-set_other, get_or-set_same, below_more, pow_mono}
use lib.Bits.{bit_and}
use Rattle.std.proofs.lemmas.List.{get_or-take, length-take}
use Rattle.kerdock.specs.Code.{Row, period, symbol}
use Rattle.kerdock.specs.Sound.{Sound}
use Rattle.kerdock.specs.Books.{Lawful}
use Rattle.kerdock.specs.declared.books.CodeBook.{CodeBook}
use Rattle.kerdock.proofs.Fills.{all_zeros}
use Rattle.decoder.specs.Cosets.{message}
use Rattle.decoder.proofs.Powers.{above_exponent, shifted}
use Rattle.decoder.proofs.Writes.{low_bits, zeros_below, write_below}
use Rattle.decoder.proofs.UnitRows.{leader_start, unit_after, trace_read, trace_round}
use Rattle.decoder.proofs.tables.Tables.unit_row.Goals as goal
use Rattle.decoder.proofs.tables.Tables.unit_row.Goals.{then-index-gt0, then-j-period, else-j-period, else-index-gt0}

-- of a lawful book, x is the symbol of the leader of 2 ^ k at index i
abbrev Read : CodeBook → ℕ → ℕ → ℕ → ℕ → Type 0
Read book degree k i x = (row : Row) → Sound row → row.degree ≡ degree → Lawful row book → x ≡ symbol row (message row 0 (2 ^ k) 0) i

-- one turn: the array keeps its length, every entry is a symbol, that at p is the leader's at index i, and no other entry changes
record Written (book : CodeBook) (degree k i p : ℕ) (old new : List ℕ) : Type 0 where
  pub long : length new ≡ length old
  pub small : (q : ℕ) → get_or new q 0 < 4
  pub same : (q : ℕ) → q ≢ p → get_or new q 0 ≡ get_or old q 0
  pub is : Read book degree k i (get_or new p 0)

-- by a write of that symbol
by_write : (book : CodeBook) (degree k i p : ℕ) (old new : List ℕ) (x : ℕ) → p < length old → ((q : ℕ) → get_or old q 0 < 4) → x < 4
    → Read book degree k i x → new ≡ set old p x → Written book degree k i p old new
by_write book degree k i p old new x room h b r e = record {
  long = ap length e ∙ simp length-set;
  small = λ q. subst (λ (xs : List ℕ). get_or xs q 0 < 4) (sym e) (write_below 4 old p x h b q);
  same = λ q o. ap (λ (xs : List ℕ). get_or xs q 0) e ∙ get_or-set_other old p q x 0 o;
  is = λ row s d l. ap (λ (xs : List ℕ). get_or xs p 0) e ∙ get_or-set_same old p x 0 room ∙ r row s d l;
}

-- by no write, where the entry is 0 and so is the index
by_rest : (book : CodeBook) (degree k i p : ℕ) (old new : List ℕ) → ((q : ℕ) → get_or old q 0 < 4) → get_or old p 0 ≡ 0 → i ≡ 0 → new ≡ old
    → Written book degree k i p old new
by_rest book degree k i p old new h z o e = record {
  long = ap length e;
  small = λ q. subst (λ (xs : List ℕ). get_or xs q 0 < 4) (sym e) (h q);
  same = λ q f. ap (λ (xs : List ℕ). get_or xs q 0) e;
  is = λ row s d l. ap (λ (xs : List ℕ). get_or xs p 0) e ∙ z ∙ sym (leader_start row (2 ^ k) i o);
}

-- an index that is read off the first m is one of the m
read_first : (m : ℕ) (at : List ℕ) (p : ℕ) → p < length (take m at) → (p < m) × (get_or (take m at) p 0 ≡ get_or at p 0)
read_first m at p h = let long = length-take m at in let b : p < m = omega arith in (b, get_or-take m at p 0 b)

pub bounds-book-j : goal.bounds-book-j
bounds-book-j c =
    let t = c.args.self.now in
    let most : 2 ^ t.degree ≤ 2 ^ 7 = pow_mono t.seven in
    let n = shifted t.degree t.seven in
    let i = read_first (1 * 2 ^ t.degree % 18446744073709551616) t.at c.loop-p.p c.loop-p-test.true in
    let within = t.within c.loop-p.p in
    elim c.if-j-period.branch [ then-j-period w ↦ omega arith | else-j-period w ↦ omega arith ]

pub loop-p-init : goal.loop-p-init
loop-p-init c = record { long = refl; small = λ p. zeros_below 4 128 p (omega arith); is = λ row s d b p h. absurd (omega arith); rest = λ p h. all_zeros 128 p }

pub loop-p-preserved : goal.loop-p-preserved
loop-p-preserved c =
    let book = c.args.book.now in
    let degree = c.args.self.now.degree in
    let k = c.args.k in
    let p = c.loop-p.p in
    let i = get_or c.args.self.now.at p 0 in
    let old = c.loop-p.unit in
    let new = c.if-index-gt0.unit in
    let most : 2 ^ degree ≤ 2 ^ 7 = pow_mono c.args.self.now.seven in
    let n = shifted degree c.args.self.now.seven in
    let above = above_exponent degree in
    let room : p < length old = omega arith in
    let j = i - 1 + k in
    let within = c.args.self.now.within p in
    let read = read_first (1 * 2 ^ degree % 18446744073709551616) c.args.self.now.at p c.loop-p-test.true in
    let turn : Written book degree k i p old new =
    elim c.if-index-gt0.branch [
      | then-index-gt0 w ↦
          let at = w.if-j-period.unit in
          let after : 0 < i = let f = w.if-index-gt0.true in omega arith in
          let step : w.from.result - 1 + k ≡ j = ap (λ (x : ℕ). x - 1 + k) (w.from.ensures ∙ read.1) in
          let reads : Read book degree k i (bit_and (get_or book.traces at 0) 3) =
          λ row s d l.
          let round : 1 * 2 ^ degree % 18446744073709551616 - 1 ≡ period row = ap (λ (x : ℕ). x - 1) n ∙ ap (λ (x : ℕ). 2 ^ x - 1) (sym d) in
          let inside : k < row.degree = omega arith in
          elim w.if-j-period.branch [
            | then-j-period v ↦
                let below : j < period row = omega arith in
                ap (λ (x : ℕ). bit_and (get_or book.traces x 0) 3) (v.unit-is ∙ step)
                ∙ trace_read row s book l j below
                ∙ sym (unit_after row s k i inside after)
            | else-j-period v ↦
                ap (λ (x : ℕ). bit_and (get_or book.traces x 0) 3) (v.unit-is ∙ ap₂ (λ (x y : ℕ). x - y) step round)
                ∙ trace_round row s book l j (omega arith) (omega arith)
                ∙ sym (unit_after row s k i inside after)
          ] in
          let low = low_bits (get_or book.traces at 0) in
          by_write book degree k i p old new (bit_and (get_or book.traces at 0) 3) room c.loop-p.invariant.small (omega arith) reads w.unit-is
      | else-index-gt0 w ↦ by_rest book degree k i p old new c.loop-p.invariant.small (c.loop-p.invariant.rest p (omega arith)) (omega arith) w.unit-is
    ] in record {
      long = turn.long ∙ c.loop-p.invariant.long;
      small = turn.small;
      is = λ row s d l. below_more _ _ (λ q h. turn.same q (λ f. omega arith) ∙ c.loop-p.invariant.is row s d l q h) (turn.is row s d l);
      rest = λ q h. turn.same q (λ f. omega arith) ∙ c.loop-p.invariant.rest q (omega arith);
    }
