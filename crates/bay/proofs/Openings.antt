-- What the tests of an opening settle: whether the bay is shut, and the state that it starts from.
use Rattle.std.proofs.Common.{◌≡◌, ℕ, Bool, true, false, cond, not, ◌&&◌, length, Some, None, sym, refl, ◌∙◌, arith, eq-eqb, ne_eqb}
use Rattle.kerdock.specs.Code.{size}
use Rattle.kerdock.specs.Table.{row_of, known}
use Rattle.decoder.specs.Scores.{Reception}
use Rattle.bay.specs.Rules.{Opening, shut}
use Rattle.bay.specs.Steps.{Opens, Zeroed}

-- a length that is answered is that of a degree which the table knows
pub some_length : (t : Bool) (k n : ℕ) → Some k ≡ cond t (Some n) None → (t ≡ true) × (k ≡ n)
some_length true k n e = (refl, cc)
some_length false k n e = let z : ◌≡◌ {A = ℕ} 0 1 = cc in absurd (omega arith)

-- no length is that of a degree which the table does not know
no_length : (t : Bool) (n : ℕ) → None ≡ cond t (Some n) None → t ≡ false
no_length true n e = let z : ◌≡◌ {A = ℕ} 0 1 = cc in absurd (omega arith)
no_length false n e = refl

-- the degree is not known
pub shut_degree : (o : Opening) → None ≡ cond (known o.degree) (Some (size (row_of o.degree))) None → shut o ≡ true
shut_degree o e = let e1 = no_length (known o.degree) _ e in rw e1

-- the memory does not fit
pub shut_memory : (o : Opening) → (o.memory ≡ size (row_of o.degree) → ⊥) → shut o ≡ true
shut_memory o other = let e1 = ne_eqb o.memory (size (row_of o.degree)) other in rw e1 (both (known o.degree))
  where
    both : (a : Bool) → not (a && false) ≡ true
    both true = refl
    both false = refl

-- a bay that stays shut
pub opens_shut : (o : Opening) (n : ℕ) (xs : Reception) → shut o ≡ true →
    Opens o (record { closed = true; degree = n; held = 0; noted = None; sums = xs })
opens_shut o n xs e = record {
  closed = sym e;
  degree = λ u. never u;
  held = refl;
  noted = refl;
  long = λ u. never u;
  zeros = λ u. never u;
}
  where
    never : {P : Type 0} → true ≡ false → P
    never u = let z : ◌≡◌ {A = ℕ} 0 1 = cc in absurd (omega arith)

-- a bay that opens: its sums are zeros, one for each index
pub opens : (o : Opening) (k : ℕ) (xs ys : Reception) → Some k ≡ cond (known o.degree) (Some (size (row_of o.degree))) None →
    o.memory ≡ k → length xs ≡ k → Zeroed xs ys →
    Opens o (record { closed = false; degree = o.degree; held = 0; noted = None; sums = ys })
opens o k xs ys e same long z =
    let f = some_length (known o.degree) k _ e in
    let e1 = f.0 in
    let e2 = eq-eqb o.memory (size (row_of o.degree)) (same ∙ f.1) in
    record {
      closed = rw (e1, e2);
      degree = λ _. refl;
      held = refl;
      noted = refl;
      long = λ _. z.long ∙ long ∙ f.1;
      zeros = λ _. let l = z.long in record {
        long = refl;
        reads_as = λ i s lt four. z.reads_as i s (omega arith) four;
        none = λ i lt. z.none i (omega arith);
      };
    }
