-- What the tests of an opening settle: whether the bay is shut, and the state and the book that it starts from.
use Rattle.std.proofs.Common.{◌≡◌, ℕ, true, false, cond, length, get_or, Some, None, refl, arith}
use Rattle.kerdock.specs.Code.{size}
use Rattle.kerdock.specs.Table.{row_of, known}
use Rattle.kerdock.specs.Books.{Lawful as LawfulBook}
use Rattle.kerdock.specs.declared.books.CodeBook.{CodeBook}
use Rattle.decoder.specs.Scores.{Reception}
use Rattle.bay.specs.Rules.{Opening, shut}
use Rattle.bay.specs.Steps.{Zeroed}
use Rattle.bay.proofs.Openings.{some_length, opens_shut as plainly_shut, opens as plainly_opens}
use Rattle.bay_rules.specs.Steps.{Opens}

-- a book of zeros
abbrev pub Blank : CodeBook → Type 0
Blank book = (k : ℕ) → (get_or book.traces k 0 ≡ 0) × (get_or book.places k 0 ≡ 0)

-- a bay that stays shut
pub opens_shut : (o : Opening) (book : CodeBook) (xs : Reception) → shut o ≡ true → Blank book →
    Opens o (record { closed = true; degree = o.degree; held = 0; noted = None; book = book; sums = xs })
opens_shut o book xs e empty = record { plainly = plainly_shut o o.degree xs e; degree = refl; book = λ u. never u; blank = λ _. empty }
  where
    never : {P : Type 0} → true ≡ false → P
    never u = let z : ◌≡◌ {A = ℕ} 0 1 = cc in absurd (omega arith)

-- a bay that opens: its sums are zeros, one for each index
pub opens : (o : Opening) (k : ℕ) (book : CodeBook) (xs ys : Reception) → Some k ≡ cond (known o.degree) (Some (size (row_of o.degree))) None →
    o.memory ≡ k → length xs ≡ k → Zeroed xs ys → (known o.degree ≡ true → LawfulBook (row_of o.degree) book) →
    Opens o (record { closed = false; degree = o.degree; held = 0; noted = None; book = book; sums = ys })
opens o k book xs ys e same long z lawful = record {
  plainly = plainly_opens o k xs ys e same long z;
  degree = refl;
  book = λ _. lawful (some_length (known o.degree) k _ e).0;
  blank = λ u. never u;
}
  where
    never : {P : Type 0} → false ≡ true → P
    never u = let z : ◌≡◌ {A = ℕ} 0 1 = cc in absurd (omega arith)
