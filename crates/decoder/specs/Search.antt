-- What the search answers.
--   meanings  the samples of a list, each by its meaning
--   Fits      the degree is known, and both lists are N long
--   Found     the ranking of the sums' scores, and the leader's score
--   Searched  what goes with an answer, and what is left in the work memory
use Rattle.std.specs.Prelude.{◌≡◌, ℕ, ◌<◌, T, List, map, length, Some, None, Option, slice_index_or}
use Rattle.samples.specs.Sizes.{Within}
use Rattle.samples.specs.Transform.{loudest}
use Rattle.samples.specs.declared.sample.Sample.{Ghosts}
use Rattle.kerdock.specs.Code.{Row, size}
use Rattle.kerdock.specs.Table.{row_of, known}
use Rattle.kerdock.specs.Books.{Lawful}
use Rattle.kerdock.specs.declared.books.CodeBook.{CodeBook}
use Rattle.decoder.specs.Scores.{Reception, score}
use Rattle.decoder.specs.Ranking.{Ranking}
use Rattle.decoder.specs.declared.search.Leader.{Leader}

module _ {S : Type 0} (m : Ghosts S) where
  abbrev pub meanings : List S → Reception
  meanings xs = map m.means xs

  -- every entry is the zero sample
  pub record Zeros (before after : List S) : Type 0 where
    pub long : length after ≡ length before
    pub each : (k : ℕ) → k < length after → slice_index_or after k m.zeroed ≡ m.zeroed

abbrev pub Fits : ℕ → ℕ → ℕ → Type 0
Fits degree sums work = T (known degree) × (sums ≡ size (row_of degree)) × (work ≡ size (row_of degree))

pub record Found (row : Row) (sums : Reception) (x : Leader) : Type 0 where
  pub ranking : Ranking row (score row sums) x.message x.margin
  pub score_is : x.score ≡ score row sums x.message

-- The ranking is owed where the book is the degree's own and no size is above 524,272, which is all that sixteen receptions
-- can reach. Lengths that do not fit are answered as such, and nothing is written.
abbrev pub Searched : {S : Type 0} → Ghosts S → ℕ → CodeBook → List S → List S → Option Leader → List S → Type 0
Searched m degree book sums before None after = (Fits degree (length sums) (length before) → ⊥) × (after ≡ before)
Searched m degree book sums before (Some x) after =
    Fits degree (length sums) (length before)
    × Zeros m before after
    × (Lawful (row_of degree) book → Within m loudest sums → Found (row_of degree) (meanings m sums) x)
