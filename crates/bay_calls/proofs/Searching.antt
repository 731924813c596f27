-- What the search answers, as a decision has it.
use Rattle.std.proofs.Common.{◌≡◌, ℕ, ◌≤◌, Bool, true, false, T, List, length, sym, refl, ◌∙◌, subst, arith}
use Rattle.samples.specs.Meaning.{Meaning}
use Rattle.samples.specs.Sizes.{Within}
use Rattle.samples.specs.Transform.{loudest}
use Rattle.samples.specs.declared.sample.Sample.{Ghosts}
use Rattle.kerdock.specs.Code.{size}
use Rattle.kerdock.specs.Table.{row_of, known}
use Rattle.kerdock.specs.declared.books.CodeBook.{CodeBook}
use Rattle.decoder.specs.Search.{Fits, meanings}
use Rattle.bay_rules.specs.Steps.{Fair}
use Rattle.bay_calls.proofs.Means.{as_many, meaning_at}

holds : (c : Bool) → T c → c ≡ true
holds true t = refl
holds false t = absurd t

module _ {S : Type 0} (m : Ghosts S) where
  -- a search that answers was for this degree and these sums
  pub searched_fits : (d : ℕ) (xs : List S) (w : ℕ) → Fits d (length xs) w → (known d ≡ true) × (length (meanings m xs) ≡ size (row_of d))
  searched_fits d xs w f = (holds (known d) f.0, as_many m xs ∙ f.1)

  -- sums that are small by their meanings are small
  pub small_sums : (d : ℕ) (book : CodeBook) (xs : List S) → Fair d book (meanings m xs) → Within m loudest xs
  small_sums d book xs fair k lt =
      let lx = as_many m xs in
      subst (λ (x : Meaning). x.size ≤ loudest) (sym (meaning_at m xs k lt)) (fair.small k (omega arith))
