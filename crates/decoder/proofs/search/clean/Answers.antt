use Rattle.std.proofs.Common.{ℕ, zero, suc, ◌<◌, List, [], ◌∷◌, length, get_or, arith, rules}
use Rattle.std.specs.List.{FoldsTo}
use Rattle.decoder.proofs.search.clean.Goals as goal

-- of some calls in a row, the one that gave the element at k
given : {F A : Type 0} (R : F → A → F → Type 0) (z : A) (f : F) (xs : List A) (l : F) → FoldsTo R f xs l → (k : ℕ) → k < length xs → (p : F) × (q : F) × R p (get_or xs k z) q
given R z f [] l h k b = absurd (omega arith)
given R z f (x ∷ xs) l h zero b = (f, h.0, h.1)
given R z f (x ∷ xs) l h (suc k) b = given R z h.0 xs l h.2 k (omega arith)

pub returns : goal.returns
returns g c = record {
  long = c.fill_with.ensures.len;
  each = λ k b.
      let call = given _ g.S.Sample.zeroed _ c.fill_with.new.self c.fill_with.ensures.ran.0 c.fill_with.ensures.ran.1 k b in
      let gave = call.2 in
      search rules;
}
