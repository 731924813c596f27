use Rattle.std.proofs.Common.{◌≡◌, ℕ, ◌<◌, List, Option, Some, None, MatchOption, IsSome, length, take, get_or, refl, ◌∙◌, arith, rules, length-take-le}
use Rattle.std.proofs.lemmas.List.{get_or-take}
use Rattle.kerdock.proofs.RowFacts.{row_facts}
use Rattle.kerdock.proofs.reading.Reading.index_of.Goals as goal

pub shared_ref_as_front-places : goal.shared_ref_as_front-places
shared_ref_as_front-places c = let f = row_facts c.args.self.now.code.now.row in omega arith

-- what stands in the list is found
some_found : (r : Option ℕ) (xs : List ℕ) (x i : ℕ) → MatchOption r ((k : ℕ) → k < length xs → get_or xs k 0 ≡ x → ⊥) (λ k. Unit {0}) →
    i < length xs → get_or xs i 0 ≡ x → IsSome r
some_found (Some k) xs x i h b e = refl
some_found None xs x i h b e = absurd (h i b e)

pub unwrap-requires : goal.unwrap-requires
unwrap-requires c =
    let row = c.args.self.now.code.now.row in
    let book = c.args.self.now.book in
    let f = row_facts row in
    let i = f.sound.onto c.args.wanted c.requires in
    let places : List ℕ = take row.length book.places in
    let found : MatchOption c.position.result ((k : ℕ) → k < length places → get_or places k 0 ≡ c.args.wanted → ⊥) (λ k. Unit {0}) = search rules in
    let long = length-take-le row.length book.places (omega arith) in
    let b = i.1 in
    some_found c.position.result places c.args.wanted i.0 found (omega arith)
    (get_or-take row.length book.places i.0 0 (omega arith) ∙ c.args.self.now.lawful.places i.0 b ∙ i.2)
