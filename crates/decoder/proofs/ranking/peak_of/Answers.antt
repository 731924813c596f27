use Rattle.std.proofs.Common.{◌≡◌, ℤ, ◌≤ℤ◌, ap, ◌∙◌, arith, to_z-of_z, w32, SFits, to_z, of_z, rules}
use borrow.Author.Differences.{ints}
use Rattle.samples.specs.Meaning.{reads, by_symbol}
use Rattle.decoder.proofs.SampleTurns.{times_front}
use Rattle.decoder.proofs.ranking.peak_of.Goals as goal

-- a bound on a number that is read back from its bits is one on the number
bounded : (a b : ℤ) → SFits w32 a → to_z w32 (of_z w32 a) ≤ℤ b → a ≤ℤ b
bounded a b f h = let e : to_z w32 (of_z w32 a) ≡ a = to_z-of_z f in omega (arith, ints)

pub returns : goal.returns
returns g c small e lt =
    let m = g.S.Sample in
    let x = c.args.x in
    let read = reads (m.means x) in
    let top = c.max-3.result in
    let zero : c.front.result ≡ read 0 = c.front.ensures ∙ times_front m x small 0 (omega arith) in
    let three : c.front-2.result ≡ read 3 = c.front-2.ensures ∙ ap m.fronted c.turn-y.ensures ∙ times_front m x small 1 (omega arith) in
    let y = c.turn-z.ensures ∙ ap m.turned c.turn-y.ensures in
    let two : c.front-3.result ≡ read 2 = c.front-3.ensures ∙ ap m.fronted y ∙ times_front m x small 2 (omega arith) in
    let one : c.front-4.result ≡ read 1 =
    c.front-4.ensures ∙ ap m.fronted (c.turn-w.ensures ∙ ap m.turned y) ∙ times_front m x small 3 (omega arith) in
    let left : c.max.result ≤ℤ top = bounded _ _ (search rules) c.max-3.ensures.self_bound in
    let right : c.max-2.result ≤ℤ top = bounded _ _ (search rules) c.max-3.ensures.other_bound in
    let b0 : c.front.result ≤ℤ c.max.result = bounded _ _ (search rules) c.max.ensures.self_bound in
    let b3 : c.front-2.result ≤ℤ c.max.result = bounded _ _ (search rules) c.max.ensures.other_bound in
    let b2 : c.front-3.result ≤ℤ c.max-2.result = bounded _ _ (search rules) c.max-2.ensures.self_bound in
    let b1 : c.front-4.result ≤ℤ c.max-2.result = bounded _ _ (search rules) c.max-2.ensures.other_bound in
    let fits : SFits w32 top = search rules in
    let back : to_z w32 (of_z w32 top) ≡ top = to_z-of_z fits in
    by_symbol (λ s. read s ≤ℤ to_z w32 (of_z w32 top)) (omega (arith, ints)) (omega (arith, ints)) (omega (arith, ints)) (omega (arith, ints)) e lt
