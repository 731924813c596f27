use Rattle.std.proofs.Common.{◌≡◌, ℕ, ◌<◌, ◌≤◌, ◌≤ℤ◌, List, Some, unwrap_or, negsuc, length, get_or, sym, refl, ap, ◌∙◌, arith, to_z-of_z, w32, SFits, to_z, of_z, rules}
use borrow.Author.Differences.{ints}
use Rattle.samples.specs.Meaning.{reads}
use Rattle.samples.specs.Kind.{limit}
use Rattle.samples.specs.Sizes.{at}
use Rattle.samples.specs.Transform.{reading_at}
use Rattle.decoder.proofs.Peaks.{greatest, given}
use Rattle.decoder.proofs.ranking.peak.Goals as goal

pub returns : goal.returns
returns g c small v e b l =
    let m = g.S.Sample in
    let xs = c.args.work.now in
    let whole = c.max.ensures.runs in
    let mapped = c.map.ensures.runs whole.0 whole.0.seen whole.1 in
    let run = mapped.2 in
    let read = c.iter.ensures.runs mapped.0 mapped.0.seen in
    let is : mapped.0.from.rest.now ≡ xs = ap (λ i. i.rest.now) mapped.1 ∙ c.iter.ensures.rest in
    let long : mapped.0.len ≡ length xs = read.1 (run.0 ∙ whole.2) ∙ ap length is in
    let inside : v < mapped.0.len = omega arith in
    let some : 0 < whole.0.len = let same = run.1 in omega arith in
    let top = greatest c.max.result whole.0.len _ some whole.3 in
    let x = given (λ y. y.now) _ top.0 (at m xs v) (mapped.0.at v) (whole.0.at v) (read.2 v m.zeroed inside ∙ ap (λ (ys : List g.row.S.Denot). Some (get_or ys v m.zeroed)) is) ((run.2 (λ a r f k. refl)).0 v) (top.2.1 v) in
    let bound : (m.means x.item.now).size ≤ limit → (e : ℕ) → e < 4 → reads (m.means x.item.now) e ≤ℤ x.value = let h = x.gave in search rules in
    let size-x : (m.means x.item.now).size ≤ limit = rw x.is (small v b) in
    let here : reading_at m xs v e ≡ reads (m.means x.item.now) e = ap (λ y. reads (m.means y) e) (sym x.is) in
    let under = bound size-x e l in
    let below = x.below in
    let picked : c.unwrap_or.result ≡ top.0 = c.unwrap_or.ensures ∙ ap (λ r. unwrap_or r (negsuc 2147483647)) top.1 in
    let fits : SFits w32 c.unwrap_or.result = search rules in
    let back : to_z w32 (of_z w32 c.unwrap_or.result) ≡ c.unwrap_or.result = to_z-of_z fits in
    omega (arith, ints)
