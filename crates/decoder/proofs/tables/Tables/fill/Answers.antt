use Rattle.std.proofs.Common.{◌≡◌, ℕ, ◌*◌, ◌%◌, ◌^◌, ◌<◌, List, [], get_or, sym, refl, ap, ◌∙◌, arith}
use Rattle.kerdock.specs.Code.{size, symbol, place}
use Rattle.decoder.specs.Cosets.{message}
use Rattle.decoder.proofs.Leaders.{sizes, led_none, led_more}
use Rattle.decoder.proofs.Powers.{shifted}
use Rattle.decoder.proofs.Writes.{zeros_below, write_keeps}
use Rattle.decoder.proofs.tables.Tables.fill.Goals as goal

pub invariant_of-self-clause-small : goal.invariant_of-self-clause-small
invariant_of-self-clause-small c =
    write_keeps (λ row. (p : ℕ) → get_or row p 0 < 4) [] c.args.self.now.leaders 0 _ c.args.self.now.small (λ p. zeros_below 4 128 p (omega arith))

pub loop-k-init : goal.loop-k-init
loop-k-init c = record { degree = refl; at = refl; led = led_none c.args.book.now c.args.self.now.degree c.indices-self.result 128 c.args.self.now.leaders (omega arith) }

pub bounds-self-half : goal.bounds-self-half
bounds-self-half c = let z = sizes c.args.self.now.degree c.loop-k.k c.args.self.now.seven c.loop-k-test.true in omega arith

pub loop-u-preserved : goal.loop-u-preserved
loop-u-preserved c =
    let t = c.loop-k.self in
    let k = c.loop-k.k in
    let d = c.loop-k.invariant.degree in
    let b : k < t.degree = omega arith in
    let z = sizes t.degree k t.seven b in
    record {
      degree = c.loop-u.invariant.degree;
      at = c.loop-u.invariant.at;
      led = led_more c.args.book.now t.degree t.at k c.loop-u.u (1 * 2 ^ k % 18446744073709551616) c.unit_row-unit.result c.sum_of.result c.loop-u.self.leaders
          z.half b c.loop-u-test.true (omega arith) c.unit_row-unit.ensures.is c.sum_of.ensures c.loop-u.invariant.led;
    }

pub returns-clause-holds : goal.returns-clause-holds
returns-clause-holds c row sound deg lawful =
    let t = c.loop-k.self in
    let whole : row.degree ≡ t.degree = deg ∙ sym c.loop-k.invariant.degree in
    let n : 1 * 2 ^ c.args.self.now.degree % 18446744073709551616 ≡ size row = shifted c.args.self.now.degree c.args.self.now.seven ∙ ap (λ (x : ℕ). 2 ^ x) (sym deg) in
    let long : size row ≡ 2 ^ t.degree = ap (λ (x : ℕ). 2 ^ x) whole in
    let end : c.loop-k.k ≡ row.degree = omega arith in
    let all : size row ≡ 2 ^ c.loop-k.k = ap (λ (x : ℕ). 2 ^ x) (sym end) in
    let found : (i : ℕ) → i < size row → get_or t.at (place row i) 0 ≡ i =
    λ i b. ap (λ (xs : List ℕ). get_or xs (place row i) 0) c.loop-k.invariant.at ∙ c.indices-self.ensures.found row sound (sym n) lawful i (omega arith) in
    record {
      found = found;
      led = λ u i h b.
          let w = sound.within i b in
          c.loop-k.invariant.led.is row sound whole lawful u (place row i) (omega arith) (omega arith)
          ∙ ap (symbol row (message row 0 u 0)) (found i b);
    }
