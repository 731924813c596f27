-- The bits from k on stand as the digits from 0 on.
use Rattle.std.proofs.Common.{◌≡◌, ◌+◌, ◌-◌, ◌*◌, ◌^◌, ◌<◌}
use Rattle.kerdock.proofs.Digits.{made}
use Rattle.decoder.specs.Cosets.{bit}
use Rattle.decoder.proofs.ranking.spread.Given as goal

abbrev pub invariant-loop-k : goal.invariant-loop-k
invariant-loop-k l = record {
  is : l.sum ≡ made 4 (λ j. bit l.x (l.k + j)) (7 - l.k);
  below : 3 * l.sum < 4 ^ (7 - l.k);
}
