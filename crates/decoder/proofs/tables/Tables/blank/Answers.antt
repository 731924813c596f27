use Rattle.std.proofs.Common.{◌^◌, arith, pow_pos}
use Rattle.decoder.proofs.Writes.{zeros_below, zeros_set}
use Rattle.decoder.proofs.tables.Tables.blank.Goals as goal

pub invariant_of-result : goal.invariant_of-result
invariant_of-result c = record {
  two = c.requires.two;
  seven = c.requires.seven;
  within = λ p. zeros_below (2 ^ c.args.degree) 256 p (pow_pos c.args.degree);
  small = zeros_set 4 128 128 (omega arith);
}
