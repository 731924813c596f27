use Rattle.std.proofs.Common.{rules, ◌≡◌, ℕ, length, take, subst, arith}
use Rattle.reception_file.specs.Layout.{at}
use Rattle.bay.specs.Rules.{holds}
use Rattle.gateway.specs.Receptions.{samples_at}
use Rattle.gateway.specs.Partly.{FirstOnes, file_opening}
use Rattle.gateway.proofs.Due.{free_decide}
use Rattle.gateway.proofs.taking.decode_as.Goals as goal

pub settle-requires : goal.settle-requires
settle-requires g c =
    let k = c.loop-number.invariant in
    let a = c.args.file.accepted.0.0 in
    let count = c.args.file.heads.2 in
    let some = a.5.0 in
    let long : length (take c.samples-n.result c.args.zeros) ≡ samples_at c.args.file.bytes.now = search rules in
    record {
      from = file_opening c.args.file.bytes.now;
      run = k.run;
      lived = k.lived;
      free = free_decide c.args.file.bytes.now c.loop-number.number _ k.run a.4 k.none k.first.many (omega arith) long;
    }

pub returns : goal.returns
returns g c =
    let k = c.loop-number.invariant in
    let done = c.settle.ensures _ _ k.lived in
    let count = c.args.file.heads.2 in
    let all : c.loop-number.number ≡ at c.args.file.bytes.now 7 = omega arith in
    record {
      run = k.run;
      decides = done.0;
      law = done.1;
      first = subst (λ (n : ℕ). FirstOnes g.S.Sample g.S.Stored c.args.file.bytes.now n (holds k.run)) all k.first;
    }
