use Rattle.std.proofs.Common.{◌≡◌, ◌<◌, T, arith, rules}
use Rattle.kerdock.specs.Code.{messages}
use Rattle.kerdock.specs.Table.{row_of, known}
use Rattle.kerdock.specs.Calls.{Spells}
use Rattle.kerdock.proofs.Laws.{comes_back, spells_alone}
use Rattle.kerdock.proofs.coding.encode.Goals as goal

pub returns : goal.returns
returns c =
    let d = c.args.degree in
    let row = c.in_ok-row.row in
    let here : row.degree ≡ d = search rules in
    let listed : T (known d) = rw (← here) row.of_the_table.listed in
    let range : c.args.message < messages (row_of d) = rw (← here) (omega arith) in
    let spells : Spells (row_of d) c.args.message c.write_word.new.word = rw (← here, ← c.new.ensures) c.write_word.ensures in
    record {
      answer = search rules;
      written = spells;
      comes_back = comes_back d listed c.write_word.new.word c.args.message range spells;
      alone = λ k b x. spells_alone d listed c.write_word.new.word c.args.message k range b spells x;
    }
