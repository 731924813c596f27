use Rattle.std.proofs.Common.{◌≡◌, ℕ, ◌<◌, T, true, false, refl, rules}
use Rattle.kerdock.specs.Code.{messages}
use Rattle.kerdock.specs.Table.{row_of, known}
use Rattle.kerdock.specs.Calls.{Spells}
use Rattle.kerdock.proofs.Laws.{written_again}
use Rattle.kerdock.proofs.reading.read_back.Goals as goal

pub returns-then-is_word_of-clause-written_again : goal.returns-then-is_word_of-clause-written_again
returns-then-is_word_of-clause-written_again c =
    let d = c.args.degree in
    let m = c.candidate-message.result in
    let here : c.new-code.result.row.degree ≡ d = search rules in
    let listed : T (known d) = rw (← here) c.new-code.result.row.of_the_table.listed in
    let range : m < messages (row_of d) = rw (← here) c.candidate-message.ensures.range in
    let spells : Spells (row_of d) m c.args.list.now = rw (← here) (c.if-is_word_of.ensures.0 refl) in
    written_again d listed c.args.list.now m range spells

pub returns-else-is_word_of-clause-answer : goal.returns-else-is_word_of-clause-answer
returns-else-is_word_of-clause-answer c =
    let d = c.args.degree in
    let list = c.args.list.now in
    let here : c.new-code.result.row.degree ≡ d = search rules in
    let none : (m : ℕ) → m < messages (row_of d) → Spells (row_of d) m list → ⊥ =
    rw (← here) (λ m a x.
    let yes : false ≡ true = c.if-is_word_of.ensures.1 (rw (← c.candidate-message.ensures.only m a x) x) in cc) in
    (search rules, search rules, c.in_default.ensures, none)
