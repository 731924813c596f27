use Rattle.std.proofs.Common.{◌≡◌, ℕ, suc, ◌+◌, ◌*◌, ◌%◌, ◌^◌, ◌<◌, T, Ok, sym, ap, ◌∙◌, subst, add-one, arith, rules}
use Rattle.kerdock.specs.Code.{messages, sum_of, sum_to, digit}
use Rattle.kerdock.specs.Table.{row_of, known}
use Rattle.kerdock.specs.Calls.{WordsAdd}
use Rattle.kerdock.proofs.RowFacts.{row_facts, known_sound}
use Rattle.kerdock.proofs.Words.{words}
use Rattle.kerdock.proofs.Laws.{adds_ok}
use Rattle.kerdock.proofs.messages.add_messages.Goals as goal

pub overflow_add-row : goal.overflow_add-row
overflow_add-row c = let f = row_facts c.in_ok-row.row in omega arith

pub sum_digits-requires : goal.sum_digits-requires
sum_digits-requires c = let f = row_facts c.in_ok-row.row in omega arith

pub returns : goal.returns
returns c =
    let d = c.args.degree in
    let m = c.args.first in
    let v = c.args.second in
    let row = c.in_ok-row.row in
    let here : row.degree ≡ d = search rules in
    let listed : T (known d) = rw (← here) row.of_the_table.listed in
    let sound = known_sound d listed in
    let a : m < messages (row_of d) = rw (← here) (omega arith) in
    let b : v < messages (row_of d) = rw (← here) (omega arith) in
    let count : row.degree + 1 ≡ suc (row_of d).degree = add-one row.degree ∙ ap suc (here ∙ sym sound.1) in
    let sum : c.sum_digits.result ≡ sum_of (row_of d) m v =
    c.sum_digits.ensures ∙ ap (sum_to (λ k. 4 ^ k * ((digit m k + digit v k) % 4))) count in
    let obey = words (row_of d) sound.0 in
    record {
      answer = ap Ok sum ∙ sym (adds_ok d listed m v a b);
      words_add = subst (λ (n : ℕ). WordsAdd d m v (Ok n)) (sym sum) (obey.sum_within m v, obey.adds m v);
    }
