-- The numbers of a verdict as they are printed.
--   verdict_line  message, score, margin and held count, each behind its word
use Rattle.std.specs.Prelude.{ℕ, List, ◌++◌, codes, decimal}
use Rattle.std.specs.Fmt.{signed_decimal}
use Rattle.bay_rules.specs.declared.numbers.Numbers.{Numbers}

-- As in: message 0 score 800 margin 600 held 1.
abbrev pub verdict_line : Numbers → List ℕ
verdict_line n =
    codes "message "
    ++ (decimal n.message
    ++ (codes " score "
    ++ (signed_decimal n.score
    ++ (codes " margin "
    ++ (decimal n.margin
    ++ (codes " held "
    ++ decimal n.held))))))
