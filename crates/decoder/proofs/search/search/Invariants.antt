use Rattle.std.proofs.Common.{◌*◌}
use Rattle.samples.specs.Sizes.{Within}
use Rattle.samples.specs.Transform.{loudest}
use Rattle.kerdock.specs.Code.{messages, size}
use Rattle.kerdock.specs.Table.{row_of}
use Rattle.kerdock.specs.Books.{Lawful}
use Rattle.decoder.specs.Scores.{score}
use Rattle.decoder.specs.Search.{meanings}
use Rattle.decoder.specs.Visits.{Ranked, visit}
use Rattle.decoder.proofs.search.search.Given as goal

-- the cosets below u are ranked, if the book is the degree's and the sums are small enough
abbrev pub invariant-loop-u : goal.invariant-loop-u
invariant-loop-u g l =
    Lawful (row_of l.degree) l.book → Within g.S.Sample loudest l.sums →
    Ranked (messages (row_of l.degree)) (score (row_of l.degree) (meanings g.S.Sample l.sums)) (visit (row_of l.degree)) (4 * (l.u * size (row_of l.degree))) l.best
