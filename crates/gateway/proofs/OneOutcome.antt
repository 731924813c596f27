-- A file has one verdict: what the receptions of a file read decides every score, and the scores decide the rest.
use Rattle.std.proofs.Common.{◌≡◌, ℕ, suc, ◌<◌, List, [], ◌∷◌, length, get_or, ◌+ℤ◌, sym, refl, ap, ◌∙◌, ap₂, arith}
use Rattle.samples.specs.Meaning.{reads, silence}
use Rattle.samples.proofs.Sums.{over_same}
use Rattle.kerdock.specs.Code.{Row, size, symbol}
use Rattle.kerdock.specs.Table.{row_of}
use Rattle.kerdock.specs.Sound.{Sound}
use Rattle.kerdock.proofs.Words.{words}
use Rattle.decoder.specs.Scores.{Reception, score, scores}
use Rattle.reception_file.specs.Layout.{at}
use Rattle.bay.specs.Rules.{Opening, Verdict, Delivers, holds}
use Rattle.bay_rules.specs.declared.numbers.Numbers.{Numbers}
use Rattle.bay.proofs.Deciding.{sound_at, delivered}
use Rattle.bay_rules.proofs.OneAnswer.{one_verdict}
use Rattle.bay.proofs.SameRanking.{same_ranking}
use Rattle.bay_calls.specs.Seen.{five, opening}
use Rattle.gateway.specs.Receptions.{samples_at}
use Rattle.gateway.specs.Decoded.{FromFile}
use Rattle.gateway.proofs.Due.{known_degree}

module _ (row : Row) (sound : Sound row) where
  -- receptions that read alike have equal scores
  same_score : (r x : Reception) → ((i s : ℕ) → i < size row → s < 4 → reads (get_or r i silence) s ≡ reads (get_or x i silence) s) →
      (m : ℕ) → score row r m ≡ score row x m
  unfolding score
  same_score r x e m = over_same (size row) _ _ (λ i l. e i (symbol row m i) l ((words row sound).small m i))

  same_scores : (rs ts : List Reception) → length rs ≡ length ts →
      ((r i s : ℕ) → r < length rs → i < size row → s < 4 → reads (get_or (get_or rs r []) i silence) s ≡ reads (get_or (get_or ts r []) i silence) s) →
      (m : ℕ) → scores row rs m ≡ scores row ts m
  same_scores [] [] long e m = refl
  same_scores [] (t ∷ ts) long e m = absurd (omega arith)
  same_scores (r ∷ rs) [] long e m = absurd (omega arith)
  same_scores (r ∷ rs) (t ∷ ts) long e m =
      ap₂ ◌+ℤ◌ (same_score r t (λ i s. e 0 i s (omega arith)) m)
      (same_scores rs ts (omega arith) (λ k i s l. e (suc k) i s (omega arith)) m)

-- two verdicts over the receptions of one file are the same
pub one_outcome : (bs : List ℕ) (n k : Numbers) → FromFile bs n → FromFile bs k → n ≡ k
one_outcome bs n k a b =
    let d : ℕ = at bs 6 in
    let o : Opening = opening d (samples_at bs) in
    let row : Row = row_of d in
    let sound = sound_at o a.run (five n) a.decides in
    let first = delivered o a.run (five n) a.decides in
    let second = delivered o b.run (five k) b.decides in
    let p = a.receptions in
    let q = b.receptions in
    let long : size row ≡ samples_at bs = (known_degree d a.accepted.0.0.4).long in
    let same : (m : ℕ) → scores row (holds b.run) m ≡ scores row (holds a.run) m =
    same_scores row sound (holds b.run) (holds a.run) (q.many ∙ sym p.many) (λ r i s l m four.
    let c = q.many in
    q.reads_as r i s (omega arith) (omega arith) four ∙ sym (p.reads_as r i s (omega arith) (omega arith) four)) in
    let moved : Delivers d (holds a.run) (five k) = record {
      degree = second.degree;
      held = second.held ∙ q.many ∙ sym p.many;
      score = second.score ∙ same k.message;
      ranking = same_ranking row (scores row (holds b.run)) (scores row (holds a.run)) k.message k.margin same second.ranking;
    } in
    ap (λ (v : Verdict). record { degree = v.degree; held = v.held; message = v.message; score = v.score; margin = v.margin })
    (one_verdict d (holds a.run) (five n) (five k) sound first moved)
