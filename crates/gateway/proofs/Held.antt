-- One reception of the file more is held.
use Rattle.std.proofs.Common.{◌≡◌, ℕ, ◌+◌, ◌<◌, List, [], ◌∷◌, ◌++◌, length, get_or, None, Option, Ok, Err, Result, sym, refl, ◌∙◌, subst, arith, length-append, below_more}
use Rattle.std.specs.Result.{IsOk}
use Rattle.std.proofs.lemmas.List.{get_or_append_left, get_or_push}
use Rattle.samples.specs.Meaning.{silence}
use Rattle.samples.specs.declared.sample.Sample.{Ghosts}
use Rattle.decoder.specs.Scores.{Reception}
use Rattle.decoder.specs.Search.{meanings}
use Rattle.reception_file.specs.Layout.{at}
use Rattle.reception_file.specs.Pick.{Picked, sample_at}
use Rattle.reception_file.specs.declared.stored.Stored.{Ghosts as StoredGhosts}
use Rattle.bay_rules.specs.declared.denial.Denial.{Denial as Why}
use Rattle.bay.specs.Rules.{Answer, Denial, Unless}
use Rattle.bay.specs.Rules.Run.{Then}
use Rattle.bay.specs.Rules.Dealing.{Take}
use Rattle.bay.specs.Rules.Answer.{Counted}
use Rattle.bay_rules.specs.Lived.{State, Deals}
use Rattle.bay_calls.specs.Seen.{denies}
use Rattle.bay_calls.proofs.Means.{as_many, meaning_at}
use Rattle.gateway.specs.Receptions.{samples_at}
use Rattle.gateway.specs.Partly.{SampleAt, FirstOnes, Took}
use Rattle.gateway.proofs.Due.{free_take}

-- an answer that is no error is one that was made
pub ok_unless : {A E : Type 0} (r : Result A E) → ((e : E) → r ≡ Err e → ⊥) → IsOk r
ok_unless (Ok x) never = refl
ok_unless (Err e) never = absurd (never e refl)

-- where no denial is due, what is granted holds
pub granted_then : (x : Option Denial) (a : Answer) (P : Type 0) → x ≡ None → Unless x a P → P
granted_then x a P e u = subst (λ (y : Option Denial). Unless y a P) e u

module _ {S : Type 0} (m : Ghosts S) (t : StoredGhosts S) where
  first_more : (bs : List ℕ) (n : ℕ) (rs : List Reception) (x : Reception) → FirstOnes m t bs n rs → length x ≡ samples_at bs →
      ((i : ℕ) → i < samples_at bs → SampleAt m t bs n i (get_or x i silence)) → FirstOnes m t bs (n + 1) (rs ++ x ∷ [])
  first_more bs n rs x f long each =
      let all : List Reception = rs ++ x ∷ [] in
      let many = f.many in
      let before : (r : ℕ) → r < n → get_or rs r [] ≡ get_or all r [] = λ r lt. sym (get_or_append_left rs (x ∷ []) [] r (omega arith)) in
      let here : x ≡ get_or all n [] = sym (get_or_push rs x [] n many) in
      let Long : Reception → Type 0 = λ y. length y ≡ samples_at bs in
      let Each : ℕ → Reception → Type 0 = λ r y. (i : ℕ) → i < samples_at bs → SampleAt m t bs r i (get_or y i silence) in
      record {
        many = simp length-append (omega arith);
        long = below_more (λ r. Long (get_or all r [])) n (λ r lt. subst Long (before r lt) (f.long r lt)) (subst Long here long);
        each = λ r i lt li.
            below_more (λ r. Each r (get_or all r [])) n (λ r lt. subst (Each r) (before r lt) (λ i li. f.each r i lt li)) (subst (Each n) here each)
            r lt i li;
      }

  -- the bay took the reception that was picked
  pub took_more : (bs : List ℕ) (n d c : ℕ) (b b' : State) (xs : List S) → Picked m t bs n d xs → Took m t bs n b →
      Deals b (Take (meanings m xs)) (Counted c) b' → Took m t bs (n + 1) b'
  took_more bs n d c b b' xs p k deals = record {
    run = Then k.run (Take (meanings m xs)) (Counted c);
    lived = (deals _ _ k.lived).1;
    none = k.none;
    first =
        let long = p.long in
        first_more bs n _ (meanings m xs) k.first (as_many m xs ∙ p.long) (λ i li. record {
          sample = sample_at m t xs i;
          meaning = sym (meaning_at m xs i (omega arith));
          parts = λ w lw. p.holds i w (omega arith) lw;
        });
  }

  -- a bay does not deny a reception that was picked, while fewer are held than the file has
  pub never_denied : (bs : List ℕ) (r n d : ℕ) (b b' : State) (xs : List S) (e : Why) → Picked m t bs r d xs → Took m t bs n b → n < at bs 7 →
      Deals b (Take (meanings m xs)) (denies e) b' → ⊥
  never_denied bs r n d b b' xs e p k inside deals =
      let few = p.accepted.0.0.5.1 in
      let free = free_take m t bs n k.run xs p.accepted.0.0.4 k.none k.first.many (omega arith) p.long p.within in
      let g = granted_then _ _ _ free (deals _ _ k.lived).0 in
      let z : ◌≡◌ {A = ℕ} 0 1 = cc in
      omega arith
