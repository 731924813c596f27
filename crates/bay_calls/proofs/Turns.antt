-- One dealing of a list more: the run that the bay has lived, the answers, the work memory, and the sums at the end.
use Rattle.std.proofs.Common.{◌≡◌, ℕ, ◌+◌, ◌<◌, ◌≤◌, true, false, ltb, ◌≢◌, List, Ok, Err, length, get_or, set, sym, refl, ap, ◌∙◌, subst, arith, length-set, get_or-set_other, get_or-set_same, ltb-false, ltb-true}
use Rattle.std.specs.Prelude.{OnErr}
use Rattle.samples.specs.declared.sample.Sample.{Ghosts}
use Rattle.kerdock.specs.Code.{size}
use Rattle.kerdock.specs.Table.{row_of}
use Rattle.decoder.specs.Scores.{Added}
use Rattle.decoder.specs.Search.{meanings}
use Rattle.bay_calls.specs.declared.bays.Bay.{Bay}
use Rattle.bay_rules.specs.declared.denial.Denial.TheVariants.{Shut as IsShut}
use Rattle.bay_calls.specs.declared.standing.Stage.{Stage}
use Rattle.bay_calls.specs.declared.standing.Stage.TheVariants.{Shut, Gathering, Waiting}
use Rattle.bay_calls.specs.declared.playing.Dealing.{Dealing as Listed}
use Rattle.bay_calls.specs.declared.playing.Dealing.TheVariants.{Take}
use Rattle.bay_calls.specs.declared.playing.Reply.TheVariants.{Counted, Delivered, Message}
use Rattle.bay.specs.Rules.{Opening, Run, shut, holds}
use Rattle.bay.specs.Rules.Answer.{Denied as denying}
use Rattle.bay_rules.specs.Lived.{Lived, Deals}
use Rattle.bay.specs.Replay.{made}
use Rattle.bay_calls.specs.Seen.{state, closes}
use Rattle.bay_calls.specs.Played.{Written, meant, told, handed, written, Beyond, delivers, Wiped, WorkAfter, WorkLeft, SumsLeft}
use Rattle.bay_calls.proofs.Means.{as_many}
use Rattle.bay_rules.proofs.Replaying.{made_more}
use Rattle.bay.proofs.ShutRuns.{denied_by_one}

-- an answer that denies by 1 is a denial
is_denial : (a : Written) (P : Type 0) → told a ≡ denying 1 0 → OnErr a P → P
is_denial (Ok (Counted n)) P q p = let z : ◌≡◌ {A = ℕ} 0 1 = cc in absurd (omega arith)
is_denial (Ok (Delivered n)) P q p = let z : ◌≡◌ {A = ℕ} 0 1 = cc in absurd (omega arith)
is_denial (Ok (Message n)) P q p = let z : ◌≡◌ {A = ℕ} 0 1 = cc in absurd (omega arith)
is_denial (Err e) P q p = p

-- the bay has lived one dealing more, and a shut one is still as it was opened
pub turn : {S : Type 0} (m : Ghosts S) (pool : List S) (w w' : ℕ) (ds : List Listed) (ans : List Written) (i : ℕ) (a : Written) (o : Opening) (b₀ b b' : Bay S) →
    w' ≡ w → i < length ans →
    Lived o (made (handed m pool w ds) (written ans) i) (state m b) × (shut o ≡ true → b ≡ b₀) →
    Deals (state m b) (meant m pool w' (get_or ds i (Take 0 0))) (told a) (state m b') → OnErr a (b' ≡ b) →
    Lived o (made (handed m pool w ds) (written (set ans i a)) (i + 1)) (state m b') × (shut o ≡ true → b' ≡ b₀)
turn m pool w w' ds ans i a o b₀ b b' same lt l d still =
    let d' = subst (λ (n : ℕ). Deals (state m b) (meant m pool n (get_or ds i (Take 0 0))) (told a) (state m b')) same d in
    let h : Run = made (handed m pool w ds) (written ans) i in (
      made_more o (handed m pool w ds) (written ans) (written (set ans i a)) i (told a) (state m b) (state m b') l.0 d'
          (λ k less. let ne : k ≢ i = omega arith in ap told (sym (get_or-set_other ans i k a (Err IsShut) ne)))
          (ap told (sym (get_or-set_same ans i a (Err IsShut) lt))),
      λ e. is_denial a (b' ≡ b) (denied_by_one o h (handed m pool w ds i) (told a) e (d' o h l.0).0) still ∙ l.1 e,
    )

-- answers behind the one that is written stay as they were
pub beyond_more : (i : ℕ) (xs ys : List Written) (a : Written) → Beyond i xs ys → Beyond (i + 1) xs (set ys i a)
beyond_more i xs ys a h =
    (simp length-set h.0, λ k le. let ne : k ≢ i = omega arith in rw (get_or-set_other ys i k a (Err IsShut) ne) (h.1 k (omega arith)))

-- a stage that is closed is that of a shut bay
shut_stage : (s : Stage) → closes s ≡ true → s ≡ Shut
shut_stage Shut e = refl
shut_stage Gathering e = let z : ◌≡◌ {A = ℕ} 0 1 = cc in absurd (omega arith)
shut_stage (Waiting n) e = let z : ◌≡◌ {A = ℕ} 0 1 = cc in absurd (omega arith)

-- the memory of the sums at the end
pub sums_left : {S : Type 0} (m : Ghosts S) (o : Opening) (h : Run) (xs ys : List S) (b b₀ : Bay S) → ys ≡ b.sums.now → Lived o h (state m b) →
    (shut o ≡ true → b ≡ b₀) → (b₀.standing.stage ≡ Shut → b₀.sums.now ≡ xs) → closes b₀.standing.stage ≡ shut o → SumsLeft m o h xs ys
sums_left {S} m o h xs ys b b₀ e l same kept starts =
    let up : shut o ≡ false → closes b.standing.stage ≡ false = λ u. l.plainly.closed ∙ u in
    record {
      untouched = λ s. e ∙ ap (λ (x : Bay S). x.sums.now) (same s) ∙ kept (shut_stage b₀.standing.stage (starts ∙ s));
      long = λ u. ap length e ∙ sym (as_many m b.sums.now) ∙ l.plainly.long (up u);
      summed = λ u. subst (λ (zs : List S). Added (size (row_of o.degree)) (holds h) (meanings m zs)) (sym e) (l.plainly.summed (up u));
    }

-- work memory, one answer more
module _ {S : Type 0} (m : Ghosts S) (n i : ℕ) (ans : List Written) (ws us vs : List S) (lt : i < length ans) (w : WorkLeft m n i ans ws us) where
  earlier : (a : Written) (k : ℕ) → k < i → get_or (set ans i a) k (Err IsShut) ≡ get_or ans k (Err IsShut)
  earlier a k h = let ne : k ≢ i = omega arith in get_or-set_other ans i k a (Err IsShut) ne

  here : (a : Written) (k : ℕ) → k < i + 1 → i ≤ k → get_or (set ans i a) k (Err IsShut) ≡ a
  here a k h le = let e : i ≡ k = omega arith in subst (λ (j : ℕ). get_or (set ans i a) j (Err IsShut) ≡ a) e (get_or-set_same ans i a (Err IsShut) lt)

  -- a dealing that delivers nothing leaves it as it was
  idle : (a : Written) → delivers a ≡ false → vs ≡ us → WorkLeft m n (i + 1) (set ans i a) ws vs
  idle a not same = record {
    long = ap length same ∙ w.long;
    none = λ h. same ∙ w.none (λ k l. sym (ap delivers (earlier a k l)) ∙ h k (omega arith));
    zeros = λ j l is-so k below inside. rw same (
        elim (ltb j i) as (λ t. ltb j i ≡ t → get_or us k m.zeroed ≡ m.zeroed) [
          | true ↦ λ e. let q = ltb-true j i e in w.zeros j q (sym (ap delivers (earlier a j q)) ∙ is-so) k below inside
          | false ↦ λ e.
              let q = ltb-false j i e in
              let is : delivers a ≡ true = sym (ap delivers (here a j l q)) ∙ is-so in
              let z : ◌≡◌ {A = ℕ} 0 1 = cc in
              absurd (omega arith)
        ] refl);
    others = λ k l. rw same (w.others k l);
  }

  -- one that delivers wipes it
  busy : (a : Written) → delivers a ≡ true → Wiped m n us vs → WorkLeft m n (i + 1) (set ans i a) ws vs
  busy a is-so z =
      let long = w.long in
      record {
        long = z.long ∙ w.long;
        none = λ h.
            let isnt : delivers a ≡ false = sym (ap delivers (get_or-set_same ans i a (Err IsShut) lt)) ∙ h i (omega arith) in
            let q : ◌≡◌ {A = ℕ} 0 1 = cc in
            absurd (omega arith);
        zeros = λ j l y k below inside. z.zeros k below (omega arith);
        others = λ k l. z.others k l ∙ w.others k l;
      }

  pub work_more : (a : Written) → WorkAfter m n a us vs → WorkLeft m n (i + 1) (set ans i a) ws vs
  work_more (Ok (Counted k)) h = idle (Ok (Counted k)) refl h
  work_more (Ok (Delivered v)) h = busy (Ok (Delivered v)) refl h
  work_more (Ok (Message k)) h = idle (Ok (Message k)) refl h
  work_more (Err e) h = idle (Err e) refl h
