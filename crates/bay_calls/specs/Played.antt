-- A list of dealings that is played on a bay: the code's dealings and answers, as the rules speak of them, and what the
-- memories hold at the end.
--   Written    an answer as it is written: a reply, or a denial
--   part       the samples of a range of the pool, none where it is no range of it
--   meant      the dealing that stands in the list
--   told       the answer that is written beside it
--   handed     the dealings of a list, by place
--   written    the answers of a list, by place
--   Beyond     from a place on the answers are as they were
--   delivers   whether an answer is a verdict
--   Wiped      the first so many samples are zero, and the others are as they were
--   WorkAfter  work memory after one dealing
--   WorkLeft   work memory after so many: wiped where a verdict was delivered, and otherwise as it was
--   SumsLeft   the memory of the sums after a run
use Rattle.std.specs.Prelude.{◌≡◌, ℕ, ◌<◌, ◌≤◌, min, Bool, true, false, cond, ◌&&◌, List, [], length, nat_le, Ok, Err, Result, slice_index_or, slice_range}
use Rattle.samples.specs.declared.sample.Sample.{Ghosts}
use Rattle.kerdock.specs.Code.{size}
use Rattle.kerdock.specs.Table.{row_of}
use Rattle.decoder.specs.Scores.{Added}
use Rattle.decoder.specs.Search.{meanings}
use Rattle.bay_rules.specs.declared.denial.Denial.{Denial}
use Rattle.bay_rules.specs.declared.denial.Denial.TheVariants.{Shut}
use Rattle.bay_calls.specs.declared.playing.Dealing.{Dealing as Listed}
use Rattle.bay_calls.specs.declared.playing.Dealing.TheVariants.{Take, Decide, Accept, Repeat, Drop, Clear}
use Rattle.bay_calls.specs.declared.playing.Reply.{Reply}
use Rattle.bay_calls.specs.declared.playing.Reply.TheVariants.{Counted, Delivered, Message}
use Rattle.bay.specs.Rules.{Dealing, Answer, Opening, Run, shut, holds}
use Rattle.bay.specs.Rules.Dealing.{Take as taking, Decide as deciding, Accept as accepting, Repeat as repeating, Drop as dropping, Clear as clearing}
use Rattle.bay.specs.Rules.Answer.{Counted as counting, Delivered as delivering, Message as messaging}
use Rattle.bay_calls.specs.Seen.{five, denies}

abbrev pub Written : Type 0
Written = Result Reply Denial

abbrev pub part : {S : Type 0} → List S → ℕ → ℕ → List S
part xs from to = cond (nat_le from to && nat_le to (length xs)) (slice_range xs from to) []

-- A decision has as its work memory the first so many samples of what is lent for it, or all where there are fewer.
abbrev pub meant : {S : Type 0} → Ghosts S → List S → ℕ → Listed → Dealing
meant m pool w (Take from to) = taking (meanings m (part pool from to))
meant m pool w (Decide n) = deciding (min n w)
meant m pool w (Accept n) = accepting (five n)
meant m pool w (Repeat n) = repeating (five n)
meant m pool w (Drop n) = dropping (five n)
meant m pool w Clear = clearing

abbrev pub told : Written → Answer
told (Ok (Counted n)) = counting n
told (Ok (Delivered n)) = delivering (five n)
told (Ok (Message n)) = messaging n
told (Err e) = denies e

abbrev pub handed : {S : Type 0} → Ghosts S → List S → ℕ → List Listed → ℕ → Dealing
handed m pool w ds i = meant m pool w (slice_index_or ds i (Take 0 0))

abbrev pub written : List Written → ℕ → Answer
written ans i = told (slice_index_or ans i (Err Shut))

abbrev pub Beyond : ℕ → List Written → List Written → Type 0
Beyond n before after = (length after ≡ length before) × ((k : ℕ) → n ≤ k → slice_index_or after k (Err Shut) ≡ slice_index_or before k (Err Shut))

abbrev pub delivers : Written → Bool
delivers (Ok (Counted n)) = false
delivers (Ok (Delivered n)) = true
delivers (Ok (Message n)) = false
delivers (Err e) = false

module _ {S : Type 0} (m : Ghosts S) where
  pub record Wiped (n : ℕ) (before after : List S) : Type 0 where
    pub long : length after ≡ length before
    pub zeros : (k : ℕ) → k < n → k < length before → slice_index_or after k m.zeroed ≡ m.zeroed
    pub others : (k : ℕ) → n ≤ k → slice_index_or after k m.zeroed ≡ slice_index_or before k m.zeroed

  -- n is the number of sums
  abbrev pub WorkAfter : ℕ → Written → List S → List S → Type 0
  WorkAfter n (Ok (Counted k)) before after = after ≡ before
  WorkAfter n (Ok (Delivered v)) before after = Wiped n before after
  WorkAfter n (Ok (Message k)) before after = after ≡ before
  WorkAfter n (Err e) before after = after ≡ before

  -- after n dealings with a bay of so many sums: one that delivered wiped as many samples, and the others were never touched
  pub record WorkLeft (sums n : ℕ) (ans : List Written) (before after : List S) : Type 0 where
    pub long : length after ≡ length before
    pub none : ((i : ℕ) → i < n → delivers (slice_index_or ans i (Err Shut)) ≡ false) → after ≡ before
    pub zeros : (i : ℕ) → i < n → delivers (slice_index_or ans i (Err Shut)) ≡ true → (k : ℕ) → k < sums → k < length before → slice_index_or after k m.zeroed ≡ m.zeroed
    pub others : (k : ℕ) → sums ≤ k → slice_index_or after k m.zeroed ≡ slice_index_or before k m.zeroed

  -- as it was where the bay opened shut; else one sum for each index, that reads what the receptions held read there
  pub record SumsLeft (o : Opening) (h : Run) (before after : List S) : Type 0 where
    pub untouched : shut o ≡ true → after ≡ before
    pub long : shut o ≡ false → length after ≡ size (row_of o.degree)
    pub summed : shut o ≡ false → Added (size (row_of o.degree)) (holds h) (meanings m after)
