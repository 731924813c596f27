-- What encoding, reading back and adding answer.
--   Spells    a list is the word of a message
--   encodes   what encoding answers: its refusals in their order
--   Written   what encoding leaves in the memory for the word
--   ReadBack  what reading a list back answers
--   Refused   when reading back refuses, case by case
--   adds      what the sum of two messages answers
use Rattle.std.specs.Prelude.{◌≡◌, ℕ, ◌+◌, ◌%◌, ◌<◌, ◌≤◌, cond, T, List, length, Ok, Err, Result, ◌==◌, ◌≢◌, nat_lt, slice_index}
use Rattle.kerdock.specs.Code.{Row, size, messages, symbol, sum_of}
use Rattle.kerdock.specs.Table.{row_of, known}
use Rattle.kerdock.specs.declared.refusals.Refusal.{Refusal}
use Rattle.kerdock.specs.declared.refusals.Refusal.TheVariants.{Degree, Message, Memory, Symbol, NoWord}

pub record Spells (row : Row) (m : ℕ) (list : List ℕ) : Type 0 where
  pub long : length list ≡ size row
  pub each : (i : ℕ) → i < size row → slice_index list i ≡ symbol row m i

-- first the degree, then the message's range, then the length n of the memory
abbrev pub encodes : ℕ → ℕ → ℕ → Result (Unit {0}) Refusal
encodes degree m n =
    cond (known degree)
    (cond (nat_lt m (messages (row_of degree)))
    (cond (n == size (row_of degree)) (Ok tt) (Err Memory))
    (Err Message))
    (Err Degree)

-- a word that is written spells the message; a refusal writes nothing
abbrev pub Written : ℕ → ℕ → List ℕ → List ℕ → Result (Unit {0}) Refusal → Type 0
Written degree m before after (Ok u) = Spells (row_of degree) m after
Written degree m before after (Err e) = after ≡ before

-- i is the first index of an entry above 3
pub record FirstAbove (list : List ℕ) (i : ℕ) : Type 0 where
  pub within : i < length list
  pub above : 3 < slice_index list i
  pub none_before : (k : ℕ) → k < i → slice_index list k ≤ 3

abbrev pub Refused : ℕ → List ℕ → Refusal → Type 0
Refused degree list Degree = T (known degree) → ⊥
Refused degree list Message = ⊥
Refused degree list Memory = T (known degree) × (length list ≢ size (row_of degree))
Refused degree list (Symbol i) = T (known degree) × (length list ≡ size (row_of degree)) × FirstAbove list i
Refused degree list NoWord =
    T (known degree) × (length list ≡ size (row_of degree)) × ((k : ℕ) → slice_index list k ≤ 3)
    × ((m : ℕ) → m < messages (row_of degree) → Spells (row_of degree) m list → ⊥)

-- the message that has this word; otherwise the refusal, each exactly on its condition
abbrev pub ReadBack : ℕ → List ℕ → Result ℕ Refusal → Type 0
ReadBack degree list (Ok m) = T (known degree) × (m < messages (row_of degree)) × Spells (row_of degree) m list
ReadBack degree list (Err e) = Refused degree list e

-- What is written comes back: whatever reading back answers to the list that encoding left is the message.
abbrev pub ComesBack : ℕ → ℕ → List ℕ → Result (Unit {0}) Refusal → Type 0
ComesBack degree m after (Ok u) = (a : Result ℕ Refusal) → ReadBack degree after a → a ≡ Ok m
ComesBack degree m after (Err e) = Unit {0}

-- Different messages have different words: no other message has the word that encoding left.
abbrev pub Alone : ℕ → ℕ → List ℕ → Result (Unit {0}) Refusal → Type 0
Alone degree m after (Ok u) = (k : ℕ) → k < messages (row_of degree) → Spells (row_of degree) k after → k ≡ m
Alone degree m after (Err e) = Unit {0}

-- What is read back is written again: encoding the answer into memory of N symbols is not refused, and leaves the list that
-- was read.
abbrev pub WrittenAgain : ℕ → List ℕ → Result ℕ Refusal → Type 0
WrittenAgain degree list (Ok m) =
    (before after : List ℕ) (a : Result (Unit {0}) Refusal) → length before ≡ size (row_of degree) →
    a ≡ encodes degree m (length before) → Written degree m before after a → (a ≡ Ok tt) × (after ≡ list)
WrittenAgain degree list (Err e) = Unit {0}

-- first the degree, then the first message's range, then the second's
abbrev pub adds : ℕ → ℕ → ℕ → Result ℕ Refusal
adds degree m v =
    cond (known degree)
    (cond (nat_lt m (messages (row_of degree)))
    (cond (nat_lt v (messages (row_of degree))) (Ok (sum_of (row_of degree) m v)) (Err Message))
    (Err Message))
    (Err Degree)

-- The word of the sum is the sum of the words, index by index modulo 4; and the sum is a message of the degree.
abbrev pub WordsAdd : ℕ → ℕ → ℕ → Result ℕ Refusal → Type 0
WordsAdd degree m v (Ok s) =
    (s < messages (row_of degree))
    × ((i : ℕ) → symbol (row_of degree) s i ≡ (symbol (row_of degree) m i + symbol (row_of degree) v i) % 4)
WordsAdd degree m v (Err e) = Unit {0}
