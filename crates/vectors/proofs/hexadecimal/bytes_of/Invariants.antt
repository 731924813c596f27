use Rattle.std.proofs.Common.{◌≡◌, ℕ, ◌+◌, ◌*◌, ◌<◌, length, get_or, vec_items, vec_len}
use Rattle.std.specs.Slice.Iter.{chunks_exact_rest, chunks_exact_size}
use Rattle.vectors.proofs.Pairs.{Pair}
use Rattle.vectors.proofs.hexadecimal.bytes_of.Given as goal

-- the pairs that were taken write the bytes so far, and those that are left are the rest of the text
abbrev pub invariant-loop-pair : goal.invariant-loop-pair
invariant-loop-pair l =
    (chunks_exact_size l.pair-iterator ≡ 2)
    × (length l.text ≡ 2 * vec_len l.bytes + length (chunks_exact_rest l.pair-iterator))
    × ((k : ℕ) → k < length (chunks_exact_rest l.pair-iterator) → get_or (chunks_exact_rest l.pair-iterator) k 0 ≡ get_or l.text (2 * vec_len l.bytes + k) 0)
    × ((k : ℕ) → k < vec_len l.bytes → Pair l.text (vec_items l.bytes) k)
