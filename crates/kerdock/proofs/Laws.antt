-- What encoding writes, reading back reads, and no other message has.
use Rattle.std.proofs.Common.{◌≡◌, ℕ, ◌<◌, ◌≤◌, Bool, true, false, cond, T, eqb, ltb, List, length, get_or, Ok, Err, sym, refl, ap, ◌∙◌, subst, arith, lt→ltb, ext_get_or}
use lib.Dec.{eqb_refl}
use Rattle.kerdock.specs.Code.{Row, size, messages, sum_of}
use Rattle.kerdock.specs.Table.{row_of, known}
use Rattle.kerdock.specs.Sound.{Sound}
use Rattle.kerdock.specs.Calls.{Spells, encodes, Written, ComesBack, WrittenAgain, adds}
use Rattle.kerdock.specs.declared.refusals.Refusal.TheVariants.{Degree, Message, Memory, Symbol, NoWord}
use Rattle.kerdock.proofs.RowFacts.{known_sound}
use Rattle.kerdock.proofs.Words.{words}

-- three tests that all pass lead to the answer behind them
all_pass : {A : Type 0} (ok no1 no2 no3 : A) (x y z : Bool) → T x → T y → T z → cond x (cond y (cond z ok no3) no2) no1 ≡ ok
all_pass ok no1 no2 no3 false y z h i j = absurd h
all_pass ok no1 no2 no3 true false z h i j = absurd i
all_pass ok no1 no2 no3 true true false h i j = absurd j
all_pass ok no1 no2 no3 true true true h i j = refl

module _ (degree : ℕ) (listed : T (known degree)) where
  abbrev row : Row
  row = row_of degree

  abbrev sound : Sound (row_of degree)
  sound = (known_sound degree listed).0

  -- two messages with one word are one message
  pub spells_alone : (list : List ℕ) (m k : ℕ) → m < messages row → k < messages row → Spells row m list → Spells row k list → k ≡ m
  spells_alone list m k a b x y = (words row sound).apart k m b a (λ i c. sym (y.each i c) ∙ x.each i c)

  -- two words of one message are one list
  pub spells_same : (xs ys : List ℕ) (m : ℕ) → Spells row m xs → Spells row m ys → xs ≡ ys
  spells_same xs ys m x y =
      let long = x.long in
      ext_get_or 0 xs ys (x.long ∙ sym y.long) (λ i c. x.each i (omega arith) ∙ sym (y.each i (omega arith)))

  -- a word has no symbol above 3
  pub spells_small : (list : List ℕ) (m : ℕ) → Spells row m list → (i : ℕ) → i < length list → get_or list i 0 ≤ 3
  spells_small list m x i c =
      let long = x.long in
      let e = x.each i (omega arith) in
      let s = (words row sound).small m i in omega arith

  pub comes_back : (list : List ℕ) (m : ℕ) → m < messages row → Spells row m list → ComesBack degree m list (Ok tt)
  comes_back list m a x (Ok k) h = ap Ok (spells_alone list m k a h.1 x h.2)
  comes_back list m a x (Err Degree) h = absurd (h listed)
  comes_back list m a x (Err Message) h = absurd h
  comes_back list m a x (Err Memory) h = absurd (h.1 x.long)
  comes_back list m a x (Err (Symbol i)) h =
      let s = spells_small list m x i h.2.within in
      let o = h.2.above in absurd (omega arith)
  comes_back list m a x (Err NoWord) h = absurd (h.3 m a x)

  -- in range and with memory of N symbols, encoding is not refused
  pub encodes_ok : (m n : ℕ) → m < messages row → n ≡ size row → encodes degree m n ≡ Ok tt
  encodes_ok m n a e =
      all_pass (Ok tt) (Err Degree) (Err Message) (Err Memory) (known degree) (ltb m (messages row)) (eqb n (size row))
      listed (lt→ltb m (messages row) a) (subst (λ (x : ℕ). T (eqb n x)) e (eqb_refl n))

  -- two messages in range are added
  pub adds_ok : (m v : ℕ) → m < messages row → v < messages row → adds degree m v ≡ Ok (sum_of row m v)
  adds_ok m v a b =
      all_pass (Ok (sum_of row m v)) (Err Degree) (Err Message) (Err Message) (known degree) (ltb m (messages row)) (ltb v (messages row))
      listed (lt→ltb m (messages row) a) (lt→ltb v (messages row) b)

  pub written_again : (list : List ℕ) (m : ℕ) → m < messages row → Spells row m list → WrittenAgain degree list (Ok m)
  written_again list m a x before after r long e w =
      let ok : r ≡ Ok tt = e ∙ encodes_ok m (length before) a long in
      let left : Spells row m after = subst (Written degree m before after) ok w in
      (ok, spells_same after list m left x)
