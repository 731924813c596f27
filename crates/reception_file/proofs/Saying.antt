-- A head that says a kind, a degree and a count has their bytes and their parts.
use Rattle.std.proofs.Common.{◌≡◌, ℕ}
use Rattle.reception_file.specs.Layout.{total, head_bytes}
use Rattle.reception_file.specs.Numbers.{kind_number, degree_number}
use Rattle.reception_file.specs.Head.{Says, total_in}
use Rattle.reception_file.specs.declared.head.Head.{Head}

module _ (h : Head) (kind degree count : ℕ) (says : Says h kind degree count) where
  pub bytes_said : head_bytes (kind_number h.kind) (degree_number h.degree) h.count ≡ head_bytes kind degree count
  bytes_said = rw (says.0, says.1, says.2)

  pub total_said : total_in h ≡ total kind degree count
  total_said = rw (says.0, says.1, says.2)
