-- The answer of a check, and of a call that only checks or that writes its result into a lent slice. Assumes nothing.
use Rattle.std.specs.Prelude.{Result, Ok, Err, ⊤}
use Rattle.error.specs.declared.Refusal.{Refusal}

abbrev pub Checked : Type 0
Checked = Result ⊤ Refusal

-- nothing is wrong
pattern abbrev pub Accepted : Checked
Accepted = Ok tt

-- refused, by a row of document 01's table
pattern abbrev pub Refused : Refusal → Checked
Refused r = Err r
