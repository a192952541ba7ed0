-- Not meant to be believed: what `pas::tell` leaves in a caller's memory, and what `in_number` makes of a yes or no, for the proofs of the calls.
use Rattle.std.specs.Prelude.{ℕ, Bool, Result, Ok, Err}
use Rattle.refusal.specs.declared.Refusal.{Refusal}
use Rattle.pas.specs.Calls.{yes_number}

abbrev pub answer_in : {A : Type 0} → Result A Refusal → A → A
answer_in (Ok value) before = value
answer_in (Err refusal) before = before

abbrev pub yes_in : Result Bool Refusal → Result ℕ Refusal
yes_in (Ok test) = Ok (yes_number test)
yes_in (Err refusal) = Err refusal
