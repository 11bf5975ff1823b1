-- What the code's answers say of a call, by the numbers of `Status`: the number of what failed, or done.
-- The C boundary.
-- Assumes nothing.
use Rattle.std.specs.Prelude.{ℕ, Result, Ok, Err}
use Rattle.wire.specs.Refusal.{number_of}
use Rattle.building.specs.Call.{Outcome, refused}
use Rattle.building.specs.Call as call
use Rattle.words.specs.Status as status
use Rattle.words.specs.declared.status.Failure.{Failure}

-- the number of a failure, as the code names it
abbrev pub failure_number : Failure → ℕ
failure_number (Failure.Refused refusal) = number_of refusal
failure_number Failure.ConnectionLength = status.connection_length
failure_number Failure.ConnectionWord = status.connection_word
failure_number Failure.BuildingLength = status.building_length
failure_number Failure.BuildingWord = status.building_word
failure_number Failure.FixedLength = status.fixed_length
failure_number Failure.FixedWord = status.fixed_word
failure_number Failure.AnswerLength = status.answer_length
failure_number Failure.Argument = status.argument
failure_number Failure.CheckingLength = status.checking_length
failure_number Failure.CheckingWord = status.checking_word

-- what a call says that looks for a fault: the number of the failure, or done
abbrev pub status_number : Result Unit Failure → ℕ
status_number (Err failure) = failure_number failure
status_number (Ok nothing) = status.done

-- what a call says that tells a number
abbrev pub told_number : Result ℕ Failure → ℕ
told_number (Err failure) = failure_number failure
told_number (Ok number) = number

-- what a call says that answers something where it finds no fault
abbrev pub outcome_of : {A : Type 0} → Result A Failure → Outcome A
outcome_of (Err failure) = refused (failure_number failure)
outcome_of (Ok answer) = call.done answer
