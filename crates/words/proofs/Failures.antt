-- The numbers of failures.
-- Assumes nothing.
use mathlib.Core.Path.{◌≡◌, refl}
use mathlib.Core.Bool.{false}
use lib.Dec.{eqb}
use Rattle.std.specs.Prelude.{Result, Ok, Err}
use Rattle.std.specs.Result.{result_and}
use Rattle.wire.proofs.Exits.{refused_some}
use Rattle.building.specs.Fault.{or_else}
use Rattle.words.specs.declared.status.Failure.{Failure}
use Rattle.words.specs.Failure.{failure_number, status_number}

-- none of them is that of done
pub failure_some : (failure : Failure) → eqb (failure_number failure) 0 ≡ false
failure_some (Failure.Refused refusal) = refused_some refusal
failure_some Failure.ConnectionLength = refl
failure_some Failure.ConnectionWord = refl
failure_some Failure.BuildingLength = refl
failure_some Failure.BuildingWord = refl
failure_some Failure.FixedLength = refl
failure_some Failure.FixedWord = refl
failure_some Failure.AnswerLength = refl
failure_some Failure.Argument = refl
failure_some Failure.CheckingLength = refl
failure_some Failure.CheckingWord = refl

-- so of two faults the first one counts
pub and_number : (first second : Result Unit Failure) → status_number (result_and first second) ≡ or_else (status_number first) (status_number second)
and_number (Ok nothing) second = refl
and_number (Err failure) second = rw (failure_some failure) refl
