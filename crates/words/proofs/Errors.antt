-- What is found wrong with words is nothing or an error, never the number of a refusal.
-- Assumes nothing.
use mathlib.Core.Path.{◌≡◌, refl}
use mathlib.Core.Bool.{Bool, true, false}
use mathlib.Core.List.{List}
use Prim.Native.Nat.{ℕ}
use lib.Dec.{leb, eqb}
use lib.ListN.{length}
use Rattle.wire.specs.Pick.{pick}
use Rattle.building.specs.Fault.{unless, or_else}
use Rattle.words.specs.Status as status
use Rattle.words.specs.Number.{last_flag, last_number, flag_fault, number_fault}
use Rattle.words.specs.ConnectionWords.{connection_size, are_connection, connection_fault}
use Rattle.words.specs.BuildingWords.{building_size, are_building, building_room, building_fault}
use Rattle.words.specs.FixedWords.{fixed_size, are_fixed, fixed_fault}

-- a test with an error, and two errors one behind the other
pub unless_error : (holds : Bool) (error : ℕ) → status.is_error_or_none error ≡ true → status.is_error_or_none (unless holds error) ≡ true
unless_error true error e = refl
unless_error false error e = e

pub or_error : (first second : ℕ) → status.is_error_or_none first ≡ true → status.is_error_or_none second ≡ true
    → status.is_error_or_none (or_else first second) ≡ true
or_error first second p q = go (eqb first 0)
  where
    go : (t : Bool) → status.is_error_or_none (pick t second first) ≡ true
    go true = q
    go false = p

-- a length, and then the words
judged_error : (all fine : Bool) (short wrong : ℕ) → status.is_error_or_none short ≡ true → status.is_error_or_none wrong ≡ true
    → status.is_error_or_none (pick all (unless fine wrong) short) ≡ true
judged_error true fine short wrong p q = unless_error fine wrong q
judged_error false fine short wrong p q = p

pub flag_error : (n : ℕ) → status.is_error_or_none (flag_fault n) ≡ true
unfolding flag_fault
flag_error n = unless_error (leb n last_flag) status.argument refl

pub number_error : (n : ℕ) → status.is_error_or_none (number_fault n) ≡ true
unfolding number_fault
number_error n = unless_error (leb n last_number) status.argument refl

pub room_error : (words : List ℕ) → status.is_error_or_none (building_room words) ≡ true
unfolding building_room
room_error words = unless_error (eqb (length words) building_size) status.building_length refl

pub connection_error : (words : List ℕ) → status.is_error_or_none (connection_fault words) ≡ true
unfolding connection_fault
connection_error words = judged_error (eqb (length words) connection_size) (are_connection words) status.connection_length status.connection_word refl refl

pub building_error : (words : List ℕ) → status.is_error_or_none (building_fault words) ≡ true
unfolding building_fault
building_error words = judged_error (eqb (length words) building_size) (are_building words) status.building_length status.building_word refl refl

pub fixed_error : (words : List ℕ) → status.is_error_or_none (fixed_fault words) ≡ true
unfolding fixed_fault
fixed_error words = judged_error (eqb (length words) fixed_size) (are_fixed words) status.fixed_length status.fixed_word refl refl
