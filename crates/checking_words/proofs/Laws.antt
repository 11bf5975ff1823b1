-- Words and the check that they say: a check's words have no fault and say the check, and what is found wrong is an error.
-- Assumes nothing.
use borrow.Author.Tests.{ne_eqb, le-leb}
use mathlib.Core.Path.{◌≡◌, refl, ap}
use mathlib.Core.Bool.{Bool, true, false}
use mathlib.Core.List.{List, [], ◌∷◌}
use Rattle.std.specs.Prelude.{map}
use Rattle.std.specs.List.{list_any}
use Rattle.wire.specs.declared.refusal.Refusal.{Refusal}
use Prim.Native.Nat.{ℕ, ◌≤◌}
use lib.Dec.{eqb}
use lib.ListN.{length}
use Rattle.wire.specs.Pick.{pick, either, one_of}
use Rattle.wire.specs.Refusal.{none, is_refusal, is_fault, number_of}
use Rattle.building.specs.Fault.{unless}
use Rattle.checking.specs.declared.Checking.{Checking}
use Rattle.checking.specs.Private.{FiguresCount}
use Rattle.words.specs.Status as status
use Rattle.words.specs.Number.{last_number}
use Rattle.words.specs.ConnectionWords.{connection_words}
use Rattle.words.proofs.Records.{connection_back, connection_right}
use Rattle.words.proofs.Errors.{unless_error, or_error}
use Rattle.checking_words.specs.CheckingWords.{checking_size, are_checking, checking_room, checking_fault, last_byte, byte_in, checking_in, checking_words, checked_size, checked_fault, finish_fault}

-- a number of a table of refusals, by the refusals
pub listed_any : (all : List Refusal) (n : ℕ) → list_any (λ refusal. eqb (number_of refusal) n) all ≡ one_of (map number_of all) n
listed_any [] n = refl
listed_any (refusal ∷ rest) n = ap (either (eqb (number_of refusal) n)) (listed_any rest n)

-- a number that is not none's is a fault where it is a refusal's
pub fault_some : (n : ℕ) → (n ≡ none → ⊥) → is_refusal n ≡ is_fault n
fault_some n h = rw (ne_eqb n none h) refl

-- what is found wrong is an error
pub checking_error : (words : List ℕ) → status.is_error_or_none (checking_fault words) ≡ true
unfolding checking_fault
checking_error words = go (eqb (length words) checking_size)
  where
    go : (all : Bool) → status.is_error_or_none (pick all (unless (are_checking words) status.checking_word) status.checking_length) ≡ true
    go true = unless_error (are_checking words) status.checking_word refl
    go false = refl

pub checking_room_error : (words : List ℕ) → status.is_error_or_none (checking_room words) ≡ true
unfolding checking_room
checking_room_error words = unless_error (eqb (length words) checking_size) status.checking_length refl

pub checked_error : (words : List ℕ) → status.is_error_or_none (checked_fault words) ≡ true
unfolding checked_fault
checked_error words = unless_error (eqb (length words) checked_size) status.answer_length refl

pub finish_error : (words answer : List ℕ) → status.is_error_or_none (finish_fault words answer) ≡ true
unfolding finish_fault
finish_error words answer = or_error (checked_fault answer) (checking_fault words) (checked_error answer) (checking_error words)

-- a check whose figures can be, with a refusal's number or none: its words have no fault, and say the check
module _ (k : Checking) (asked : k.connection.asked ≤ last_number) (small : k.refusal ≤ last_byte) where
  pub checking_back : checking_in (checking_words k) ≡ k
  unfolding checking_in checking_words connection_words byte_in
  checking_back = rw (connection_back k.connection asked, le-leb k.refusal last_byte small)

  pub checking_right : FiguresCount k → is_fault k.refusal ≡ true → checking_fault (checking_words k) ≡ 0
  unfolding checking_fault are_checking checking_words connection_words
  checking_right f e =
      rw (connection_right k.connection asked, le-leb k.packets k.place f.packets_few, le-leb k.requests k.place f.requests_few, le-leb k.body k.place f.body_few, e)
