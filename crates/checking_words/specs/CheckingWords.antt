-- A check on the way as sixteen words, both ways, and the checker's answer as eight. A fault is an error's number, 0 for none: an array of
-- another length, or a word that no check has. What words say is said for all words, and counts where they have no fault. The words that
-- are kept for a later request of document 02 are 0 until then.
-- The C boundary.
-- Assumes nothing.
use Rattle.std.specs.Prelude.{Bool, List, [], ◌∷◌, ◌++◌, ℕ, leb, eqb, length, take}
use Rattle.wire.specs.Pick.{pick, both}
use Rattle.wire.specs.Refusal.{none, is_fault}
use Rattle.building.specs.Fault.{unless, or_else}
use Rattle.checking.specs.declared.Checking.{Checking}
use Rattle.checking.specs.declared.Checked.{Checked}
use Rattle.checking.specs.Checking.{checked, begun, gone_on, finished}
use Rattle.words.specs.Status as status
use Rattle.words.specs.Number.{word}
use Rattle.words.specs.ConnectionWords.{state_word, connection_size, connection_fault, connection_in, connection_words}

-- how many words a check has, and where each stands: the connection's come first
abbrev pub checking_size : ℕ
checking_size = 16

abbrev pub packets_place : ℕ
packets_place = 8

abbrev pub requests_place : ℕ
requests_place = 9

abbrev pub body_place : ℕ
body_place = 10

abbrev pub place_place : ℕ
place_place = 11

abbrev pub refusal_place : ℕ
refusal_place = 12

abbrev pub first_kept : ℕ
first_kept = 13

abbrev pub second_kept : ℕ
second_kept = 14

abbrev pub third_kept : ℕ
third_kept = 15

-- figures that can be: none is above the place
abbrev pub are_figures : List ℕ → Bool
are_figures words =
    both (both (leb (word words packets_place) (word words place_place)) (leb (word words requests_place) (word words place_place)))
    (leb (word words body_place) (word words place_place))

-- the words that are kept for later are 0
abbrev pub are_kept : List ℕ → Bool
are_kept words = both (both (eqb (word words first_kept) 0) (eqb (word words second_kept) 0)) (eqb (word words third_kept) 0)

-- the words of a check: a connection's, figures that can be, a refusal's number or 0, and the kept ones
unfoldable pub are_checking : List ℕ → Bool
are_checking words =
    both (both (eqb (connection_fault (take connection_size words)) none) (are_figures words))
    (both (is_fault (word words refusal_place)) (are_kept words))

-- the fault of an array that is to take a check, and of the words of one
unfoldable pub checking_room : List ℕ → ℕ
checking_room words = unless (eqb (length words) checking_size) status.checking_length

unfoldable pub checking_fault : List ℕ → ℕ
checking_fault words = pick (eqb (length words) checking_size) (unless (are_checking words) status.checking_word) status.checking_length

-- the number of a refusal that a word stands for: one above 255 stands for 255
abbrev pub last_byte : ℕ
last_byte = 255

unfoldable pub byte_in : ℕ → ℕ
byte_in n = pick (leb n last_byte) n last_byte

-- the check that words are, and a check's words
unfoldable pub checking_in : List ℕ → Checking
checking_in words = record {
  connection = connection_in (take connection_size words);
  packets = word words packets_place;
  requests = word words requests_place;
  body = word words body_place;
  place = word words place_place;
  refusal = byte_in (word words refusal_place);
}

unfoldable pub checking_words : Checking → List ℕ
checking_words k =
    connection_words k.connection
    ++ k.packets ∷ k.requests ∷ k.body ∷ k.place ∷ k.refusal ∷ 0 ∷ 0 ∷ 0 ∷ []

-- how many words the answer has
abbrev pub checked_size : ℕ
checked_size = 8

-- the fault of an array that is to take an answer, and an answer's words
unfoldable pub checked_fault : List ℕ → ℕ
checked_fault words = unless (eqb (length words) checked_size) status.answer_length

unfoldable pub checked_words : Checked → List ℕ
checked_words r =
    r.packets ∷ r.requests ∷ r.body ∷ state_word r.state ∷ r.refusal ∷ r.place ∷ 0 ∷ 0 ∷ []

-- an array after a call: written where the call has no fault, else as it was
abbrev pub written_unless : ℕ → List ℕ → List ℕ → List ℕ
written_unless fault told lent = pick (eqb fault status.done) told lent

-- what each call leaves in the array that it writes: a check of a whole capture, a check begun, gone on with, finished
unfoldable pub check_after : List ℕ → List ℕ → List ℕ
check_after capture answer = written_unless (checked_fault answer) (checked_words (checked capture)) answer

unfoldable pub begun_after : List ℕ → List ℕ
begun_after words = written_unless (checking_room words) (checking_words begun) words

unfoldable pub gone_on_after : List ℕ → List ℕ → List ℕ
gone_on_after words bytes = written_unless (checking_fault words) (checking_words (gone_on (checking_in words) bytes)) words

-- what is looked for first where a check is finished
unfoldable pub finish_fault : List ℕ → List ℕ → ℕ
finish_fault words answer = or_else (checked_fault answer) (checking_fault words)

unfoldable pub finished_after : List ℕ → ℕ → List ℕ → List ℕ
finished_after words size answer =
    written_unless (finish_fault words answer) (checked_words (finished (checking_in words) size)) answer
