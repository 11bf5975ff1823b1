-- A connection as eight words, both ways. A fault is an error's number, 0 for none: an array of another length, or a word that no
-- connection has. What words say is said for all words, and counts where they have no fault.
-- Document 01, 'The cycle', and document 02, A4: left, due, asked, headers and head count only in Busy, and asked only when due, whatever a
-- record holds. So a fault is looked for only there. The last two words are kept for requests of document 02, and are 0 until then.
-- The C boundary.
-- Assumes nothing.
use Rattle.std.specs.Prelude.{Bool, true, List, [], ◌∷◌, ℕ, leb, eqb, length}
use Rattle.wire.specs.Pick.{pick, both}
use Rattle.wire.specs.Refusal.{none}
use Rattle.wire.specs.Field.{boolean_number}
use Rattle.connection.specs.Connection as connection
use Rattle.connection.specs.declared.State.{State}
use Rattle.connection.specs.declared.Connection.{Connection}
use Rattle.building.specs.Fault.{unless}
use Rattle.words.specs.Status as status
use Rattle.words.specs.Number.{word, is_flag, flag_in, is_number, capped}

-- the word of a state, and the state that a word is
abbrev pub state_word : State → ℕ
state_word State.Idle = 0
state_word State.Pinged = 1
state_word State.Busy = 2
state_word State.Closed = 3

abbrev pub last_state : ℕ
last_state = 3

unfoldable pub state_in : ℕ → State
state_in n = pick (eqb n 0) State.Idle (pick (eqb n 1) State.Pinged (pick (eqb n 2) State.Busy State.Closed))

-- how many words a connection has, and where each stands
abbrev pub connection_size : ℕ
connection_size = 8

abbrev pub state_place : ℕ
state_place = 0

abbrev pub left_place : ℕ
left_place = 1

abbrev pub due_place : ℕ
due_place = 2

abbrev pub asked_place : ℕ
asked_place = 3

abbrev pub headers_place : ℕ
headers_place = 4

abbrev pub head_place : ℕ
head_place = 5

abbrev pub edition_place : ℕ
edition_place = 6

abbrev pub open_place : ℕ
open_place = 7

-- the words that are kept for later are 0
abbrev pub are_unused : List ℕ → Bool
are_unused words = both (eqb (word words edition_place) 0) (eqb (word words open_place) 0)

-- the words that count in Busy alone: three flags and, where a body packet is due, how many bytes were asked for
abbrev pub are_busy : List ℕ → Bool
are_busy words =
    both (both (both (is_flag (word words due_place)) (is_flag (word words headers_place))) (is_flag (word words head_place)))
    (pick (flag_in (word words due_place)) (is_number (word words asked_place)) true)

-- the words of a connection: the unused ones, and Busy with those that count there, or another state
unfoldable pub are_connection : List ℕ → Bool
are_connection words =
    both (are_unused words)
    (pick (eqb (word words state_place) (state_word State.Busy)) (are_busy words) (leb (word words state_place) last_state))

-- the fault of an array that is to take a connection, and of the words of one
unfoldable pub connection_room : List ℕ → ℕ
connection_room words = unless (eqb (length words) connection_size) status.connection_length

unfoldable pub connection_fault : List ℕ → ℕ
connection_fault words =
    pick (eqb (length words) connection_size) (unless (are_connection words) status.connection_word) status.connection_length

-- the connection that words are
unfoldable pub connection_in : List ℕ → Connection
connection_in words =
    connection.with_head (flag_in (word words head_place))
    (connection.with_headers (flag_in (word words headers_place))
    (connection.with_due (flag_in (word words due_place)) (capped (word words asked_place))
    (connection.with_left (word words left_place)
    (connection.rest (state_in (word words state_place))))))

-- a connection's words
unfoldable pub connection_words : Connection → List ℕ
connection_words c =
    state_word c.state ∷ c.left.0 ∷ boolean_number c.due ∷ c.asked ∷ boolean_number c.headers ∷ boolean_number c.head ∷ 0 ∷ 0 ∷ []

-- of the words of a connection those that count, 0 in the place of the others
unfoldable pub counting_words : List ℕ → List ℕ
counting_words words =
    pick (eqb (word words state_place) (state_word State.Busy))
    (word words state_place
    ∷ word words left_place
    ∷ word words due_place
    ∷ pick (flag_in (word words due_place)) (word words asked_place) 0
    ∷ word words headers_place
    ∷ word words head_place
    ∷ 0
    ∷ 0
    ∷ [])
    (word words state_place ∷ 0 ∷ 0 ∷ 0 ∷ 0 ∷ 0 ∷ 0 ∷ 0 ∷ [])

-- the words of an array in which a fresh connection was asked for
unfoldable pub fresh_after : List ℕ → List ℕ
fresh_after words = pick (eqb (connection_room words) none) (connection_words connection.fresh) words
