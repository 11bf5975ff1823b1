-- Words and what they say. Words without fault are all there; a connection's words have no fault and say the connection; what counts of the
-- connection that words say is what counts of the words. So it is with a building record.
-- Assumes nothing.
use native.Mathlib.Omega.{arith}
use borrow.Author.Tests.{eq-eqb, ne_eqb, eqb-true, eqb-false, le-leb, leb-true}
use mathlib.Core.Path.{◌≡◌, refl, sym, ap, ◌∙◌}
use mathlib.Core.Bool.{Bool, true, false}
use mathlib.Core.List.{List, [], ◌∷◌}
use Prim.Native.Nat.{ℕ, zero, suc, ◌≤◌, ◌<◌}
use lib.Dec.{leb, eqb}
use lib.ListN.{length, get_or}
use Rattle.wire.specs.Pick.{pick, both, either}
use Rattle.wire.specs.Field.{boolean_number}
use Rattle.wire.proofs.Tests.{both_first, both_second}
use Rattle.connection.specs.Connection.{is_busy, rest, tidy}
use Rattle.connection.specs.declared.State.{State}
use Rattle.connection.specs.declared.Kind.{Kind}
use Rattle.connection.specs.declared.Connection.{Connection}
use Rattle.building.specs.Fault.{unless}
use Rattle.building.proofs.Sizes.{unless_none}
use Rattle.building_record.specs.Record as building
use Rattle.building_record.specs.declared.BuildingKind.{BuildingKind}
use Rattle.building_record.specs.declared.Building.{Building}
use Rattle.words.specs.Status as status
use Rattle.words.specs.Number.{word, last_flag, is_flag, flag_in, last_number, is_number, capped, number_fault}
use Rattle.words.specs.Kinds.{kind_word}
use Rattle.words.specs.ConnectionWords.{state_word, last_state, state_in, connection_size, state_place, left_place, due_place, asked_place, headers_place, head_place, are_unused, are_busy, are_connection, connection_room, connection_fault, connection_in, connection_words, counting_words}
use Rattle.words.specs.BuildingWords.{is_forward_word, is_send_headers_word, building_kind_in, building_size, kind_place, next_place, count_place, so_far_place, attributes_place, are_building, building_room, building_fault, building_in, building_words}

-- a number that fits is the number that its word stands for, and every word stands for one that fits
pub capped_same : (n : ℕ) → n ≤ last_number → capped n ≡ n
unfolding capped
capped_same n h = rw (le-leb n last_number h) refl

pub capped_great : (n : ℕ) → last_number < n → capped n ≡ last_number
unfolding capped
capped_great n h = go (leb n last_number) refl
  where
    go : (t : Bool) → leb n last_number ≡ t → pick t n last_number ≡ last_number
    go true e = absurd (omega (arith, leb-true n last_number e))
    go false e = refl

pub capped_within : (n : ℕ) → capped n ≤ last_number
unfolding capped
capped_within n = go (leb n last_number) refl
  where
    go : (t : Bool) → leb n last_number ≡ t → pick t n last_number ≤ last_number
    go true e = leb-true n last_number e
    go false e = omega arith

-- an argument without fault fits
pub number_within : (n : ℕ) → number_fault n ≡ 0 → n ≤ last_number
unfolding number_fault
number_within n h = leb-true n last_number (unless_none (leb n last_number) status.argument (omega arith) h)

-- the fault of words by their number: of a connection's
module _ (words : List ℕ) where
  pub connection_short : (length words ≡ connection_size → ⊥) → status.connection_length ≡ connection_fault words
  unfolding connection_fault
  connection_short h = rw (ne_eqb (length words) connection_size h)

  pub connection_judged : length words ≡ connection_size → (fine : Bool) → are_connection words ≡ fine
      → unless fine status.connection_word ≡ connection_fault words
  unfolding connection_fault
  connection_judged h fine e = rw (eq-eqb (length words) connection_size h, e)

  -- and the words of a connection by their tests; a proof that does not reach a test says `refl`
  pub connection_by : (unused busy fine known : Bool) → are_unused words ≡ unused → eqb (word words state_place) (state_word State.Busy) ≡ busy
      → are_busy words ≡ fine → leb (word words state_place) last_state ≡ known → are_connection words ≡ both unused (pick busy fine known)
  unfolding are_connection
  connection_by unused busy fine known p q r s = rw (p, q, r, s)

  -- of a building record's
  pub building_short : (length words ≡ building_size → ⊥) → status.building_length ≡ building_fault words
  unfolding building_fault
  building_short h = rw (ne_eqb (length words) building_size h)

  pub building_judged : length words ≡ building_size → unless (are_building words) status.building_word ≡ building_fault words
  unfolding building_fault
  building_judged h = rw (eq-eqb (length words) building_size h)

-- arrays that are to take a record have room for it
pub connection_room_lem : (words : List ℕ) → connection_room words ≡ 0 → length words ≡ connection_size
unfolding connection_room
connection_room_lem words h = eqb-true (length words) connection_size (unless_none (eqb (length words) connection_size) status.connection_length (omega arith) h)

pub building_room_lem : (words : List ℕ) → building_room words ≡ 0 → length words ≡ building_size
unfolding building_room
building_room_lem words h = eqb-true (length words) building_size (unless_none (eqb (length words) building_size) status.building_length (omega arith) h)

-- words without fault are all there, and each of them is one that the record may have
connection_none : (words : List ℕ) → connection_fault words ≡ 0 → (length words ≡ connection_size) × (are_connection words ≡ true)
unfolding connection_fault
connection_none words h = go (eqb (length words) connection_size) refl h
  where
    go : (all : Bool) → eqb (length words) connection_size ≡ all → pick all (unless (are_connection words) status.connection_word) status.connection_length ≡ 0
        → (length words ≡ connection_size) × (are_connection words ≡ true)
    go true e q = (eqb-true (length words) connection_size e, unless_none (are_connection words) status.connection_word (omega arith) q)
    go false e q = absurd (omega (arith, q))

building_none : (words : List ℕ) → building_fault words ≡ 0 → (length words ≡ building_size) × (are_building words ≡ true)
unfolding building_fault
building_none words h = go (eqb (length words) building_size) refl h
  where
    go : (all : Bool) → eqb (length words) building_size ≡ all → pick all (unless (are_building words) status.building_word) status.building_length ≡ 0
        → (length words ≡ building_size) × (are_building words ≡ true)
    go true e q = (eqb-true (length words) building_size e, unless_none (are_building words) status.building_word (omega arith) q)
    go false e q = absurd (omega (arith, q))

pub connection_all : (words : List ℕ) → connection_fault words ≡ 0 → length words ≡ connection_size
connection_all words h = (connection_none words h).0

pub building_all : (words : List ℕ) → building_fault words ≡ 0 → length words ≡ building_size
building_all words h = (building_none words h).0

-- a state, a flag and a packet in pieces, there and back
state_back : (state : State) → state_in (state_word state) ≡ state
unfolding state_in
state_back State.Idle = refl
state_back State.Pinged = refl
state_back State.Busy = refl
state_back State.Closed = refl

flag_back : (flag : Bool) → flag_in (boolean_number flag) ≡ flag
flag_back true = refl
flag_back false = refl

kind_back : (kind : BuildingKind) → building_kind_in (kind_word (building.built_kind kind)) ≡ kind
unfolding building_kind_in
kind_back BuildingKind.Forward = refl
kind_back BuildingKind.SendHeaders = refl

-- a connection's words say the connection
pub connection_back : (c : Connection) → c.asked ≤ last_number → connection_in (connection_words c) ≡ c
unfolding connection_in connection_words
connection_back c h = rw (state_back c.state, flag_back c.due, capped_same c.asked h, flag_back c.headers, flag_back c.head)

-- and a building record's the record
pub building_back : (r : Building) → r.next.0 ≤ last_number → r.count.0 ≤ last_number → r.headers ≤ last_number
    → building_in (building_words r) ≡ r
unfolding building_in building_words
building_back r h k l =
    rw (kind_back r.kind, capped_same r.next.0 h, capped_same r.count.0 k, capped_same r.headers l, flag_back r.attributes)

-- a flag's word is a flag, and a state's a state
flag_right : (flag : Bool) → leb (boolean_number flag) last_flag ≡ true
flag_right true = refl
flag_right false = refl

state_right : (state : State) → leb (state_word state) last_state ≡ true
state_right State.Idle = refl
state_right State.Pinged = refl
state_right State.Busy = refl
state_right State.Closed = refl

kind_right : (kind : BuildingKind) → either (is_forward_word (kind_word (building.built_kind kind))) (is_send_headers_word (kind_word (building.built_kind kind))) ≡ true
kind_right BuildingKind.Forward = refl
kind_right BuildingKind.SendHeaders = refl

-- whichever way a test goes that has no say
either_way : (t : Bool) → pick t true true ≡ true
either_way true = refl
either_way false = refl

-- the words of a connection whose number fits have no fault
pub connection_right : (c : Connection) → c.asked ≤ last_number → connection_fault (connection_words c) ≡ 0
unfolding connection_fault connection_words are_connection
connection_right c h =
    rw (state_right c.state, flag_right c.due, le-leb c.asked last_number h, flag_right c.headers, flag_right c.head, either_way (flag_in (boolean_number c.due)), either_way (eqb (state_word c.state) (state_word State.Busy)))

-- and those of a building record have none, whatever its numbers
pub building_right : (r : Building) → building_fault (building_words r) ≡ 0
unfolding building_fault building_words
building_right r = rw (kind_right r.kind, flag_right r.attributes)

-- words that a record may have are those of what they say: a state's, a flag's, a packet's in pieces
state_forth : (n : ℕ) → n ≤ last_state → state_word (state_in n) ≡ n
unfolding state_in
state_forth n h = go (eqb n 0) (eqb n 1) (eqb n 2) refl refl refl
  where
    go : (a b c : Bool) → eqb n 0 ≡ a → eqb n 1 ≡ b → eqb n 2 ≡ c
        → state_word (pick a State.Idle (pick b State.Pinged (pick c State.Busy State.Closed))) ≡ n
    go true b c p q r = sym (eqb-true n 0 p)
    go false true c p q r = sym (eqb-true n 1 q)
    go false false true p q r = sym (eqb-true n 2 r)
    go false false false p q r = omega (arith, eqb-false n 0 p, eqb-false n 1 q, eqb-false n 2 r)

flag_forth : (n : ℕ) → n ≤ last_flag → boolean_number (flag_in n) ≡ n
flag_forth n h = go (eqb n 1) refl
  where
    go : (t : Bool) → eqb n 1 ≡ t → boolean_number t ≡ n
    go true e = sym (eqb-true n 1 e)
    go false e = omega (arith, eqb-false n 1 e)

kind_forth : (n : ℕ) → either (is_forward_word n) (is_send_headers_word n) ≡ true → kind_word (building.built_kind (building_kind_in n)) ≡ n
unfolding building_kind_in
kind_forth n h = go (eqb n (kind_word Kind.Forward)) (eqb n (kind_word Kind.SendHeaders)) refl refl h
  where
    go : (a b : Bool) → eqb n (kind_word Kind.Forward) ≡ a → eqb n (kind_word Kind.SendHeaders) ≡ b → either a b ≡ true
        → kind_word (building.built_kind (pick a BuildingKind.Forward BuildingKind.SendHeaders)) ≡ n
    go true b p q e = sym (eqb-true n (kind_word Kind.Forward) p)
    go false true p q e = sym (eqb-true n (kind_word Kind.SendHeaders) q)
    go false false p q e = absurd (let z : ◌≡◌ {A = ℕ} 0 1 = cc in omega arith)

-- so many words, one by one
abbrev entries : (ℕ → ℕ) → ℕ → List ℕ
entries at zero = []
entries at (suc n) = at 0 ∷ entries (λ i. at (suc i)) n

all_entries : (words : List ℕ) (n : ℕ) → length words ≡ n → words ≡ entries (λ i. get_or words i 0) n
all_entries [] zero e = refl
all_entries [] (suc n) e = absurd (omega (arith, e))
all_entries (a ∷ l) zero e = absurd (omega (arith, e))
all_entries (a ∷ l) (suc n) e = ap (λ (r : List ℕ). a ∷ r) (all_entries l n (omega (arith, e)))

-- words without fault are those of the building record that they say, where its numbers fit
pub building_forth : (words : List ℕ) → building_fault words ≡ 0 → word words next_place ≤ last_number → word words count_place ≤ last_number
    → word words so_far_place ≤ last_number → building_words (building_in words) ≡ words
unfolding building_in building_words
building_forth words h p q r =
    let none = building_none words h in
    let kind = either (is_forward_word (word words kind_place)) (is_send_headers_word (word words kind_place)) in
    let flag = is_flag (word words attributes_place) in
    rw (kind_forth (word words kind_place) (both_first kind flag none.1), capped_same (word words next_place) p, capped_same (word words count_place) q, capped_same (word words so_far_place) r, flag_forth (word words attributes_place) (leb-true _ last_flag (both_second kind flag none.1)))
    (sym (all_entries words building_size none.0))

-- the tests of a connection's words: the state's, and in Busy those of what counts there
state_known : (words : List ℕ) → are_connection words ≡ true → word words state_place ≤ last_state
unfolding are_connection
state_known words e = go (eqb (word words state_place) (state_word State.Busy)) refl (both_second (are_unused words) _ e)
  where
    go : (t : Bool) → eqb (word words state_place) (state_word State.Busy) ≡ t
        → pick t (are_busy words) (leb (word words state_place) last_state) ≡ true → word words state_place ≤ last_state
    go true q s = omega (arith, eqb-true (word words state_place) (state_word State.Busy) q)
    go false q s = leb-true (word words state_place) last_state s

busy_fine : (words : List ℕ) → are_connection words ≡ true → eqb (word words state_place) (state_word State.Busy) ≡ true → are_busy words ≡ true
unfolding are_connection
busy_fine words e b =
    sym (ap (λ (t : Bool). pick t (are_busy words) (leb (word words state_place) last_state)) b) ∙ both_second (are_unused words) _ e

-- the state that a word says is Busy where the word is Busy's
busy_word : (n : ℕ) → is_busy (state_in n) ≡ eqb n (state_word State.Busy)
unfolding state_in
busy_word n = go (eqb n 0) (eqb n 1) (eqb n 2) refl refl refl
  where
    go : (a b c : Bool) → eqb n 0 ≡ a → eqb n 1 ≡ b → eqb n 2 ≡ c
        → is_busy (pick a State.Idle (pick b State.Pinged (pick c State.Busy State.Closed))) ≡ c
    go true b true p q r = absurd (omega (arith, eqb-true n 0 p, eqb-true n 2 r))
    go true b false p q r = refl
    go false true true p q r = absurd (omega (arith, eqb-true n 1 q, eqb-true n 2 r))
    go false true false p q r = refl
    go false false true p q r = refl
    go false false false p q r = refl

-- what was asked, where it counts
asked_counts : (due asked : ℕ) → pick (flag_in due) (is_number asked) true ≡ true → pick (flag_in due) (capped asked) 0 ≡ pick (flag_in due) asked 0
asked_counts due asked = go (flag_in due)
  where
    go : (t : Bool) → pick t (is_number asked) true ≡ true → pick t (capped asked) 0 ≡ pick t asked 0
    go true e = capped_same asked (leb-true asked last_number e)
    go false e = refl

-- what counts of a record whose words are these, by whether it is in Busy
abbrev counted : Bool → (state left due asked headers head : ℕ) → List ℕ
counted in_busy state left due asked headers head =
    connection_words (pick in_busy
    (record { state = State.Busy; due = flag_in due; headers = flag_in headers; head = flag_in head; asked = pick (flag_in due) (capped asked) 0; left = record { 0 = left } })
    (rest (state_in state)))

-- what counts of the connection that words say is what counts of the words: outside Busy the state alone, in Busy all but what was asked where
-- no body packet is due
pub connection_counts : (words : List ℕ) → connection_fault words ≡ 0 → connection_words (tidy (connection_in words)) ≡ counting_words words
unfolding connection_in connection_words counting_words
connection_counts words h = rw (busy_word state) (go (eqb state (state_word State.Busy)) refl)
  where
    state : ℕ
    state = word words state_place

    left : ℕ
    left = word words left_place

    due : ℕ
    due = word words due_place

    asked : ℕ
    asked = word words asked_place

    headers : ℕ
    headers = word words headers_place

    head : ℕ
    head = word words head_place

    go : (t : Bool) → eqb state (state_word State.Busy) ≡ t
        → counted t state left due asked headers head
        ≡ pick t (state ∷ left ∷ due ∷ pick (flag_in due) asked 0 ∷ headers ∷ head ∷ 0 ∷ 0 ∷ []) (state ∷ 0 ∷ 0 ∷ 0 ∷ 0 ∷ 0 ∷ 0 ∷ 0 ∷ [])
    go false e = rw (state_forth state (state_known words (connection_none words h).1)) refl
    go true e =
        let fine = busy_fine words (connection_none words h).1 e in
        let two = both (is_flag due) (is_flag headers) in
        let three = both two (is_flag head) in
        let last = pick (flag_in due) (is_number asked) true in
        let flags = both_first three last fine in
        let former = both_first two (is_flag head) flags in
        rw (flag_forth due (leb-true due last_flag (both_first (is_flag due) (is_flag headers) former)), flag_forth headers (leb-true headers last_flag (both_second (is_flag due) (is_flag headers) former)), flag_forth head (leb-true head last_flag (both_second two (is_flag head) flags)), asked_counts due asked (both_second three last fine), eqb-true state (state_word State.Busy) e) refl
