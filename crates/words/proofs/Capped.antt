-- A word above 65535 stands for 65535, and document 01 gives the same number for both: whether a number is in a range, a code is listed or
-- served, and a building record is possible is the same of a word and of the number that it stands for.
-- Assumes nothing.
use native.Mathlib.Omega.{arith}
use borrow.Author.Tests.{le-leb, lt-leb, le-ltb, leb-true, leb-false, ne_eqb}
use mathlib.Core.Path.{◌≡◌, refl, sym, ap, ◌∙◌}
use mathlib.Core.Bool.{Bool, true, false}
use mathlib.Core.List.{List}
use Prim.Native.Nat.{ℕ, ◌+◌, ◌≤◌, ◌<◌}
use lib.Dec.{leb, eqb}
use lib.ListN.{length, get_or}
use Rattle.wire.specs.Pick.{both, between}
use Rattle.wire.specs.Packet.{code_place, payload_place}
use Rattle.names.specs.Names.{is_listed, method_names, request_names, response_names, attribute_names}
use Rattle.names.specs.Attribute.{attribute_kind}
use Rattle.names.specs.declared.NameList.{NameList}
use Rattle.connection.specs.Connection.{max_packet}
use Rattle.places.specs.Entries.{max_headers}
use Rattle.payload.specs.Code.{code_of}
use Rattle.building.specs.Fault.{range_fault}
use Rattle.building_record.specs.Record.{building_fields, built_kind, is_possible, count_size}
use Rattle.words.specs.Number.{word, flag_in, last_number, capped}
use Rattle.words.specs.BuildingWords.{building_kind_in, kind_place, next_place, count_place, so_far_place, attributes_place, building_in}
use Rattle.words.proofs.Records.{capped_same, capped_great}

-- what holds of 65535 and of every word above it as of one another, holds of each word and of the number that it stands for
pub capped_alike : {A : Type 0} (f : ℕ → A) → ((n : ℕ) → last_number < n → f last_number ≡ f n) → (n : ℕ) → f (capped n) ≡ f n
capped_alike f same n = go (leb n last_number) refl
  where
    go : (t : Bool) → leb n last_number ≡ t → f (capped n) ≡ f n
    go true e = ap f (capped_same n (leb-true n last_number e))
    go false e = let h = leb-false n last_number e in ap f (capped_great n h) ∙ same n h

-- at most a number below 65535
pub capped_most : (most n : ℕ) → most < last_number → leb (capped n) most ≡ leb n most
capped_most most n h =
    capped_alike (λ k. leb k most) (λ k above. lt-leb last_number most h ∙ sym (lt-leb k most (omega arith))) n

-- a number of a range: methods, statuses and booleans
between_above : (low high n : ℕ) → high < n → between low high n ≡ false
between_above low high n h = rw (lt-leb n high h) (go (leb low n))
  where
    go : (t : Bool) → both t false ≡ false
    go true = refl
    go false = refl

pub capped_range : (low high n : ℕ) → high < last_number → range_fault low high (capped n) ≡ range_fault low high n
unfolding range_fault
capped_range low high n h =
    capped_alike (range_fault low high) (λ k above. rw (between_above low high last_number h, between_above low high k (omega arith)) refl) n

-- a code of a header, of a method or of an attribute that is listed
not_listed : (list : NameList) (n : ℕ) → last_number ≤ n → is_listed list n ≡ false
unfolding is_listed method_names request_names response_names attribute_names
not_listed NameList.Methods n h = rw (le-leb 1 n (omega arith), le-ltb n 28 (omega arith)) refl
not_listed NameList.RequestHeaders n h = rw (le-leb 0xA001 n (omega arith), le-ltb n 0xA00F (omega arith)) refl
not_listed NameList.ResponseHeaders n h = rw (le-leb 0xA001 n (omega arith), le-ltb n 0xA00C (omega arith)) refl
not_listed NameList.Attributes n h = rw (le-leb 3 n (omega arith), le-ltb n 14 (omega arith)) refl

pub capped_listed : (list : NameList) (n : ℕ) → is_listed list (capped n) ≡ is_listed list n
capped_listed list =
    capped_alike (is_listed list) (λ k above. not_listed list last_number (omega arith) ∙ sym (not_listed list k (omega arith)))

-- the kind of value that an attribute's code has
pub capped_kind : (n : ℕ) → attribute_kind (capped n) ≡ attribute_kind n
unfolding attribute_kind
capped_kind = capped_alike attribute_kind above
  where
    above : (n : ℕ) → last_number < n → attribute_kind last_number ≡ attribute_kind n
    above n h =
        rw (le-leb 3 n (omega arith), lt-leb n 9 (omega arith), ne_eqb n 10 (λ e. omega (arith, e)), ne_eqb n 11 (λ e. omega (arith, e)), le-leb 12 n (omega arith), lt-leb n 13 (omega arith)) refl

-- whether a building record is possible: a next place above 8192 is not, a count's place behind the next is not, more headers than 100 are not
pub capped_possible : (words buffer : List ℕ)
    → is_possible (building_in words) buffer
    ≡ is_possible (building_fields (building_kind_in (word words kind_place)) (word words next_place) (word words count_place) (word words so_far_place) (flag_in (word words attributes_place))) buffer
unfolding building_in is_possible
capped_possible words buffer = go (leb next max_packet) refl
  where
    next : ℕ
    next = word words next_place

    count : ℕ
    count = word words count_place

    so_far : ℕ
    so_far = word words so_far_place

    code : Bool
    code = eqb (get_or buffer code_place 0) (code_of (built_kind (building_kind_in (word words kind_place))))

    apart : next ≤ max_packet → (k : ℕ) → both (leb payload_place (capped k)) (both (leb (capped k + count_size) next) (both (leb so_far max_headers) code)) ≡ both (leb payload_place k) (both (leb (k + count_size) next) (both (leb so_far max_headers) code))
    apart h = capped_alike (λ k. both (leb payload_place k) (both (leb (k + count_size) next) (both (leb so_far max_headers) code)))
        (λ k above. rw (le-leb payload_place k (omega arith), lt-leb (last_number + count_size) next (omega arith), lt-leb (k + count_size) next (omega arith)) refl)

    go : (t : Bool) → leb next max_packet ≡ t
        → both (leb (capped next) max_packet) (both (leb (capped next) (length buffer)) (both (leb payload_place (capped count)) (both (leb (capped count + count_size) (capped next)) (both (leb (capped so_far) max_headers) code))))
        ≡ both (leb next max_packet) (both (leb next (length buffer)) (both (leb payload_place count) (both (leb (count + count_size) next) (both (leb so_far max_headers) code))))
    go false e = rw (capped_most max_packet next (omega arith), e) refl
    go true e =
        let h = leb-true next max_packet e in
        rw (capped_same next (omega arith), capped_most max_headers so_far (omega arith), apart h count) refl
