-- What is told as declared is what the packet shows: the value of its one content-length. What headers declare so far (`payload`'s definition
-- `Handed`) changes only at a header whose name is content-length: a code is that name's exactly where reading takes it for it, and a name that
-- is spelled out and accepted is no listed one.
-- Assumes nothing.
use native.Mathlib.Omega.{arith}
use borrow.Author.Tests.{leb-true, ltb-true}
use mathlib.Core.Path.{◌≡◌, refl, sym, ap, subst, ◌∙◌}
use mathlib.Core.Bool.{Bool, true, false, false≢true}
use mathlib.Core.List.{List, [], ◌∷◌}
use Prim.Native.Nat.{ℕ, zero, suc, ◌+◌, ◌-◌, ◌*◌, ◌≤◌, ◌<◌}
use lib.Dec.{leb, ltb, lit<}
use lib.ListN.{length, get_or}
use Rattle.wire.specs.Pick.{pick, between, all}
use Rattle.wire.specs.Refusal.{none, name_wrong}
use Rattle.wire.specs.Bytes.{part}
use Rattle.wire.proofs.Tests.{both_first, both_second}
use Rattle.packet.specs.declared.Direction.{Direction}
use Rattle.names.specs.Names.{request_names, names_in, first_code, is_listed, name_for, letter, same_name, code_from, code_in}
use Rattle.names.specs.Header.{code_fault, is_found, unlisted_fault, spelled_fault}
use Rattle.names.specs.Token.{is_token}
use Rattle.headers.specs.Length.{digits, decimal_of, decimal_declared, is_content_length, declared_length}
use Rattle.names.specs.declared.NameList.{NameList}
use Rattle.std.specs.Prelude.{Some, Option, None}
use Rattle.headers.specs.Read.{LengthRead, NameRead}
use Rattle.names.proofs.Rule.{agree}
use Rattle.headers.specs.Headers.{name_at, declared_after}
use Rattle.connection.specs.declared.Connection.{Connection}
use Rattle.packet.specs.declared.Forward.{Forward}
use Rattle.packet.specs.declared.Packet.{Packet}
use Rattle.payload.specs.Forward.{forward_at}
use Rattle.payload.specs.Kinds.{packet_at, packet_kind}
use Rattle.payload.specs.Read.{PacketRead}
use Rattle.payload.specs.Handed.{NameEnds, declares_read, HeadersHanded}
use Rattle.payload.proofs.Handed.{NameFine, name_fine, forward_handed}
use Rattle.reader.specs.Meaning.{accepted, body_declared}
use Rattle.reader.specs.Reading.{reading, table_after}
use Rattle.reading_laws.proofs.Shown.{code_shown, spelled_shown}
use Rattle.messages.specs.Message.{Text, null, text, coded, spelled, is_null, content_of}
use Rattle.messages.specs.Shown.{text_shown, name_shown, headers_shown, header_places, message_shown}
use Rattle.messages.specs.Declared.{names_length, length_values, zero_digit, nine_digit, value_from, most_declared, LengthDeclared, MessageDeclares}
use Rattle.messages.proofs.Texts.{declares_shown}
use Rattle.messages.proofs.Parses.{context_for, accepted_parses}
use Rattle.messages.proofs.Tables.{table_of, table_filled, forward_table}

-- a number that is read from digits is their decimal value, and they are digits
abbrev Counted : ℕ → List ℕ → Option ℕ → Type 0
Counted n bytes None = Unit
Counted n bytes (Some m) = (m ≡ value_from n bytes) × (all (between zero_digit nine_digit) bytes ≡ true) × (m ≤ most_declared)

-- from any number on
digits_count : (n : ℕ) (bytes : List ℕ) → Counted n bytes (digits n bytes)
unfolding digits all
digits_count n [] = go (leb n most_declared) refl
  where
    go : (t : Bool) → leb n most_declared ≡ t → Counted n [] (pick t (Some n) None)
    go true e = (refl, refl, leb-true n most_declared e)
    go false e = tt
digits_count n (b ∷ later) = go (between zero_digit nine_digit b) refl (digits_count (n * 10 + (b - zero_digit)) later)
  where
    by : (r : Option ℕ) → between zero_digit nine_digit b ≡ true → Counted (n * 10 + (b - zero_digit)) later r → Counted n (b ∷ later) r
    by None e h = tt
    by (Some m) e h = (h.0, rw (e, h.1), h.2)

    go : (t : Bool) → between zero_digit nine_digit b ≡ t → Counted (n * 10 + (b - zero_digit)) later (digits (n * 10 + (b - zero_digit)) later)
        → Counted n (b ∷ later) (pick t (digits (n * 10 + (b - zero_digit)) later) None)
    go true e h = by (digits (n * 10 + (b - zero_digit)) later) e h
    go false e h = tt

-- from none
decimal_counts : (bytes : List ℕ) → Counted 0 bytes (decimal_of bytes)
unfolding decimal_of
decimal_counts bytes = go (between 1 10 (length bytes))
  where
    go : (t : Bool) → Counted 0 bytes (pick t (digits 0 bytes) None)
    go true = digits_count 0 bytes
    go false = tt

-- whether reading takes the code at an index of the list for content-length, and whether its name is
abbrev taken : ℕ → Bool
taken k = is_content_length (first_code NameList.RequestHeaders + k)

abbrev named : ℕ → Bool
named k = names_length (coded (first_code NameList.RequestHeaders + k))

-- of the listed codes, reading takes exactly that of content-length for it: antt looks at each of them
code_names : (code : ℕ) → code_fault Direction.ToContainer code ≡ none → is_content_length code ≡ names_length (coded code)
unfolding code_fault is_listed request_names name_for letter same_name
code_names code fine = go (is_listed NameList.RequestHeaders code) refl fine
  where
    go : (t : Bool) → is_listed NameList.RequestHeaders code ≡ t → pick t none name_wrong ≡ none → is_content_length code ≡ names_length (coded code)
    go false e q = absurd (omega arith)
    go true e q =
        let first : ℕ = first_code NameList.RequestHeaders in
        let many : ℕ = length (names_in NameList.RequestHeaders) in
        let least : first ≤ code = leb-true first code (both_first (leb first code) (ltb code (first + many)) e) in
        let most : code < first + many = ltb-true code (first + many) (both_second (leb first code) (ltb code (first + many)) e) in
        let is : first + (code - first) ≡ code = omega arith in
        ap is_content_length (sym is) ∙ agree taken named false many refl (code - first) (omega arith) ∙ ap (λ (n : ℕ). names_length (coded n)) is

-- a text that spells none of these names does not spell the one at an index
not_spelled : (first : ℕ) (names : List (List ℕ)) (bytes : List ℕ) (i : ℕ) → i < length names → is_found (code_from true first names bytes) ≡ false
    → same_name true (get_or names i []) bytes ≡ false
unfolding code_from
not_spelled first [] bytes i h e = absurd (omega arith)
not_spelled first (name ∷ names) bytes zero h e = go (same_name true name bytes) e
  where
    go : (t : Bool) → is_found (pick t (Some first) (code_from true (first + 1) names bytes)) ≡ false → t ≡ false
    go true e = e
    go false e = refl
not_spelled first (name ∷ names) bytes (suc i) h e =
    go (same_name true name bytes) e (not_spelled (first + 1) names bytes i (omega arith))
  where
    go : (t : Bool) → is_found (pick t (Some first) (code_from true (first + 1) names bytes)) ≡ false
        → (is_found (code_from true (first + 1) names bytes) ≡ false → same_name true (get_or names i []) bytes ≡ false)
        → same_name true (get_or names i []) bytes ≡ false
    go true e so = absurd (false≢true (sym e))
    go false e so = so e

-- the index of content-length in the list
abbrev length_index : ℕ
length_index = 7

-- a name that is spelled out and has no fault is not content-length
spelled_names : (bytes : List ℕ) → spelled_fault Direction.ToContainer bytes ≡ none → names_length (spelled bytes) ≡ false
unfolding spelled_fault code_in request_names
spelled_names bytes fine = by_token (is_token bytes) fine
  where
    by_found : (t : Bool) → is_found (code_in NameList.RequestHeaders bytes) ≡ t → pick t name_wrong (unlisted_fault Direction.ToContainer bytes) ≡ none
        → names_length (spelled bytes) ≡ false
    by_found true e q = absurd (omega arith)
    by_found false e q = not_spelled (first_code NameList.RequestHeaders) (names_in NameList.RequestHeaders) bytes length_index (lit< tt) e

    by_token : (t : Bool)
        → pick t (pick (is_found (code_in NameList.RequestHeaders bytes)) name_wrong (unlisted_fault Direction.ToContainer bytes)) name_wrong ≡ none
        → names_length (spelled bytes) ≡ false
    by_token true q = by_found (is_found (code_in NameList.RequestHeaders bytes)) refl q
    by_token false q = absurd (omega arith)

-- what a header makes of what was declared before it, by whether its name is content-length: nothing, or its value is the first one
abbrev Makes : Option ℕ → Option ℕ → Text → Bool → Type 0
Makes before after value false = after ≡ before
Makes None after null true = ⊥
Makes None after (text bytes) true = (n : ℕ) × (decimal_of bytes ≡ Some n) × (after ≡ Some n)
Makes (Some n) after value true = ⊥

-- reading lets it declare just that
declared_makes : (before : Option ℕ) (value : Text) (t : Bool) (after : Option ℕ)
    → declared_after t before (is_null value) (content_of value) ≡ LengthRead.Now after → Makes before after value t
unfolding declared_after
declared_makes before value false after e = cc
declared_makes None null true after e = absurd (let z : ◌≡◌ {A = ℕ} 0 1 = cc in omega arith)
declared_makes None (text bytes) true after e = go (decimal_of bytes) refl e
  where
    go : (r : Option ℕ) → decimal_of bytes ≡ r → decimal_declared r ≡ LengthRead.Now after → Makes None after (text bytes) true
    go None q h = absurd (let z : ◌≡◌ {A = ℕ} 0 1 = cc in omega arith)
    go (Some n) q h = let known : after ≡ Some n = cc in (n, q, known)
declared_makes (Some n) value true after e = absurd (let z : ◌≡◌ {A = ℕ} 0 1 = cc in omega arith)

-- a name that was read is shown as content-length exactly where reading takes its value for the length
name_declares : (s : List ℕ) (at end : ℕ) → NameEnds end (name_at Direction.ToContainer s at)
    → declares_read Direction.ToContainer (name_at Direction.ToContainer s at) ≡ names_length (name_shown s at)
name_declares s at end = go (name_at Direction.ToContainer s at) refl (name_fine Direction.ToContainer s at)
  where
    go : (r : NameRead) → name_at Direction.ToContainer s at ≡ r → NameFine Direction.ToContainer s at r → NameEnds end r
        → declares_read Direction.ToContainer r ≡ names_length (name_shown s at)
    go (NameRead.Refused n) e fine ends = absurd ends
    go (NameRead.Code code next) e fine ends =
        let shown : name_shown s at ≡ coded code = rw (code_shown Direction.ToContainer s at code next e) in
        code_names code fine.2 ∙ sym (ap names_length shown)
    go (NameRead.Spelled start len next) e fine ends =
        let name = spelled_shown Direction.ToContainer s at start len next e in
        let shown : name_shown s at ≡ spelled (part s start len) = rw (name.0, name.1) in
        sym (ap names_length shown ∙ spelled_names (part s start len) fine.2)

-- what headers make of what was declared before them, by the values of those that are content-length: at most one, and none behind one
abbrev MakeAll : Option ℕ → Option ℕ → List Text → Type 0
MakeAll None after [] = after ≡ None
MakeAll None after (null ∷ later) = ⊥
MakeAll None after (text bytes ∷ later) =
    (n : ℕ) × (decimal_of bytes ≡ Some n) × (after ≡ Some n) × (later ≡ [])
MakeAll (Some n) after values = (after ≡ Some n) × (values ≡ [])

-- a header in front of others
make_more : (before middle after : Option ℕ) (value : Text) (t : Bool) (values : List Text) → Makes before middle value t
    → MakeAll middle after values → MakeAll before after (pick t (value ∷ values) values)
make_more before middle after value false values h later = subst (λ (d : Option ℕ). MakeAll d after values) h later
make_more None middle after null true values h later = absurd h
make_more None middle after (text bytes) true values h later =
    let known = subst (λ (d : Option ℕ). MakeAll d after values) h.2 later in
    (h.0, h.1, known.0, known.1)
make_more (Some n) middle after value true values h later = absurd h

-- headers that were read make all that of what was declared before them
headers_make : (s : List ℕ) (at : ℕ) (before : Option ℕ) (places : List ℕ) (end : ℕ) (after : Option ℕ)
    → HeadersHanded Direction.ToContainer s at before places end after → MakeAll before after (length_values (headers_shown s places))
headers_make s at None [] end after h = sym h.1
headers_make s at (Some n) [] end after h = (sym h.1, refl)
headers_make s at before (p ∷ []) end after h = absurd h
headers_make s at before (p ∷ q ∷ rest) end after (next, place, named, there, declared, now, later) =
    let is : Bool = declares_read Direction.ToContainer (name_at Direction.ToContainer s p) in
    let made : Makes before declared (text_shown s q) (names_length (name_shown s p)) =
    subst (Makes before declared (text_shown s q)) (name_declares s p q named)
    (declared_makes before (text_shown s q) is declared (declares_shown s q next is before declared there now)) in
    make_more before declared after (text_shown s q) (names_length (name_shown s p)) (length_values (headers_shown s rest)) made
    (headers_make s next declared rest end after later)

-- from none on they declare the decimal value of the one
all_declared : (after : Option ℕ) (values : List Text) → MakeAll None after values → LengthDeclared (declared_length after) values
all_declared after [] h = rw h
all_declared after (null ∷ later) h = absurd h
all_declared after (text bytes ∷ later) h =
    let n : ℕ = h.0 in
    let value : Counted 0 bytes (Some n) = subst (Counted 0 bytes) h.1 (decimal_counts bytes) in
    subst (λ (d : Option ℕ). LengthDeclared (declared_length d) (text bytes ∷ later)) (sym h.2)
    (subst (λ (l : List Text). LengthDeclared n (text bytes ∷ l)) (sym h.3) value)

-- a Forward declares what the headers at its places in the table do
forward_declares : (s table : List ℕ) (f : Forward) → (forward_at s).end ≡ PacketRead.Packet (Packet.Forward f)
    → (let p = Packet.Forward f in LengthDeclared f.declared.0 (length_values (headers_shown s (header_places p (table_of p s table)))))
forward_declares s table f e =
    let handed = forward_handed s f e in
    let lists = handed.lists in
    let shown : List Text = length_values (headers_shown s lists.of_headers) in
    let made = headers_make s handed.lists_place None lists.of_headers lists.middle lists.of_length lists.headers_there in
    subst (λ (l : List ℕ). LengthDeclared f.declared.0 (length_values (headers_shown s l))) (sym (forward_table s table f e).0)
    (subst (λ (n : ℕ). LengthDeclared n shown) (sym lists.declared_is) (all_declared lists.of_length shown made))

-- a packet declares what the message that it shows does
packet_declares : (p : Packet) (s table : List ℕ) → (packet_at (context_for (packet_kind p)) (packet_kind p) s).end ≡ PacketRead.Packet p
    → MessageDeclares (body_declared p) (message_shown p s (table_of p s table))
unfolding message_shown
packet_declares Packet.CPing s table e = refl
packet_declares Packet.CPong s table e = refl
packet_declares (Packet.Forward f) s table e = forward_declares s table f e
packet_declares (Packet.Body p) s table e = refl
packet_declares (Packet.GetBody asked) s table e = refl
packet_declares (Packet.SendHeaders h) s table e = refl
packet_declares (Packet.BodyChunk p) s table e = refl
packet_declares (Packet.End reuse) s table e = refl

-- what is told as declared of an accepted packet is what the message that it shows declares
pub accepted_declares : (d : Direction) (c : Connection) (s table : List ℕ) (p : Packet) (n : ℕ) (next : Connection)
    → reading d c s (length table) ≡ accepted p n next
    → MessageDeclares (body_declared p) (message_shown p (part s 0 n) (table_after d c s table))
accepted_declares d c s table p n next e =
    subst (λ (l : List ℕ). MessageDeclares (body_declared p) (message_shown p (part s 0 n) l)) (sym (table_filled d c s table p n next e))
    (packet_declares p (part s 0 n) table (accepted_parses d c s (length table) p n next e).parses.fields_are)
