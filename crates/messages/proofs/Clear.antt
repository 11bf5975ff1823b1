-- No zero and no line end in any string, all by the one rule of strings (`allowed_clear` in `wire`): a string that reading let by, or that
-- building found no fault in, may stand in its field, and a text that may is clear.
-- Assumes nothing.
use mathlib.Core.Path.{◌≡◌, refl, sym, ap, subst, ◌∙◌}
use mathlib.Core.Bool.{Bool, true, false}
use mathlib.Core.List.{List, [], ◌∷◌, ◌++◌}
use Prim.Native.Nat.{ℕ, ◌+◌, ◌≤◌}
use native.Mathlib.Omega.{arith}
use borrow.Author.Tests.{eqb-true}
use lib.Dec.{eqb}
use lib.ListN.{length, get_or}
use lib.Seq.{take-length}
use Rattle.wire.specs.Pick.{pick}
use Rattle.wire.specs.Refusal.{none, string_wrong}
use Rattle.wire.specs.Bytes.{part}
use Rattle.wire.specs.Field.{string_at, is_optional, string_allowed}
use Rattle.wire.specs.Facts.{Clear}
use Rattle.wire.specs.declared.StringField.{StringField}
use Rattle.wire.specs.Read.{StringRead}
use Rattle.wire.proofs.Field.{text_read}
use Rattle.wire.proofs.Clear.{allowed_clear}
use Rattle.packet.specs.declared.Direction.{Direction}
use Rattle.packet.specs.declared.AttributeKind.{AttributeKind}
use Rattle.packet.specs.declared.Forward.{Forward}
use Rattle.packet.specs.declared.SendHeaders.{SendHeaders}
use Rattle.packet.specs.declared.Packet.{Packet}
use Rattle.names.specs.Attribute.{attribute_kind}
use Rattle.names.specs.Header.{header_names, spelled_fault}
use Rattle.names.specs.Names.{code_in}
use Rattle.std.specs.Prelude.{Option, Some, None}
use Rattle.headers.specs.Headers.{name_at, declares}
use Rattle.headers.specs.Read.{NameRead}
use Rattle.connection.specs.declared.Connection.{Connection}
use Rattle.places.specs.Entries.{max_places}
use Rattle.payload.specs.Forward.{forward_at}
use Rattle.payload.specs.SendHeaders.{send_headers_at}
use Rattle.payload.specs.Kinds.{packet_at, packet_kind}
use Rattle.payload.specs.Read.{PacketRead}
use Rattle.payload.specs.Handed.{StringEnds, NameEnds, StringThere, HeadersHanded, ValueThere, AttributesHanded}
use Rattle.payload.proofs.Handed.{NameFine, name_fine, forward_handed, send_headers_handed}
use Rattle.building.specs.Fault.{string_fault, first_fault}
use Rattle.building.specs.Call.{Call, with_fault, refused, done, outcome, refusal_of}
use Rattle.building.specs.Sent.{Written}
use Rattle.building.proofs.Faults.{faultless, faults_append}
use Rattle.building.proofs.Sizes.{or_first}
use Rattle.building_record.specs.declared.Building.{Building}
use Rattle.building_record.specs.Record.{direction_in}
use Rattle.pieces.specs.declared.forward.Numbers.{Numbers}
use Rattle.pieces.specs.declared.forward.Nulls.{Nulls}
use Rattle.pieces.specs.Fixed.{forward_call, send_headers_call}
use Rattle.pieces.specs.Header.{value_fault, coded_call, spelled_call, named_call, named_by}
use Rattle.pieces.specs.Attribute.{text_call, pair_call}
use Rattle.reader.specs.Meaning.{accepted}
use Rattle.reader.specs.Reading.{reading, table_after}
use Rattle.reading_laws.proofs.Shown.{text_shown_lem, null_shown, code_shown, spelled_shown}
use Rattle.views.specs.View.{null_view, text_view}
use Rattle.closing.specs.Closing.{closed_packet, close_outcome, close_buffer}
use Rattle.closing.proofs.Laws.{close_done}
use Rattle.messages.specs.Message.{null, text, MessageName}
use Rattle.messages.specs.Shown.{text_shown, name_by, name_shown, headers_shown, value_by, attributes_shown, attribute_places, shown_by, message_shown}
use Rattle.messages.specs.Clear.{AllClear, texts_of, name_texts, headers_texts, value_texts, attributes_texts, texts_in, Piece, begin_forward, begin_forward_with, begin_send_headers, header_coded, header_spelled, header_named, attribute_text, attribute_integer, attribute_pair, given, named_texts, fixed_texts, piece_row, ShownClear, StringsClear}
use Rattle.messages.proofs.Parses.{context_for, accepted_parses}
use Rattle.messages.proofs.Tables.{table_of, table_filled, forward_table, send_headers_table}

-- texts and others behind them
all_append : (these those : List (List ℕ)) → AllClear these → AllClear those → AllClear (these ++ those)
all_append [] those h k = k
all_append (bytes ∷ later) those h k = (h.0, all_append later those h.1 k)

-- the text of a string that was read as one
text_clear : (s : List ℕ) (at : ℕ) (field : StringField) (start len next : ℕ) → string_at s at (is_optional field) ≡ StringRead.Text start len next
    → Clear (text_view s at)
text_clear s at field start len next e =
    subst Clear (sym (text_shown_lem s at (is_optional field) start len next e).1)
    (allowed_clear (is_optional field) (part s start len) (text_read s at (is_optional field) start len next e).may_stand)

-- what is shown of a string that was read; of null there is nothing
view_clear : (s : List ℕ) (at : ℕ) (field : StringField) (end : ℕ) → StringThere s field at end → Clear (text_view s at)
view_clear s at field end h = go (string_at s at (is_optional field)) refl h
  where
    go : (r : StringRead) → string_at s at (is_optional field) ≡ r → StringEnds end r → Clear (text_view s at)
    go (StringRead.Refused n) e q = absurd q
    go (StringRead.Null next) e q = subst Clear (sym (null_shown s at (is_optional field) next e).1) (λ i h. absurd (omega arith))
    go (StringRead.Text start len next) e q = text_clear s at field start len next e

-- and the string of the message
shown_clear : (s : List ℕ) (at : ℕ) (field : StringField) (end : ℕ) → StringThere s field at end → AllClear (texts_of (text_shown s at))
shown_clear s at field end h = go (null_view s at) (view_clear s at field end h)
  where
    go : (t : Bool) → Clear (text_view s at) → AllClear (texts_of (pick t null (text (text_view s at))))
    go true clear = tt
    go false clear = (clear, tt)

-- a header's name that was read
name_clear : (d : Direction) (s : List ℕ) (at end : ℕ) → NameEnds end (name_at d s at) → AllClear (name_texts (name_shown s at))
name_clear d s at end = go (name_at d s at) refl (name_fine d s at)
  where
    go : (r : NameRead) → name_at d s at ≡ r → NameFine d s at r → NameEnds end r → AllClear (name_texts (name_shown s at))
    go (NameRead.Refused n) e fine ends = absurd ends
    go (NameRead.Code code next) e fine ends =
        subst (λ (name : MessageName). AllClear (name_texts name)) (sym (ap (name_by s at) (code_shown d s at code next e))) tt
    go (NameRead.Spelled start len next) e fine ends =
        subst (λ (name : MessageName). AllClear (name_texts name)) (sym (ap (name_by s at) (spelled_shown d s at start len next e).0))
        (text_clear s at StringField.HeaderName start len next fine.1, tt)

-- headers that were read
headers_clear : (d : Direction) (s : List ℕ) (at : ℕ) (before : Option ℕ) (places : List ℕ) (end : ℕ) (after : Option ℕ)
    → HeadersHanded d s at before places end after → AllClear (headers_texts (headers_shown s places))
headers_clear d s at before [] end after h = tt
headers_clear d s at before (p ∷ []) end after h = tt
headers_clear d s at before (p ∷ q ∷ rest) end after (next, place, named, there, declared, now, later) =
    let behind : List (List ℕ) = headers_texts (headers_shown s rest) in
    all_append (name_texts (name_shown s p)) (texts_of (text_shown s q) ++ behind) (name_clear d s p q named)
    (all_append (texts_of (text_shown s q)) behind (shown_clear s q StringField.HeaderValue next there)
    (headers_clear d s next declared rest end after later))

-- an attribute's value that was read
value_clear : (s : List ℕ) (at value end : ℕ) (kind : AttributeKind) → ValueThere s kind (at + 1) value end → AllClear (value_texts (value_by s at value kind))
value_clear s at value end AttributeKind.NotServed h = tt
value_clear s at value end AttributeKind.Text h = shown_clear s value StringField.AttributeValue end h.1
value_clear s at value end AttributeKind.Integer h = tt
value_clear s at value end AttributeKind.Pair h =
    (view_clear s (at + 1) StringField.AttributeName value h.0, shown_clear s value StringField.AttributeValue end h.1)

-- attributes that were read
attributes_clear : (s : List ℕ) (at : ℕ) (places : List ℕ) (end : ℕ) → AttributesHanded s at places end → AllClear (attributes_texts (attributes_shown s places))
attributes_clear s at [] end h = tt
attributes_clear s at (p ∷ []) end h = tt
attributes_clear s at (p ∷ q ∷ rest) end (next, place, there, later) =
    all_append (value_texts (value_by s p q (attribute_kind (get_or s p 0)))) (attributes_texts (attributes_shown s rest))
    (value_clear s p q next (attribute_kind (get_or s p 0)) there)
    (attributes_clear s next rest end later)

-- a Forward that was read, by where its headers and attributes are
forward_clear : (s : List ℕ) (f : Forward) (e : (forward_at s).end ≡ PacketRead.Packet (Packet.Forward f))
    → (let lists = (forward_handed s f e).lists in AllClear (texts_in (shown_by (Packet.Forward f) s lists.of_headers lists.of_attributes)))
forward_clear s f e =
    let h = forward_handed s f e in
    let lists = h.lists in
    let headers : List (List ℕ) = headers_texts (headers_shown s lists.of_headers) in
    let attributes : List (List ℕ) = attributes_texts (attributes_shown s lists.of_attributes) in
    let name : List (List ℕ) = texts_of (text_shown s f.server_name.0) in
    let host : List (List ℕ) = texts_of (text_shown s f.remote_host.0) in
    let addr : List (List ℕ) = texts_of (text_shown s f.remote_addr.0) in
    let uri : List (List ℕ) = texts_of (text_shown s f.req_uri.0) in
    let protocol : List (List ℕ) = texts_of (text_shown s f.protocol.0) in
    all_append protocol (uri ++ (addr ++ (host ++ (name ++ (headers ++ attributes)))))
    (shown_clear s f.protocol.0 StringField.Protocol f.req_uri.0 h.protocol_there)
    (all_append uri (addr ++ (host ++ (name ++ (headers ++ attributes))))
    (shown_clear s f.req_uri.0 StringField.ReqUri f.remote_addr.0 h.uri_there)
    (all_append addr (host ++ (name ++ (headers ++ attributes)))
    (shown_clear s f.remote_addr.0 StringField.RemoteAddr f.remote_host.0 h.addr_there)
    (all_append host (name ++ (headers ++ attributes))
    (shown_clear s f.remote_host.0 StringField.RemoteHost f.server_name.0 h.host_there)
    (all_append name (headers ++ attributes) (shown_clear s f.server_name.0 StringField.ServerName h.port_place h.name_there)
    (all_append headers attributes
    (headers_clear Direction.ToContainer s h.lists_place None lists.of_headers lists.middle lists.of_length lists.headers_there)
    (attributes_clear s lists.middle lists.of_attributes (length s) lists.attributes_there))))))

-- a Send Headers that was read
send_headers_clear : (s : List ℕ) (h : SendHeaders) → (send_headers_at s).end ≡ PacketRead.Packet (Packet.SendHeaders h)
    → AllClear (texts_in (shown_by (Packet.SendHeaders h) s (send_headers_at s).places []))
send_headers_clear s response e =
    let h = send_headers_handed s response e in
    all_append (texts_of (text_shown s response.message.0)) (headers_texts (headers_shown s (send_headers_at s).places))
    (shown_clear s response.message.0 StringField.Message h.count_place h.message_there)
    (headers_clear Direction.ToServer s h.headers_place None (send_headers_at s).places (length s) None h.headers_there)

-- a packet that was read shows a message with clear strings
packet_clear : (p : Packet) (s table : List ℕ) → (packet_at (context_for (packet_kind p)) (packet_kind p) s).end ≡ PacketRead.Packet p
    → AllClear (texts_in (message_shown p s (table_of p s table)))
unfolding message_shown
packet_clear Packet.CPing s table e = tt
packet_clear Packet.CPong s table e = tt
packet_clear (Packet.Forward f) s table e =
    let p : Packet = Packet.Forward f in
    let lists = (forward_handed s f e).lists in
    let places = forward_table s table f e in
    subst (λ (l : List ℕ). AllClear (texts_in (shown_by p s l (attribute_places p (table_of p s table))))) (sym places.0)
    (subst (λ (l : List ℕ). AllClear (texts_in (shown_by p s lists.of_headers l))) (sym places.1) (forward_clear s f e))
packet_clear (Packet.Body p) s table e = tt
packet_clear (Packet.GetBody asked) s table e = tt
packet_clear (Packet.SendHeaders h) s table e =
    subst (λ (l : List ℕ). AllClear (texts_in (shown_by (Packet.SendHeaders h) s l []))) (sym (send_headers_table s table h e)) (send_headers_clear s h e)
packet_clear (Packet.BodyChunk p) s table e = tt
packet_clear (Packet.End reuse) s table e = tt

-- so does every accepted packet
read_clear : (d : Direction) (c : Connection) (s table : List ℕ) (p : Packet) (n : ℕ) (next : Connection)
    → reading d c s (length table) ≡ accepted p n next → AllClear (texts_in (message_shown p (part s 0 n) (table_after d c s table)))
read_clear d c s table p n next e =
    subst (λ (l : List ℕ). AllClear (texts_in (message_shown p (part s 0 n) l))) (sym (table_filled d c s table p n next e))
    (packet_clear p (part s 0 n) table (accepted_parses d c s (length table) p n next e).parses.fields_are)

-- a call that is done found no fault
done_faultless : {A : Type 0} (call : Call A) (room : ℕ) (a : A) → outcome call room ≡ done a → first_fault call.faults ≡ 0
unfolding outcome refusal_of
done_faultless call room a e = go (eqb (refusal_of call room) none) refl e
  where
    go : (t : Bool) → eqb (refusal_of call room) none ≡ t → pick t (done call.answer) (refused (refusal_of call room)) ≡ done a
        → first_fault call.faults ≡ 0
    go true q h = or_first (first_fault call.faults) _ (eqb-true (refusal_of call room) none q)
    go false q h = absurd (let z : ◌≡◌ {A = ℕ} 0 1 = cc in omega arith)

-- a string in which building finds no fault
fault_clear : (field : StringField) (absent : Bool) (bytes : List ℕ) → string_fault field absent bytes ≡ 0 → AllClear (given absent bytes)
unfolding string_fault
fault_clear field true bytes e = tt
fault_clear field false bytes e = (allowed_clear (is_optional field) bytes (go (string_allowed (is_optional field) false bytes) e), tt)
  where
    go : (t : Bool) → pick t none string_wrong ≡ 0 → t ≡ true
    go true h = refl
    go false h = absurd (omega arith)

-- a header's value
value_fine : (is_length no_value : Bool) (value : List ℕ) → value_fault is_length no_value value ≡ 0 → AllClear (given no_value value)
unfolding value_fault
value_fine is_length no_value value e = fault_clear StringField.HeaderValue no_value value (or_first (string_fault StringField.HeaderValue no_value value) _ e)

-- a header by its code
coded_piece_clear : (r : Building) (buffer : List ℕ) (code : ℕ) (no_value : Bool) (value : List ℕ) → first_fault (coded_call r buffer code no_value value).faults ≡ 0
    → AllClear (given no_value value)
unfolding coded_call
coded_piece_clear r buffer code no_value value e = value_fine (declares (direction_in r) code) no_value value (faultless (coded_call r buffer code no_value value).faults e).1.1.0

-- a header with a spelled name
spelled_piece_clear : (r : Building) (buffer : List ℕ) (no_name : Bool) (name : List ℕ) (no_value : Bool) (value : List ℕ)
    → first_fault (spelled_call r buffer no_name name no_value value).faults ≡ 0 → AllClear (given no_name name ++ given no_value value)
unfolding spelled_call
spelled_piece_clear r buffer no_name name no_value value e =
    let fine = faultless (spelled_call r buffer no_name name no_value value).faults e in
    all_append (given no_name name) (given no_value value)
    (fault_clear StringField.HeaderName no_name name (or_first (string_fault StringField.HeaderName no_name name) (spelled_fault (direction_in r) name) fine.1.0))
    (value_fine false no_value value fine.1.1.0)

-- where a call with a fault more has none, the call itself has none
with_faultless : {A : Type 0} (call : Call A) (fault : ℕ) → first_fault (with_fault call fault).faults ≡ 0 → first_fault call.faults ≡ 0
with_faultless call fault e =
    or_first (first_fault call.faults) fault (sym (faults_append 0 call.faults (fault ∷ [])) ∙ e)

-- a Forward's fixed strings
fixed_clear : (numbers : Numbers) (nulls : Nulls) (protocol uri addr host name : List ℕ)
    → first_fault (forward_call numbers nulls protocol uri addr host name).faults ≡ 0 → AllClear (fixed_texts nulls protocol uri addr host name)
unfolding forward_call
fixed_clear numbers nulls protocol uri addr host name e =
    let fine = faultless (forward_call numbers nulls protocol uri addr host name).faults e in
    let names : List (List ℕ) = given nulls.server_name name in
    let hosts : List (List ℕ) = given nulls.remote_host host in
    let addrs : List (List ℕ) = given nulls.remote_addr addr in
    let uris : List (List ℕ) = given nulls.req_uri uri in
    all_append (given nulls.protocol protocol) (uris ++ (addrs ++ (hosts ++ names)))
    (fault_clear StringField.Protocol nulls.protocol protocol fine.1.1.0)
    (all_append uris (addrs ++ (hosts ++ names)) (fault_clear StringField.ReqUri nulls.req_uri uri fine.1.1.1.0)
    (all_append addrs (hosts ++ names) (fault_clear StringField.RemoteAddr nulls.remote_addr addr fine.1.1.1.1.0)
    (all_append hosts names (fault_clear StringField.RemoteHost nulls.remote_host host fine.1.1.1.1.1.0)
    (fault_clear StringField.ServerName nulls.server_name name fine.1.1.1.1.1.1.0))))

-- a piece without fault writes clear strings
piece_clear : (piece : Piece) → first_fault (piece_row piece).call.faults ≡ 0 → AllClear (piece_row piece).texts
unfolding send_headers_call named_call text_call pair_call
piece_clear (begin_forward numbers nulls protocol uri addr host name) e = fixed_clear numbers nulls protocol uri addr host name e
piece_clear (begin_forward_with fault numbers nulls protocol uri addr host name) e =
    fixed_clear numbers nulls protocol uri addr host name
    (with_faultless (forward_call numbers nulls protocol uri addr host name) fault e)
piece_clear (begin_send_headers status no_message message) e =
    fault_clear StringField.Message no_message message (faultless (send_headers_call status no_message message).faults e).1.1.0
piece_clear (header_coded r buffer code no_value value) e = coded_piece_clear r buffer code no_value value e
piece_clear (header_spelled r buffer no_name name no_value value) e = spelled_piece_clear r buffer no_name name no_value value e
piece_clear (header_named r buffer name no_value value) e = go (code_in (header_names (direction_in r)) name) e
  where
    go : (found : Option ℕ) → first_fault (named_by r buffer name no_value value found).faults ≡ 0 → AllClear (named_texts name no_value value found)
    go (Some code) h = coded_piece_clear r buffer code no_value value h
    go None h = spelled_piece_clear r buffer false name no_value value h
piece_clear (attribute_text r buffer code no_value value) e =
    fault_clear StringField.AttributeValue no_value value (faultless (text_call r buffer code no_value value).faults e).1.1.0
piece_clear (attribute_integer r buffer code value) e = tt
piece_clear (attribute_pair r buffer code no_name name no_value value) e =
    let fine = faultless (pair_call r buffer code no_name name no_value value).faults e in
    all_append (given no_name name) (given no_value value) (fault_clear StringField.AttributeName no_name name fine.1.1.0) (fault_clear StringField.AttributeValue no_value value fine.1.1.1.0)

-- a packet that is closed is one that is accepted
closed_clear : (c : Connection) (r : Building) (buffer : List ℕ) (w : Written) → close_outcome c r buffer ≡ done w
    → (table : List ℕ) → max_places ≤ length table
    → ShownClear (direction_in r) c (part (close_buffer c r buffer) 0 w.size) table w.connection
unfolding part
closed_clear c r buffer w e table room =
    let d : Direction = direction_in r in
    let shut = close_done c r buffer w e in
    let s : List ℕ = closed_packet r buffer in
    let whole : part s 0 (length s) ≡ s = take-length s in
    let reads : reading d c s (length table) ≡ accepted shut.packet (length s) w.connection =
    subst (λ (n : ℕ). reading d c s (length table) ≡ accepted shut.packet n w.connection) (sym shut.packet_size) (shut.reads (length table) room) in
    subst (λ (l : List ℕ). ShownClear d c l table w.connection) (sym shut.packet_is)
    (record {
      packet = shut.packet;
      answer = reads;
      clear =
          subst (λ (l : List ℕ). AllClear (texts_in (message_shown shut.packet l (table_after d c s table)))) whole
          (read_clear d c s table shut.packet (length s) w.connection reads);
    })

-- no zero and no line end in any string that is handed out or written
pub strings_clear : StringsClear
strings_clear = record {
  read = read_clear;
  added = λ piece room r e. piece_clear piece (done_faultless (piece_row piece).call room r e);
  closed = closed_clear;
}
