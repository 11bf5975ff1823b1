-- What was read stands as it would be written: the bytes of a field, a header or an attribute that was handed out (`payload`'s definition
-- `Handed`) are those of what the views show of it, and building finds no fault in that, since it asks for nothing that reading did not ask for.
-- Assumes nothing.
use native.Mathlib.Omega.{arith}
use mathlib.Core.Path.{◌≡◌, refl, sym, ap, subst, ◌∙◌}
use mathlib.Core.Bool.{Bool, true, false, false≢true}
use mathlib.Core.List.{List, [], ◌∷◌, ◌++◌, append_assoc}
use Prim.Native.Nat.{ℕ, ◌+◌, ◌-◌, ◌≤◌, ◌<◌}
use lib.ListN.{length, get_or, drop}
use Rattle.wire.specs.Refusal.{none}
use Rattle.wire.specs.Bytes.{part, integer_in, integer_bytes}
use Rattle.wire.specs.Field.{byte_at, integer_at, boolean_at, boolean_bytes, string_at, is_optional, string_allowed}
use Rattle.packet.specs.declared.Direction.{Direction}
use Rattle.wire.specs.declared.StringField.{StringField}
use Rattle.wire.specs.Read.{NumberRead, BooleanRead, StringRead}
use Rattle.wire.proofs.Bytes.{part_none, part_one}
use Rattle.wire.proofs.Field.{boolean_inside, text_read, null_read}
use Rattle.wire.specs.Facts.{TextRead, NullRead, Bytes}
use Rattle.wire.proofs.RoundTrip.{integer_kept, boolean_kept, text_kept, null_kept}
use Rattle.wire.proofs.Parts.{rest_part, part_join}
use Rattle.names.specs.Header.{code_fault, spelled_fault}
use Rattle.names.specs.Attribute.{attribute_kind}
use Rattle.packet.specs.declared.AttributeKind.{AttributeKind}
use Rattle.std.specs.Prelude.{Option, Some, None}
use Rattle.headers.specs.Read.{LengthRead, NameRead}
use Rattle.headers.specs.Headers.{name_at, declares, declared_after}
use Rattle.attributes.specs.Attributes.{last_mark}
use Rattle.payload.specs.Handed.{StringEnds, NumberEnds, NameEnds, StringThere, read_null, read_bytes, DeclaresThen, HeadersHanded, ValueThere, AttributesHanded}
use Rattle.payload.proofs.Handed.{NameFine, name_fine, number_found}
use Rattle.building.specs.Fault.{or_else, string_fault, fault_after}
use Rattle.building.specs.Field.{Field, plain, string_field, faults_of, fields_bytes}
use Rattle.pieces.specs.Header.{coded_name, spelled_name, length_fault, value_fault, header_value}
use Rattle.pieces.specs.Attribute.{is_text, is_integer, is_pair, code_field}
use Rattle.views.specs.View.{integer_view, text_view}
use Rattle.reading_laws.proofs.Shown.{integer_shown, text_shown_lem, code_shown, spelled_shown}
use Rattle.messages.specs.Message.{Text, MessageName, is_null, content_of, NameFits, HeadersFit, ValueFits, AttributesFit}
use Rattle.messages.specs.Bytes.{fields_by, headers_bytes, value_fields, attributes_bytes}
use Rattle.messages.specs.Shown.{text_shown, name_by, name_shown, headers_shown, value_by, attributes_shown}
use Rattle.messages.proofs.Fine.{FieldsFine, HeadersFine, AttributesFine}
use Rattle.messages.proofs.Texts.{text_field, null_told, text_told, declares_shown}

-- a packet has these bytes from a place to another
pub record Held (s : List ℕ) (at end : ℕ) (bytes : List ℕ) : Type 0 where
  pub forth : at ≤ end
  pub inside : end ≤ length s
  pub are : part s at (end - at) ≡ bytes

-- none, up to the same place
pub held_none : (s : List ℕ) (at : ℕ) → at ≤ length s → Held s at at []
unfolding part
held_none s at h = record { forth = omega arith; inside = h; are = part_none s at }

-- one byte
pub held_byte : (s : List ℕ) (at : ℕ) → at + 1 ≤ length s → Held s at (at + 1) (get_or s at 0 ∷ [])
held_byte s at h =
    let one : at + 1 - at ≡ 1 = omega arith in
    record { forth = omega arith; inside = h; are = ap (part s at) one ∙ part_one s at (omega arith) }

-- so many bytes
pub held_part : (s : List ℕ) (at len : ℕ) → at + len ≤ length s → Held s at (at + len) (part s at len)
held_part s at len h =
    let many : at + len - at ≡ len = omega arith in
    record { forth = omega arith; inside = h; are = ap (part s at) many }

-- bytes, and others where they end
pub held_join : {s : List ℕ} {at middle end : ℕ} {a b : List ℕ} → Held s at middle a → Held s middle end b → Held s at end (a ++ b)
held_join {s} {at} {middle} {end} p q = record {
  forth = omega (arith, p.forth, q.forth);
  inside = q.inside;
  are = part_join s at middle end p.forth q.forth ∙ rw (p.are, q.are);
}

-- a field without fault has its bytes there
pub record FieldKept (s : List ℕ) (at end : ℕ) (field : Field) : Type 0 where
  pub held : Held s at end field.bytes
  pub fine : field.fault ≡ 0

-- so have fields, one behind the other
pub record FieldsKept (s : List ℕ) (at end : ℕ) (own : List Field) : Type 0 where
  pub held : Held s at end (fields_bytes own)
  pub fine : FieldsFine own

-- no field
fields_none : (s : List ℕ) (at : ℕ) → at ≤ length s → FieldsKept s at at []
fields_none s at h = record { held = held_none s at h; fine = refl }

-- a field in front of others
pub fields_front : {s : List ℕ} {at middle end : ℕ} {field : Field} {later : List Field} → FieldKept s at middle field → FieldsKept s middle end later
    → FieldsKept s at end (field ∷ later)
fields_front {s} {at} {middle} {end} {field} {later} p q = record {
  held = held_join p.held q.held;
  fine = subst (λ (fault : ℕ). fault_after fault (faults_of later) ≡ 0) (sym p.fine) q.fine;
}

-- the last one
pub fields_last : {s : List ℕ} {at end : ℕ} {field : Field} → FieldKept s at end field → FieldsKept s at end (field ∷ [])
fields_last {s} {at} {end} p = fields_front p (fields_none s end p.held.inside)

-- a string that was read as a text: its bytes are those of the text that is shown, which may stand in the field
text_held : (s : List ℕ) (at : ℕ) (field : StringField) (start len next : ℕ) → Bytes s
    → string_at s at (is_optional field) ≡ StringRead.Text start len next → FieldKept s at next (string_field field false (text_view s at))
unfolding string_fault
text_held s at field start len next bytes e =
    let r : TextRead s at (is_optional field) start len next = text_read s at (is_optional field) start len next e in
    subst (λ (bytes : List ℕ). FieldKept s at next (string_field field false bytes)) (sym (text_shown_lem s at (is_optional field) start len next e).1)
    (record {
      held =
          record {
            forth = omega (arith, r.starts, r.ends);
            inside = r.fits;
            are = text_kept s at (is_optional field) start len next bytes e;
          };
      fine = rw r.may_stand;
    })

-- null may stand where the field is optional
null_stands : (optional : Bool) → optional ≡ true → string_allowed optional true [] ≡ true
unfolding string_allowed
null_stands optional e = rw e

-- a string that was read as null
null_held : (s : List ℕ) (at : ℕ) (field : StringField) (next : ℕ) → Bytes s → string_at s at (is_optional field) ≡ StringRead.Null next
    → FieldKept s at next (string_field field true [])
unfolding string_fault
null_held s at field next bytes e =
    let r : NullRead s at (is_optional field) next = null_read s at (is_optional field) next e in
    record {
      held =
          record {
            forth = omega (arith, r.ends);
            inside = r.fits;
            are = null_kept s at (is_optional field) next [] bytes e;
          };
      fine = rw (null_stands (is_optional field) r.may_stand);
    }

-- a string that was read: its bytes are those of the string that is shown, which has no fault
pub string_kept : (s : List ℕ) (at : ℕ) (field : StringField) (end : ℕ) → Bytes s → StringThere s field at end
    → FieldKept s at end (text_field field (text_shown s at))
string_kept s at field end bytes h = go (string_at s at (is_optional field)) refl h
  where
    go : (r : StringRead) → string_at s at (is_optional field) ≡ r → StringEnds end r → FieldKept s at end (text_field field (text_shown s at))
    go (StringRead.Refused n) e q = absurd q
    go (StringRead.Null next) e q =
        subst (λ (t : Text). FieldKept s at end (text_field field t)) (sym (null_told s at (is_optional field) next e))
        (subst (λ (i : ℕ). FieldKept s at i (string_field field true [])) q (null_held s at field next bytes e))
    go (StringRead.Text start len next) e q =
        subst (λ (t : Text). FieldKept s at end (text_field field t)) (sym (text_told s at (is_optional field) start len next e))
        (subst (λ (i : ℕ). FieldKept s at i (string_field field false (text_view s at))) q (text_held s at field start len next bytes e))

-- a byte that was read
pub byte_held : (s : List ℕ) (at value next : ℕ) → byte_at s at ≡ NumberRead.Number value next → Held s at next (value ∷ [])
unfolding byte_at
byte_held s at value next e =
    let n = number_found 1 (get_or s at 0) s at value next e in
    rw (← n.0, ← n.1) (held_byte s at n.2)

-- a number from two bytes fits them
integer_fits : (s : List ℕ) (at : ℕ) → Bytes s → integer_in s at < 65536
unfolding integer_in
integer_fits s at bytes = omega (arith, bytes at, bytes (at + 1))

-- an integer that was read, and it fits its bytes
pub integer_held : (s : List ℕ) (at value next : ℕ) → Bytes s → integer_at s at ≡ NumberRead.Number value next
    → Held s at next (integer_bytes value) × (value < 65536)
unfolding integer_at
integer_held s at value next bytes e =
    let n = number_found 2 (integer_in s at) s at value next e in
    let two : at + 2 - at ≡ 2 = omega arith in
    let held : Held s at (at + 2) (integer_bytes (integer_in s at)) =
    record { forth = omega arith; inside = n.2; are = ap (part s at) two ∙ integer_kept s at bytes n.2 } in
    rw (← n.0, ← n.1) (held, integer_fits s at bytes)

-- a boolean that was read
pub boolean_held : (s : List ℕ) (at : ℕ) (value : Bool) (next : ℕ) → boolean_at s at ≡ BooleanRead.Boolean value next
    → Held s at next (boolean_bytes value)
boolean_held s at value next e =
    let i = boolean_inside s at (BooleanRead.Boolean value next) e in
    let one : next - at ≡ 1 = omega (arith, i.0) in
    record { forth = omega (arith, i.0); inside = i.1; are = ap (part s at) one ∙ boolean_kept s at value next e }

-- a name that was read as a code, without fault
coded_held : (d : Direction) (s : List ℕ) (at code next : ℕ) → Bytes s → integer_at s at ≡ NumberRead.Number code next → code_fault d code ≡ none
    → FieldKept s at next (coded_name d code) × (code < 65536)
coded_held d s at code next bytes e fine =
    let k = integer_held s at code next bytes e in
    (record { held = k.0; fine = fine }, k.1)

-- a name that was read as a string, without fault
spelled_held : (d : Direction) (s : List ℕ) (at start len next : ℕ) → Bytes s
    → string_at s at (is_optional StringField.HeaderName) ≡ StringRead.Text start len next → spelled_fault d (part s start len) ≡ none
    → FieldKept s at next (spelled_name d false (text_view s at))
spelled_held d s at start len next bytes e fine =
    let k = text_held s at StringField.HeaderName start len next bytes e in
    let shown : text_view s at ≡ part s start len = (text_shown_lem s at (is_optional StringField.HeaderName) start len next e).1 in
    let listed : spelled_fault d (text_view s at) ≡ 0 = ap (spelled_fault d) shown ∙ fine in
    record { held = k.held; fine = ap (λ (f : ℕ). or_else f (spelled_fault d (text_view s at))) k.fine ∙ listed }

-- a value that may come behind others may come first: it declares nothing, or nothing was declared before it
declares_first : (is_length : Bool) (before : Option ℕ) (t : Text) (declared : Option ℕ)
    → declared_after is_length before (is_null t) (content_of t) ≡ LengthRead.Now declared
    → length_fault (declared_after is_length None (is_null t) (content_of t)) ≡ 0
unfolding declared_after
declares_first false before t declared e = refl
declares_first true None t declared e = ap length_fault e
declares_first true (Some n) t declared e = absurd (let z : ◌≡◌ {A = ℕ} 0 1 = cc in omega arith)

-- a field that holds a header's value as it is shown
abbrev value_field : Bool → Text → Field
value_field is_length t = header_value is_length (is_null t) (content_of t)

-- it has no fault where its string has none and it may come first
value_fine : (s : List ℕ) (at end : ℕ) (is_length : Bool) (t : Text) → FieldKept s at end (text_field StringField.HeaderValue t)
    → length_fault (declared_after is_length None (is_null t) (content_of t)) ≡ 0 → FieldKept s at end (value_field is_length t)
unfolding value_fault
value_fine s at end is_length t k first = record {
  held = k.held;
  fine = ap (λ (f : ℕ). or_else f (length_fault (declared_after is_length None (is_null t) (content_of t)))) k.fine ∙ first;
}

-- a header with this name, and its value at a place
abbrev NamedKept : Direction → List ℕ → ℕ → ℕ → ℕ → MessageName → Type 0
NamedKept d s at value end name = FieldsKept s at end (fields_by d (text_shown s value) name) × NameFits name

-- a header that was read, by where its value is and where it ends
header_kept : (d : Direction) (s : List ℕ) (at value end : ℕ) (before after : Option ℕ) → Bytes s → NameEnds value (name_at d s at)
    → StringThere s StringField.HeaderValue value end
    → DeclaresThen d s before (name_at d s at) (string_at s value (is_optional StringField.HeaderValue)) after
    → NamedKept d s at value end (name_shown s at)
header_kept d s at value end before after bytes named there = go (name_at d s at) refl (name_fine d s at) named
  where
    valued : (is_length : Bool)
        → (let r = string_at s value (is_optional StringField.HeaderValue) in
        declared_after is_length before (read_null r) (read_bytes s r) ≡ LengthRead.Now after)
        → FieldKept s value end (value_field is_length (text_shown s value))
    valued is_length h =
        value_fine s value end is_length (text_shown s value) (string_kept s value StringField.HeaderValue end bytes there)
        (declares_first is_length before (text_shown s value) after (declares_shown s value end is_length before after there h))

    go : (r : NameRead) → name_at d s at ≡ r → NameFine d s at r → NameEnds value r
        → DeclaresThen d s before r (string_at s value (is_optional StringField.HeaderValue)) after → NamedKept d s at value end (name_shown s at)
    go (NameRead.Refused n) e fine ends h = absurd ends
    go (NameRead.Code code next) e fine ends h =
        let k = coded_held d s at code next bytes fine.1 fine.2 in
        let name : FieldKept s at value (coded_name d code) = subst (λ (i : ℕ). FieldKept s at i (coded_name d code)) ends k.0 in
        subst (NamedKept d s at value end) (sym (ap (name_by s at) (code_shown d s at code next e)))
        (fields_front name (fields_last (valued (declares d code) h)), k.1)
    go (NameRead.Spelled start len next) e fine ends h =
        let k = spelled_held d s at start len next bytes fine.1 fine.2 in
        let name : FieldKept s at value (spelled_name d false (text_view s at)) =
        subst (λ (i : ℕ). FieldKept s at i (spelled_name d false (text_view s at))) ends k in
        subst (NamedKept d s at value end) (sym (ap (name_by s at) (spelled_shown d s at start len next e).0))
        (fields_front name (fields_last (valued false h)), tt)

-- headers stand as they would be written: from a place to another, with these places for their names and values
pub record HeadersKept (d : Direction) (s : List ℕ) (at : ℕ) (places : List ℕ) (end : ℕ) : Type 0 where
  pub held : Held s at end (headers_bytes d (headers_shown s places))
  pub fine : HeadersFine d (headers_shown s places)
  pub fit : HeadersFit (headers_shown s places)

-- headers that were read from a place to another
pub headers_kept : (d : Direction) (s : List ℕ) (at : ℕ) (before : Option ℕ) (places : List ℕ) (end : ℕ) (after : Option ℕ) → Bytes s
    → end ≤ length s → HeadersHanded d s at before places end after → HeadersKept d s at places end
headers_kept d s at before [] end after bytes inside h = record {
  held = subst (λ (i : ℕ). Held s i end []) (sym h.0) (held_none s end inside);
  fine = tt;
  fit = tt;
}
headers_kept d s at before (p ∷ []) end after bytes inside h = absurd h
headers_kept d s at before (p ∷ q ∷ rest) end after bytes inside (next, place, named, there, declared, now, later) =
    let k = header_kept d s p q next before declared bytes named there now in
    let l = headers_kept d s next declared rest end after bytes inside later in
    subst (λ (i : ℕ). HeadersKept d s i (p ∷ q ∷ rest) end) place
    (record {
      held = held_join k.0.held l.held;
      fine = (k.0.fine, l.fine);
      fit = (k.1, l.fit);
    })

-- what is behind a code, by the kind of value that it has
abbrev CodedKept : List ℕ → ℕ → ℕ → ℕ → AttributeKind → Type 0
CodedKept s at value end kind =
    attribute_kind (get_or s at 0) ≡ kind
    → FieldsKept s at end (value_fields (get_or s at 0) (value_by s at value kind)) × ValueFits (value_by s at value kind)

-- a code takes the kind of value that it has
code_field_lem : (s : List ℕ) (at : ℕ) (takes : Bool) → takes ≡ true → at + 1 ≤ length s → FieldKept s at (at + 1) (code_field takes (get_or s at 0))
code_field_lem s at takes e h = record { held = held_byte s at h; fine = rw e }

-- an attribute's name, which is never null
pair_name : (s : List ℕ) (at end : ℕ) → Bytes s → StringThere s StringField.AttributeName at end
    → FieldKept s at end (string_field StringField.AttributeName false (text_view s at))
pair_name s at end bytes h = go (string_at s at (is_optional StringField.AttributeName)) refl h
  where
    go : (r : StringRead) → string_at s at (is_optional StringField.AttributeName) ≡ r → StringEnds end r
        → FieldKept s at end (string_field StringField.AttributeName false (text_view s at))
    go (StringRead.Refused n) e q = absurd q
    go (StringRead.Null next) e q = absurd (false≢true (null_read s at false next e).may_stand)
    go (StringRead.Text start len next) e q =
        subst (λ (i : ℕ). FieldKept s at i (string_field StringField.AttributeName false (text_view s at))) q
        (text_held s at StringField.AttributeName start len next bytes e)

-- an integer, by where it ends
integer_there : (s : List ℕ) (at end : ℕ) → Bytes s → NumberEnds end (integer_at s at)
    → FieldKept s at end (plain (integer_bytes (integer_view s at))) × (integer_view s at < 65536)
integer_there s at end bytes h = go (integer_at s at) refl h
  where
    go : (r : NumberRead) → integer_at s at ≡ r → NumberEnds end r
        → FieldKept s at end (plain (integer_bytes (integer_view s at))) × (integer_view s at < 65536)
    go (NumberRead.Refused n) e q = absurd q
    go (NumberRead.Number value next) e q =
        let k = integer_held s at value next bytes e in
        subst (λ (n : ℕ). FieldKept s at end (plain (integer_bytes n)) × (n < 65536)) (sym (integer_shown s at value next e))
        (record { held = subst (λ (i : ℕ). Held s at i (integer_bytes value)) q k.0; fine = refl }, k.1)

-- an attribute whose value was read
attribute_kept : (s : List ℕ) (at value end : ℕ) (kind : AttributeKind) → Bytes s → ValueThere s kind (at + 1) value end → CodedKept s at value end kind
attribute_kept s at value end AttributeKind.NotServed bytes h is = absurd h
attribute_kept s at value end AttributeKind.Text bytes h is =
    let k = string_kept s value StringField.AttributeValue end bytes h.1 in
    let from : FieldKept s (at + 1) end (text_field StringField.AttributeValue (text_shown s value)) =
    subst (λ (i : ℕ). FieldKept s i end (text_field StringField.AttributeValue (text_shown s value))) h.0 k in
    (fields_front (code_field_lem s at (is_text (attribute_kind (get_or s at 0))) (ap is_text is) (omega (arith, from.held.forth, from.held.inside))) (fields_last from), tt)
attribute_kept s at value end AttributeKind.Integer bytes h is =
    let k = integer_there s value end bytes h.1 in
    let from : FieldKept s (at + 1) end (plain (integer_bytes (integer_view s value))) =
    subst (λ (i : ℕ). FieldKept s i end (plain (integer_bytes (integer_view s value)))) h.0 k.0 in
    (fields_front (code_field_lem s at (is_integer (attribute_kind (get_or s at 0))) (ap is_integer is) (omega (arith, from.held.forth, from.held.inside))) (fields_last from), k.1)
attribute_kept s at value end AttributeKind.Pair bytes h is =
    let name = pair_name s (at + 1) value bytes h.0 in
    let k = string_kept s value StringField.AttributeValue end bytes h.1 in (
      fields_front (code_field_lem s at (is_pair (attribute_kind (get_or s at 0))) (ap is_pair is) (omega (arith, name.held.forth, name.held.inside)))
          (fields_front name (fields_last k)),
      tt,
    )

-- attributes stand as they would be written, FF behind them: from a place to another, with these places for their codes and values
pub record AttributesKept (s : List ℕ) (at : ℕ) (places : List ℕ) (end : ℕ) : Type 0 where
  pub held : Held s at end (attributes_bytes (attributes_shown s places) ++ (last_mark ∷ []))
  pub fine : AttributesFine (attributes_shown s places)
  pub fit : AttributesFit (attributes_shown s places)

-- attributes that were read from a place to another
pub attributes_kept : (s : List ℕ) (at : ℕ) (places : List ℕ) (end : ℕ) → Bytes s → end ≤ length s → AttributesHanded s at places end
    → AttributesKept s at places end
attributes_kept s at [] end bytes inside h = record {
  held =
      subst (λ (i : ℕ). Held s at i (last_mark ∷ [])) h.1
      (subst (λ (n : ℕ). Held s at (at + 1) (n ∷ [])) h.0 (held_byte s at (omega (arith, h.1))));
  fine = tt;
  fit = tt;
}
attributes_kept s at (p ∷ []) end bytes inside h = absurd h
attributes_kept s at (p ∷ q ∷ rest) end bytes inside (next, place, there, later) =
    let k = attribute_kept s p q next (attribute_kind (get_or s p 0)) bytes there refl in
    let l = attributes_kept s next rest end bytes inside later in
    subst (λ (i : ℕ). AttributesKept s i (p ∷ q ∷ rest) end) place
    (record {
      held = rw append_assoc (held_join k.0.held l.held);
      fine = (k.0.fine, l.fine);
      fit = (omega (arith, bytes p), k.1, l.fit);
    })

-- what is held up to the end is what stands there
pub held_rest : (s : List ℕ) (at : ℕ) (bytes : List ℕ) → Held s at (length s) bytes → drop at s ≡ bytes
held_rest s at bytes h = rest_part s at (length s - at) (omega (arith, h.forth)) ∙ h.are
