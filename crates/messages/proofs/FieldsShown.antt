-- Strings, headers and attributes that were written without fault, where reading read them: each is shown as it was written, since each begins
-- where the one before it ends, and a view shows what was read there.
-- Assumes nothing.
use native.Mathlib.Omega.{arith}
use mathlib.Core.Path.{◌≡◌, refl, sym, ap, subst, ◌∙◌}
use mathlib.Core.Bool.{Bool, true, false}
use mathlib.Core.List.{List, [], ◌∷◌, ◌++◌, append_assoc, append-nil}
use Prim.Native.Nat.{ℕ, zero, suc, ◌+◌, ◌*◌, ◌≤◌}
use lib.ListN.{length, get_or, length-append}
use lib.Seq.{get_or-append_seam}
use Rattle.wire.specs.Pick.{pick}
use Rattle.wire.specs.Bytes.{part, integer_bytes}
use Rattle.wire.specs.Field.{integer_at, string_at, is_optional, string_bytes}
use Rattle.packet.specs.declared.Direction.{Direction}
use Rattle.wire.specs.declared.StringField.{StringField}
use Rattle.wire.specs.Read.{NumberRead, StringRead}
use Rattle.wire.proofs.Field.{size_text}
use Rattle.wire.proofs.RoundTrip.{integer_written}
use Rattle.wire.specs.Refusal.{attribute_wrong}
use Rattle.names.specs.Header.{code_fault}
use Rattle.names.specs.Attribute.{attribute_kind}
use Rattle.packet.specs.declared.AttributeKind.{AttributeKind}
use Rattle.connection.specs.Connection.{max_packet}
use Rattle.headers.specs.Headers.{declares, name_at}
use Rattle.headers.specs.Read.{NameRead}
use Rattle.std.specs.Prelude.{Option}
use Rattle.attributes.specs.Attributes.{last_mark}
use Rattle.payload.specs.Handed.{StringThere, NameEnds, HeadersHanded, ValueThere, AttributesHanded}
use Rattle.building.specs.Fault.{unless, string_fault}
use Rattle.building.specs.Field.{faults_of, fields_bytes}
use Rattle.building.proofs.Faults.{faultless}
use Rattle.pieces.specs.Header.{spelled_name}
use Rattle.pieces.specs.Attribute.{is_text, is_integer, is_pair}
use Rattle.views.specs.View.{null_view, text_view}
use Rattle.reading_laws.proofs.Shown.{integer_shown, text_shown_lem, code_shown, spelled_shown}
use Rattle.messages.specs.Message.{Text, null, text, MessageName, coded, spelled, Header, Value, string, integer, pair, Attribute, is_null, content_of, ValueFits, AttributesFit}
use Rattle.messages.specs.Bytes.{fields_by, header_fields, headers_bytes, value_fields, attributes_bytes}
use Rattle.messages.specs.Shown.{text_shown, name_shown, headers_shown, value_by, attributes_shown}
use Rattle.messages.proofs.Fine.{FieldsFine, HeadersFine, AttributesFine}
use Rattle.messages.proofs.Judged.{text_part, string_stood, coded_name_lem, spelled_name_lem, code_begins, header_faultless, text_kind, integer_kind, pair_kind}
use Rattle.messages.proofs.Fixed.{Ahead, ahead_next, ahead_holds}
use Rattle.messages.proofs.Texts.{text_bytes, null_told, text_told}

-- bytes that stand in a list are no longer than it
ahead_short : {s : List ℕ} {at : ℕ} (x rest : List ℕ) (most : ℕ) → Ahead s at (x ++ rest) → length s ≤ most → length x ≤ most
ahead_short x rest most r h = omega (arith, ap length r.is, length-append r.front (x ++ rest), length-append x rest)

-- a text that is shown has the bytes that a view shows
shown_bytes : (t : Bool) (view bytes : List ℕ) → pick t null (text view) ≡ text bytes → view ≡ bytes
shown_bytes true view bytes e = absurd (let z : ◌≡◌ {A = ℕ} 0 1 = cc in omega arith)
shown_bytes false view bytes e = cc

-- so many places, two for each, show so many headers
pub headers_many : (s places : List ℕ) (count : ℕ) → length places ≡ 2 * count → length (headers_shown s places) ≡ count
headers_many s [] count e = omega arith
headers_many s (name ∷ []) count e = absurd (omega arith)
headers_many s (name ∷ value ∷ later) zero e = absurd (omega arith)
headers_many s (name ∷ value ∷ later) (suc count) e = ap suc (headers_many s later count (omega arith))

-- and so many attributes
pub attributes_many : (s places : List ℕ) (count : ℕ) → length places ≡ 2 * count → length (attributes_shown s places) ≡ count
attributes_many s [] count e = omega arith
attributes_many s (at ∷ []) count e = absurd (omega arith)
attributes_many s (at ∷ value ∷ later) zero e = absurd (omega arith)
attributes_many s (at ∷ value ∷ later) (suc count) e = ap suc (attributes_many s later count (omega arith))

-- the kind of value that an attribute has
abbrev kind_for : Value → AttributeKind
kind_for (string value) = AttributeKind.Text
kind_for (integer n) = AttributeKind.Integer
kind_for (pair name value) = AttributeKind.Pair

-- where an attribute has no fault, its code takes that kind
code_takes : (code : ℕ) (value : Value) → FieldsFine (value_fields code value) → attribute_kind code ≡ kind_for value
code_takes code value fine = go value fine
  where
    takes : (t : Bool) → unless t attribute_wrong ≡ 0 → t ≡ true
    takes true h = refl
    takes false h = absurd (omega arith)

    go : (value : Value) → FieldsFine (value_fields code value) → attribute_kind code ≡ kind_for value
    go (string value) fine =
        text_kind (attribute_kind code) (takes (is_text (attribute_kind code)) (faultless (faults_of (value_fields code (string value))) fine).0)
    go (integer n) fine =
        integer_kind (attribute_kind code) (takes (is_integer (attribute_kind code)) (faultless (faults_of (value_fields code (integer n))) fine).0)
    go (pair name value) fine =
        pair_kind (attribute_kind code) (takes (is_pair (attribute_kind code)) (faultless (faults_of (value_fields code (pair name value))) fine).0)

-- which FF does not
not_mark : (value : Value) → attribute_kind last_mark ≡ kind_for value → ⊥
unfolding attribute_kind
not_mark (string value) e = let z : ◌≡◌ {A = ℕ} 0 1 = cc in omega arith
not_mark (integer n) e = let z : ◌≡◌ {A = ℕ} 0 1 = cc in omega arith
not_mark (pair name value) e = let z : ◌≡◌ {A = ℕ} 0 1 = cc in omega arith

-- and behind which no value is read
mark_ends : (s : List ℕ) (from q next : ℕ) → ValueThere s (attribute_kind last_mark) from q next → ⊥
unfolding attribute_kind
mark_ends s from q next h = h

-- a packet's bytes
module _ {s : List ℕ} (short : length s ≤ max_packet) where
  -- a string that stands in it is no longer than it
  pub string_fits : {at : ℕ} (rest : List ℕ) (t : Text) → Ahead s at (text_bytes t ++ rest) → length (content_of t) ≤ max_packet
  string_fits rest null r = omega arith
  string_fits rest (text bytes) r = omega (arith, ahead_short (string_bytes false bytes) rest max_packet r short, size_text false bytes refl)

  -- what reading answers at a string without fault
  string_read : {at : ℕ} (rest : List ℕ) (field : StringField) (none : Bool) (bytes : List ℕ) → Ahead s at (string_bytes none bytes ++ rest)
      → string_fault field none bytes ≡ 0 → length bytes ≤ max_packet
      → string_at s at (is_optional field)
      ≡ pick none (StringRead.Null (at + length (string_bytes none bytes)))
      (StringRead.Text (at + 2) (length bytes) (at + length (string_bytes none bytes)))
  string_read rest field none bytes r fine h =
      ahead_holds
      (λ (l : List ℕ) (i : ℕ).
      string_at l i (is_optional field)
      ≡ pick none (StringRead.Null (i + length (string_bytes none bytes)))
      (StringRead.Text (i + 2) (length bytes) (i + length (string_bytes none bytes))))
      (λ a. rw fine at (string_stood a rest field none bytes h)) r

  -- its bytes are there
  text_there : {at : ℕ} (rest bytes : List ℕ) → Ahead s at (string_bytes false bytes ++ rest) → part s (at + 2) (length bytes) ≡ bytes
  text_there rest bytes r = ahead_holds (λ (l : List ℕ) (i : ℕ). part l (i + 2) (length bytes) ≡ bytes) (λ a. text_part a rest bytes) r

  -- it is shown as it was written, and where it ends stand the bytes that were written behind it
  pub string_shows : {at : ℕ} (rest : List ℕ) (field : StringField) (t : Text) → Ahead s at (text_bytes t ++ rest)
      → string_fault field (is_null t) (content_of t) ≡ 0 → (next : ℕ) → StringThere s field at next → (text_shown s at ≡ t) × Ahead s next rest
  string_shows {at} rest field null r fine next there =
      let e = string_read rest field true [] r fine (omega arith) in
      let ends : at + length (string_bytes true []) ≡ next = rw e at there in (
        null_told s at (is_optional field) (at + length (string_bytes true [])) e,
        rw ends at (ahead_next (string_bytes true []) rest r),
      )
  string_shows {at} rest field (text bytes) r fine next there =
      let e = string_read rest field false bytes r fine (string_fits rest (text bytes) r) in
      let ends : at + length (string_bytes false bytes) ≡ next = rw e at there in
      let next_is : ℕ = at + length (string_bytes false bytes) in (
        text_told s at (is_optional field) (at + 2) (length bytes) next_is e
            ∙ ap text ((text_shown_lem s at (is_optional field) (at + 2) (length bytes) next_is e).1 ∙ text_there rest bytes r),
        rw ends at (ahead_next (string_bytes false bytes) rest r),
      )

  -- what reading answers at a code without fault
  code_read : {at : ℕ} (rest : List ℕ) (d : Direction) (code : ℕ) → Ahead s at (integer_bytes code ++ rest) → code_fault d code ≡ 0
      → name_at d s at ≡ NameRead.Code code (at + 2)
  code_read rest d code r fine =
      let within = code_begins d code fine in
      ahead_holds (λ (l : List ℕ) (i : ℕ). name_at d l i ≡ NameRead.Code code (i + 2))
      (λ a. rw fine at (coded_name_lem a rest d code within.0 within.1)) r

  -- and at a name without fault that is spelled out
  spelling_read : {at : ℕ} (rest : List ℕ) (d : Direction) (name : List ℕ) → Ahead s at (string_bytes false name ++ rest)
      → (spelled_name d false name).fault ≡ 0 → length name ≤ max_packet
      → name_at d s at ≡ NameRead.Spelled (at + 2) (length name) (at + length (string_bytes false name))
  spelling_read rest d name r fine h =
      ahead_holds
      (λ (l : List ℕ) (i : ℕ). name_at d l i ≡ NameRead.Spelled (i + 2) (length name) (i + length (string_bytes false name)))
      (λ a. rw fine at (spelled_name_lem a rest d false name h)) r

  -- a header's name and value, by its name: they are shown as they were written, and where the value ends stand the bytes behind it
  header_by : {at : ℕ} (rest : List ℕ) (d : Direction) (value : Text) (name : MessageName) → FieldsFine (fields_by d value name)
      → Ahead s at (fields_bytes (fields_by d value name) ++ rest) → (q next : ℕ) → NameEnds q (name_at d s at)
      → StringThere s StringField.HeaderValue q next → (name_shown s at ≡ name) × (text_shown s q ≡ value) × Ahead s next rest
  header_by {at} rest d value (coded code) fine r q next named there =
      let y : List ℕ = text_bytes value in
      let none = header_faultless (code_fault d code) (declares d code) (is_null value) (content_of value) fine in
      let whole : Ahead s at (integer_bytes code ++ (y ++ rest)) = rw (append-nil y) at r in
      let e = code_read (y ++ rest) d code whole none.0 in
      let ends : at + 2 ≡ q = rw e at named in
      let behind : Ahead s q (y ++ rest) = rw ends at (ahead_next (integer_bytes code) (y ++ rest) whole) in
      let shown = string_shows rest StringField.HeaderValue value behind none.1.0 next there in
      (rw (code_shown d s at code (at + 2) e), shown.0, shown.1)
  header_by {at} rest d value (spelled name) fine r q next named there =
      let x : List ℕ = string_bytes false name in
      let y : List ℕ = text_bytes value in
      let none = header_faultless (spelled_name d false name).fault false (is_null value) (content_of value) fine in
      let whole : Ahead s at (x ++ (y ++ rest)) = simp (append-nil, append_assoc) at r in
      let e = spelling_read (y ++ rest) d name whole none.0 (string_fits (y ++ rest) (text name) whole) in
      let ends : at + length x ≡ q = rw e at named in
      let behind : Ahead s q (y ++ rest) = rw ends at (ahead_next x (y ++ rest) whole) in
      let shown = string_shows rest StringField.HeaderValue value behind none.1.0 next there in
      let as_name = spelled_shown d s at (at + 2) (length name) (at + length x) e in
      (rw (as_name.0, as_name.1, text_there (y ++ rest) name whole), shown.0, shown.1)

  -- headers are shown as they were written, where as many were read, and where they end stand the bytes behind them
  pub headers_show : {at : ℕ} (rest : List ℕ) (d : Direction) (headers : List Header) → HeadersFine d headers
      → Ahead s at (headers_bytes d headers ++ rest) → (places : List ℕ) → length places ≡ length headers + length headers → (next : ℕ)
      → (before after : Option ℕ) → HeadersHanded d s at before places next after → (headers_shown s places ≡ headers) × Ahead s next rest
  headers_show rest d [] fine r [] many next before after handed = (refl, rw handed.0 at r)
  headers_show rest d [] fine r (p ∷ places) many next before after handed = absurd (omega arith)
  headers_show rest d (header ∷ later) fine r [] many next before after handed = absurd (omega arith)
  headers_show rest d (header ∷ later) fine r (p ∷ []) many next before after handed = absurd handed
  headers_show {at} rest d (header ∷ later) fine r (p ∷ q ∷ places) many next before after handed =
      let here : Ahead s p (fields_bytes (header_fields d header) ++ (headers_bytes d later ++ rest)) =
      rw handed.1 (simp append_assoc at r) in
      let first = header_by (headers_bytes d later ++ rest) d header.value header.name fine.0 here q handed.0 handed.2 handed.3 in
      let others = headers_show {at = handed.0} rest d later fine.1 first.2 places (omega arith) next handed.4 after handed.6 in
      (rw (first.0, first.1, others.0), others.1)

  -- an attribute's value behind its code: it is shown as it was written, and where it ends stand the bytes behind it
  value_shows : {at : ℕ} (rest : List ℕ) (code : ℕ) (value : Value) → FieldsFine (value_fields code value) → ValueFits value
      → Ahead s at (fields_bytes (value_fields code value) ++ rest) → (q next : ℕ) → ValueThere s (kind_for value) (at + 1) q next
      → (value_by s at q (kind_for value) ≡ value) × Ahead s next rest
  value_shows {at} rest code (string value) fine fits r q next there =
      let y : List ℕ = text_bytes value in
      let none = faultless (faults_of (value_fields code (string value))) fine in
      let whole : Ahead s at ((code ∷ []) ++ (y ++ rest)) = rw (append-nil y) at r in
      let behind : Ahead s q (y ++ rest) = rw there.0 (ahead_next (code ∷ []) (y ++ rest) whole) in
      let shown = string_shows rest StringField.AttributeValue value behind none.1.0 next there.1 in
      (rw shown.0, shown.1)
  value_shows {at} rest code (integer n) fine fits r q next there =
      let behind : Ahead s q (integer_bytes n ++ rest) = rw there.0 (ahead_next (code ∷ []) (integer_bytes n ++ rest) r) in
      let e : integer_at s q ≡ NumberRead.Number n (q + 2) =
      ahead_holds (λ (l : List ℕ) (i : ℕ). integer_at l i ≡ NumberRead.Number n (i + 2)) (λ a. integer_written a rest n fits) behind in
      let ends : q + 2 ≡ next = rw e at there.1 in
      (rw (integer_shown s q n (q + 2) e), rw ends at (ahead_next (integer_bytes n) rest behind))
  value_shows {at} rest code (pair name value) fine fits r q next there =
      let x : List ℕ = string_bytes false name in
      let y : List ℕ = text_bytes value in
      let none = faultless (faults_of (value_fields code (pair name value))) fine in
      let whole : Ahead s at ((code ∷ []) ++ (x ++ (y ++ rest))) = simp (append-nil, append_assoc) at r in
      let first = string_shows (y ++ rest) StringField.AttributeName (text name) (ahead_next (code ∷ []) (x ++ (y ++ rest)) whole) none.1.0 q there.0 in
      let second = string_shows rest StringField.AttributeValue value first.1 none.1.1.0 next there.1 in
      let named : text_view s (at + 1) ≡ name = shown_bytes (null_view s (at + 1)) (text_view s (at + 1)) name first.0 in
      (rw (named, second.0), second.1)

  -- the byte at a place
  byte_there : {at : ℕ} (rest : List ℕ) (n : ℕ) → Ahead s at (n ∷ rest) → get_or s at 0 ≡ n
  byte_there rest n r = ahead_holds (λ (l : List ℕ) (i : ℕ). get_or l i 0 ≡ n) (λ a. get_or-append_seam a n rest 0) r

  -- an attribute's first byte is its code
  code_there : {at : ℕ} (rest : List ℕ) (code : ℕ) (value : Value) → Ahead s at (fields_bytes (value_fields code value) ++ rest) → get_or s at 0 ≡ code
  code_there rest code (string value) r = byte_there ((text_bytes value ++ []) ++ rest) code r
  code_there rest code (integer n) r = byte_there (integer_bytes n ++ rest) code r
  code_there rest code (pair name value) r =
      byte_there ((string_bytes false name ++ (text_bytes value ++ [])) ++ rest) code r

  -- attributes up to FF are shown as they were written: both lists run out at FF, which is the code of none
  pub attributes_show : {at : ℕ} (attributes : List Attribute) → AttributesFine attributes → AttributesFit attributes
      → Ahead s at (attributes_bytes attributes ++ (last_mark ∷ [])) → (places : List ℕ) (next : ℕ) → AttributesHanded s at places next
      → attributes_shown s places ≡ attributes
  attributes_show [] fine fit r [] next handed = refl
  attributes_show [] fine fit r (p ∷ []) next handed = absurd handed
  attributes_show {at} [] fine fit r (p ∷ q ∷ places) next handed =
      let last : get_or s p 0 ≡ last_mark = rw handed.1 (byte_there [] last_mark r) in
      absurd (mark_ends s (p + 1) q handed.0 (rw last at handed.2))
  attributes_show {at} (attribute ∷ later) fine fit r [] next handed =
      let here = simp append_assoc at r in
      let last : attribute.code ≡ last_mark =
      sym (code_there (attributes_bytes later ++ (last_mark ∷ [])) attribute.code attribute.value here) ∙ handed.0 in
      absurd (not_mark attribute.value (ap attribute_kind (sym last) ∙ code_takes attribute.code attribute.value fine.0))
  attributes_show (attribute ∷ later) fine fit r (p ∷ []) next handed = absurd handed
  attributes_show {at} (attribute ∷ later) fine fit r (p ∷ q ∷ places) next handed =
      let rest : List ℕ = attributes_bytes later ++ (last_mark ∷ []) in
      let here : Ahead s p (fields_bytes (value_fields attribute.code attribute.value) ++ rest) = rw handed.1 (simp append_assoc at r) in
      let code : get_or s p 0 ≡ attribute.code = code_there rest attribute.code attribute.value here in
      let kind : attribute_kind (get_or s p 0) ≡ kind_for attribute.value =
      ap attribute_kind code ∙ code_takes attribute.code attribute.value fine.0 in
      let there : ValueThere s (kind_for attribute.value) (p + 1) q handed.0 =
      subst (λ (k : AttributeKind). ValueThere s k (p + 1) q handed.0) kind handed.2 in
      let first = value_shows rest attribute.code attribute.value fine.0 fit.1 here q handed.0 there in
      let others = attributes_show {at = handed.0} later fine.1 fit.2 first.1 places next handed.3 in
      rw (kind, code, first.0, others)
