-- A message's string: its bytes, the field that it is written as, and how it is shown where reading read it: null as null, and a text with the
-- bytes that the view shows.
-- Assumes nothing.
use mathlib.Core.Path.{◌≡◌, refl, sym, ap, subst, ◌∙◌}
use mathlib.Core.Bool.{Bool}
use mathlib.Core.List.{List}
use Prim.Native.Nat.{ℕ}
use Rattle.wire.specs.Field.{string_at, is_optional, string_bytes}
use Rattle.wire.specs.declared.StringField.{StringField}
use Rattle.wire.specs.Read.{StringRead}
use Rattle.headers.specs.Headers.{declared_after}
use Rattle.std.specs.Prelude.{Option}
use Rattle.headers.specs.Read.{LengthRead}
use Rattle.payload.specs.Handed.{StringEnds, StringThere, read_null, read_bytes}
use Rattle.building.specs.Field.{Field, string_field}
use Rattle.views.specs.View.{text_view}
use Rattle.reading_laws.proofs.Shown.{text_shown_lem, null_shown}
use Rattle.messages.specs.Message.{Text, null, text, is_null, content_of}
use Rattle.messages.specs.Shown.{text_shown}

-- a string's bytes
abbrev pub text_bytes : Text → List ℕ
text_bytes t = string_bytes (is_null t) (content_of t)

-- the field that holds it
abbrev pub text_field : StringField → Text → Field
text_field field t = string_field field (is_null t) (content_of t)

-- what is shown of a string that was read as null
pub null_told : (s : List ℕ) (at : ℕ) (optional : Bool) (next : ℕ) → string_at s at optional ≡ StringRead.Null next → text_shown s at ≡ null
null_told s at optional next e = rw (null_shown s at optional next e).0

-- and of one that was read as a text
pub text_told : (s : List ℕ) (at : ℕ) (optional : Bool) (start len next : ℕ) → string_at s at optional ≡ StringRead.Text start len next
    → text_shown s at ≡ text (text_view s at)
text_told s at optional start len next e = rw (text_shown_lem s at optional start len next e).0

-- what a header's value that was read declares is what the string that is shown does
pub declares_shown : (s : List ℕ) (at end : ℕ) (is_length : Bool) (before after : Option ℕ) → StringThere s StringField.HeaderValue at end
    → (let value = string_at s at (is_optional StringField.HeaderValue) in
    declared_after is_length before (read_null value) (read_bytes s value) ≡ LengthRead.Now after)
    → declared_after is_length before (is_null (text_shown s at)) (content_of (text_shown s at)) ≡ LengthRead.Now after
declares_shown s at end is_length before after = go (string_at s at (is_optional StringField.HeaderValue)) refl
  where
    Declares : Text → Type 0
    Declares t = declared_after is_length before (is_null t) (content_of t) ≡ LengthRead.Now after

    go : (r : StringRead) → string_at s at (is_optional StringField.HeaderValue) ≡ r → StringEnds end r
        → declared_after is_length before (read_null r) (read_bytes s r) ≡ LengthRead.Now after → Declares (text_shown s at)
    go (StringRead.Refused n) e there h = absurd there
    go (StringRead.Null next) e there h = subst Declares (sym (null_told s at (is_optional StringField.HeaderValue) next e)) h
    go (StringRead.Text start len next) e there h =
        let o : Bool = is_optional StringField.HeaderValue in
        subst Declares (sym (text_told s at o start len next e ∙ ap text (text_shown_lem s at o start len next e).1)) h
