-- The starred packets are observed as document 01 says: one statement over the listed set.
-- Assumes nothing.
use mathlib.Core.Path.{◌≡◌, refl}
use mathlib.Core.List.{map}
use Rattle.wire.specs.Pick.{all, any}
use Rattle.wire.specs.Bytes.{part, integer_in}
use Rattle.wire.specs.Field.{byte_at, integer_at, boolean_at, text_at, after_length, string_at}
use Rattle.names.specs.Names.{method_names, name_for}
use Rattle.connection.specs.Cycle.{largest_body, step_of}
use Rattle.headers.specs.Headers.{headers_at}
use Rattle.attributes.specs.Attributes.{attribute_at, attributes_at}
use Rattle.payload.specs.Code.{code_kind, kind_at}
use Rattle.payload.specs.Sequence.{string_field_at, string_after, boolean_field_at, boolean_after, byte_after, any_integer_after, integer_after}
use Rattle.payload.specs.End.{end_at}
use Rattle.payload.specs.GetBody.{get_at}
use Rattle.payload.specs.Body.{sized_at, body_at}
use Rattle.payload.specs.BodyChunk.{chunk_of, chunk_at}
use Rattle.payload.specs.Lists.{headers_after, attributes_behind, lists_at}
use Rattle.payload.specs.Forward.{forward_reads, forward_at}
use Rattle.payload.specs.SendHeaders.{send_headers_reads, send_headers_at}
use Rattle.reader.specs.Frame.{leading_differs, length_at, frame_at}
use Rattle.reader.specs.Reading.{parse_whole, parse, accepting, reading}
use Rattle.views.specs.View.{integer_view, null_view, text_view}
use Rattle.reading_laws.specs.Starred.{observed, expected, starred}

pub starred_set : map observed starred ≡ map expected starred
unfolding all any part integer_in byte_at integer_at boolean_at text_at after_length string_at largest_body step_of headers_at attribute_at attributes_at code_kind kind_at string_field_at string_after boolean_field_at boolean_after byte_after any_integer_after integer_after end_at get_at sized_at body_at chunk_of chunk_at headers_after attributes_behind lists_at forward_at forward_reads send_headers_at send_headers_reads leading_differs length_at frame_at parse_whole parse accepting reading integer_view null_view text_view method_names name_for
starred_set = refl
