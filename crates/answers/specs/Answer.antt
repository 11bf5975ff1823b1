-- The words of an answer: the packet's kind, a number of bytes, and what the packet tells. Words that an answer does not use are 0.
-- The C boundary.
-- Assumes nothing.
use Rattle.std.specs.Prelude.{List, [], ◌∷◌, ℕ, eqb, length}
use Rattle.wire.specs.Field.{boolean_number}
use Rattle.packet.specs.declared.Part.{Part}
use Rattle.packet.specs.declared.Packet.{Packet}
use Rattle.connection.specs.declared.Kind.{Kind}
use Rattle.building.specs.Fault.{unless}
use Rattle.words.specs.Status as status
use Rattle.words.specs.Kinds.{kind_word}

-- how many words an answer has; the last three are kept for requests of document 02
abbrev pub answer_size : ℕ
answer_size = 16

-- the fault of an array lent for an answer
unfoldable pub answer_fault : List ℕ → ℕ
answer_fault answer = unless (eqb (length answer) answer_size) status.answer_length

-- an answer that has no more than a kind, a number of bytes, two words and how many headers there are
abbrev pub row : ℕ → ℕ → ℕ → ℕ → ℕ → List ℕ
row kind bytes first second headers =
    kind ∷ bytes ∷ first ∷ second ∷ 0 ∷ 0 ∷ 0 ∷ 0 ∷ 0 ∷ 0 ∷ headers ∷ 0 ∷ 0 ∷ 0 ∷ 0 ∷ 0 ∷ []

-- what is told of a packet that is not whole: no kind, and how many bytes are needed in all
unfoldable pub needs_words : ℕ → List ℕ
needs_words bytes = row 0 bytes 0 0 0

-- what is told of a packet that was written: its kind and its length
unfoldable pub written_words : Kind → ℕ → List ℕ
written_words kind bytes = row (kind_word kind) bytes 0 0 0

-- what is told of a body packet or a chunk: its kind, the bytes taken, and where its part starts and how long it is
abbrev pub part_words : Kind → Part → ℕ → List ℕ
part_words kind part bytes = row (kind_word kind) bytes part.start.0 part.len 0

-- what is told of a packet that was read: its kind and the bytes taken; of a Forward the method, the places of its five strings, the port,
-- is_ssl, how many headers and attributes it has and what length of body it declares
unfoldable pub packet_words : Packet → ℕ → List ℕ
packet_words Packet.CPing bytes = row (kind_word Kind.CPing) bytes 0 0 0
packet_words Packet.CPong bytes = row (kind_word Kind.CPong) bytes 0 0 0
packet_words (Packet.Forward f) bytes =
    kind_word Kind.Forward
    ∷ bytes
    ∷ f.method
    ∷ f.protocol.0
    ∷ f.req_uri.0
    ∷ f.remote_addr.0
    ∷ f.remote_host.0
    ∷ f.server_name.0
    ∷ f.server_port
    ∷ boolean_number f.is_ssl
    ∷ f.headers
    ∷ f.attributes
    ∷ f.declared.0
    ∷ 0
    ∷ 0
    ∷ 0
    ∷ []
packet_words (Packet.Body p) bytes = part_words Kind.Body p bytes
packet_words (Packet.GetBody asked) bytes = row (kind_word Kind.GetBody) bytes asked 0 0
packet_words (Packet.SendHeaders h) bytes = row (kind_word Kind.SendHeaders) bytes h.status h.message.0 h.headers
packet_words (Packet.BodyChunk p) bytes = part_words Kind.BodyChunk p bytes
packet_words (Packet.End reuse) bytes = row (kind_word Kind.End) bytes (boolean_number reuse) 0 0
