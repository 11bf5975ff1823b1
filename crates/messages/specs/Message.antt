-- What a message is: what a packet says, apart from how its bytes say it and from where they stand.
-- Document 01, 'Server to container' and 'Container to server'.
-- Assumes nothing.
use Rattle.std.specs.Prelude.{Bool, true, false, List, [], ◌∷◌, ℕ, ◌+◌, ◌*◌, ◌<◌, length}
use Rattle.packet.specs.declared.Direction.{Direction}
use Rattle.connection.specs.Cycle.{direction_of}
use Rattle.connection.specs.declared.Kind.{Kind}

-- a string: null, or a text, which may be empty
pub data Text : Type 0 where
  null : Text
  text : List ℕ → Text

-- a header's name: a code of the direction's list, or spelled out
pub data MessageName : Type 0 where
  coded : ℕ → MessageName
  spelled : List ℕ → MessageName

-- a header
pub record Header : Type 0 where
  pub name : MessageName
  pub value : Text

-- what an attribute's code comes with: a string, an integer, or a name and a string
pub data Value : Type 0 where
  string : Text → Value
  integer : ℕ → Value
  pair : List ℕ → Text → Value

-- an attribute
pub record Attribute : Type 0 where
  pub code : ℕ
  pub value : Value

-- what a Forward says
pub record Request : Type 0 where
  pub method : ℕ
  pub protocol : Text
  pub uri : Text
  pub addr : Text
  pub host : Text
  pub name : Text
  pub port : ℕ
  pub ssl : Bool
  pub headers : List Header
  pub attributes : List Attribute

-- what a Send Headers says
pub record Response : Type 0 where
  pub status : ℕ
  pub message : Text
  pub headers : List Header

-- a message of any kind
pub data Message : Type 0 where
  cping : Message
  cpong : Message
  forward : Request → Message
  body : List ℕ → Message
  get_body : ℕ → Message
  send_headers : Response → Message
  body_chunk : List ℕ → Message
  end : Bool → Message

-- a message's kind
abbrev pub message_kind : Message → Kind
message_kind cping = Kind.CPing
message_kind cpong = Kind.CPong
message_kind (forward request) = Kind.Forward
message_kind (body bytes) = Kind.Body
message_kind (get_body asked) = Kind.GetBody
message_kind (send_headers response) = Kind.SendHeaders
message_kind (body_chunk bytes) = Kind.BodyChunk
message_kind (end reuse) = Kind.End

-- which way it goes
abbrev pub message_direction : Message → Direction
message_direction m = direction_of (message_kind m)

-- a string as a call takes it: whether it is null, and its bytes
abbrev pub is_null : Text → Bool
is_null null = true
is_null (text bytes) = false

abbrev pub content_of : Text → List ℕ
content_of null = []
content_of (text bytes) = bytes

-- how many places the table needs for it: two for each header and each attribute
abbrev pub places_for : Message → ℕ
places_for cping = 0
places_for cpong = 0
places_for (forward request) = 2 * (length request.headers + length request.attributes)
places_for (body bytes) = 0
places_for (get_body asked) = 0
places_for (send_headers response) = 2 * length response.headers
places_for (body_chunk bytes) = 0
places_for (end reuse) = 0

-- a message that the calls can be given: each number fits the 16 bits of the parameter that it is given to
abbrev pub Integer : ℕ → Type 0
Integer n = n < 65536

abbrev pub NameFits : MessageName → Type 0
NameFits (coded n) = Integer n
NameFits (spelled bytes) = Unit

abbrev pub HeadersFit : List Header → Type 0
HeadersFit [] = Unit
HeadersFit (header ∷ later) = NameFits header.name × HeadersFit later

abbrev pub ValueFits : Value → Type 0
ValueFits (string value) = Unit
ValueFits (integer n) = Integer n
ValueFits (pair name value) = Unit

abbrev pub AttributesFit : List Attribute → Type 0
AttributesFit [] = Unit
AttributesFit (attribute ∷ later) = Integer attribute.code × ValueFits attribute.value × AttributesFit later

abbrev pub Fit : Message → Type 0
Fit cping = Unit
Fit cpong = Unit
Fit (forward request) =
    Integer request.method × Integer request.port × HeadersFit request.headers × AttributesFit request.attributes
Fit (body bytes) = Unit
Fit (get_body asked) = Integer asked
Fit (send_headers response) = Integer response.status × HeadersFit response.headers
Fit (body_chunk bytes) = Unit
Fit (end reuse) = Unit
