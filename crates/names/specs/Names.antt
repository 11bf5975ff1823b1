-- The listed names and their codes: methods, request headers, response headers, attributes; and what it is to spell one.
-- Document 01, 'Server to container' and 'Container to server'. It names every attribute code but 0A, which has its name beside
-- its value; `req_attribute` is what the public AJP13 text calls that code.
-- Assumes nothing.
use Rattle.std.specs.Prelude.{Bool, true, false, List, [], ◌∷◌, ℕ, ◌+◌, ◌-◌, leb, ltb, eqb, length, get_or, Option, Some, None}
use Prim.Native.Char.{code}
use Prim.Native.String.{String, [] as empty, ◌∷◌ as ◌then◌}
use Rattle.wire.specs.Pick.{pick, both, between}
use Rattle.names.specs.declared.NameList.{NameList}

-- the bytes of a text
abbrev pub ascii : String → List ℕ
ascii empty = []
ascii (c then s) = code c ∷ ascii s

-- codes 1 to 27
unfoldable pub method_names : List (List ℕ)
method_names =
    ascii "OPTIONS"
    ∷ ascii "GET"
    ∷ ascii "HEAD"
    ∷ ascii "POST"
    ∷ ascii "PUT"
    ∷ ascii "DELETE"
    ∷ ascii "TRACE"
    ∷ ascii "PROPFIND"
    ∷ ascii "PROPPATCH"
    ∷ ascii "MKCOL"
    ∷ ascii "COPY"
    ∷ ascii "MOVE"
    ∷ ascii "LOCK"
    ∷ ascii "UNLOCK"
    ∷ ascii "ACL"
    ∷ ascii "REPORT"
    ∷ ascii "VERSION-CONTROL"
    ∷ ascii "CHECKIN"
    ∷ ascii "CHECKOUT"
    ∷ ascii "UNCHECKOUT"
    ∷ ascii "SEARCH"
    ∷ ascii "MKWORKSPACE"
    ∷ ascii "UPDATE"
    ∷ ascii "LABEL"
    ∷ ascii "MERGE"
    ∷ ascii "BASELINE_CONTROL"
    ∷ ascii "MKACTIVITY"
    ∷ []

-- codes A001 to A00E
unfoldable pub request_names : List (List ℕ)
request_names =
    ascii "accept"
    ∷ ascii "accept-charset"
    ∷ ascii "accept-encoding"
    ∷ ascii "accept-language"
    ∷ ascii "authorization"
    ∷ ascii "connection"
    ∷ ascii "content-type"
    ∷ ascii "content-length"
    ∷ ascii "cookie"
    ∷ ascii "cookie2"
    ∷ ascii "host"
    ∷ ascii "pragma"
    ∷ ascii "referer"
    ∷ ascii "user-agent"
    ∷ []

-- codes A001 to A00B
unfoldable pub response_names : List (List ℕ)
response_names =
    ascii "Content-Type"
    ∷ ascii "Content-Language"
    ∷ ascii "Content-Length"
    ∷ ascii "Date"
    ∷ ascii "Last-Modified"
    ∷ ascii "Location"
    ∷ ascii "Set-Cookie"
    ∷ ascii "Set-Cookie2"
    ∷ ascii "Servlet-Engine"
    ∷ ascii "Status"
    ∷ ascii "WWW-Authenticate"
    ∷ []

-- codes 03 to 0D
unfoldable pub attribute_names : List (List ℕ)
attribute_names =
    ascii "remote_user"
    ∷ ascii "auth_type"
    ∷ ascii "query_string"
    ∷ ascii "route"
    ∷ ascii "ssl_cert"
    ∷ ascii "ssl_cipher"
    ∷ ascii "ssl_session"
    ∷ ascii "req_attribute"
    ∷ ascii "ssl_key_size"
    ∷ ascii "secret"
    ∷ ascii "stored_method"
    ∷ []

-- the names of a list
abbrev pub names_in : NameList → List (List ℕ)
names_in NameList.Methods = method_names
names_in NameList.RequestHeaders = request_names
names_in NameList.ResponseHeaders = response_names
names_in NameList.Attributes = attribute_names

-- the code of a list's first name; the others follow in order
abbrev pub first_code : NameList → ℕ
first_code NameList.Methods = 1
first_code NameList.RequestHeaders = 0xA001
first_code NameList.ResponseHeaders = 0xA001
first_code NameList.Attributes = 3

-- header names are the same in capital and small letters; methods and attribute names are compared as they stand
abbrev pub ignores_case : NameList → Bool
ignores_case NameList.Methods = false
ignores_case NameList.RequestHeaders = true
ignores_case NameList.ResponseHeaders = true
ignores_case NameList.Attributes = false

-- a code that is in the list
unfoldable pub is_listed : NameList → ℕ → Bool
is_listed list n = both (leb (first_code list) n) (ltb n (first_code list + length (names_in list)))

-- the name for a code; no bytes where it is not listed
unfoldable pub name_for : NameList → ℕ → List ℕ
name_for list n = pick (leb (first_code list) n) (get_or (names_in list) (n - first_code list) []) []

-- a letter as it is compared: a capital one as a small one where case is ignored
unfoldable pub letter : Bool → ℕ → ℕ
letter ignoring b = pick (both ignoring (between 65 90 b)) (b + 32) b

-- a name and a text are the same, letter by letter
unfoldable pub same_name : Bool → List ℕ → List ℕ → Bool
same_name ignoring [] [] = true
same_name ignoring [] (y ∷ ys) = false
same_name ignoring (x ∷ xs) [] = false
same_name ignoring (x ∷ xs) (y ∷ ys) = both (eqb (letter ignoring x) (letter ignoring y)) (same_name ignoring xs ys)

-- the code of the first of these names that a text spells, where the first has code n
unfoldable pub code_from : Bool → ℕ → List (List ℕ) → List ℕ → Option ℕ
code_from ignoring n [] text = None
code_from ignoring n (name ∷ names) text =
    pick (same_name ignoring name text) (Some n) (code_from ignoring (n + 1) names text)

-- the code of the name that a text spells
unfoldable pub code_in : NameList → List ℕ → Option ℕ
code_in list text = code_from (ignores_case list) (first_code list) (names_in list) text
