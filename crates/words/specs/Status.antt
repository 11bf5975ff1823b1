-- What a call returns: `done`, the number of a refusal (`Refusal.antt` of `wire`), or one of the others here. These are above 65535, so
-- that no number which a call hands out can be taken for one. `src/status.rt` has the same list.
-- The C boundary.
-- Assumes nothing.
use Rattle.std.specs.Prelude.{Bool, ℕ, eqb}
use Rattle.wire.specs.Pick.{either, between}
use Rattle.wire.specs.Refusal.{is_fault}

-- accepted, written, added
abbrev pub done : ℕ
done = 0

-- the packet is not whole yet
abbrev pub needs : ℕ
needs = 0x10000

-- a connection has not its number of words, or one out of range
abbrev pub connection_length : ℕ
connection_length = 0x10001

abbrev pub connection_word : ℕ
connection_word = 0x10002

-- a building record has not its number of words, or one out of range
abbrev pub building_length : ℕ
building_length = 0x10003

abbrev pub building_word : ℕ
building_word = 0x10004

-- a Forward's fixed numbers are not as many as they must be, or one is out of range
abbrev pub fixed_length : ℕ
fixed_length = 0x10005

abbrev pub fixed_word : ℕ
fixed_word = 0x10006

-- an array lent for an answer has not that answer's length
abbrev pub answer_length : ℕ
answer_length = 0x10007

-- an argument out of range
abbrev pub argument : ℕ
argument = 0x10008

-- a check on the way has not its number of words, or one out of range
abbrev pub checking_length : ℕ
checking_length = 0x10009

abbrev pub checking_word : ℕ
checking_word = 0x1000A

-- the number of an error
abbrev pub is_error : ℕ → Bool
is_error n = between connection_length checking_word n

-- what is found wrong with the arrays and the arguments of a call: nothing, or an error
abbrev pub is_error_or_none : ℕ → Bool
is_error_or_none n = either (eqb n done) (is_error n)

-- what a call may return: done or the number of a refusal, needs, an error
abbrev pub is_status : ℕ → Bool
is_status n = either (is_fault n) (either (eqb n needs) (is_error n))
