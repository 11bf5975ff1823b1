-- Moves one after another: whether a connection allows them all, the connection after them, and how a move of one end passes those of the
-- other end. A move that is allowed before the other end's moves is allowed after them and they after it, because each pair of them commutes.
-- Assumes nothing.
use mathlib.Core.Path.{◌≡◌, refl, sym, ap, subst, ◌∙◌}
use mathlib.Core.Bool.{true}
use mathlib.Core.List.{List, [], ◌∷◌, ◌++◌}
use Rattle.packet.specs.declared.Direction.{Direction}
use Rattle.connection.specs.Cycle.{move_kind, direction_of, allowed, after}
use Rattle.connection.specs.declared.Connection.{Connection}
use Rattle.connection.specs.declared.Move.{Move}
use Rattle.connection.proofs.Commute.{commute}
use Rattle.connection.specs.Facts.{Commuting}

-- the other direction
abbrev pub opposite : Direction → Direction
opposite Direction.ToContainer = Direction.ToServer
opposite Direction.ToServer = Direction.ToContainer

-- twice it is the same again
pub opposite_twice : (direction : Direction) → opposite (opposite direction) ≡ direction
opposite_twice Direction.ToContainer = refl
opposite_twice Direction.ToServer = refl

-- each move is allowed where those before it were made
abbrev pub AllAllowed : Connection → List Move → Type 0
AllAllowed c [] = Unit
AllAllowed c (m ∷ later) = (allowed c m ≡ true) × AllAllowed (after c m) later

-- the connection after moves
abbrev pub after_all : Connection → List Move → Connection
after_all c [] = c
after_all c (m ∷ later) = after_all (after c m) later

-- moves that all go one way
abbrev pub AllGo : Direction → List Move → Type 0
AllGo direction [] = Unit
AllGo direction (m ∷ later) = (direction_of (move_kind m) ≡ direction) × AllGo direction later

-- a move behind moves is allowed where the connection after them allows it
pub allowed_last : (c : Connection) (moves : List Move) (m : Move) → AllAllowed c moves → allowed (after_all c moves) m ≡ true
    → AllAllowed c (moves ++ m ∷ [])
allowed_last c [] m all f = (f, tt)
allowed_last c (n ∷ moves) m all f = (all.0, allowed_last (after c n) moves m all.1 f)

-- and the connection after all of them is the one after it
pub after_last : (c : Connection) (moves : List Move) (m : Move) → after_all c (moves ++ m ∷ []) ≡ after (after_all c moves) m
after_last c [] m = refl
after_last c (n ∷ moves) m = after_last (after c n) moves m

-- moves of the two ends commute, whichever end the first is of
commute_of : (direction : Direction) (c : Connection) (m n : Move) → direction_of (move_kind m) ≡ direction
    → direction_of (move_kind n) ≡ opposite direction → allowed c m ≡ true → allowed c n ≡ true → Commuting c m n
commute_of Direction.ToContainer c m n p q f g = commute c m n p q f g
commute_of Direction.ToServer c m n p q f g =
    let other : Commuting c n m = commute c n m q p g f in
    record {
      first_then = other.second_then;
      second_then = other.first_then;
      meets = sym other.meets;
    }

-- a move of one end that is allowed before moves of the other end: it is allowed after them, they are allowed after it, and both come to
-- the same connection
pub record Passing (c : Connection) (m : Move) (moves : List Move) : Type 0 where
  pub still : allowed (after_all c moves) m ≡ true
  pub others : AllAllowed (after c m) moves
  pub meets : after_all (after c m) moves ≡ after (after_all c moves) m

-- that is so of every such move
pub passing : (direction : Direction) (c : Connection) (m : Move) (moves : List Move) → direction_of (move_kind m) ≡ direction
    → AllGo (opposite direction) moves → allowed c m ≡ true → AllAllowed c moves → Passing c m moves
passing direction c m [] p q f all = record { still = f; others = tt; meets = refl }
passing direction c m (n ∷ moves) p q f all =
    let pair : Commuting c m n = commute_of direction c m n p q.0 f all.0 in
    let rest : Passing (after c n) m moves = passing direction (after c n) m moves p q.1 pair.second_then all.1 in
    record {
      still = rest.still;
      others = (pair.first_then, subst (λ (x : Connection). AllAllowed x moves) (sym pair.meets) rest.others);
      meets = ap (λ (x : Connection). after_all x moves) pair.meets ∙ rest.meets;
    }
