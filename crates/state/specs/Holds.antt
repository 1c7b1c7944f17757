-- The hold set: the routes that hold a point, as the bits of one number. Whether a route is in it, and the set without a route, are those of
-- laws/Sets.
use Rattle.std.specs.Prelude.{Bool, cond, ℕ, ◌^◌, eqb, ltb}
use Rattle.laws.specs.Sets.{including}

-- how many routes a set has room for
abbrev pub room : ℕ
room = 64

-- a set with one hold more: a route that there is no room for is left out
unfoldable pub adding : ℕ → ℕ → ℕ
adding set route = cond (ltb route room) (including set route) set

-- no route is in the set
unfoldable pub empty : ℕ → Bool
empty set = eqb set 0

-- no route from n on is in the set
unfoldable pub within : ℕ → ℕ → Bool
within n set = ltb set (2 ^ n)
