-- The laws of the hold set: what it has after a hold was added or dropped, and when it is empty.
use mathlib.Core.Path.{◌≡◌}
use mathlib.Core.Bool.{true, false}
use mathlib.Core.Logic.{◌≢◌, inl, inr, ◌↔◌}
use Prim.Native.Nat.{ℕ, zero, suc, ◌/◌, ◌%◌, ◌^◌, ◌<◌, ◌≤◌}
use native.Mathlib.Omega.{arith}
use native.Mathlib.Nat.{div-eq_of_lt, div-lt_iff_lt-mul}
use lib.Dec.{eqb}
use lib.Pow.{pow_pos}
use borrow.Author.Tests.{eqb-true, eqb-false, eq-eqb, ne_eqb, lt-ltb, le-ltb, ltb-true}
use Rattle.laws.specs.Tests.{Is, split, clash, below?}
use Rattle.laws.specs.Sets.{member, including, member_including, member_including_other, including_including, member_empty, no_member}
use Rattle.state.specs.Holds.{room, adding, empty, within}

-- A set below 2 to the n has nothing from n on, and only such a set.

pub member_beyond : (n set route : ℕ) → set < 2 ^ n → n ≤ route → member set route ≡ false
unfolding member
member_beyond n set zero h k = let z : n ≡ 0 = omega arith in let e : set < 1 = rw z at h in ne_eqb (set % 2) 1 (λ o. omega arith)
member_beyond zero set (suc route) h k = member_beyond zero (set / 2) route (omega arith) (omega arith)
member_beyond (suc n) set (suc route) h k = member_beyond n (set / 2) route (omega arith) (omega arith)

pub member_room : (n set route : ℕ) → set < 2 ^ n → Is (member set route) → route < n
member_room n set route h e = elim (below? route n) [ inl k ↦ k | inr k ↦ clash e (member_beyond n set route h k) ]

below_power : (n : ℕ) → n < 2 ^ n
below_power zero = omega arith
below_power (suc n) = let i = below_power n in omega arith

-- only the empty set has nothing
pub only_empty : (set : ℕ) → ((route : ℕ) → member set route ≡ false) → set ≡ 0
only_empty set h = no_member set set (below_power set) (λ route k. h route)

pub none_beyond : (n set : ℕ) → ((route : ℕ) → n ≤ route → member set route ≡ false) → set < 2 ^ n
unfolding member
none_beyond zero set h = let z = only_empty set (λ route. h route (omega arith)) in omega arith
none_beyond (suc n) set h = let i = none_beyond n (set / 2) (λ route k. h (suc route) (omega arith)) in omega arith

pub within_beyond : (n set : ℕ) → Is (within n set) → (route : ℕ) → n ≤ route → member set route ≡ false
unfolding within
within_beyond n set e route k = member_beyond n set route (ltb-true set (2 ^ n) e) k

pub beyond_within : (n set : ℕ) → ((route : ℕ) → n ≤ route → member set route ≡ false) → Is (within n set)
unfolding within
beyond_within n set h = lt-ltb set (2 ^ n) (none_beyond n set h)

-- a set that is not empty has some route
some_below : (n set : ℕ) → set < 2 ^ n → set ≢ 0 → (route : ℕ) × Is (member set route)
unfolding member
some_below zero set h k = absurd (k (omega arith))
some_below (suc n) set h k = elim (split (eqb (set % 2) 1)) [
  | inl e ↦ (0, e)
  | inr e ↦ (let o : (set % 2 ≡ 1 → ⊥) = eqb-false (set % 2) 1 e in let w = some_below n (set / 2) (omega arith) (λ z. k (omega arith)) in (suc w.0, w.1))
]

pub some_member : (set : ℕ) → set ≢ 0 → (route : ℕ) × Is (member set route)
some_member set = some_below set set (below_power set)

pub member_some : (set route : ℕ) → Is (member set route) → set ≢ 0
member_some set route e z = clash (rw z at e) (member_empty route)

-- A hold added.

pub adding_there : (set route : ℕ) → route < room → adding set route ≡ including set route
unfolding adding
adding_there set route h = rw (lt-ltb route room h)

pub adding_beyond : (set route : ℕ) → room ≤ route → adding set route ≡ set
unfolding adding
adding_beyond set route h = rw (le-ltb route room h)

-- the route is there, every other as before
pub member_adding : (set route : ℕ) → route < room → member (adding set route) route ≡ true
member_adding set route h = rw (adding_there set route h) (member_including set route)

pub member_adding_other : (set route k : ℕ) → k ≢ route → member (adding set route) k ≡ member set k
member_adding_other set route k d = elim (below? route room) [
  | inl h ↦ rw (adding_there set route h) (member_including_other set route k d)
  | inr h ↦ rw (adding_beyond set route h)
]

-- twice is once
pub adding_adding : (set route : ℕ) → adding (adding set route) route ≡ adding set route
adding_adding set route = elim (below? route room) [
  | inl h ↦ rw (adding_there set route h, adding_there (including set route) route h) (including_including set route)
  | inr h ↦ adding_beyond (adding set route) route h
]

-- Empty.

pub empty_is : (set : ℕ) → Is (empty set) ↔ ((route : ℕ) → member set route ≡ false)
unfolding empty
empty_is set = (λ e route. let z = eqb-true set 0 e in rw z (member_empty route), λ h. eq-eqb set 0 (only_empty set h))

-- The code's shift.
pub within_shifted : (n set : ℕ) → eqb (set / 2 ^ n) 0 ≡ within n set
unfolding within
within_shifted n set = elim (below? set (2 ^ n)) [
  | inl h ↦ rw (lt-ltb set (2 ^ n) h) (eq-eqb (set / 2 ^ n) 0 (div-eq_of_lt h))
  | inr h ↦ rw (le-ltb set (2 ^ n) h) (ne_eqb (set / 2 ^ n) 0 (λ z. let w = (div-lt_iff_lt-mul {x = set} {y = 1} (pow_pos n)).0 (omega arith) in omega arith))
]

pub within_room : (n m set : ℕ) → set < 2 ^ m → m ≤ n → within n set ≡ true
within_room n m set h k = beyond_within n set (λ route r. member_beyond m set route h (omega arith))
