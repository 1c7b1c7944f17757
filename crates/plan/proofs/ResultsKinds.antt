-- Written by .ci/contracts --write: for each function of src/kinds.rt, that any two results that its contract allows are the same.
use Rattle.std.specs.Prelude.{ℕ, Result, ◌≡◌ as ◌is◌, Bool, ◌≡◌, ◌≤◌, MatchResult}
use Rattle.plan.specs.declared.Kind.{Kind}
use Rattle.plan.specs.declared.NoKind.{NoKind}
use Rattle.plan.proofs.Codes.{kind_once}
use Rattle.plan.specs.declared.Track.{Track}
use Rattle.laws.specs.Once.{equal_once}
use Rattle.plan.specs.Kinds.{kinds, code_of, of_kind, uses, plain, exit, forks, legged, point, out, leg, no_track}

pub kind_try_from_once : (code : ℕ) (r r₂ : Result Kind NoKind)
    → (MatchResult r (λ kind. code_of kind ≡ code) (λ _. kinds ≤ code))
    → (MatchResult r₂ (λ kind. code_of kind ≡ code) (λ _. kinds ≤ code))
    → r is r₂
kind_try_from_once code r r₂ by_one by_other = kind_once _ _ _ by_one by_other

pub track_is_once : (self : Track) (kind : Kind) (r r₂ : Bool)
    → (r ≡ of_kind self kind)
    → (r₂ ≡ of_kind self kind)
    → r is r₂
track_is_once self kind r r₂ by_one by_other = equal_once _ _ _ by_one by_other

pub track_plain_once : (self : Track) (r r₂ : Bool)
    → (r ≡ plain self)
    → (r₂ ≡ plain self)
    → r is r₂
track_plain_once self r r₂ by_one by_other = equal_once _ _ _ by_one by_other

pub track_exit_once : (self : Track) (r r₂ : Bool)
    → (r ≡ exit self)
    → (r₂ ≡ exit self)
    → r is r₂
track_exit_once self r r₂ by_one by_other = equal_once _ _ _ by_one by_other

pub track_forks_once : (self : Track) (r r₂ : Bool)
    → (r ≡ forks self)
    → (r₂ ≡ forks self)
    → r is r₂
track_forks_once self r r₂ by_one by_other = equal_once _ _ _ by_one by_other

pub track_legged_once : (self : Track) (r r₂ : Bool)
    → (r ≡ legged self)
    → (r₂ ≡ legged self)
    → r is r₂
track_legged_once self r r₂ by_one by_other = equal_once _ _ _ by_one by_other

pub track_point_once : (self : Track) (r r₂ : Bool)
    → (r ≡ point self)
    → (r₂ ≡ point self)
    → r is r₂
track_point_once self r r₂ by_one by_other = equal_once _ _ _ by_one by_other

pub track_out_once : (self : Track) (lie : Bool) (r r₂ : ℕ)
    → (r ≡ out self lie)
    → (r₂ ≡ out self lie)
    → r is r₂
track_out_once self lie r r₂ by_one by_other = equal_once _ _ _ by_one by_other

pub track_leg_once : (self : Track) (lie : Bool) (r r₂ : ℕ)
    → (r ≡ leg self lie)
    → (r₂ ≡ leg self lie)
    → r is r₂
track_leg_once self lie r r₂ by_one by_other = equal_once _ _ _ by_one by_other

pub uses_once : (kind r r₂ : ℕ)
    → (r ≡ uses kind)
    → (r₂ ≡ uses kind)
    → r is r₂
uses_once kind r r₂ by_one by_other = equal_once _ _ _ by_one by_other

pub no_track_once : (r r₂ : Track)
    → (r ≡ no_track)
    → (r₂ ≡ no_track)
    → r is r₂
no_track_once r r₂ by_one by_other = equal_once _ _ _ by_one by_other
