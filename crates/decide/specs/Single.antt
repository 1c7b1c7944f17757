-- That a plan can be read is one fact: any two proofs of it are the same, so that a value can carry it in a ghost field.
use Rattle.std.specs.Prelude.{List, [], ◌∷◌}
use Rattle.std.specs.Coded.{×_prop, Unit-prop}
use Rattle.std.proofs.Props.{props}
use Rattle.laws.specs.Lists.{All}
use Rattle.plan.specs.Records.{Plan}
use Rattle.plan.specs.File.{Readable}

pub all_single : {A : Type 0} (ok : A → Type 0) → ((a : A) → IsProp (ok a)) → (l : List A) → IsProp (All ok l)
unfolding All
all_single ok h [] = Unit-prop
all_single ok h (a ∷ l) = ×_prop (h a) (all_single ok h l)

pub readable_single : (p : Plan) → IsProp (Readable p)
readable_single p = Prim.hlevel (all_single, props)
