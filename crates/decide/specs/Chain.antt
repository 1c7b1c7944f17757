-- A chain of tests by `?`: what the first test that applies hands back, or else the deed.
use Rattle.std.specs.Prelude.{Bool, true, false, Option, None, Some, Result, Ok, Err}
use Rattle.events.specs.declared.Deed.{Deed}
use Rattle.events.specs.declared.Answer.{Answer}
use Rattle.events.specs.declared.Answer.TheVariants.{Refused, Accident, Done}

-- an answer as the chain hands it back: a deed past the last test, and any other where its test stands
abbrev pub chained : Answer → Result Deed Answer
chained (Refused refusal) = Err (Refused refusal)
chained (Accident harm) = Err (Accident harm)
chained (Done deed) = Ok deed

-- what has to be so and isn't ends the chain
abbrev pub ensured : {E : Type 0} → Bool → E → Result (Unit {0}) E
ensured true stop = Ok tt
ensured false stop = Err stop

-- a stop that was found ends it
abbrev pub stopped : {E : Type 0} → Option E → Result (Unit {0}) E
stopped None = Ok tt
stopped (Some stop) = Err stop
