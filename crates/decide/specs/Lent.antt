-- What is lent to a decision, as the definitions have it.
use Rattle.std.specs.Prelude.{List, ℕ}
use Rattle.plan.specs.Records.{Plan}
use Rattle.plan.specs.Image.{plan_of}
use Rattle.state.specs.declared.State.{State}
use Rattle.state.specs.Cells.{state_in}
use Rattle.decide.specs.declared.Junction.{Junction}
use Rattle.decide.specs.declared.Points.{Points}

abbrev pub plan : Junction → Plan
plan junction = plan_of junction.image.now

abbrev pub state : Junction → State
state junction = state_in junction.cells.now junction.holds.now

-- the same, whichever routes hold which points
abbrev pub state_with : Junction → List ℕ → State
state_with junction holds = state_in junction.cells.now holds

abbrev pub normal : Points → List ℕ
normal points = points.normal.now

abbrev pub reverse : Points → List ℕ
reverse points = points.reverse.now
