-- `bench::serve`: each turn goes on from what the turns before it left.
use Rattle.std.proofs.Common.{rules}
use Rattle.reading.specs.Reading.{parse}
use Rattle.bench.proofs.Served.{still, serving_start, serving_on, serving_turn, full_piece}
use Rattle.bench.proofs.serve.Goals as goal

pub loop-init : goal.loop-init
loop-init g c = serving_start (parse c.args.plan.now) _ _ c.requires

pub returns-in_err-read : goal.returns-in_err-read
returns-in_err-read g c = serving_on c.args.plan.now c.loop.invariant c.turn-done.ensures (search rules)

pub returns-in_err-map_err : goal.returns-in_err-map_err
returns-in_err-map_err g c = serving_on c.args.plan.now c.loop.invariant c.turn-done.ensures (search rules)

pub returns-then-read-eq0 : goal.returns-then-read-eq0
returns-then-read-eq0 g c = serving_on c.args.plan.now c.loop.invariant c.turn-done.ensures (search rules)

pub loop-preserved : goal.loop-preserved
loop-preserved g c = serving_turn c.args.plan.now c.loop.invariant c.turn-done.ensures (search rules) (still c.turn-done.auto.bytes full_piece)
