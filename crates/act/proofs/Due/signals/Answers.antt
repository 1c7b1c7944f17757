-- `act::Due::signals`: case by case, one signal shown or those of the track left red; a route plus one fits a byte.
use native.Mathlib.Omega.{arith}
use Rattle.act.proofs.Named.{granted_there, granted_start, cancelled_start}
use Rattle.act.proofs.Acts.{entered_signals, granted_signals, cancelled_signals, behind_signals}
use Rattle.act.proofs.Due.signals.Goals as goal

pub overflow_add-signals : goal.overflow_add-signals
overflow_add-signals c =
    omega (arith, granted_there _ _ c.args.self.ready c.in-Granted.is, c.args.self.ready.readable.routes.few)

pub overflow_cast-signals : goal.overflow_cast-signals
overflow_cast-signals c =
    omega (arith, granted_there _ _ c.args.self.ready c.in-Granted.is, c.args.self.ready.readable.routes.few)

pub bounds-signals-start : goal.bounds-signals-start
bounds-signals-start c =
    omega (arith, granted_start _ _ c.args.self.ready c.in-Granted.is c.start_of-start.ensures, c.requires)

pub bounds-signals-start-in-Cancelled : goal.bounds-signals-start-in-Cancelled
bounds-signals-start-in-Cancelled c =
    omega (arith, cancelled_start _ _ c.args.self.ready c.in-Cancelled.is c.start_of-start-in-Cancelled.ensures, c.requires)

pub returns-in-Granted : goal.returns-in-Granted
returns-in-Granted c = granted_signals _ _ _ c.requires c.in-Granted.is c.start_of-start.ensures

pub returns-in-Cancelled : goal.returns-in-Cancelled
returns-in-Cancelled c =
    cancelled_signals _ _ _ c.requires c.in-Cancelled.is c.start_of-start-in-Cancelled.ensures

pub returns-in-Moved : goal.returns-in-Moved
returns-in-Moved c = behind_signals _ _ _ c.in-Moved.is c.redden.ensures

pub returns-in-Entered : goal.returns-in-Entered
returns-in-Entered c = entered_signals _ _ _ c.in-Entered.is
