-- `signalbox::signalbox_check`: what reading or checking answers, as its code.
use Rattle.signalbox.proofs.Faced.{check_refused, was_read, checked}
use Rattle.signalbox.proofs.signalbox_check.Goals as goal

pub returns-in-Ok : goal.returns-in-Ok
returns-in-Ok c =
    checked (was_read c.args.file.now _ c.load.ensures c.in-Ok.is) c.check.ensures c.verdict_code.ensures

pub returns-in-Err : goal.returns-in-Err
returns-in-Err c =
    check_refused c.args.file.now _ c.load.ensures c.in-Err.is c.form_code.ensures
