-- `signalbox::signalbox_load`: what reading answers, as its code, and what it leaves.
use Rattle.signalbox.proofs.Faced.{read_refused, was_read, read_good}
use Rattle.signalbox.proofs.signalbox_load.Goals as goal

pub returns-in-Ok : goal.returns-in-Ok
returns-in-Ok c =
    let told = c.load.ensures in
    record { code = read_good (was_read c.args.file.now _ told c.in-Ok.is); holds = told.1 }

pub returns-in-Err : goal.returns-in-Err
returns-in-Err c =
    let told = c.load.ensures in
    record { code = read_refused c.args.file.now _ told c.in-Err.is c.form_code.ensures; holds = told.1 }
