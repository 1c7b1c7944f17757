-- `writing::write`: what was answered, and by it alone the sections or nothing.
use Rattle.std.proofs.Common.{◌∙◌, ap, sym, Err}
use Rattle.std.proofs.lemmas.Result.{err_from_is_err_and}
use Rattle.writing.proofs.Answers.{has_room, left_alone, left_written}
use Rattle.writing.proofs.write.Goals as goal

pub returns-in_err-size : goal.returns-in_err-size
returns-in_err-size c =
    let same = err_from_is_err_and c.from_residual.result c.from_residual.ensures.1 in
    (same.1 ∙ ap Err same.2 ∙ sym c.in_err-size.was ∙ c.judged.ensures, left_alone _ _ c.judged.ensures c.in_err-size.was)

pub write_sections-requires : goal.write_sections-requires
write_sections-requires c = has_room _ _ c.judged.ensures c.in_ok-size.was

pub returns : goal.returns
returns c = (sym c.in_ok-size.was ∙ c.judged.ensures, left_written _ _ c.judged.ensures c.in_ok-size.was c.write_sections.ensures)
