-- `reading::fitting`: the tests stand in the order of the definition.
use mathlib.Core.Path.{sym, ◌∙◌}
use Rattle.std.proofs.Common.{rules}
use Rattle.reading.proofs.Scanned.{byte_small, number_absent, byte_unfit, number_low, number_good}
use Rattle.reading.proofs.fitting.Goals as goal

pub returns-in_err-found : goal.returns-in_err-found
returns-in_err-found g c test told = number_absent _ _ _ _ c.byte_at.ensures (search rules) c.in_err-found.was

pub returns-then-not-fits : goal.returns-then-not-fits
returns-then-not-fits g c test told =
    let small = byte_small _ _ c.type_inv.file c.byte_at.ensures c.in_ok-found.was in
    byte_unfit _ _ _ _ c.byte_at.ensures c.in_ok-found.was (sym (told _ _ small c.fits.ensures) ∙ c.if-not-fits.true)

pub returns-then-found-least : goal.returns-then-found-least
returns-then-found-least g c test told =
    let small = byte_small _ _ c.type_inv.file c.byte_at.ensures c.in_ok-found.was in
    number_low _ _ _ _ c.byte_at.ensures c.in_ok-found.was (sym (told _ _ small c.fits.ensures) ∙ c.if-not-fits.false) c.if-found-least.true

pub returns : goal.returns
returns g c test told =
    let small = byte_small _ _ c.type_inv.file c.byte_at.ensures c.in_ok-found.was in
    number_good _ _ _ _ c.byte_at.ensures c.in_ok-found.was (sym (told _ _ small c.fits.ensures) ∙ c.if-not-fits.false) c.if-found-least.false
