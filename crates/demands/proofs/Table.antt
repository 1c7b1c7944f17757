-- The table of slips, computed. Assumes nothing.
use mathlib.Core.Path.{◌≡◌, refl}
use mathlib.Core.List.{map}
use Rattle.laws.specs.Lists.{joined, empty_from}
use Rattle.laws.specs.Tables.{tab}
use Rattle.laws.specs.Sets.{member, including, excluding}
use Rattle.plan.specs.Kinds.{point, is_point, uses, limit_of}
use Rattle.plan.specs.Layout.{signal_at, stands_at}
use Rattle.plan.specs.Routes.{releases}
use Rattle.reading.specs.Reading.{and_then, done, number, count, many, counted, path_list, rising_list, point_list, track, track_section, signal_section, release, release_list, route}
use Rattle.reading.specs.Reading.{route_section, entry, entry_section, sections, parse}
use Rattle.rules.proofs.Computed.{computed}
use Rattle.state.specs.Holds.{adding, empty, within}
use Rattle.state.specs.State.{train_at, lie_at, held_by, shown_at, fresh, again, once, point_or, points_only, green_names, named_at, greens_name, lies_known, well_formed}
use Rattle.events.specs.Events.{event_of, first_event, events_of}
use Rattle.events.specs.Answers.{refusal_number, refusal_values, harm_number, harm_values, deed_number, deed_values, answer_number, answer_values, deed_arrives, deed_comes, deed_leaves}
use Rattle.events.specs.Decide.{has_train, is_red, is_green, is_reverse, is_held, busy, lie_after, turns, held_other, derails, stands, busy_train, unless_train, held_point, derailed_point}
use Rattle.events.specs.Decide.{front_of, in_plan, red_at, way_out, runs_through, answer_request, answer_cancel, answer_enter, move_to, move_from, answer_move, decided, answer}
use Rattle.events.specs.After.{stood, gone, new_trains, new_lies, taken, dropped, dropped_all, arrived, route_holds, given_back, new_holds, shown, reddened}
use Rattle.events.specs.After.{route_signals, red_behind, new_signals, after_deed, after, next_state}
use Rattle.lines.specs.Decimal.{decimal_in, decimal, value_from}
use Rattle.lines.specs.Lines.{bytes_of, line, refusal_words, harm_words, deed_words, answer_words, table_number, answer_line, verdict_line, form_line}
use Rattle.demands.specs.Demands.{history, reached, once_at, total, shown as shown-demands}
use Rattle.demands.specs.Session.{answers_of, lines_of, first_line, printed}
use Rattle.demands.specs.Table.{bench, table}

pub slips : map (λ r. printed r.file r.events) table ≡ map (λ r. bytes_of r.text) table
unfolding joined empty_from tab member including excluding
    point is_point uses limit_of signal_at stands_at releases
    and_then done number count many counted path_list rising_list point_list track track_section signal_section release release_list route route_section
    entry entry_section sections parse
    computed
    adding empty within train_at lie_at held_by shown_at fresh again once point_or points_only green_names named_at greens_name lies_known well_formed
    event_of first_event events_of
    refusal_number refusal_values harm_number harm_values deed_number deed_values answer_number answer_values deed_arrives deed_comes deed_leaves
    has_train is_red is_green is_reverse is_held busy lie_after turns held_other derails stands busy_train unless_train held_point derailed_point front_of in_plan
    red_at way_out runs_through answer_request answer_cancel answer_enter move_to move_from answer_move decided answer
    stood gone new_trains new_lies taken dropped dropped_all arrived route_holds given_back new_holds shown reddened route_signals
    red_behind new_signals after_deed after next_state
    decimal_in decimal value_from bytes_of line refusal_words harm_words deed_words answer_words table_number answer_line verdict_line form_line
    history reached once_at total shown-demands answers_of lines_of first_line printed bench table
slips = refl
