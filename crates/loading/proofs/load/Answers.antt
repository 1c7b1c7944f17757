-- `loading::load`: each section is scanned, then stored, and nothing is written to the lent image before the whole file was found right.
use mathlib.Core.List.{List}
use Rattle.std.proofs.Common.{rules}
use Prim.Native.Nat.{ℕ}
use Rattle.loading.proofs.Stored.{empty_image}
use Rattle.loading.proofs.Filling.{zeros}
use Rattle.loading.proofs.Steps.{Tracks, tracks_refused, tracks_room, tracks_read_lem, Signals, signals_refused, signals_room, signals_read}
use Rattle.loading.proofs.Steps.{refuses, routes_refused, routes_room, entries_answer, entries_room, left_over_lem, whole}
use Rattle.loading.proofs.load.Goals as goal

pub returns-in_err-signals_from : goal.returns-in_err-signals_from
returns-in_err-signals_from c =
    refuses _ _ (search rules) c.in_err-signals_from.was (tracks_refused _ c.track_section.ensures c.in_err-signals_from.was)

pub store_list-requires : goal.store_list-requires
store_list-requires c =
    tracks_room _ c.track_section.ensures c.in_ok-signals_from.was

pub returns-in_err-routes_from : goal.returns-in_err-routes_from
unfolding empty_image zeros
returns-in_err-routes_from c =
    let file : List ℕ = c.args.file.now in
    let signals-from : ℕ = c.in_ok-signals_from.signals_from in
    let with-tracks : List ℕ = c.store_list.new.image in
    let tracks_known : Tracks file signals-from with-tracks = tracks_read_lem _ c.track_section.ensures c.in_ok-signals_from.was c.store_list.ensures.1 in
    refuses _ _ (search rules) c.in_err-routes_from.was
    (signals_refused _ tracks_known c.tracks.ensures c.rising_list.ensures c.in_err-routes_from.was)

pub store_list-requires-2 : goal.store_list-requires-2
unfolding empty_image zeros
store_list-requires-2 c =
    let file : List ℕ = c.args.file.now in
    let signals-from : ℕ = c.in_ok-signals_from.signals_from in
    let with-tracks : List ℕ = c.store_list.new.image in
    let tracks_known : Tracks file signals-from with-tracks = tracks_read_lem _ c.track_section.ensures c.in_ok-signals_from.was c.store_list.ensures.1 in
    signals_room _ tracks_known c.tracks.ensures c.rising_list.ensures c.in_ok-routes_from.was

pub returns-in_err-entries_from : goal.returns-in_err-entries_from
unfolding empty_image zeros
returns-in_err-entries_from c =
    let file : List ℕ = c.args.file.now in
    let signals-from : ℕ = c.in_ok-signals_from.signals_from in
    let routes-from : ℕ = c.in_ok-routes_from.routes_from in
    let with-signals : List ℕ = c.store_list-2.new.image in
    let with-tracks : List ℕ = c.store_list.new.image in
    let tracks_known : Tracks file signals-from with-tracks = tracks_read_lem _ c.track_section.ensures c.in_ok-signals_from.was c.store_list.ensures.1 in
    let signals_known : Signals file signals-from routes-from with-signals = signals_read _ tracks_known c.tracks.ensures c.rising_list.ensures c.in_ok-routes_from.was c.store_list-2.ensures.1 in
    refuses _ _ (search rules) c.in_err-entries_from.was (routes_refused _ signals_known c.route_section.ensures c.in_err-entries_from.was)

pub returns-in_err-end : goal.returns-in_err-end
unfolding empty_image zeros
returns-in_err-end c =
    let file : List ℕ = c.args.file.now in
    let signals-from : ℕ = c.in_ok-signals_from.signals_from in
    let routes-from : ℕ = c.in_ok-routes_from.routes_from in
    let with-signals : List ℕ = c.store_list-2.new.image in
    let with-tracks : List ℕ = c.store_list.new.image in
    let tracks_known : Tracks file signals-from with-tracks = tracks_read_lem _ c.track_section.ensures c.in_ok-signals_from.was c.store_list.ensures.1 in
    let signals_known : Signals file signals-from routes-from with-signals = signals_read _ tracks_known c.tracks.ensures c.rising_list.ensures c.in_ok-routes_from.was c.store_list-2.ensures.1 in
    refuses _ _ (search rules) c.in_err-end.was
    (entries_answer _ signals_known c.route_section.ensures c.in_ok-entries_from.was
    c.tracks-2.ensures c.entry_section.ensures)

pub returns-then-end-file : goal.returns-then-end-file
unfolding empty_image zeros
returns-then-end-file c =
    let file : List ℕ = c.args.file.now in
    let signals-from : ℕ = c.in_ok-signals_from.signals_from in
    let routes-from : ℕ = c.in_ok-routes_from.routes_from in
    let with-signals : List ℕ = c.store_list-2.new.image in
    let with-tracks : List ℕ = c.store_list.new.image in
    let tracks_known : Tracks file signals-from with-tracks = tracks_read_lem _ c.track_section.ensures c.in_ok-signals_from.was c.store_list.ensures.1 in
    let signals_known : Signals file signals-from routes-from with-signals = signals_read _ tracks_known c.tracks.ensures c.rising_list.ensures c.in_ok-routes_from.was c.store_list-2.ensures.1 in
    left_over_lem _ signals_known c.route_section.ensures c.in_ok-entries_from.was
    c.tracks-2.ensures c.entry_section.ensures c.in_ok-end.was _ c.if-end-file.true

pub store_routes-requires : goal.store_routes-requires
unfolding empty_image zeros
store_routes-requires c =
    let file : List ℕ = c.args.file.now in
    let signals-from : ℕ = c.in_ok-signals_from.signals_from in
    let routes-from : ℕ = c.in_ok-routes_from.routes_from in
    let with-signals : List ℕ = c.store_list-2.new.image in
    let with-tracks : List ℕ = c.store_list.new.image in
    let tracks_known : Tracks file signals-from with-tracks = tracks_read_lem _ c.track_section.ensures c.in_ok-signals_from.was c.store_list.ensures.1 in
    let signals_known : Signals file signals-from routes-from with-signals = signals_read _ tracks_known c.tracks.ensures c.rising_list.ensures c.in_ok-routes_from.was c.store_list-2.ensures.1 in
    routes_room _ signals_known c.route_section.ensures c.in_ok-entries_from.was

pub store_entries-requires : goal.store_entries-requires
unfolding empty_image zeros
store_entries-requires c =
    let file : List ℕ = c.args.file.now in
    let signals-from : ℕ = c.in_ok-signals_from.signals_from in
    let routes-from : ℕ = c.in_ok-routes_from.routes_from in
    let with-signals : List ℕ = c.store_list-2.new.image in
    let with-tracks : List ℕ = c.store_list.new.image in
    let tracks_known : Tracks file signals-from with-tracks = tracks_read_lem _ c.track_section.ensures c.in_ok-signals_from.was c.store_list.ensures.1 in
    let signals_known : Signals file signals-from routes-from with-signals = signals_read _ tracks_known c.tracks.ensures c.rising_list.ensures c.in_ok-routes_from.was c.store_list-2.ensures.1 in
    entries_room _ signals_known c.route_section.ensures c.in_ok-entries_from.was
    c.tracks-2.ensures c.entry_section.ensures c.in_ok-end.was

pub returns : goal.returns
unfolding empty_image zeros
returns c =
    let file : List ℕ = c.args.file.now in
    let signals-from : ℕ = c.in_ok-signals_from.signals_from in
    let routes-from : ℕ = c.in_ok-routes_from.routes_from in
    let with-signals : List ℕ = c.store_list-2.new.image in
    let with-tracks : List ℕ = c.store_list.new.image in
    let tracks_known : Tracks file signals-from with-tracks = tracks_read_lem _ c.track_section.ensures c.in_ok-signals_from.was c.store_list.ensures.1 in
    let signals_known : Signals file signals-from routes-from with-signals = signals_read _ tracks_known c.tracks.ensures c.rising_list.ensures c.in_ok-routes_from.was c.store_list-2.ensures.1 in
    whole _ signals_known c.route_section.ensures c.in_ok-entries_from.was
    c.tracks-2.ensures c.entry_section.ensures c.in_ok-end.was
    _ c.if-end-file.false c.store_routes.ensures c.store_entries.ensures
