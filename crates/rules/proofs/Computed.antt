-- The verdict on a given plan can be computed: where `computed` unfolds, so does all that a verdict rests on.
use Rattle.laws.specs.Lists.{has, different}
use Rattle.laws.specs.Search.{all_below, lowest_from, lowest, unless}
use Rattle.plan.specs.Kinds.{plain, exit, forks, legged, out, leg}
use Rattle.plan.specs.Records.{Plan, track_of, home_of, route_of, entry_of}
use Rattle.plan.specs.Layout.{leads, is_home}
use Rattle.plan.specs.Routes.{points_of, listed, released, way_of, track_at}
use Rattle.rules.specs.Rules.{later, wants, wants_out, listed_out, wants_in, listed_in, is_leg, none_leads, forbidden, linked_at, no_home_at, ends, facing_listed, trailing_listed, release_fits}
use Rattle.rules.specs.Rules.{ways_differ, legs_lead, led_once, home_plain, entry_placed, path_linked, path_ends, path_clear, points_listed, points_clear, releases_fit, entry_clear}
use Rattle.rules.specs.Verdict.{rules, lowest_broken, first_broken, verdict, Verdict}

unfoldable pub computed : Plan → Verdict
unfolding has different all_below lowest_from lowest unless
    plain exit forks legged out leg track_of home_of route_of entry_of leads is_home points_of listed released
    later way_of track_at wants wants_out listed_out wants_in listed_in
    is_leg none_leads forbidden linked_at no_home_at ends facing_listed trailing_listed release_fits
    ways_differ legs_lead led_once home_plain entry_placed path_linked path_ends path_clear points_listed points_clear releases_fit entry_clear
    rules lowest_broken first_broken verdict
computed = verdict
