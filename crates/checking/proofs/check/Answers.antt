-- `checking::check`: each rule stops it, as the verdict says, or has it go on to the rules that are left.
use Rattle.std.proofs.Common.{◌∙◌, ap, refl, Ok, rules as laws, tests}
use Rattle.laws.specs.Search.{unless}
use Rattle.plan.specs.Image.{plan_of}
use Rattle.rules.specs.Rules.{ways_differ, legs_lead, home_plain, entry_placed, path_linked, path_ends, path_clear, points_listed, points_clear, releases_fit, entry_clear}
use Rattle.rules.specs.Verdict.{rules, broken}
use Rattle.checking.proofs.Table.{all_rules, rule_kept, rule_broken, rule_last}
use Rattle.checking.proofs.check.Goals as goal

pub returns-in_err-each : goal.returns-in_err-each
unfolding rules
returns-in_err-each c =
    let p = plan_of c.args.image.now in
    rule_broken (all_rules p) (c.each.ensures (ways_differ p) (λ row kept k. search (laws, tests))) c.tracks-tracks.ensures c.in_err-each.was c.from_residual.ensures.1

pub returns-in_err-each-2 : goal.returns-in_err-each-2
unfolding rules
returns-in_err-each-2 c =
    let p = plan_of c.args.image.now in
    let from2 = rule_kept (all_rules p) (c.each.ensures (ways_differ p) (λ row kept k. search (laws, tests))) c.tracks-tracks.ensures c.in_ok-each.was in
    rule_broken from2 (c.each-2.ensures (legs_lead p) (λ row kept k. search (laws, tests))) c.tracks-tracks.ensures c.in_err-each-2.was c.from_residual-in_err-each-2.ensures.1

pub returns-in_err-broken_by : goal.returns-in_err-broken_by
unfolding rules
returns-in_err-broken_by c =
    let p = plan_of c.args.image.now in
    let from2 = rule_kept (all_rules p) (c.each.ensures (ways_differ p) (λ row kept k. search (laws, tests))) c.tracks-tracks.ensures c.in_ok-each.was in
    let from3 = rule_kept from2 (c.each-2.ensures (legs_lead p) (λ row kept k. search (laws, tests))) c.tracks-tracks.ensures c.in_ok-each-2.was in
    rule_broken from3 (c.broken_by.ensures ∙ ap (λ o. unless o (broken 3) (Ok tt)) c.first_pair.ensures) refl c.in_err-broken_by.was c.from_residual-in_err-broken_by.ensures.1

pub returns-in_err-each-3 : goal.returns-in_err-each-3
unfolding rules
returns-in_err-each-3 c =
    let p = plan_of c.args.image.now in
    let from2 = rule_kept (all_rules p) (c.each.ensures (ways_differ p) (λ row kept k. search (laws, tests))) c.tracks-tracks.ensures c.in_ok-each.was in
    let from3 = rule_kept from2 (c.each-2.ensures (legs_lead p) (λ row kept k. search (laws, tests))) c.tracks-tracks.ensures c.in_ok-each-2.was in
    let from4 = rule_kept from3 (c.broken_by.ensures ∙ ap (λ o. unless o (broken 3) (Ok tt)) c.first_pair.ensures) refl c.in_ok-broken_by.was in
    rule_broken from4 (c.each-3.ensures (home_plain p) (λ row kept k. search (laws, tests))) c.signals-signals.ensures c.in_err-each-3.was c.from_residual-in_err-each-3.ensures.1

pub returns-in_err-each-4 : goal.returns-in_err-each-4
unfolding rules
returns-in_err-each-4 c =
    let p = plan_of c.args.image.now in
    let from2 = rule_kept (all_rules p) (c.each.ensures (ways_differ p) (λ row kept k. search (laws, tests))) c.tracks-tracks.ensures c.in_ok-each.was in
    let from3 = rule_kept from2 (c.each-2.ensures (legs_lead p) (λ row kept k. search (laws, tests))) c.tracks-tracks.ensures c.in_ok-each-2.was in
    let from4 = rule_kept from3 (c.broken_by.ensures ∙ ap (λ o. unless o (broken 3) (Ok tt)) c.first_pair.ensures) refl c.in_ok-broken_by.was in
    let from5 = rule_kept from4 (c.each-3.ensures (home_plain p) (λ row kept k. search (laws, tests))) c.signals-signals.ensures c.in_ok-each-3.was in
    rule_broken from5 (c.each-4.ensures (entry_placed p) (λ row kept k. search (laws, tests))) c.entries-entries.ensures c.in_err-each-4.was c.from_residual-in_err-each-4.ensures.1

pub returns-in_err-each-5 : goal.returns-in_err-each-5
unfolding rules
returns-in_err-each-5 c =
    let p = plan_of c.args.image.now in
    let from2 = rule_kept (all_rules p) (c.each.ensures (ways_differ p) (λ row kept k. search (laws, tests))) c.tracks-tracks.ensures c.in_ok-each.was in
    let from3 = rule_kept from2 (c.each-2.ensures (legs_lead p) (λ row kept k. search (laws, tests))) c.tracks-tracks.ensures c.in_ok-each-2.was in
    let from4 = rule_kept from3 (c.broken_by.ensures ∙ ap (λ o. unless o (broken 3) (Ok tt)) c.first_pair.ensures) refl c.in_ok-broken_by.was in
    let from5 = rule_kept from4 (c.each-3.ensures (home_plain p) (λ row kept k. search (laws, tests))) c.signals-signals.ensures c.in_ok-each-3.was in
    let from6 = rule_kept from5 (c.each-4.ensures (entry_placed p) (λ row kept k. search (laws, tests))) c.entries-entries.ensures c.in_ok-each-4.was in
    rule_broken from6 (c.each-5.ensures (path_linked p) (λ row kept k. search (laws, tests))) c.routes-routes.ensures c.in_err-each-5.was c.from_residual-in_err-each-5.ensures.1

pub returns-in_err-each-6 : goal.returns-in_err-each-6
unfolding rules
returns-in_err-each-6 c =
    let p = plan_of c.args.image.now in
    let from2 = rule_kept (all_rules p) (c.each.ensures (ways_differ p) (λ row kept k. search (laws, tests))) c.tracks-tracks.ensures c.in_ok-each.was in
    let from3 = rule_kept from2 (c.each-2.ensures (legs_lead p) (λ row kept k. search (laws, tests))) c.tracks-tracks.ensures c.in_ok-each-2.was in
    let from4 = rule_kept from3 (c.broken_by.ensures ∙ ap (λ o. unless o (broken 3) (Ok tt)) c.first_pair.ensures) refl c.in_ok-broken_by.was in
    let from5 = rule_kept from4 (c.each-3.ensures (home_plain p) (λ row kept k. search (laws, tests))) c.signals-signals.ensures c.in_ok-each-3.was in
    let from6 = rule_kept from5 (c.each-4.ensures (entry_placed p) (λ row kept k. search (laws, tests))) c.entries-entries.ensures c.in_ok-each-4.was in
    let from7 = rule_kept from6 (c.each-5.ensures (path_linked p) (λ row kept k. search (laws, tests))) c.routes-routes.ensures c.in_ok-each-5.was in
    rule_broken from7 (c.each-6.ensures (path_ends p) (λ row kept k. search (laws, tests))) c.routes-routes.ensures c.in_err-each-6.was c.from_residual-in_err-each-6.ensures.1

pub returns-in_err-each-7 : goal.returns-in_err-each-7
unfolding rules
returns-in_err-each-7 c =
    let p = plan_of c.args.image.now in
    let from2 = rule_kept (all_rules p) (c.each.ensures (ways_differ p) (λ row kept k. search (laws, tests))) c.tracks-tracks.ensures c.in_ok-each.was in
    let from3 = rule_kept from2 (c.each-2.ensures (legs_lead p) (λ row kept k. search (laws, tests))) c.tracks-tracks.ensures c.in_ok-each-2.was in
    let from4 = rule_kept from3 (c.broken_by.ensures ∙ ap (λ o. unless o (broken 3) (Ok tt)) c.first_pair.ensures) refl c.in_ok-broken_by.was in
    let from5 = rule_kept from4 (c.each-3.ensures (home_plain p) (λ row kept k. search (laws, tests))) c.signals-signals.ensures c.in_ok-each-3.was in
    let from6 = rule_kept from5 (c.each-4.ensures (entry_placed p) (λ row kept k. search (laws, tests))) c.entries-entries.ensures c.in_ok-each-4.was in
    let from7 = rule_kept from6 (c.each-5.ensures (path_linked p) (λ row kept k. search (laws, tests))) c.routes-routes.ensures c.in_ok-each-5.was in
    let from8 = rule_kept from7 (c.each-6.ensures (path_ends p) (λ row kept k. search (laws, tests))) c.routes-routes.ensures c.in_ok-each-6.was in
    rule_broken from8 (c.each-7.ensures (path_clear p) (λ row kept k. search (laws, tests))) c.routes-routes.ensures c.in_err-each-7.was c.from_residual-in_err-each-7.ensures.1

pub returns-in_err-each-8 : goal.returns-in_err-each-8
unfolding rules
returns-in_err-each-8 c =
    let p = plan_of c.args.image.now in
    let from2 = rule_kept (all_rules p) (c.each.ensures (ways_differ p) (λ row kept k. search (laws, tests))) c.tracks-tracks.ensures c.in_ok-each.was in
    let from3 = rule_kept from2 (c.each-2.ensures (legs_lead p) (λ row kept k. search (laws, tests))) c.tracks-tracks.ensures c.in_ok-each-2.was in
    let from4 = rule_kept from3 (c.broken_by.ensures ∙ ap (λ o. unless o (broken 3) (Ok tt)) c.first_pair.ensures) refl c.in_ok-broken_by.was in
    let from5 = rule_kept from4 (c.each-3.ensures (home_plain p) (λ row kept k. search (laws, tests))) c.signals-signals.ensures c.in_ok-each-3.was in
    let from6 = rule_kept from5 (c.each-4.ensures (entry_placed p) (λ row kept k. search (laws, tests))) c.entries-entries.ensures c.in_ok-each-4.was in
    let from7 = rule_kept from6 (c.each-5.ensures (path_linked p) (λ row kept k. search (laws, tests))) c.routes-routes.ensures c.in_ok-each-5.was in
    let from8 = rule_kept from7 (c.each-6.ensures (path_ends p) (λ row kept k. search (laws, tests))) c.routes-routes.ensures c.in_ok-each-6.was in
    let from9 = rule_kept from8 (c.each-7.ensures (path_clear p) (λ row kept k. search (laws, tests))) c.routes-routes.ensures c.in_ok-each-7.was in
    rule_broken from9 (c.each-8.ensures (points_listed p) (λ row kept k. search (laws, tests))) c.routes-routes.ensures c.in_err-each-8.was c.from_residual-in_err-each-8.ensures.1

pub returns-in_err-each-9 : goal.returns-in_err-each-9
unfolding rules
returns-in_err-each-9 c =
    let p = plan_of c.args.image.now in
    let from2 = rule_kept (all_rules p) (c.each.ensures (ways_differ p) (λ row kept k. search (laws, tests))) c.tracks-tracks.ensures c.in_ok-each.was in
    let from3 = rule_kept from2 (c.each-2.ensures (legs_lead p) (λ row kept k. search (laws, tests))) c.tracks-tracks.ensures c.in_ok-each-2.was in
    let from4 = rule_kept from3 (c.broken_by.ensures ∙ ap (λ o. unless o (broken 3) (Ok tt)) c.first_pair.ensures) refl c.in_ok-broken_by.was in
    let from5 = rule_kept from4 (c.each-3.ensures (home_plain p) (λ row kept k. search (laws, tests))) c.signals-signals.ensures c.in_ok-each-3.was in
    let from6 = rule_kept from5 (c.each-4.ensures (entry_placed p) (λ row kept k. search (laws, tests))) c.entries-entries.ensures c.in_ok-each-4.was in
    let from7 = rule_kept from6 (c.each-5.ensures (path_linked p) (λ row kept k. search (laws, tests))) c.routes-routes.ensures c.in_ok-each-5.was in
    let from8 = rule_kept from7 (c.each-6.ensures (path_ends p) (λ row kept k. search (laws, tests))) c.routes-routes.ensures c.in_ok-each-6.was in
    let from9 = rule_kept from8 (c.each-7.ensures (path_clear p) (λ row kept k. search (laws, tests))) c.routes-routes.ensures c.in_ok-each-7.was in
    let from10 = rule_kept from9 (c.each-8.ensures (points_listed p) (λ row kept k. search (laws, tests))) c.routes-routes.ensures c.in_ok-each-8.was in
    rule_broken from10 (c.each-9.ensures (points_clear p) (λ row kept k. search (laws, tests))) c.routes-routes.ensures c.in_err-each-9.was c.from_residual-in_err-each-9.ensures.1

pub returns-in_err-each-10 : goal.returns-in_err-each-10
unfolding rules
returns-in_err-each-10 c =
    let p = plan_of c.args.image.now in
    let from2 = rule_kept (all_rules p) (c.each.ensures (ways_differ p) (λ row kept k. search (laws, tests))) c.tracks-tracks.ensures c.in_ok-each.was in
    let from3 = rule_kept from2 (c.each-2.ensures (legs_lead p) (λ row kept k. search (laws, tests))) c.tracks-tracks.ensures c.in_ok-each-2.was in
    let from4 = rule_kept from3 (c.broken_by.ensures ∙ ap (λ o. unless o (broken 3) (Ok tt)) c.first_pair.ensures) refl c.in_ok-broken_by.was in
    let from5 = rule_kept from4 (c.each-3.ensures (home_plain p) (λ row kept k. search (laws, tests))) c.signals-signals.ensures c.in_ok-each-3.was in
    let from6 = rule_kept from5 (c.each-4.ensures (entry_placed p) (λ row kept k. search (laws, tests))) c.entries-entries.ensures c.in_ok-each-4.was in
    let from7 = rule_kept from6 (c.each-5.ensures (path_linked p) (λ row kept k. search (laws, tests))) c.routes-routes.ensures c.in_ok-each-5.was in
    let from8 = rule_kept from7 (c.each-6.ensures (path_ends p) (λ row kept k. search (laws, tests))) c.routes-routes.ensures c.in_ok-each-6.was in
    let from9 = rule_kept from8 (c.each-7.ensures (path_clear p) (λ row kept k. search (laws, tests))) c.routes-routes.ensures c.in_ok-each-7.was in
    let from10 = rule_kept from9 (c.each-8.ensures (points_listed p) (λ row kept k. search (laws, tests))) c.routes-routes.ensures c.in_ok-each-8.was in
    let from11 = rule_kept from10 (c.each-9.ensures (points_clear p) (λ row kept k. search (laws, tests))) c.routes-routes.ensures c.in_ok-each-9.was in
    rule_broken from11 (c.each-10.ensures (releases_fit p) (λ row kept k. search (laws, tests))) c.routes-routes.ensures c.in_err-each-10.was c.from_residual-in_err-each-10.ensures.1

pub returns : goal.returns
unfolding rules
returns c =
    let p = plan_of c.args.image.now in
    let from2 = rule_kept (all_rules p) (c.each.ensures (ways_differ p) (λ row kept k. search (laws, tests))) c.tracks-tracks.ensures c.in_ok-each.was in
    let from3 = rule_kept from2 (c.each-2.ensures (legs_lead p) (λ row kept k. search (laws, tests))) c.tracks-tracks.ensures c.in_ok-each-2.was in
    let from4 = rule_kept from3 (c.broken_by.ensures ∙ ap (λ o. unless o (broken 3) (Ok tt)) c.first_pair.ensures) refl c.in_ok-broken_by.was in
    let from5 = rule_kept from4 (c.each-3.ensures (home_plain p) (λ row kept k. search (laws, tests))) c.signals-signals.ensures c.in_ok-each-3.was in
    let from6 = rule_kept from5 (c.each-4.ensures (entry_placed p) (λ row kept k. search (laws, tests))) c.entries-entries.ensures c.in_ok-each-4.was in
    let from7 = rule_kept from6 (c.each-5.ensures (path_linked p) (λ row kept k. search (laws, tests))) c.routes-routes.ensures c.in_ok-each-5.was in
    let from8 = rule_kept from7 (c.each-6.ensures (path_ends p) (λ row kept k. search (laws, tests))) c.routes-routes.ensures c.in_ok-each-6.was in
    let from9 = rule_kept from8 (c.each-7.ensures (path_clear p) (λ row kept k. search (laws, tests))) c.routes-routes.ensures c.in_ok-each-7.was in
    let from10 = rule_kept from9 (c.each-8.ensures (points_listed p) (λ row kept k. search (laws, tests))) c.routes-routes.ensures c.in_ok-each-8.was in
    let from11 = rule_kept from10 (c.each-9.ensures (points_clear p) (λ row kept k. search (laws, tests))) c.routes-routes.ensures c.in_ok-each-9.was in
    let from12 = rule_kept from11 (c.each-10.ensures (releases_fit p) (λ row kept k. search (laws, tests))) c.routes-routes.ensures c.in_ok-each-10.was in
    rule_last from12 (c.each-11.ensures (entry_clear p) (λ row kept k. search (laws, tests))) c.entries-entries.ensures
