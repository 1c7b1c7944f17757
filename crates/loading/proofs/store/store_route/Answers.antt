-- `loading::store::store_route`: the start, then the five lists, each from where the one before it ends.
use mathlib.Core.Path.{◌≡◌, ap, ◌∙◌}
use mathlib.Core.List.{List}
use Prim.Native.Nat.{ℕ}
use Rattle.loading.specs.Storing.{list_end, clear_from, normal_from, reverse_from, releases_from, route_end}
use Rattle.loading.proofs.Copying.{route_lists_copied}
use Rattle.loading.proofs.store.store_route.Goals as goal

pub store_list-clear_from-requires : goal.store_list-clear_from-requires
store_list-clear_from-requires c = c.requires.path

pub store_list-normal_from-requires : goal.store_list-normal_from-requires
unfolding clear_from
store_list-normal_from-requires c =
    let file : List ℕ = c.args.file.now in
    let at : ℕ = c.args.at in
    let clear-from : c.store_list-clear_from.result ≡ clear_from file at = c.store_list-clear_from.ensures.0 in
    rw clear-from c.requires.clear

pub store_list-reverse_from-requires : goal.store_list-reverse_from-requires
unfolding clear_from normal_from
store_list-reverse_from-requires c =
    let file : List ℕ = c.args.file.now in
    let at : ℕ = c.args.at in
    let clear-from : c.store_list-clear_from.result ≡ clear_from file at = c.store_list-clear_from.ensures.0 in
    let normal-from : c.store_list-normal_from.result ≡ normal_from file at = c.store_list-normal_from.ensures.0 ∙ ap (list_end 1 _) clear-from in
    rw normal-from c.requires.normal

pub store_list-releases_from-requires : goal.store_list-releases_from-requires
unfolding clear_from normal_from reverse_from
store_list-releases_from-requires c =
    let file : List ℕ = c.args.file.now in
    let at : ℕ = c.args.at in
    let clear-from : c.store_list-clear_from.result ≡ clear_from file at = c.store_list-clear_from.ensures.0 in
    let normal-from : c.store_list-normal_from.result ≡ normal_from file at = c.store_list-normal_from.ensures.0 ∙ ap (list_end 1 _) clear-from in
    let reverse-from : c.store_list-reverse_from.result ≡ reverse_from file at = c.store_list-reverse_from.ensures.0 ∙ ap (list_end 1 _) normal-from in
    rw reverse-from c.requires.reverse

pub store_list-requires : goal.store_list-requires
unfolding clear_from normal_from reverse_from releases_from
store_list-requires c =
    let file : List ℕ = c.args.file.now in
    let at : ℕ = c.args.at in
    let clear-from : c.store_list-clear_from.result ≡ clear_from file at = c.store_list-clear_from.ensures.0 in
    let normal-from : c.store_list-normal_from.result ≡ normal_from file at = c.store_list-normal_from.ensures.0 ∙ ap (list_end 1 _) clear-from in
    let reverse-from : c.store_list-reverse_from.result ≡ reverse_from file at = c.store_list-reverse_from.ensures.0 ∙ ap (list_end 1 _) normal-from in
    let releases-from : c.store_list-releases_from.result ≡ releases_from file at = c.store_list-releases_from.ensures.0 ∙ ap (list_end 1 _) reverse-from in
    rw releases-from c.requires.releases

pub returns : goal.returns
unfolding route_end clear_from normal_from reverse_from releases_from
returns c =
    let file : List ℕ = c.args.file.now in
    let at : ℕ = c.args.at in
    let clear-from : c.store_list-clear_from.result ≡ clear_from file at = c.store_list-clear_from.ensures.0 in
    let normal-from : c.store_list-normal_from.result ≡ normal_from file at = c.store_list-normal_from.ensures.0 ∙ ap (list_end 1 _) clear-from in
    let reverse-from : c.store_list-reverse_from.result ≡ reverse_from file at = c.store_list-reverse_from.ensures.0 ∙ ap (list_end 1 _) normal-from in
    let releases-from : c.store_list-releases_from.result ≡ releases_from file at = c.store_list-releases_from.ensures.0 ∙ ap (list_end 1 _) reverse-from in (
      rw (c.store_list.ensures.0, releases-from),
      route_lists_copied _ _ _ _ clear-from normal-from reverse-from releases-from
          c.store_list-clear_from.ensures.1 c.store_list-normal_from.ensures.1 c.store_list-reverse_from.ensures.1 c.store_list-releases_from.ensures.1 c.store_list.ensures.1,
    )
