use Rattle.std.proofs.Common.{◌≡◌, ◌+◌, List, Some, sym, ap, ◌∙◌, subst}
use Rattle.std.specs.Prelude.{slice_get}
use Rattle.std.specs.Option.{option_map}
use Rattle.std.proofs.lemmas.Option.{slice_get-map}
use Rattle.cj_links.specs.declared.uses.UseId.{UseId}
use Rattle.cj_links.specs.EdgeTable.{end_of, list_of}
use Rattle.cj_links.specs.UseTable.{UseTable, IsListed, use_of, edge_of_use, used_by, uses_of}
use Rattle.cj_links.proofs.UseLemmas.{listed_linked, own_list_seen, same_place}
use Rattle.cj_links.proofs.uses.UseLists.next.Goals as goal

pub next-requires : goal.next-requires
next-requires c =
    listed_linked c.self.inside.edges c.args.used (subst (λ (v : UseTable). IsListed v c.args.used) (sym c.self.view_is) c.requires)

pub returns : goal.returns
returns c = λ k at.
    let t = c.self.inside.edges in
    let x = c.args.used in
    let list = list_of t (end_of t (edge_of_use x)) in
    let own = own_list_seen t x in
    let seen = subst (λ (v : UseTable). slice_get (uses_of v (used_by v x)) k ≡ Some x) (sym c.self.view_is) at in
    let place = same_place list k x (ap (λ (l : List UseId). slice_get l k) (sym own) ∙ seen) in
    c.use_of.ensures ∙ ap (option_map use_of) (c.next.ensures k place) ∙ sym (slice_get-map use_of list (k + 1))
    ∙ ap (λ (l : List UseId). slice_get l (k + 1)) (sym own) ∙ ap (λ (v : UseTable). slice_get (uses_of v (used_by v x)) (k + 1)) c.self.view_is
