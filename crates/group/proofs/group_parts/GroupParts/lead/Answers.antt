use Rattle.std.proofs.Common.{ap, ◌∙◌, arith}
use Rattle.std.proofs.lemmas.Int.{to_z-of_z}
use Rattle.servers.specs.Servers.{lead_of}
use Rattle.group.specs.Model.Calls.{has_server}
use Rattle.group.specs.Parts.{view}
use Rattle.group.proofs.Views.{by_numbers, passed}
use Rattle.group.proofs.group_parts.GroupParts.lead.Goals as goal

pub returns : goal.returns
returns g c =
    let before = view c.args.self.now in
    let place = c.in_ok-place.place in
    let is = passed (has_server before c.args.site c.args.partition) (place) (c.args.site, c.args.partition)
    c.in_ok-place.ensures.value in
    let same = ap lead_of (c.server.ensures ∙ by_numbers before.server c.args.site c.args.partition place is.1) in
    let has = is.0 in
    grind (arith, to_z-of_z, c.lead.ensures, same, has)
