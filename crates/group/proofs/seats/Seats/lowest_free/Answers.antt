use Rattle.std.proofs.Common.{◌≡◌, ◌∙◌, rules}
use Rattle.group.proofs.Cuts.{free_seat_lem}
use Rattle.group.proofs.seats.Seats.lowest_free.Goals as goal

pub returns : goal.returns
returns c =
    let same : c.map.result ≡ c.first_empty.result = search rules in
    same ∙ c.first_empty.ensures ∙ free_seat_lem c.args.self.now.places
