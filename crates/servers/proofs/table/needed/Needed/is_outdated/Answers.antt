use Rattle.std.proofs.Common.{rules, tests}
use Rattle.std.proofs.lemmas.Iterator.{YieldsList-from_slice}
use Rattle.std.proofs.lemmas.Iterator.Search.{any_from_yields_List}
use Rattle.servers.specs.Tables.{is_outdated_by}
use Rattle.servers.proofs.table.needed.Needed.is_outdated.Goals as goal

pub returns : goal.returns
returns g c =
    let by = is_outdated_by g.K.MarkKind.kind (g.K.MarkKind.meaning c.args.self.now.safe) c.args.item.now in
    any_from_yields_List by _ _ _ c.any.ensures.ran (YieldsList-from_slice c.args.self.now.versions.now cc)
    (λ v b q k. search (rules, tests))
