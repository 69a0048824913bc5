use Rattle.std.proofs.Common.{ap, subst, ◌∙◌}
use Rattle.script.specs.Laws.{IsListing}
use Rattle.script.specs.Scripts.{listing}
use Rattle.steps.proofs.Listed.{law_read, listing_read}
use Rattle.steps.proofs.read_listing.Goals as goal

pub returns-clause-value : goal.returns-clause-value
returns-clause-value g c =
    listing_read (g.R.Read.remaining c.args.reader.now) c.in_ok-script.script.items c.in_ok-list.field-0.items
    c.in_ok-script.ensures
    (c.in_ok-list.ensures.value ∙ ap listing c.deref.ensures.value)

pub returns-clause-law : goal.returns-clause-law
returns-clause-law g c =
    law_read (g.R.Read.remaining c.args.reader.now) c.in_ok-script.script.items c.in_ok-list.field-0.items
    c.in_ok-script.ensures
    (subst (λ bytes. IsListing bytes c.in_ok-list.field-0.items) c.deref.ensures.value c.in_ok-list.ensures.law)
