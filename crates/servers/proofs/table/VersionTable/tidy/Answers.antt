use Rattle.std.proofs.Common.{◌≡◌, ◌-◌, not, ◌++◌, length, sym, ap, ◌∙◌, subst, arith, filter, rules}
use Rattle.arrayvec.proofs.ArrayVecLemmas.{filter-from_retain}
use Rattle.servers.specs.Tables.{is_outdated, versions_kept, table_tidy}
use Rattle.servers.specs.Laws.{IsTidied}
use Rattle.servers.proofs.Tidied.{tidied_law}
use Rattle.servers.proofs.table.VersionTable.tidy.Goals as goal

pub returns : goal.returns
returns g c =
    let k = g.K.MarkKind.kind in
    let safe = g.K.MarkKind.meaning c.args.safe in
    let xs = c.args.self.now.versions.items in
    let copied : c.append.new.held.items ≡ xs = c.append.ensures
    ∙ ap (λ ys. ys ++ c.as_slice.result.now) c.new-before.ensures ∙ c.as_slice.ensures.value in
    let seen = c.as_slice-2.ensures.value ∙ copied in
    let kept = filter-from_retain _ (λ v. not (is_outdated k safe c.as_slice-2.result.now v)) _
    (λ x b f y called. search rules) _ _ c.retain.ensures.filtered in
    let held : c.retain.new.self.items ≡ versions_kept k safe xs = kept
    ∙ ap (λ vs. filter (λ v. not (is_outdated k safe vs v)) xs) seen in
    let after : c.len-2.result ≡ length (versions_kept k safe xs) = c.len-2.ensures.value ∙ ap length held in
    let before : c.len.result ≡ length xs = c.len.ensures.value ∙ ap length copied in
    let count : c.len.result - c.len-2.result ≡ (table_tidy k safe xs).0 = omega arith in
    record {
      step = grind (arith, held, count);
      law = subst (λ vs. IsTidied k safe xs vs (c.len.result - c.len-2.result)) (sym held)
          (subst (IsTidied k safe xs (versions_kept k safe xs)) (sym count) (tidied_law k safe xs));
    }
