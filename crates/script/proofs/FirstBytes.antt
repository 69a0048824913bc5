-- What lies past the first 65,535 bytes changes nothing of a listing.
use Rattle.std.proofs.Common.{◌≡◌, ℕ, List, sym, ap, subst, ◌∙◌, arith}
use Rattle.std.specs.List.{concat}
use Rattle.std.proofs.lemmas.List.{take-take}
use Rattle.script.specs.Laws.{IsScript, IsListing}
use Rattle.script.specs.Scripts.{listing, script_of}
use Rattle.script.specs.ScriptGroups.{no_group}
use Rattle.script.proofs.LinesLeft.{lines_new, lines_left}

same_bytes : (bytes : List ℕ) → script_of (script_of bytes) ≡ script_of bytes
same_bytes bytes = take-take 65535 65535 bytes (omega arith)

pub listing_same : (bytes : List ℕ) → listing (script_of bytes) ≡ listing bytes
listing_same bytes =
    ap concat (sym (lines_new (script_of bytes)))
    ∙ ap (λ rest. concat (lines_left (record { rest = rest; lines = 0; group = no_group }))) (same_bytes bytes)
    ∙ ap concat (lines_new bytes)

pub law_same : (bytes text : List ℕ) → IsListing (script_of bytes) text → IsListing bytes text
law_same bytes text law = record {
  every = (
    law.every.0,
    law.every.1,
    subst (λ script. IsScript script law.every.0 law.every.1) (same_bytes bytes) law.every.2,
  );
  lines = λ commands rest is. law.lines commands rest
      (subst (λ script. IsScript script commands rest) (sym (same_bytes bytes)) is);
}
