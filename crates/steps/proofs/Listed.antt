-- The first 65,535 bytes of what a reader gives, and their listing.
use Rattle.std.proofs.Common.{◌≡◌, ℕ, List, [], ◌++◌, take, Some, None, Option, IfSome, ap, subst, ◌∙◌}
use Rattle.std.specs.Option.{option_map}
use Rattle.script.specs.Laws.{IsListing}
use Rattle.script.specs.Scripts.{listing, script_of}
use Rattle.script.proofs.FirstBytes.{law_same, listing_same}

-- what is read up to a limit of known bytes is the first of them
pub first_read : (known : Option (List ℕ)) (limit : ℕ) (before script : List ℕ) → limit ≡ 65535 → before ≡ []
    → IfSome (option_map (take limit) known) (λ bytes. script ≡ before ++ bytes)
    → IfSome known (λ input. script ≡ script_of input)
first_read None limit before script is none reads = tt
first_read (Some input) limit before script is none reads = rw (is, none) at reads

-- their listing is that of all
pub listing_read : (known : Option (List ℕ)) (script text : List ℕ)
    → IfSome known (λ input. script ≡ script_of input) → text ≡ listing script
    → IfSome known (λ input. text ≡ listing input)
listing_read None script text reads lists = tt
listing_read (Some input) script text reads lists = lists ∙ ap listing reads ∙ listing_same input

-- and so is its law
pub law_read : (known : Option (List ℕ)) (script text : List ℕ)
    → IfSome known (λ input. script ≡ script_of input) → IsListing script text
    → IfSome known (λ input. IsListing input text)
law_read None script text reads law = tt
law_read (Some input) script text reads law = law_same input text (subst (λ bytes. IsListing bytes text) reads law)
