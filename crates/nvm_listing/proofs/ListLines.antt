-- Lines one after the other: what they expect, and what is before their expectations.
use Rattle.std.proofs.Common.{◌≡◌, ℕ, ◌<◌, Bool, true, false, List, [], ◌∷◌, ◌++◌, length, map, Option, Some, None, is_some, Result, Ok, Err, ◌∙◌, append_assoc, arith}
use Rattle.std.specs.List.{join_with_byte, slice_split}
use Rattle.std.specs.Borrow.{Bor}
use Rattle.std.proofs.lemmas.List.Splits.{length-slice_split}
use Rattle.nvm_record.specs.declared.status.Status.{Status}
use Rattle.nvm_list.specs.Rest.{parts_left}
use Rattle.nvm_list.specs.Words.{is}
use Rattle.nvm_listing.specs.Expectation.{front}
use Rattle.nvm_listing.specs.declared.expectation_fault.ExpectationFault.{ExpectationFault}

-- expectations after those that were read before
abbrev pub behind : List (Option Status) → Result (List (Option Status)) ExpectationFault → Result (List (Option Status)) ExpectationFault
behind front (Err fault) = Err fault
behind front (Ok more) = Ok (front ++ more)

-- a line more, and the line feed that parts it from those after it
pub line_taken : (old line new : List ℕ) (after : Option (Bor (List ℕ))) → is_some after ≡ true → new ≡ (old ++ front line) ++ 10 ∷ []
    → new ++ join_with_byte 10 (map front (parts_left (is 10) after)) ≡ old ++ join_with_byte 10 (map front (line ∷ parts_left (is 10) after))
line_taken old line new None some now = absurd (bool_apart some)
  where
    bool_apart : ◌≡◌ {A = Bool} false true → ⊥
    bool_apart e = cc
line_taken old line new (Some rest) some now =
    rw now (by (slice_split (is 10) rest.now) (omega (arith, length-slice_split (is 10) rest.now)))
  where
    by : (parts : List (List ℕ)) → 0 < length parts
        → ((old ++ front line) ++ 10 ∷ []) ++ join_with_byte 10 (map front parts) ≡ old ++ join_with_byte 10 (map front (line ∷ parts))
    by [] none = absurd (omega arith)
    by (part ∷ parts) some = append_assoc (old ++ front line) (10 ∷ []) _ ∙ append_assoc old (front line) _
