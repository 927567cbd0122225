use Rattle.std.proofs.Common.{◌≡◌, ◌+◌, ◌≤◌, length, option_map}
use Rattle.std.specs.List.{slice_split}
use Rattle.nvm_list.specs.Rest.{bytes_left, parts_left}
use Rattle.nvm_list.specs.Words.{is_blank}
use Rattle.nvm_listing.specs.Expectation.{place_among}
use Rattle.nvm_listing.proofs.list_line.expect_place.Given as goal

abbrev pub invariant-loop-rest : goal.invariant-loop-rest
invariant-loop-rest l = record {
  whole : option_map (λ place. l.place + place) (place_among (parts_left is_blank l.rest)) ≡ place_among (slice_split is_blank l.text);
  within : l.place + bytes_left l.rest ≤ length l.text + 1;
}

abbrev pub decreases-loop-rest : goal.decreases-loop-rest
decreases-loop-rest l = bytes_left l.rest
