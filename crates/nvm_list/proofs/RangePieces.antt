-- Ranges are listed one after the other.
use Rattle.std.proofs.Common.{◌≡◌, ℕ, suc, ◌+◌, ◌-◌, ◌<◌, List, ◌++◌, map, codes, sym, ap, ◌∙◌, append_assoc, arith}
use Rattle.std.specs.List.{range_with_len}
use Rattle.nvm_record.specs.Ranges.{range_at, range_count, ranges_of}
use Rattle.nvm_list.specs.Commas.{behind_commas, joined}
use Rattle.nvm_list.specs.Listing.{range_text, ranges_text}

module _ (payload : List ℕ) where
  -- the texts of `count` ranges of the data from a place on
  abbrev texts : ℕ → ℕ → List (List ℕ)
  texts place count = map range_text (map (range_at payload) (range_with_len place count))

  -- the ranges of the data from a place on, each after a comma
  abbrev pub text_from : ℕ → List ℕ
  text_from place = behind_commas (texts place (range_count payload - place))

  pub first_listed : 0 < range_count payload → range_text (range_at payload 0) ++ text_from 1 ≡ ranges_text (ranges_of payload)
  first_listed some =
      let count : range_count payload ≡ suc (range_count payload - 1) = omega arith in
      ap (λ (n : ℕ). joined (texts 0 n)) (sym count)

  pub next_listed : (done whole : List ℕ) (place : ℕ) → place < range_count payload → done ++ text_from place ≡ whole
      → (done ++ (codes "," ++ range_text (range_at payload place))) ++ text_from (place + 1) ≡ whole
  next_listed done whole place inside so_far =
      let here = range_text (range_at payload place) in
      let rest = text_from (place + 1) in
      let count : range_count payload - place ≡ suc (range_count payload - (place + 1)) = omega arith in
      append_assoc done (codes "," ++ here) rest
      ∙ ap (λ (n : ℕ). done ++ behind_commas (texts place n)) (sym count) ∙ so_far
