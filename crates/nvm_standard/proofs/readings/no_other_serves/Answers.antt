use Rattle.std.proofs.Common.{◌≡◌, ◌⊎◌, ℕ, ◌≤◌, inl, inr, length, subst, sym, arith, rules}
use Rattle.std.proofs.lemmas.List.{length-map}
use Rattle.std.proofs.lemmas.Option.{slice_get_within}
use Rattle.nvm_standard.specs.PointView.{seen, seen_table}
use Rattle.nvm_standard.proofs.Standing.{earlier_or_last}
use Rattle.nvm_standard.specs.Inside.Noted.{noted}
use Rattle.nvm_standard.specs.Readings.{IsExcused, IsServedBy}
use Rattle.nvm_standard.proofs.readings.no_other_serves.Goals as goal
use Rattle.nvm_standard.proofs.readings.no_other_serves.Goals.{else-number-reader-via-then-number-reader+then-number-writer+then-not-cannot_serve+else-not-is_excused, else-number-reader-via-then-number-reader+then-number-writer+else-not-cannot_serve, else-number-reader-via-then-number-reader+else-number-writer, else-number-reader-via-else-number-reader}

pub loop-number-preserved : goal.loop-number-preserved
loop-number-preserved c = λ n below.
    let t = seen_table c.args.points.now in
    let Excused : ℕ → Type 0 =
    λ m. IsServedBy t (seen c.args.reading.now) m c.args.reader.block → (m ≡ c.args.reader.point)
    ⊎ ((m ≡ c.args.writer) ⊎ IsExcused t (noted t c.args.known.now) (seen c.args.reading.now) m c.args.reader.point c.args.reader.block) in
    elim (earlier_or_last n c.loop-number.number below) [
      | inl h ↦ c.loop-number.invariant n h
      | inr same ↦ subst Excused (sym same) (elim c.else-number-reader.branch [
        | else-number-reader-via-then-number-reader+then-number-writer+then-not-cannot_serve+else-not-is_excused w ↦
            λ serves. inr (inr (w.is_excused.ensures (search rules)))
        | else-number-reader-via-then-number-reader+then-number-writer+else-not-cannot_serve w ↦
            λ serves. absurd (w.cannot_serve.ensures (search rules) serves)
        | else-number-reader-via-then-number-reader+else-number-writer w ↦ λ serves. inr (inl (search rules))
        | else-number-reader-via-else-number-reader w ↦ λ serves. inl (search rules)
      ])
    ]

pub returns : goal.returns
returns c = λ _ n serves.
    let points = c.args.points.now.points.items in
    let low = slice_get_within (seen_table c.args.points.now).points n serves.point serves.its in
    let same = length-map points seen in
    let most : length points ≤ c.loop-number.number = search rules in
    c.loop-number.invariant n (omega (arith, low, same, most)) serves
