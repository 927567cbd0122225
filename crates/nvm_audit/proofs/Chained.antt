-- The parts of a unit by point.
use Rattle.std.proofs.Common.{◌≡◌, ◌≢◌, ℕ, ◌+◌, ◌<◌, ◌≤◌, List, [], ◌∷◌, ◌++◌, length, set, replicate, get_or, sym, ap, subst, ◌∙◌, arith, inl, inr, length-set, length-append}
use Rattle.std.proofs.lemmas.List.{length-replicate}
use Rattle.nvm_record.specs.Lists.{IsAt}
use Rattle.nvm_audit.specs.Inside.Audited.{IsLastAt, AreByPoint}
use Rattle.nvm_audit.specs.RecordedPart.{RecordedPart}
use Rattle.nvm_audit.proofs.Places.{at_push, at_set, at_replicate, stands_read}
use Rattle.nvm_audit.proofs.Standing.{none_stands, below}

module _ (parts : List RecordedPart) (p : RecordedPart) where
  more : length (parts ++ p ∷ []) ≡ length parts + 1
  more = simp length-append (omega arith)

  -- What is so of the parts before is so with one more after them.
  kept : (n count at : ℕ) → count ≤ length parts → IsLastAt parts n count at → IsLastAt (parts ++ p ∷ []) n count at
  kept n count at few old =
      let within = old.within in
      record {
        within = old.within;
        there = λ k q is stands.
            elim (at_push parts p k q stands) [
              | inl here ↦ old.there k q is here
              | inr last ↦ let place = last.0 in absurd (omega (arith, place, is, within, few))
            ];
        last = λ k q from low stands.
            elim (at_push parts p k q stands) [
              | inl here ↦ old.last k q from low here
              | inr last ↦ let place = last.0 in absurd (omega (arith, place, low, few))
            ];
      }

  -- A part at another point is none of a point's.
  passed : (n at : ℕ) → n ≢ p.part.point → IsLastAt parts n (length parts) at → IsLastAt (parts ++ p ∷ []) n (length (parts ++ p ∷ [])) at
  passed n at apart old =
      let within = old.within in
      record {
        within = let long = more in omega (arith, within, long);
        there = λ k q is stands.
            elim (at_push parts p k q stands) [
              | inl here ↦ old.there k q is here
              | inr last ↦ let place = last.0 in absurd (omega (arith, place, is, within))
            ];
        last = λ k q from low stands.
            elim (at_push parts p k q stands) [
              | inl here ↦ old.last k q from (below parts k q here) here
              | inr last ↦ (λ same. apart (sym same ∙ ap (λ (x : RecordedPart). x.part.point) last.1))
            ];
      }

  newest : (n at count : ℕ) → n ≡ p.part.point → at ≡ count + 1 → length parts ≡ count
      → IsLastAt (parts ++ p ∷ []) n (length (parts ++ p ∷ [])) at
  newest n at count same is long =
      let longer = more in
      record {
        within = omega (arith, is, long, longer);
        there = λ k q last stands.
            elim (at_push parts p k q stands) [
              | inl here ↦ let low = below parts k q here in absurd (omega (arith, low, last, is, long))
              | inr there ↦ ap (λ (x : RecordedPart). x.part.point) there.1 ∙ sym same
            ];
        last = λ k q from low stands. absurd (omega (arith, from, low, is, long, longer));
      }

  module _ (entries : ℕ) (last before : List ℕ) (old : AreByPoint entries parts last before) where
    longer : (was : ℕ) → length (before ++ was ∷ []) ≡ length (parts ++ p ∷ [])
    longer was = let numbers = old.numbers in simp length-append (omega (arith, numbers))

    earlier_of : (was : ℕ) → (p.part.point ≤ entries → IsLastAt parts p.part.point (length parts) was) → (k at : ℕ) (q : RecordedPart)
        → IsAt (before ++ was ∷ []) k at → IsAt (parts ++ p ∷ []) k q → q.part.point ≤ entries
        → IsLastAt (parts ++ p ∷ []) q.part.point k at
    earlier_of was here k at q stands also low =
        let numbers = old.numbers in
        elim (at_push before was k at stands) [
          | inl first ↦ elim (at_push parts p k q also) [
            | inl second ↦
                let few = below parts k q second in
                kept q.part.point k at (omega (arith, few)) (old.earlier k at q first second low)
            | inr second ↦ let few = below before k at first in let place = second.0 in absurd (omega (arith, few, place, numbers))
          ]
          | inr first ↦ elim (at_push parts p k q also) [
            | inl second ↦ let few = below parts k q second in let place = first.0 in absurd (omega (arith, few, place, numbers))
            | inr second ↦
                let same : q.part.point ≡ p.part.point = ap (λ (x : RecordedPart). x.part.point) second.1 in
                let place : length parts ≡ k = sym second.0 in
                let found = here (subst (λ (n : ℕ). n ≤ entries) same low) in
                let value : was ≡ at = sym first.1 in
                rw (same, ← place, ← value) (kept p.part.point (length parts) was (omega arith) found)
          ]
        ]

    -- The part is put at its point, before the one that was the last there.
    pub put_here : (count was : ℕ) → length parts ≡ count → p.part.point < length last → was ≡ get_or last p.part.point was
        → AreByPoint entries (parts ++ p ∷ []) (set last p.part.point (count + 1)) (before ++ was ∷ [])
    put_here count was long low read =
        record {
          points = length-set last p.part.point (count + 1) ∙ old.points;
          numbers = longer was;
          at_point = λ n at stands.
              elim (at_set last p.part.point (count + 1) n at stands) [
                | inl here ↦ newest n at count here.0 here.1 long
                | inr there ↦ passed n at there.0 (old.at_point n at there.1)
              ];
          earlier = earlier_of was (λ few. old.at_point p.part.point was (stands_read last p.part.point was low read));
        }

    -- A part past the history's end is left out.
    pub put_past : length last ≤ p.part.point → AreByPoint entries (parts ++ p ∷ []) last (before ++ 0 ∷ [])
    put_past high =
        let points = old.points in
        record {
          points = old.points;
          numbers = longer 0;
          at_point = λ n at stands.
              let low = below last n at stands in
              passed n at (λ same. absurd (omega (arith, low, high, same))) (old.at_point n at stands);
          earlier = earlier_of 0 (λ few. absurd (omega (arith, few, high, points)));
        }

-- Before any part there is none at any point.
pub none_by_point : (entries : ℕ) (last before : List ℕ) → last ≡ replicate (entries + 1) 0 → before ≡ [] → AreByPoint entries [] last before
none_by_point entries last before is none =
    record {
      points = ap length is ∙ length-replicate (entries + 1) 0;
      numbers = ap length none;
      at_point = λ n at stands.
          let zero = at_replicate (entries + 1) 0 n at (subst (λ (xs : List ℕ). IsAt xs n at) is stands) in
          record {
            within = omega (arith, zero);
            there = λ k q e stands. absurd (none_stands k q stands);
            last = λ k q from low stands. absurd (none_stands k q stands);
          };
      earlier = λ k at q stands also low. absurd (none_stands k q also);
    }
