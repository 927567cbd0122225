-- The test of a namespace's numbers holds where they are valid, and nowhere else.
use Rattle.std.proofs.Common.{◌≡◌, ◌≢◌, ℕ, ◌≤◌, Bool, true, false, ◌&&◌, ◌||◌, cond, eqb, ltb, leb, inl, inr, refl, sym, subst, arith}
use Rattle.std.proofs.lemmas.Bool.{and_from, and_parts, eqb-false, eqb-true, le-leb, leb-true, lt-ltb, ltb-true, or_cases}
use Rattle.nvm_record.specs.BlockSize.{IsBlockSize}
use Rattle.nvm_geometry.specs.Faults.{IsValid, most_blocks, most_units}
use Rattle.nvm_geometry.specs.Namespace.{Namespace}
use Rattle.nvm_geometry.specs.Boundaries.{units_of}
use Rattle.nvm_file.specs.HeadReading.{keeps_boundary, is_geometry}

size : (n : ℕ) → (eqb n 512 || eqb n 4096) ≡ true → IsBlockSize n
size n h = elim (or_cases (eqb n 512) (eqb n 4096) h) [
  | inl e ↦ inl (eqb-true n 512 e)
  | inr e ↦ inr (eqb-true n 4096 e)
]

-- What the boundary keeps, whether there is one or not.
record Keeps (ns : Namespace) : Type 0 where
  none : ns.nabsn ≡ 0 → ns.nabo ≡ 0
  offset : ns.nabo ≤ ns.nabsn
  write : ns.nabsn ≢ 0 → ns.nawun ≤ ns.nabsn
  pair : ns.nabsn ≢ 0 → ns.nacwu ≤ ns.nabsn

keeps : (ns : Namespace) → keeps_boundary ns ≡ true → Keeps ns
keeps ns h = by (eqb ns.nabsn 0) refl h
  where
    by : (b : Bool) → eqb ns.nabsn 0 ≡ b
        → cond b (eqb ns.nabo 0) (leb ns.nabo ns.nabsn && (leb ns.nawun ns.nabsn && leb ns.nacwu ns.nabsn)) ≡ true → Keeps ns
    by true e t =
        let without = eqb-true ns.nabo 0 t in
        record {
          none = λ _. without;
          offset = omega (arith, without);
          write = λ some. absurd (some (eqb-true ns.nabsn 0 e));
          pair = λ some. absurd (some (eqb-true ns.nabsn 0 e));
        }
    by false e t =
        let first = and_parts (leb ns.nabo ns.nabsn) (leb ns.nawun ns.nabsn && leb ns.nacwu ns.nabsn) t in
        let second = and_parts (leb ns.nawun ns.nabsn) (leb ns.nacwu ns.nabsn) first.1 in
        record {
          none = λ none. absurd (eqb-false ns.nabsn 0 e none);
          offset = leb-true ns.nabo ns.nabsn first.0;
          write = λ _. leb-true ns.nawun ns.nabsn second.0;
          pair = λ _. leb-true ns.nacwu ns.nabsn second.1;
        }

pub is_valid : (ns : Namespace) → is_geometry ns ≡ true → IsValid ns
is_valid ns h =
    let a = and_parts (ltb 0 ns.nsze && leb ns.nsze most_blocks) ((eqb ns.block_size 512 || eqb ns.block_size 4096) && (keeps_boundary ns && leb (units_of ns) most_units)) h in
    let b = and_parts (eqb ns.block_size 512 || eqb ns.block_size 4096) (keeps_boundary ns && leb (units_of ns) most_units) a.1 in
    let c = and_parts (keeps_boundary ns) (leb (units_of ns) most_units) b.1 in
    let d = and_parts (ltb 0 ns.nsze) (leb ns.nsze most_blocks) a.0 in
    let k = keeps ns c.0 in
    record {
      some = ltb-true 0 ns.nsze d.0;
      size = leb-true ns.nsze most_blocks d.1;
      block_size = size ns.block_size b.0;
      no_boundary = k.none;
      offset = k.offset;
      write_unit = k.write;
      pair_unit = k.pair;
      units = leb-true (units_of ns) most_units c.1;
    }

size_back : (n : ℕ) → IsBlockSize n → (eqb n 512 || eqb n 4096) ≡ true
size_back n (inl e) = subst (λ (m : ℕ). (eqb m 512 || eqb m 4096) ≡ true) (sym e) refl
size_back n (inr e) = subst (λ (m : ℕ). (eqb m 512 || eqb m 4096) ≡ true) (sym e) refl

keeps_back : (ns : Namespace) → IsValid ns → keeps_boundary ns ≡ true
keeps_back ns valid = by (eqb ns.nabsn 0) refl
  where
    by : (b : Bool) → eqb ns.nabsn 0 ≡ b
        → cond b (eqb ns.nabo 0) (leb ns.nabo ns.nabsn && (leb ns.nawun ns.nabsn && leb ns.nacwu ns.nabsn)) ≡ true
    by true e = subst (λ (m : ℕ). eqb m 0 ≡ true) (sym (valid.no_boundary (eqb-true ns.nabsn 0 e))) refl
    by false e =
        let some : ns.nabsn ≢ 0 = eqb-false ns.nabsn 0 e in
        and_from (leb ns.nabo ns.nabsn) (leb ns.nawun ns.nabsn && leb ns.nacwu ns.nabsn) (le-leb ns.nabo ns.nabsn valid.offset)
        (and_from (leb ns.nawun ns.nabsn) (leb ns.nacwu ns.nabsn) (le-leb ns.nawun ns.nabsn (valid.write_unit some))
        (le-leb ns.nacwu ns.nabsn (valid.pair_unit some)))

-- and it holds of numbers that are.
pub is_valid_back : (ns : Namespace) → IsValid ns → is_geometry ns ≡ true
is_valid_back ns valid =
    and_from (ltb 0 ns.nsze && leb ns.nsze most_blocks) ((eqb ns.block_size 512 || eqb ns.block_size 4096) && (keeps_boundary ns && leb (units_of ns) most_units))
    (and_from (ltb 0 ns.nsze) (leb ns.nsze most_blocks) (lt-ltb 0 ns.nsze valid.some) (le-leb ns.nsze most_blocks valid.size))
    (and_from (eqb ns.block_size 512 || eqb ns.block_size 4096) (keeps_boundary ns && leb (units_of ns) most_units) (size_back ns.block_size valid.block_size)
    (and_from (keeps_boundary ns) (leb (units_of ns) most_units) (keeps_back ns valid) (le-leb (units_of ns) most_units valid.units)))
