-- What was read before the jobs is spelled so.
use Rattle.std.proofs.Common.{◌≡◌, inl, inr, ℕ, ◌+◌, ◌-◌, ◌==◌, cond, List, [], ◌∷◌, ◌++◌, take, drop, take-append-drop, Ok, Err, refl, sym, ap, subst, ◌∙◌, arith}
use Rattle.std.specs.Str.{bytes_eq}
use Rattle.std.proofs.lemmas.Bool.{eqb-true}
use Rattle.std.proofs.lemmas.Slice.Eq.{bytes_eq-Decides}
use Rattle.byteorder.specs.Endian.{little_bytes}
use Rattle.nvm_geometry.specs.Namespace.{Namespace, namespace_of}
use Rattle.nvm_audit.specs.declared.version.Version.{Version}
use Rattle.nvm_audit.specs.declared.version.Version.TheVariants.{One, Two}
use Rattle.nvm_audit.specs.Recordable.{most_workers, most_jobs}
use Rattle.nvm_file.specs.declared.frame.Frame.{Frame}
use Rattle.nvm_file.specs.declared.record_fault.RecordFault.{RecordFault}
use Rattle.nvm_file.specs.declared.record_fault.RecordFault.TheVariants as fault
use Rattle.nvm_file.specs.HeadReading.{record_name, digit_at, version_at, is_geometry, numbers_at, judged, limit_less_one_at, most_entries, limit_at, frame_with, head_at}
use Rattle.nvm_file.specs.HeadSpelling.{limit_bytes, name_of, namespace_bytes}
use Rattle.nvm_file.specs.Fields.{number_at, number_in}
use Rattle.nvm_file.proofs.FieldSpellings.{Takes, and_then, spelled_as, dropped, number_takes, in_takes}
use Rattle.nvm_file.proofs.NumberBytes.{IsBytes}
use Rattle.nvm_file.proofs.Readings.{bind_ok, chosen, ok_is, took}

-- the digit of a version, behind `NVR`
abbrev digit_of : Version → ℕ
digit_of One = 49
digit_of Two = 50

name_is : (version : Version) → name_of version ≡ record_name ++ digit_of version ∷ []
name_is One = refl
name_is Two = refl

digit_takes : (bytes : List ℕ) (x : Version × List ℕ) → IsBytes bytes → digit_at bytes ≡ Ok x → Takes bytes (digit_of x.0 ∷ []) x.1
digit_takes [] x are e = absurd cc
digit_takes (digit ∷ rest) x are e =
    elim (chosen (digit == 49) (Ok (One, rest)) (cond (digit == 50) (Ok (Two, rest)) (Err fault.Version)) (Ok x) e) [
      | inl first ↦
          subst (λ (y : Version × List ℕ). Takes (digit ∷ rest) (digit_of y.0 ∷ []) y.1) (ok_is (One, rest) x first.1)
          (record { parts = ap (λ d. d ∷ rest) (eqb-true _ _ first.0); rest_are = are.1 })
      | inr other ↦
          let g = took (digit == 50) fault.Version (Two, rest) x other.1 in
          subst (λ (y : Version × List ℕ). Takes (digit ∷ rest) (digit_of y.0 ∷ []) y.1) g.1
          (record { parts = ap (λ d. d ∷ rest) (eqb-true _ _ g.0); rest_are = are.1 })
    ]

pub not_read : {A : Type 0} (f : RecordFault) (x : A) → Err f ≡ Ok x → ⊥
not_read f x e = absurd cc

version_takes : (bytes : List ℕ) (x : Version × List ℕ) → IsBytes bytes → version_at bytes ≡ Ok x → Takes bytes (name_of x.0) x.1
unfolding version_at
version_takes bytes x are e =
    elim (chosen (bytes_eq (take 3 bytes) record_name) (digit_at (drop 3 bytes)) (Err fault.BadName) (Ok x) e) [
      | inl named ↦
          let same : take 3 bytes ≡ record_name = (bytes_eq-Decides (take 3 bytes) record_name).0 named.0 in
          let name : Takes bytes record_name (drop 3 bytes) =
          record {
            parts = sym (take-append-drop 3 bytes) ∙ ap (λ l. l ++ drop 3 bytes) same;
            rest_are = dropped 3 bytes are;
          } in
          let digit = digit_takes (drop 3 bytes) x (dropped 3 bytes are) named.1 in
          spelled_as _ _ (name_of x.0) _ (sym (name_is x.0)) (and_then _ _ _ _ _ name digit)
      | inr other ↦ absurd (not_read fault.BadName x other.1)
    ]

pub numbers_take : (total : ℕ) (bytes : List ℕ) (x : Namespace × List ℕ) → IsBytes bytes → numbers_at total bytes ≡ Ok x
    → Takes bytes (namespace_bytes x.0) x.1
unfolding numbers_at
numbers_take total bytes x are e =
    let a = bind_ok (number_at total 8 bytes) _ x e in
    let b = bind_ok (number_at total 4 a.0.1) _ x a.2 in
    let c = bind_ok (number_at total 2 b.0.1) _ x b.2 in
    let d = bind_ok (number_at total 2 c.0.1) _ x c.2 in
    let f = bind_ok (number_at total 2 d.0.1) _ x d.2 in
    let g = bind_ok (number_at total 2 f.0.1) _ x f.2 in
    let nsze = number_takes total 8 bytes a.0 are a.1 in
    let size = number_takes total 4 a.0.1 b.0 nsze.rest_are b.1 in
    let nabsn = number_takes total 2 b.0.1 c.0 size.rest_are c.1 in
    let nabo = number_takes total 2 c.0.1 d.0 nabsn.rest_are d.1 in
    let nawun = number_takes total 2 d.0.1 f.0 nabo.rest_are f.1 in
    let nacwu = number_takes total 2 f.0.1 g.0 nawun.rest_are g.1 in
    subst (λ (y : Namespace × List ℕ). Takes bytes (namespace_bytes y.0) y.1)
    (ok_is (namespace_of a.0.0 b.0.0 c.0.0 d.0.0 f.0.0 g.0.0, g.0.1) x g.2)
    (and_then _ _ _ _ _ nsze (and_then _ _ _ _ _ size (and_then _ _ _ _ _ nabsn (and_then _ _ _ _ _ nabo (and_then _ _ _ _ _ nawun nacwu)))))

pub judged_is : (ns x : Namespace) → judged ns ≡ Ok x → ns ≡ x
unfolding judged
judged_is ns x e = (took (is_geometry ns) (fault.BadValue 4) ns x e).1

less_one : (total : ℕ) (bytes : List ℕ) (x : ℕ × List ℕ) → IsBytes bytes → limit_less_one_at total bytes ≡ Ok x
    → Takes bytes (limit_bytes One x.0) x.1
unfolding limit_less_one_at
less_one total bytes x are e =
    let a = bind_ok (number_at total 2 bytes) _ x e in
    let number = number_takes total 2 bytes a.0 are a.1 in
    let same : a.0.0 ≡ a.0.0 + 1 - 1 = omega arith in
    subst (λ (y : ℕ × List ℕ). Takes bytes (limit_bytes One y.0) y.1) (ok_is (a.0.0 + 1, a.0.1) x a.2)
    (spelled_as _ _ (little_bytes 2 (a.0.0 + 1 - 1)) _ (ap (little_bytes 2) same) number)

limit_takes : (version : Version) (total : ℕ) (bytes : List ℕ) (x : ℕ × List ℕ) → IsBytes bytes → limit_at version total bytes ≡ Ok x
    → Takes bytes (limit_bytes version x.0) x.1
limit_takes One total bytes x are e = less_one total bytes x are e
limit_takes Two total bytes x are e = in_takes total 4 1 most_entries bytes x are e

-- the head without the number of jobs
abbrev pub front_of : Frame → List ℕ
front_of frame =
    name_of frame.version ++ (namespace_bytes frame.geometry ++ (limit_bytes frame.version frame.limit ++ little_bytes 2 frame.workers))

-- The numbers before the jobs, and then how many jobs there are.
pub head_takes : (total : ℕ) (bytes : List ℕ) (x : Frame × List ℕ) → IsBytes bytes → head_at total bytes ≡ Ok x
    → Takes bytes (front_of x.0 ++ little_bytes 4 x.0.jobs) x.1
unfolding head_at
head_takes total bytes x are e =
    let a = bind_ok (version_at bytes) _ x e in
    let b = bind_ok (numbers_at total a.0.1) _ x a.2 in
    let j = bind_ok (judged b.0.0) _ x b.2 in
    let c = bind_ok (limit_at a.0.0 total b.0.1) _ x j.2 in
    let d = bind_ok (number_in total 2 1 most_workers c.0.1) _ x c.2 in
    let f = bind_ok (number_in total 4 0 most_jobs d.0.1) _ x d.2 in
    let version = version_takes bytes a.0 are a.1 in
    let numbers = numbers_take total a.0.1 b.0 version.rest_are b.1 in
    let namespace = spelled_as _ _ (namespace_bytes j.0) _ (ap namespace_bytes (judged_is b.0.0 j.0 j.1)) numbers in
    let limit = limit_takes a.0.0 total b.0.1 c.0 numbers.rest_are c.1 in
    let workers = in_takes total 2 1 most_workers c.0.1 d.0 limit.rest_are d.1 in
    let jobs = in_takes total 4 0 most_jobs d.0.1 f.0 workers.rest_are f.1 in
    let front = and_then _ _ _ _ _ version (and_then _ _ _ _ _ namespace (and_then _ _ _ _ _ limit workers)) in
    subst (λ (y : Frame × List ℕ). Takes bytes (front_of y.0 ++ little_bytes 4 y.0.jobs) y.1)
    (ok_is (frame_with total a.0.0 j.0 c.0.0 d.0.0 f.0.0, f.0.1) x f.2) (and_then _ _ _ _ _ front jobs)
