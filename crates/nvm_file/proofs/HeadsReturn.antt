-- What stands before the jobs is read of its spelling.
use Rattle.std.proofs.Common.{◌≡◌, ℕ, ◌+◌, ◌-◌, ◌≤◌, List, ◌++◌, Ok, refl, ap, ◌∙◌, append_assoc, arith}
use Rattle.byteorder.specs.Endian.{little_bytes}
use Rattle.nvm_geometry.specs.Faults.{IsValid}
use Rattle.nvm_geometry.specs.Namespace.{Namespace}
use Rattle.nvm_audit.specs.declared.version.Version.{Version}
use Rattle.nvm_audit.specs.declared.version.Version.TheVariants.{One, Two}
use Rattle.nvm_audit.specs.Recordable.{HoldsLimit, IsRecordable, most_jobs, most_workers}
use Rattle.nvm_audit.specs.RecordView.{RecordView}
use Rattle.nvm_file.specs.Fits.{NumbersFit}
use Rattle.nvm_file.specs.HeadReading.{frame_with, head_at, judged, limit_at, limit_less_one_at, most_entries, numbers_at, version_at}
use Rattle.nvm_file.specs.HeadSpelling.{head_bytes, limit_bytes, name_of, namespace_bytes}
use Rattle.nvm_file.proofs.Geometries.{is_valid_back}
use Rattle.nvm_file.proofs.Returning.{number_in_returns, number_returns, read_then}

version_returns : (version : Version) (rest : List ℕ) → version_at (name_of version ++ rest) ≡ Ok (version, rest)
unfolding version_at
version_returns One rest = refl
version_returns Two rest = refl

pub numbers_return : (total : ℕ) (ns : Namespace) (rest : List ℕ) → NumbersFit ns → numbers_at total (namespace_bytes ns ++ rest) ≡ Ok (ns, rest)
unfolding numbers_at
numbers_return total ns rest fit =
    let nacwu = little_bytes 2 ns.nacwu ++ rest in
    let nawun = little_bytes 2 ns.nawun ++ nacwu in
    let nabo = little_bytes 2 ns.nabo ++ nawun in
    let nabsn = little_bytes 2 ns.nabsn ++ nabo in
    let size = little_bytes 4 ns.block_size ++ nabsn in
    read_then _ _ _ _ (number_returns total 8 ns.nsze size fit.nsze)
    (read_then _ _ _ _ (number_returns total 4 ns.block_size nabsn fit.block_size)
    (read_then _ _ _ _ (number_returns total 2 ns.nabsn nabo fit.nabsn)
    (read_then _ _ _ _ (number_returns total 2 ns.nabo nawun fit.nabo)
    (read_then _ _ _ _ (number_returns total 2 ns.nawun nacwu fit.nawun)
    (read_then _ _ _ _ (number_returns total 2 ns.nacwu rest fit.nacwu) refl)))))

pub judged_valid : (ns : Namespace) → IsValid ns → judged ns ≡ Ok ns
unfolding judged
judged_valid ns valid = rw (is_valid_back ns valid) refl

less_one_returns : (total limit : ℕ) (rest : List ℕ) → HoldsLimit One limit
    → limit_less_one_at total (limit_bytes One limit ++ rest) ≡ Ok (limit, rest)
unfolding limit_less_one_at
less_one_returns total limit rest holds =
    let again : limit - 1 + 1 ≡ limit = omega (arith, holds.0) in
    read_then _ _ _ _ (number_returns total 2 (limit - 1) rest (omega (arith, holds.0, holds.1)))
    (ap (λ (n : ℕ). Ok (n, rest)) again)

limit_returns : (version : Version) (total limit : ℕ) (rest : List ℕ) → HoldsLimit version limit
    → limit_at version total (limit_bytes version limit ++ rest) ≡ Ok (limit, rest)
limit_returns One total limit rest holds = less_one_returns total limit rest holds
limit_returns Two total limit rest holds =
    number_in_returns total 4 1 most_entries limit rest (omega (arith, holds.1)) holds.0 holds.1

-- The head, and how many jobs there are behind it.
pub head_returns : (total : ℕ) (r : RecordView) (jobs : ℕ) (rest : List ℕ) → IsRecordable r → NumbersFit r.namespace → jobs ≤ most_jobs
    → head_at total (head_bytes r ++ (little_bytes 4 jobs ++ rest))
    ≡ Ok (frame_with total r.version r.namespace r.limit r.workers jobs, rest)
unfolding head_at
head_returns total r jobs rest can fit few =
    let ns = namespace_bytes r.namespace in
    let limit = limit_bytes r.version r.limit in
    let workers = little_bytes 2 r.workers in
    let last = little_bytes 4 jobs ++ rest in
    let grouped : head_bytes r ++ last ≡ name_of r.version ++ (ns ++ (limit ++ (workers ++ last))) =
    append_assoc (name_of r.version) (ns ++ (limit ++ workers)) last
    ∙ ap (λ (l : List ℕ). name_of r.version ++ l) (append_assoc ns (limit ++ workers) last
    ∙ ap (λ (l : List ℕ). ns ++ l) (append_assoc limit workers last)) in
    ap (head_at total) grouped
    ∙ read_then _ _ _ _ (version_returns r.version (ns ++ (limit ++ (workers ++ last))))
    (read_then _ _ _ _ (numbers_return total r.namespace (limit ++ (workers ++ last)) fit)
    (read_then _ _ _ _ (judged_valid r.namespace can.namespace)
    (read_then _ _ _ _ (limit_returns r.version total r.limit (workers ++ last) can.limit)
    (read_then _ _ _ _ (number_in_returns total 2 1 most_workers r.workers last (omega (arith, can.few_workers)) can.some_worker can.few_workers)
    (read_then _ _ _ _ (number_in_returns total 4 0 most_jobs jobs rest (omega (arith, few)) (omega arith) few) refl)))))
