-- What a record file begins with (own): its name, the numbers of the namespace, the limit of a unit's history, and how many
-- workers there were. All numbers are little endian.
use Rattle.std.specs.Prelude.{ℕ, ◌-◌, List, [], ◌∷◌, ◌++◌}
use Rattle.byteorder.specs.Endian.{little_bytes}
use Rattle.nvm_geometry.specs.Namespace.{Namespace}
use Rattle.nvm_audit.specs.declared.version.Version.{Version}
use Rattle.nvm_audit.specs.declared.version.Version.TheVariants.{One, Two}
use Rattle.nvm_audit.specs.RecordView.{RecordView}

-- `NVR1`, or `NVR2`
abbrev pub name_of : Version → List ℕ
name_of One = 78 ∷ 86 ∷ 82 ∷ 49 ∷ []
name_of Two = 78 ∷ 86 ∷ 82 ∷ 50 ∷ []

-- NSZE, the block size in bytes, NABSN, NABO, NAWUN and NACWU
abbrev pub namespace_bytes : Namespace → List ℕ
namespace_bytes ns =
    little_bytes 8 ns.nsze ++ (little_bytes 4 ns.block_size ++ (little_bytes 2 ns.nabsn ++ (little_bytes 2 ns.nabo
    ++ (little_bytes 2 ns.nawun ++ little_bytes 2 ns.nacwu))))

-- The limit: less 1 in two bytes in the first version, itself in four bytes in the second.
abbrev pub limit_bytes : Version → ℕ → List ℕ
limit_bytes One limit = little_bytes 2 (limit - 1)
limit_bytes Two limit = little_bytes 4 limit

-- all that stands before the jobs
abbrev pub head_bytes : RecordView → List ℕ
head_bytes r =
    name_of r.version ++ (namespace_bytes r.namespace ++ (limit_bytes r.version r.limit ++ little_bytes 2 r.workers))
