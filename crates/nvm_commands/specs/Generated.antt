-- The lists of a load, host by host, and why they aren't written.
use Rattle.std.specs.Prelude.{◌≡◌, ◌⊎◌, ◌<◌, ◌≤◌, ℕ, ◌+◌, List, [], ◌∷◌, length, map, Ok, string_bytes}
use Rattle.std.specs.List.{flat_map}
use Rattle.nvm_geometry.specs.Faults.{IsFirstGeometryFault}
use Rattle.nvm_geometry.specs.Namespace.{Namespace, namespace_of}
use Rattle.nvm_list.specs.Lists.{commands}
use Rattle.nvm_plan.specs.Fits.{most_hosts}
use Rattle.nvm_plan.specs.Jobs.{commands_of}
use Rattle.nvm_plan.specs.declared.job.Body.{Body}
use Rattle.nvm_generate.specs.Load.{AreJobsOfLoad}
use Rattle.nvm_generate.specs.declared.load.Load.{Load}
use Rattle.nvm_commands.specs.Files.{IsWritingFault}
use Rattle.nvm_commands.specs.declared.fault.Fault.{Fault}
use Rattle.nvm_commands.specs.declared.fault.Fault.TheVariants.{Geometry, TooManyHosts}
use Rattle.nvm_commands.specs.declared.generating_words.GenerateWords.{GenerateWords}
use Rattle.nvm_commands.specs.declared.namespace_words.NamespaceWords.{NamespaceWords}

-- the namespace of the words' numbers
abbrev pub namespace_asked : NamespaceWords → Namespace
namespace_asked words = namespace_of words.nsze words.size words.nabsn words.nabo words.nawun words.nacwu

-- The words give this load.
abbrev pub IsLoadOf : GenerateWords → Load → Type 0
IsLoadOf words load =
    load ≡ record { seed = words.seed; commands = words.commands; geometry = namespace_asked words.namespace; mix = words.mix }

-- The list says the commands of a host's jobs of the load.
abbrev pub IsListOfLoad : Load → ℕ → List ℕ → Type 0
IsListOfLoad load host text =
    (jobs : List Body) × AreJobsOfLoad load host jobs × (commands load.geometry.block_size text ≡ Ok (flat_map commands_of jobs))

-- The lists are those of hosts of the load, each the next one's, and this is the first's number.
abbrev pub AreListsOfLoad : Load → ℕ → List (List ℕ) → Type 0
AreListsOfLoad load host [] = Unit {0}
AreListsOfLoad load host (text ∷ texts) = IsListOfLoad load host text × AreListsOfLoad load (host + 1) texts

-- There are more lists than a run has hosts, or else the numbers are those of no namespace.
abbrev pub IsLoadFault : GenerateWords → Fault → Type 0
IsLoadFault words TooManyHosts = most_hosts < length words.outs.items
IsLoadFault words (Geometry fault) =
    (length words.outs.items ≤ most_hosts) × IsFirstGeometryFault (namespace_asked words.namespace) fault
IsLoadFault words fault = ⊥

-- There is no such load, or else a list couldn't be written to its path, or memory was refused.
abbrev pub IsGeneratingFault : GenerateWords → Fault → Type 0
IsGeneratingFault words fault =
    IsLoadFault words fault ⊎ IsWritingFault (map (λ path. string_bytes path) words.outs.items) fault
