-- The namespace that the options of a run describe.
use Rattle.nvm_geometry.specs.Faults.{HasNoFault}
use Rattle.nvm_geometry.specs.Namespace.{Namespace, namespace_of}
use Rattle.nvm_engine.specs.declared.settings.Settings.{Settings}

-- the numbers that the options give the namespace
abbrev pub advertised : Settings → Namespace
advertised s = namespace_of s.nsze s.block s.nabsn s.nabo s.nawun s.nacwu

-- The options describe a namespace.
abbrev pub IsNamespace : Settings → Type 0
IsNamespace s = HasNoFault (advertised s)
