use Rattle.std.proofs.Common.{◌≡◌, ℕ, ◌+◌, ◌-◌, ◌<◌, ◌≤◌, Err, Result, set, refl, ap, sym, subst, ◌∙◌, rules}
use Rattle.nvm_geometry.specs.Boundaries.{unit_number, units_of}
use Rattle.nvm_geometry.specs.Large.{IsLarge, regions_of}
use Rattle.nvm_geometry.specs.Limits.{LiesInUnit}
use Rattle.nvm_geometry.specs.Namespace.{Namespace}
use Rattle.nvm_store.specs.Operation.{read_operation}
use Rattle.nvm_unit.specs.declared.replies.LookFault.{LookFault}
use Rattle.nvm_unit.specs.declared.replies.Observed.{Observed}
use Rattle.nvm_space.specs.Ports.{PortState}
use Rattle.nvm_space.specs.ReadNow.{LooksAtRange, ReadsNow}
use Rattle.nvm_space.specs.Spaces.{SpaceName, IsLaidOut}
use Rattle.nvm_space.specs.declared.read_now.ReadAnswer.{ReadAnswer}
use Rattle.nvm_space.specs.declared.read_now.ReadNow.{ReadNow}
use Rattle.nvm_space.proofs.AtUnits.{unit_of_space, pass_of_unit, port_of_space, looks_in, read_is_covered}
use Rattle.nvm_space.proofs.space.Space.read_now.Goals as goal
use Rattle.nvm_space.proofs.space.Space.read_now.Goals.{in-Ok, in-Err-Newer, in-Err-NoMemory}

pub look-requires : goal.look-requires
look-requires g c =
    let ns = c.args.self.now.namespace in
    let region = unit_number (regions_of ns) c.args.slba in
    let geo : c.self.inside.geometry ≡ ns = ap (λ (s : SpaceName). s.namespace) c.self.view_is in
    let cut : c.self.inside.regions ≡ regions_of ns = c.self.invariant.1 ∙ ap regions_of geo in
    let known : region < units_of (regions_of ns) = subst (λ (x : Namespace). unit_number x c.args.slba < units_of x) cut (subst (λ (k : ℕ). k < units_of c.self.inside.regions) c.region_of.ensures.value c.region_of.ensures.valid) in
    let same : c.from-place.result ≡ region = c.from-place.ensures ∙ c.region_of.ensures.value ∙ ap (λ (x : Namespace). unit_number x c.args.slba) cut in
    let inside : c.args.slba + c.args.blocks ≤ ns.nsze = subst (λ (x : Namespace). c.args.slba + c.args.blocks ≤ x.nsze) geo (c.if-not-in_range.ensures.0 refl) in
    let one : LiesInUnit ns c.args.slba c.args.blocks = subst (λ (x : Namespace). LiesInUnit x c.args.slba c.args.blocks) geo (c.if-not-lies_in_unit.ensures.one_unit) in
    let its = unit_of_space c.args.self.now c.self.inside.units.items c.args.port.now (record { number = c.port.inside.number; passes = c.port.inside.passes.items }) region c.from-place.result c.index.result.now c.index_mut.result.now
    (subst IsLaidOut c.self.view_is c.self.invariant.0) (ap (λ (s : SpaceName). s.units) c.self.view_is) c.port.view_is c.requires.of known same c.index.ensures c.index_mut.ensures.value in
    let within : LiesInUnit (regions_of ns) c.args.slba c.args.blocks = c.regions_have_whole_units.ensures.inside ns c.args.slba c.args.blocks (subst IsLarge geo c.nsze-nsze.ensures.valid) one in
    let last = sym (c.sharing_is_one_number.ensures.number (regions_of ns) c.args.slba (c.args.slba + c.args.blocks - 1) within) ∙ sym same in
    record {
      of =
          pass_of_unit c.args.self.now c.self.inside.units.items c.args.port.now (record { number = c.port.inside.number; passes = c.port.inside.passes.items }) region c.from-place.result c.index.result.now c.index_mut.result.now
          (subst IsLaidOut c.self.view_is c.self.invariant.0) (ap (λ (s : SpaceName). s.units) c.self.view_is) c.port.view_is c.requires.of known same c.index.ensures c.index_mut.ensures.value;
      covered = read_is_covered (regions_of ns) c.from-place.result c.index.result.now.bounds.place c.args.slba c.args.blocks its.place c.requires.some inside (sym same) last;
      versions = its.versions ∙ c.requires.versions;
    }

pub returns : goal.returns
returns g c =
    let ns = c.args.self.now.namespace in
    let region = unit_number (regions_of ns) c.args.slba in
    let geo : c.self.inside.geometry ≡ ns = ap (λ (s : SpaceName). s.namespace) c.self.view_is in
    let cut : c.self.inside.regions ≡ regions_of ns = c.self.invariant.1 ∙ ap regions_of geo in
    let known : region < units_of (regions_of ns) = subst (λ (x : Namespace). unit_number x c.args.slba < units_of x) cut (subst (λ (k : ℕ). k < units_of c.self.inside.regions) c.region_of.ensures.value c.region_of.ensures.valid) in
    let same : c.from-place.result ≡ region = c.from-place.ensures ∙ c.region_of.ensures.value ∙ ap (λ (x : Namespace). unit_number x c.args.slba) cut in
    let inside : c.args.slba + c.args.blocks ≤ ns.nsze = subst (λ (x : Namespace). c.args.slba + c.args.blocks ≤ x.nsze) geo (c.if-not-in_range.ensures.0 refl) in
    let one : LiesInUnit ns c.args.slba c.args.blocks = subst (λ (x : Namespace). LiesInUnit x c.args.slba c.args.blocks) geo (c.if-not-lies_in_unit.ensures.one_unit) in
    let new : PortState = record { number = c.port.inside.number; passes = set c.port.inside.passes.items c.from-place.result c.look.new.pass } in
    let looks : LooksAtRange ns c.args.slba c.args.blocks c.look.result c.args.port.now new = record {
      in_range = inside;
      one_unit = one;
      looks = looks_in c.args.self.now c.self.inside.units.items c.args.port.now (record { number = c.port.inside.number; passes = c.port.inside.passes.items }) region c.from-place.result c.index.result.now c.index_mut.result.now
          (subst IsLaidOut c.self.view_is c.self.invariant.0) (ap (λ (s : SpaceName). s.units) c.self.view_is) c.port.view_is c.requires.of known same c.index.ensures c.index_mut.ensures.value
          (read_operation c.args.slba c.args.blocks) c.look.result c.look.new.pass c.look.ensures.looked c.look.ensures.proper c.look.ensures.keeps;
    } in
    record {
      of =
          port_of_space c.args.self.now c.self.inside.units.items c.args.port.now (record { number = c.port.inside.number; passes = c.port.inside.passes.items }) region c.from-place.result c.index.result.now c.index_mut.result.now
          (subst IsLaidOut c.self.view_is c.self.invariant.0) (ap (λ (s : SpaceName). s.units) c.self.view_is) c.port.view_is c.requires.of known same c.index.ensures c.index_mut.ensures.value c.look.new.pass c.look.ensures.of c.look.ensures.number;
      number = search rules;
      read =
          elim c.match-look.branch [
            | in-Ok w ↦ subst (λ (told : Result ReadAnswer ReadNow). ReadsNow ns c.args.slba c.args.blocks told c.args.port.now new) (sym w.result-is)
                (w.in-Ok.observed, w.of.ensures, subst (λ (answer : Result Observed LookFault). LooksAtRange ns c.args.slba c.args.blocks answer c.args.port.now new) w.in-Ok.is looks)
            | in-Err-Newer w ↦ subst (λ (told : Result ReadAnswer ReadNow). ReadsNow ns c.args.slba c.args.blocks told c.args.port.now new) (sym w.result-is)
                (subst (λ (answer : Result Observed LookFault). LooksAtRange ns c.args.slba c.args.blocks answer c.args.port.now new) (w.in-Err-Newer.is ∙ ap Err w.in-Err-Newer.field-0-is) looks)
            | in-Err-NoMemory w ↦ subst (λ (told : Result ReadAnswer ReadNow). ReadsNow ns c.args.slba c.args.blocks told c.args.port.now new) (sym w.result-is)
                (subst (λ (answer : Result Observed LookFault). LooksAtRange ns c.args.slba c.args.blocks answer c.args.port.now new) (w.in-Err-NoMemory.is ∙ ap Err w.in-Err-NoMemory.field-0-is) looks)
          ];
    }
