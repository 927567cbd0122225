use Rattle.std.proofs.Common.{◌≡◌, ◌<◌, refl, Fits, w16, rules}
use Rattle.std.proofs.lemmas.Bool.{eq-eqb, ne_eqb}
use Rattle.nvm_geometry.specs.Large.{AreRegions, regions_of}
use Rattle.nvm_geometry.specs.Namespace.{Namespace, namespace_of}
use Rattle.nvm_geometry.proofs.RegionUnits.{regions_kept}
use Rattle.nvm_geometry.proofs.large_geometry.LargeGeometry.regions.Goals as goal
use Rattle.nvm_geometry.proofs.large_geometry.LargeGeometry.regions.Goals.{then-self-eq0, else-self-eq0}

pub invariant_of-result : goal.invariant_of-result
invariant_of-result c =
    let f : Fits w16 c.self.inside.nabsn = search rules in
    let near : c.self.inside.nabsn < 65536 = f.fits in
    let s = c.self.inside in
    let ns : Namespace = namespace_of s.nsze s.block_size s.nabsn s.nabo s.nawun s.nacwu in
    let kept : AreRegions (regions_of ns) = regions_kept ns c.self.invariant near in
    let nabo : c.if-self-eq0.nabo ≡ (regions_of ns).nabo =
    elim c.if-self-eq0.branch [
      | then-self-eq0 w ↦ rw (eq-eqb s.nabo 0 w.if-self-eq0.true) w.nabo-is
      | else-self-eq0 w ↦
          rw (ne_eqb s.nabo 0 w.if-self-eq0.false, w.nabo-is, w.from.ensures, c.unit_at-units.ensures.value, c.from-length.ensures) refl
    ] in
    rw (nabo, c.unit_at-units.ensures.value, c.from-length.ensures) kept
