-- New units, and the ports that have their passes.
use Rattle.std.proofs.Common.{Bool, Option, is_some, ◌≡◌, ℕ, zero, suc, ◌+◌, ◌<◌, List, [], ◌∷◌, ◌++◌, length, length-append, map, refl, sym, ap, ◌∙◌, subst, arith, inl, inr}
use Rattle.std.specs.List.{range_with_len}
use Rattle.std.proofs.lemmas.List.{length-map}
use Rattle.std.proofs.lemmas.List.FromFn.{length-range_with_len}
use mathlib.Core.Option.{some-ne-none}
use Rattle.nvm_record.specs.Lists.{IsAt}
use Rattle.nvm_geometry.specs.Boundaries.{units_of}
use Rattle.nvm_geometry.specs.Large.{regions_of}
use Rattle.nvm_geometry.specs.Namespace.{Namespace}
use Rattle.nvm_unit.specs.Ends.{new_passes}
use Rattle.nvm_unit.specs.Passes.{UnitName, PassState}
use Rattle.nvm_space.specs.Inside.Dealing.{space_of, with_one_more, AreDealt, HaveOneMore}
use Rattle.nvm_space.specs.Inside.Recorded.{limit_of}
use Rattle.nvm_space.specs.Ports.{PortState, AreAllPortsOf, new_pass, new_port, new_ports}
use Rattle.nvm_space.specs.Spaces.{SpaceName, IsUnitOf, IsLaidOut, most_entries}
use Rattle.nvm_space.specs.declared.space.Recorded.{Recorded}
use Rattle.nvm_space.proofs.Lists.{at_one, at_below, at_some, at_more, at_map_back, map_more}

-- the port so far, with one pass more
pub new_with_one_more : (units : List UnitName) (unit : UnitName) (w : ℕ) (port : PortState) (pass : PassState) → port ≡ new_port units w → pass ≡ new_pass w unit
    → with_one_more port pass ≡ new_port (units ++ unit ∷ []) w
new_with_one_more units unit w port pass is here =
    ap (λ (x : PortState). with_one_more x pass) is ∙ ap (λ (x : PassState). with_one_more (new_port units w) x) here
    ∙ ap (λ (ps : List PassState). let p : PortState = record { number = w; passes = ps } in p) (sym (map_more (new_pass w) units unit))

pub dealt_one_more : (n : ℕ) (units : List UnitName) (unit : UnitName) (passes : List PassState) (old new : List PortState)
    → ((i : ℕ) (pass : PassState) → IsAt (new_passes unit) i pass → pass ≡ new_pass i unit) → passes ≡ new_passes unit
    → AreDealt n units old → HaveOneMore passes old new → AreDealt n (units ++ unit ∷ []) new
dealt_one_more n units unit passes old new new_are are dealt more = record {
  count = more.count ∙ dealt.count;
  each = λ w port at.
      let below : w < length new = at_below new w port at in
      let counts : length new ≡ length old = more.count in
      let others : length passes ≡ length old = more.passes_count in
      let was = at_some old w (omega arith) in
      let pass = at_some passes w (omega arith) in
      more.each w was.0 pass.0 port was.1 pass.1 at
      ∙ new_with_one_more units unit w was.0 pass.0 (dealt.each w was.0 was.1) (new_are w pass.0 (subst (λ (ps : List PassState). IsAt ps w pass.0) are pass.1));
}

dealt_from : (units : List UnitName) (low : ℕ) (ports : List PortState) → ((w : ℕ) (port : PortState) → IsAt ports w port → port ≡ new_port units (low + w))
    → ports ≡ map (new_port units) (range_with_len low (length ports))
dealt_from units low [] each = refl
dealt_from units low (port ∷ ports) each =
    let first : low + 0 ≡ low = omega arith in
    let here : port ≡ new_port units low = each 0 port refl ∙ ap (new_port units) first in
    let rest : ports ≡ map (new_port units) (range_with_len (low + 1) (length ports)) =
    dealt_from units (low + 1) ports (λ w p at. let next : low + suc w ≡ low + 1 + w = omega arith in each (suc w) p at ∙ ap (new_port units) next) in
    ap (λ (p : PortState). p ∷ ports) here ∙ ap (λ (ps : List PortState). new_port units low ∷ ps) rest

-- In the end the ports are those of the new space.
pub all_dealt : (ns : Namespace) (n : ℕ) (limit : Option ℕ) (versions : Bool) (units : List UnitName) (ports : List PortState) → AreDealt n units ports → ports ≡ new_ports (space_of ns n limit versions units)
all_dealt ns n limit versions units ports dealt =
    dealt_from units 0 ports (λ w port at. dealt.each w port at ∙ ap (new_port units) (let e : w ≡ 0 + w = omega arith in e))
    ∙ ap (λ (k : ℕ). map (new_port units) (range_with_len 0 k)) dealt.count

-- The units so far are at their places.
pub record AreLaid (ns : Namespace) (ports : ℕ) (limit : Option ℕ) (versions : Bool) (n : ℕ) (units : List UnitName) : Type 0 where
  pub count : length units ≡ n
  pub each : (k : ℕ) (unit : UnitName) → IsAt units k unit → IsUnitOf (space_of ns ports limit versions []) k unit

pub laid_none : (ns : Namespace) (ports : ℕ) (limit : Option ℕ) (versions : Bool) → AreLaid ns ports limit versions 0 []
laid_none ns ports limit versions = record { count = refl; each = λ k unit at. absurd (some-ne-none unit (sym at)) }

pub laid_one_more : (ns : Namespace) (ports : ℕ) (limit : Option ℕ) (versions : Bool) (n : ℕ) (units : List UnitName) (unit : UnitName) → AreLaid ns ports limit versions n units
    → IsUnitOf (space_of ns ports limit versions []) n unit → AreLaid ns ports limit versions (n + 1) (units ++ unit ∷ [])
laid_one_more ns ports limit versions n units unit laid is = record {
  count = length-append units (unit ∷ []) ∙ ap (λ (k : ℕ). k + 1) laid.count;
  each = λ k other at.
      elim (at_more units unit k other at) [
        | inl before ↦ laid.each k other before
        | inr last ↦ subst (λ (u : UnitName). IsUnitOf (space_of ns ports limit versions []) k u) (sym last.1)
            (subst (λ (i : ℕ). IsUnitOf (space_of ns ports limit versions []) i unit) (sym (last.0 ∙ laid.count)) is)
      ];
}

pub all_laid : (ns : Namespace) (ports : ℕ) (limit : Option ℕ) (versions : Bool) (n : ℕ) (units : List UnitName) → AreLaid ns ports limit versions n units → n ≡ units_of (regions_of ns) → IsLaidOut (space_of ns ports limit versions units)
all_laid ns ports limit versions n units laid all = record {
  count = laid.count ∙ all;
  each = λ k unit at.
      let is = laid.each k unit at in
      record { number = is.number; place = is.place; passes = is.passes; limit = is.limit; versions = is.versions };
}

-- So they are of the space whose record has that limit.
pub laid_as_recorded : (ns : Namespace) (ports : ℕ) (recorded : Option Recorded) (limit : Option ℕ) (versions : Bool) (units : List UnitName) → limit ≡ limit_of recorded
    → IsLaidOut (space_of ns ports limit versions units)
    → IsLaidOut (record { namespace = ns; ports = ports; limit = most_entries (limit_of recorded); lists = is_some recorded; versions = versions; units = units })
laid_as_recorded ns ports recorded limit versions units is laid = record {
  count = laid.count;
  each = λ k unit at.
      let its = laid.each k unit at in
      record { number = its.number; place = its.place; passes = its.passes; limit = its.limit ∙ ap most_entries is; versions = its.versions };
}

-- The ports of a new space are all its ports.
at_range : (low n w x : ℕ) → IsAt (range_with_len low n) w x → x ≡ low + w
at_range low zero w x e = absurd (some-ne-none x (sym e))
at_range low (suc n) zero x e = let h : low ≡ x = at_one (low ∷ []) 0 low x refl e in omega (arith, h)
at_range low (suc n) (suc w) x e = let h : x ≡ low + 1 + w = at_range (low + 1) n w x e in omega (arith, h)

pub new_ports_are_all : (s : SpaceName) → AreAllPortsOf s (new_ports s)
new_ports_are_all s = record {
  count = length-map (range_with_len 0 s.ports) (new_port s.units) ∙ length-range_with_len 0 s.ports;
  each = λ w port at.
      let number = at_map_back (new_port s.units) (range_with_len 0 s.ports) w port at in
      let is : number.0 ≡ w = at_range 0 s.ports w number.0 number.1 ∙ (let e : 0 + w ≡ w = omega arith in e) in
      let same : port ≡ new_port s.units w = number.2 ∙ ap (new_port s.units) is in (
        record {
          count = ap (λ (p : PortState). length p.passes) same ∙ length-map s.units (new_pass w);
          each = λ k unit pass in_units in_passes.
              let back = at_map_back (new_pass w) s.units k pass (subst (λ (p : PortState). IsAt p.passes k pass) same in_passes) in
              let here : back.0 ≡ unit = at_one s.units k back.0 unit back.1 in_units in
              let its : pass ≡ new_pass w unit = back.2 ∙ ap (new_pass w) here in (
                record { table = ap (λ (p : PassState). p.table) its; bounds = ap (λ (p : PassState). p.view.bounds) its; kept = λ keeps. sym (ap (λ (p : PassState). p.keeps) its) ∙ keeps },
                ap (λ (p : PassState). p.view.number) its ∙ sym (ap (λ (p : PortState). p.number) same),
              );
        },
        ap (λ (p : PortState). p.number) same,
      );
}

pub bare_none : AreDealt 0 [] []
bare_none = record { count = refl; each = λ w port at. absurd (some-ne-none port (sym at)) }

-- One port more that has no pass yet.
pub bare_one_more : (n : ℕ) (port : PortState) (passes : List PassState) (old : List PortState) (is : port ≡ (let p : PortState = record { number = n; passes = passes } in p))
    (new : List PortState) → AreDealt n [] old → passes ≡ [] → new ≡ old ++ port ∷ [] → AreDealt (n + 1) [] new
bare_one_more n port passes old is new dealt empty more = record {
  count = ap length more ∙ length-append old (port ∷ []) ∙ ap (λ (k : ℕ). k + 1) dealt.count;
  each = λ w other at.
      elim (at_more old port w other (subst (λ (ps : List PortState). IsAt ps w other) more at)) [
        | inl before ↦ dealt.each w other before
        | inr last ↦
            last.1 ∙ is ∙ ap (λ (ps : List PassState). let p : PortState = record { number = n; passes = ps } in p) empty
            ∙ ap (λ (k : ℕ). new_port [] k) (sym (last.0 ∙ dealt.count))
      ];
}
