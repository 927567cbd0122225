-- The ports' passes of one unit after the other, from the last unit to the first.
use Rattle.std.proofs.Common.{◌≡◌, ◌≢◌, ℕ, ◌+◌, ◌-◌, ◌<◌, List, [], ◌∷◌, ◌++◌, length, length-append, reverse, refl, sym, ap, ◌∙◌, subst, arith, inl, inr, get_or}
use Rattle.std.proofs.lemmas.List.{get_or-reverse, length-reverse}
use mathlib.Core.Option.{some-ne-none}
use Rattle.nvm_record.specs.Lists.{IsAt}
use Rattle.nvm_store.specs.HistoryEntry.{HistoryEntry}
use Rattle.nvm_unit.specs.Ends.{AreAllPassesOf, IsWholeHistory, HasCome, views_of}
use Rattle.nvm_unit.specs.Passes.{UnitName, PassState}
use Rattle.nvm_space.specs.Closing.{EndsWhole}
use Rattle.nvm_space.specs.Inside.Dealing.{with_one_more, HaveOneMore}
use Rattle.nvm_space.specs.Ports.{PortState, AreAllPortsOf}
use Rattle.nvm_space.specs.Spaces.{SpaceName, IsLaidOut}
use Rattle.nvm_space.proofs.Lists.{at_one, at_below, at_some, at_index, index_at, at_longer, at_last, at_more}

-- Of the ports' passes those of the first n units are left.
pub record AreLeft (n : ℕ) (given now : List PortState) : Type 0 where
  pub count : length now ≡ length given
  pub each : (w : ℕ) (was port : PortState) → IsAt given w was → IsAt now w port → length port.passes ≡ n
  pub theirs : (w k : ℕ) (was port : PortState) (pass : PassState) → IsAt given w was → IsAt now w port
      → IsAt port.passes k pass → IsAt was.passes k pass

-- The first units are left, and those after them ended with these histories, the last first.
pub record IsEnding {H : Type 0} (of : H → List HistoryEntry) (units : List UnitName) (ports : List PortState)
    (left : List UnitName) (now : List PortState) (ended : List H) : Type 0 where
  pub count : length left + length ended ≡ length units
  pub those : (k : ℕ) (unit : UnitName) → IsAt left k unit → IsAt units k unit
  pub passes : AreLeft (length left) ports now
  pub ends : (i k : ℕ) (unit : UnitName) (history : H) → IsAt ended i history → IsAt units k unit → i + k + 1 ≡ length units
      → EndsWhole k unit ports (of history)

-- The space that these units and ports are of.
abbrev pub AreOfSpace : List UnitName → List PortState → Type 0
AreOfSpace units ports = (s : SpaceName) × (s.units ≡ units) × IsLaidOut s × AreAllPortsOf s ports

pub ending_begun : {H : Type 0} (of : H → List HistoryEntry) (units : List UnitName) (ports : List PortState) (ended : List H) → AreOfSpace units ports → ended ≡ []
    → IsEnding of units ports units ports ended
ending_begun of units ports ended space empty = record {
  count = let e : length ended ≡ 0 = ap length empty in omega arith;
  those = λ k unit at. at;
  passes = record {
    count = refl;
    each = λ w was port at here. (space.3.each w port here).0.count ∙ ap length space.1;
    theirs = λ w k was port pass at here in_port. subst (λ (p : PortState). IsAt p.passes k pass) (at_one ports w port was here at) in_port;
  };
  ends = λ i k unit history at. absurd (some-ne-none history (sym (subst (λ (hs : List _). IsAt hs i history) empty at)));
}

-- Each port has a pass of the last unit.
pub passes_left : (n : ℕ) (given now : List PortState) → AreLeft n given now → 0 < n → (w : ℕ) (port : PortState) → IsAt now w port → port.passes ≢ []
passes_left n given now left some w port at none =
    let below = at_below now w port at in
    let counts : length now ≡ length given = left.count in
    let was = at_some given w (omega arith) in
    let count : length port.passes ≡ n = left.each w was.0 port was.1 at in
    let empty : length port.passes ≡ 0 = ap length none in
    omega arith

-- The last unit, with the passes that the ports gave of it.
module _ (units : List UnitName) (given now fewer : List PortState) (left : List UnitName) (unit : UnitName) (passes : List PassState)
    (space : AreOfSpace units given) (at : IsAt units (length left) unit) (theirs : AreLeft (length left + 1) given now) (more : HaveOneMore passes fewer now) where
  abbrev s : SpaceName
  s = space.0

  in_space : IsAt s.units (length left) unit
  in_space = subst (λ (us : List UnitName). IsAt us (length left) unit) (sym space.1) at

  -- the port's pass of the unit is the one that it gave
  its_pass : (w : ℕ) (was : PortState) (pass : PassState) → IsAt given w was → IsAt passes w pass → IsAt was.passes (length left) pass
  its_pass w was pass in_given in_passes =
      let below = at_below given w was in_given in
      let counts : length now ≡ length given = theirs.count in
      let fewer_count : length now ≡ length fewer = more.count in
      let port = at_some now w (omega arith) in
      let less = at_some fewer w (omega arith) in
      let is : port.0 ≡ with_one_more less.0 pass = more.each w less.0 pass port.0 less.1 in_passes port.1 in
      let all : length port.0.passes ≡ length left + 1 = theirs.each w was port.0 in_given port.1 in
      let joined : length port.0.passes ≡ length less.0.passes + 1 = ap (λ (p : PortState). length p.passes) is ∙ length-append less.0.passes (pass ∷ []) in
      let place : length less.0.passes ≡ length left = omega arith in
      let last : IsAt (less.0.passes ++ pass ∷ []) (length left) pass = subst (λ (i : ℕ). IsAt (less.0.passes ++ pass ∷ []) i pass) place (at_last less.0.passes pass) in
      theirs.theirs w (length left) was port.0 pass in_given port.1 (subst (λ (p : PortState). IsAt p.passes (length left) pass) (sym is) last)

  passes_count : length passes ≡ length given
  passes_count =
      let counts : length now ≡ length given = theirs.count in
      let fewer_count : length now ≡ length fewer = more.count in
      let gave : length passes ≡ length fewer = more.passes_count in
      omega arith

  pub all_passes : AreAllPassesOf unit passes
  all_passes = record {
    count = passes_count ∙ space.3.count ∙ sym (space.2.each (length left) unit in_space).passes;
    each = λ w pass in_passes.
        let counts : length passes ≡ length given = passes_count in
        let was = at_some given w (let b = at_below passes w pass in_passes in omega arith) in
        let port = space.3.each w was.0 was.1 in
        let is = port.0.each (length left) unit pass in_space (its_pass w was.0 pass was.1 in_passes) in
        (is.0, is.1 ∙ port.1);
  }

  pub unit_ends : (history : List HistoryEntry) → IsWholeHistory unit.bounds (views_of passes) history → HasCome unit.bounds (views_of passes) history
      → EndsWhole (length left) unit given history
  unit_ends history whole events = record {
    passes = passes;
    theirs = record { count = passes_count; each = λ w port pass in_given in_passes. its_pass w port pass in_given in_passes };
    whole = whole;
    events = events;
  }

  pub fewer_left : AreLeft (length left) given fewer
  fewer_left =
      let counts : length now ≡ length given = theirs.count in
      let fewer_count : length now ≡ length fewer = more.count in
      let gave : length passes ≡ length fewer = more.passes_count in
      record {
        count = omega arith;
        each = λ w was port in_given in_fewer.
            let below = at_below given w was in_given in
            let full = at_some now w (omega arith) in
            let pass = at_some passes w (omega arith) in
            let is : full.0 ≡ with_one_more port pass.0 = more.each w port pass.0 full.0 in_fewer pass.1 full.1 in
            let all : length full.0.passes ≡ length left + 1 = theirs.each w was full.0 in_given full.1 in
            let joined : length full.0.passes ≡ length port.passes + 1 = ap (λ (p : PortState). length p.passes) is ∙ length-append port.passes (pass.0 ∷ []) in
            omega arith;
        theirs = λ w k was port other in_given in_fewer in_port.
            let below = at_below given w was in_given in
            let full = at_some now w (omega arith) in
            let pass = at_some passes w (omega arith) in
            let is : full.0 ≡ with_one_more port pass.0 = more.each w port pass.0 full.0 in_fewer pass.1 full.1 in
            theirs.theirs w k was full.0 other in_given full.1 (subst (λ (p : PortState). IsAt p.passes k other) (sym is) (at_longer port.passes (pass.0 ∷ []) k other in_port));
      }

-- One unit more ended.
pub ending_more : {H : Type 0} (of : H → List HistoryEntry) (units : List UnitName) (given : List PortState) (before left : List UnitName) (now fewer : List PortState) (ended : List H) (unit : UnitName) (history : H) (after : List H)
    → IsEnding of units given before now ended → before ≡ left ++ unit ∷ [] → AreLeft (length left) given fewer → EndsWhole (length left) unit given (of history) → after ≡ ended ++ history ∷ []
    → IsEnding of units given left fewer after
ending_more of units given before left now fewer ended unit history after ending is passes ends more =
    let one_less : length before ≡ length left + 1 = ap length is ∙ length-append left (unit ∷ []) in
    let one_more : length after ≡ length ended + 1 = ap length more ∙ length-append ended (history ∷ []) in
    let all : length before + length ended ≡ length units = ending.count in
    let those : (k : ℕ) (u : UnitName) → IsAt before k u → IsAt units k u = ending.those in
    record {
      count = omega arith;
      those = λ k u at. those k u (subst (λ (us : List UnitName). IsAt us k u) (sym is) (at_longer left (unit ∷ []) k u at));
      passes = passes;
      ends = λ i k u h in_after in_units sum.
          elim (at_more ended history i h (subst (λ (hs : List _). IsAt hs i h) more in_after)) [
            | inl there ↦ ending.ends i k u h there in_units sum
            | inr last ↦
                let place : i ≡ length ended = last.0 in
                let here : k ≡ length left = omega arith in
                let at : IsAt units (length left) unit = those (length left) unit (subst (λ (us : List UnitName). IsAt us (length left) unit) (sym is) (at_last left unit)) in
                let same : u ≡ unit = at_one units (length left) u unit (subst (λ (j : ℕ). IsAt units j u) here in_units) at in
                subst (λ (x : _). EndsWhole k u given (of x)) (sym last.1)
                (subst (λ (x : UnitName). EndsWhole k x given (of history)) (sym same)
                (subst (λ (j : ℕ). EndsWhole j unit given (of history)) (sym here) ends))
          ];
    }

at_reverse_back : {A : Type 0} (xs : List A) (i : ℕ) (x : A) → IsAt (reverse xs) i x → (j : ℕ) × (j + i + 1 ≡ length xs) × IsAt xs j x
at_reverse_back xs i x e =
    let count : length (reverse xs) ≡ length xs = length-reverse xs in
    let lt : i < length (reverse xs) = at_below (reverse xs) i x e in
    let same : get_or (reverse xs) i x ≡ get_or xs (length xs - 1 - i) x = get_or-reverse xs i x (omega arith) in
    (length xs - 1 - i, omega arith, at_index xs (length xs - 1 - i) x (omega arith) (sym (index_at (reverse xs) i x x e) ∙ same))

-- In the end all units ended, and their histories are in their order.
pub all_ended : {H : Type 0} (of : H → List HistoryEntry) (units : List UnitName) (given : List PortState) (left : List UnitName) (now : List PortState) (ended after : List H)
    → IsEnding of units given left now ended → length left ≡ 0 → after ≡ reverse ended
    → (k : ℕ) (unit : UnitName) (history : H) → IsAt units k unit → IsAt after k history → EndsWhole k unit given (of history)
all_ended of units given left now ended after ending empty is k unit history in_units in_after =
    let there = at_reverse_back ended k history (subst (λ (hs : List _). IsAt hs k history) is in_after) in
    let place : there.0 + k + 1 ≡ length ended = there.1 in
    let all : length left + length ended ≡ length units = ending.count in
    ending.ends there.0 k unit history there.2 in_units (omega arith)
