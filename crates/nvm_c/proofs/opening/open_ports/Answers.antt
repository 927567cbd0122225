use Rattle.std.proofs.Common.{◌≡◌, ◌∙◌, ℕ, Option, List, sym, subst}
use Rattle.nvm_geometry.specs.Namespace.{Namespace}
use Rattle.nvm_c.specs.Opening.{IsOpened, engines_of, limit_asked, limit_of, numbers_of}
use Rattle.nvm_c.specs.declared.handle.Handle.{Handle}
use Rattle.nvm_c.proofs.opening.open_ports.Goals as goal

pub returns : goal.returns
returns c =
    let held = c.in-Ok-handles.held.items in
    let asked = c.in-Ok.asked in
    let there : c.swap_with_slice.new.self ≡ held = c.swap_with_slice.ensures.after ∙ c.deref_mut.ensures.value in
    let opened = subst (λ (ns : Namespace). IsOpened ns (limit_asked asked) c.args.versions (engines_of held)) c.in-Ok.ensures.namespace c.in-Ok-handles.ensures.opened in (
      subst (λ (hs : List Handle). IsOpened (numbers_of c.args.numbers.now) (limit_of c.args.limit) c.args.versions (engines_of hs)) (sym there)
          (subst (λ (n : Option ℕ). IsOpened (numbers_of c.args.numbers.now) n c.args.versions (engines_of held)) c.in-Ok.ensures.limit opened),
      sym c.any_open.ensures ∙ c.if-any_open.false,
      c.in-Ok.ensures.taken,
    )
