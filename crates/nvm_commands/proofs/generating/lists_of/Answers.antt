use Rattle.std.proofs.Common.{◌≡◌, [], ◌∷◌, ◌++◌, length, map, string_bytes, subst, sym, ap, ◌∙◌, arith, length-append}
use Rattle.nvm_commands.specs.Generated.{AreListsOfLoad}
use Rattle.nvm_commands.proofs.Generated.{lists_more}
use Rattle.nvm_commands.proofs.generating.lists_of.Goals as goal

pub loop-before-preserved : goal.loop-before-preserved
loop-before-preserved c =
    let load = c.args.load.now in
    let texts = c.loop-before.texts.items in
    let text = c.in_ok-text.text in
    let pushed : c.push.new.self.items ≡ texts ++ text ∷ [] = c.in_ok-push.ensures.items in
    record {
      lists =
          subst (λ items. AreListsOfLoad load 1 (map (λ t. string_bytes t) items)) (sym pushed)
          (lists_more load texts text c.loop-before.before c.loop-before.invariant.long c.loop-before.invariant.lists c.in_ok-text.ensures);
      long = ap length pushed ∙ omega (arith, length-append texts (text ∷ []), c.loop-before.invariant.long);
    }
