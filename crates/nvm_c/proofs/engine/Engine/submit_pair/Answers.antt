use Rattle.std.proofs.Common.{◌≡◌, ◌∙◌, ◌++◌, ◌+◌, ℕ, List, length, take, drop, append-nil, ap, refl, subst, sym}
use Rattle.nvm_record.specs.Entry.{IsSpelling, called_for, data_length}
use Rattle.nvm_geometry.specs.Namespace.{Namespace}
use Rattle.nvm_plan.specs.OnlyPart.{command_lent}
use Rattle.nvm_plan.specs.declared.job.Body.TheVariants.{Pair}
use Rattle.nvm_plan.specs.declared.job.Job.{Job}
use Rattle.nvm_space.specs.Spaces.{SpaceName}
use Rattle.nvm_c.specs.Asked.{IsAsked}
use Rattle.nvm_c.specs.Engines.{namespace_of}
use Rattle.nvm_c.proofs.AtOnce.{no_items, piece_back, piece_front}
use Rattle.nvm_c.proofs.Steps.{of_held, submits_alone}
use Rattle.nvm_c.proofs.engine.Engine.submit_pair.Goals as goal

pub submit_fields-requires-clause-whole : goal.submit_fields-requires-clause-whole
submit_fields-requires-clause-whole c =
    let size = (namespace_of c.args.self.now).block_size in
    let compare = c.plain_fields-compare.result in
    let write = c.plain_fields-write.result in
    let compared : List ℕ = c.args.compared.now in
    let written : List ℕ = c.args.written.now in
    let plain = c.if-not-are_fused.ensures.plain in
    let here : c.block_size-size.result ≡ size = c.block_size-size.ensures.value ∙ ap (λ (ns : Namespace). ns.block_size) c.geometry.ensures ∙ ap (λ (s : SpaceName). s.namespace.block_size) c.deref-2.ensures in
    let long : length compared ≡ data_length size compare.op compare.nlb compare.nr =
    c.if-compared-data_length.false ∙ c.data_length.ensures ∙ ap (λ (n : ℕ). data_length n compare.op compare.nlb compare.nr) here in
    let rest : length written ≡ data_length size write.op write.nlb write.nr =
    c.if-written-data_length.false ∙ c.data_length-else-compared-data_length.ensures ∙ ap (λ (n : ℕ). data_length n write.op write.nlb write.nr) here in
    (c.plain_fields-compare.ensures.whole size compared plain.0 long, c.plain_fields-write.ensures.whole size written plain.1 rest, c.if-not-are_fused.ensures.fused compared written)

pub returns-in-Some-clause-submits : goal.returns-in-Some-clause-submits
returns-in-Some-clause-submits c =
    let e = c.args.self.now in
    let entries : List ℕ = c.args.entries.now in
    let size = (namespace_of e).block_size in
    let compare = c.plain_fields-compare.result in
    let write = c.plain_fields-write.result in
    let compared : List ℕ = c.args.compared.now in
    let written : List ℕ = c.args.written.now in
    let sent : List ℕ = compared ++ written in
    let plain = c.if-not-are_fused.ensures.plain in
    let here : c.block_size-size.result ≡ size = c.block_size-size.ensures.value ∙ ap (λ (ns : Namespace). ns.block_size) c.geometry.ensures ∙ ap (λ (s : SpaceName). s.namespace.block_size) c.deref-2.ensures in
    let long : length compared ≡ data_length size compare.op compare.nlb compare.nr =
    c.if-compared-data_length.false ∙ c.data_length.ensures ∙ ap (λ (n : ℕ). data_length n compare.op compare.nlb compare.nr) here in
    let rest : length written ≡ data_length size write.op write.nlb write.nr =
    c.if-written-data_length.false ∙ c.data_length-else-compared-data_length.ensures ∙ ap (λ (n : ℕ). data_length n write.op write.nlb write.nr) here in
    let called = called_for size (take 64 entries) in
    let cut : length compared ≡ called = long ∙ c.plain_fields-compare.ensures.called size plain.0 ∙ ap (called_for size) c.split_at.ensures.front in
    let job : Job = record { host = c.number-host.result + 1; body = Pair (command_lent compare compared) (command_lent write written) } in
    let asked : IsAsked size (e.port.number + 1) entries sent job =
    record {
      by_host = ap (λ (n : ℕ). n + 1) c.number-host.ensures;
      body = record {
        whole = c.requires.two;
        first = subst (λ (bytes : List ℕ). IsSpelling size (take 64 entries ++ bytes) (command_lent compare compared)) (piece_front compared written called cut)
            (subst (λ (entry : List ℕ). IsSpelling size (entry ++ compared) (command_lent compare compared)) c.split_at.ensures.front (c.plain_fields-compare.ensures.spelled size compared plain.0 long));
        second = subst (λ (bytes : List ℕ). IsSpelling size (drop 64 entries ++ bytes) (command_lent write written)) (piece_back compared written called cut)
            (subst (λ (entry : List ℕ). IsSpelling size (entry ++ written) (command_lent write written)) c.split_at.ensures.back (c.plain_fields-write.ensures.spelled size written plain.1 rest));
      };
    } in
    submits_alone c.in-Some.code e c.submit_fields.new.self entries sent _ c.submit_fields.new.room c.args.posted.now c.submit_fields.new.posted refl
    (no_items c.submit_fields.new.room c.submit_fields.auto.room)
    (of_held _ c.in-Some.is c.submit_fields.ensures.submits entries (subst (λ (l : List ℕ). IsAsked size (e.port.number + 1) entries l job) (sym (append-nil sent)) asked))
