use Rattle.std.proofs.Common.{◌≡◌, ◌∙◌, ◌++◌, ◌+◌, ◌*◌, ℕ, List, [], IsTrue, Bool, false, if◌then◌else◌, length, take, ap, arith, subst, sym}
use Rattle.std.proofs.lemmas.List.{take_all}
use Rattle.nvm_record.specs.Entry.{IsSpelling, data_length}
use Rattle.nvm_record.specs.Op.{carries_ranges}
use Rattle.nvm_record.specs.declared.op.Op.{Op}
use Rattle.nvm_geometry.specs.Namespace.{Namespace}
use Rattle.nvm_plan.specs.OnlyPart.{command_lent}
use Rattle.nvm_plan.specs.declared.job.Body.TheVariants.{Single}
use Rattle.nvm_plan.specs.declared.job.Job.{Job}
use Rattle.nvm_space.specs.Spaces.{SpaceName}
use Rattle.nvm_c.specs.Asked.{IsAsked, op_in, reads, sent_with}
use Rattle.nvm_c.specs.Engines.{namespace_of}
use Rattle.nvm_c.specs.Submitted.{Buffers, Submits}
use Rattle.nvm_c.proofs.engine.Engine.submit_command.Goals as goal
use Rattle.nvm_c.proofs.engine.Engine.submit_command.Goals.{else-reads, then-reads}

pub returns-in-Some-clause-submits : goal.returns-in-Some-clause-submits
returns-in-Some-clause-submits c =
    let e = c.args.self.now in
    let entry : List ℕ = c.args.entry.now in
    let buffer : List ℕ = c.args.data.now in
    let size = (namespace_of e).block_size in
    let fields = c.plain_fields-fields.result in
    let payload : List ℕ = c.split_at_mut-payload.result.0.now in
    let plain : carries_ranges fields.op ≡ false = ap carries_ranges c.plain_fields-fields.ensures.op ∙ c.requires.plain in
    let here : c.block_size-size.result ≡ size = c.block_size-size.ensures.value ∙ ap (λ (ns : Namespace). ns.block_size) c.geometry.ensures ∙ ap (λ (s : SpaceName). s.namespace.block_size) c.deref.ensures in
    let sent : payload ≡ sent_with fields.op buffer =
    c.split_at_mut-payload.ensures.front ∙ elim c.if-reads.branch [
      | then-reads w ↦ ap (λ (n : ℕ). take n buffer) w.sent-is ∙ ap (λ (b : Bool). if b then [] else buffer) (sym (sym c.reads.ensures ∙ w.if-reads.true))
      | else-reads w ↦
          ap (λ (n : ℕ). take n buffer) w.sent-is ∙ take_all (length buffer) buffer (omega arith)
          ∙ ap (λ (b : Bool). if b then [] else buffer) (sym (sym c.reads.ensures ∙ w.if-reads.false))
    ] in
    let long : length payload ≡ data_length size fields.op fields.nlb fields.nr =
    ap length sent ∙ c.if-not-fits_buffer.ensures.sent ∙ ap (λ (n : ℕ). data_length n fields.op fields.nlb fields.nr) here in
    let also : payload ≡ sent_with (op_in entry) buffer = sent ∙ ap (λ (op : Op). sent_with op buffer) c.plain_fields-fields.ensures.op in
    let job : Job = record { host = c.args.host; body = Single (command_lent fields payload) } in
    let asked : IsAsked size (e.port.number + 1) entry buffer job =
    record {
      by_host = c.requires.host;
      body = record {
        whole = c.requires.one;
        spelled = subst (λ (bs : List ℕ). IsSpelling size (entry ++ bs) (command_lent fields payload)) also (c.plain_fields-fields.ensures.spelled size payload plain long);
        room = λ read. c.if-not-fits_buffer.ensures.read (subst (λ (op : Op). IsTrue (reads op)) (sym c.plain_fields-fields.ensures.op) read)
            ∙ (ap (λ (n : ℕ). (fields.nlb + 1) * n) here ∙ ap (λ (n : ℕ). (n + 1) * size) (c.plain_fields-fields.ensures.nlb plain));
      };
    } in
    subst (λ (l : List ℕ). Submits c.in-Some.code e c.submit_fields.new.self entry (let old : Buffers = record { bytes = l; posted = c.args.posted.now } in old)
    (let new : Buffers = record { bytes = payload ++ c.submit_fields.new.room; posted = c.submit_fields.new.posted } in new)) (sym c.split_at_mut-payload.ensures.value)
    (c.in-Some.ensures.submits entry (subst (λ (l : List ℕ). IsAsked size (e.port.number + 1) entry l job) c.split_at_mut-payload.ensures.value asked))
